-- The walks over a line's words, on lists: what is left of the line comes to what all of it comes to.
use Prim.Native.Nat.{ℕ, zero, suc, ◌+◌, ◌-◌, ◌≤◌, ◌<◌}
use mathlib.Core.Path.{◌≡◌, refl, sym, ap, ◌∙◌}
use mathlib.Core.List.{List, [], ◌∷◌}
use mathlib.Core.Bool.{Bool}
use lib.ListN.{length, drop}
use lib.IntN.{ℤ}
use native.Mathlib.Omega.{arith}
use native.Mathlib.Numerals.{add-one}
use Rattle.text.specs.Words.{Word}
use Rattle.text.specs.Rest.{Rest, rest_at, word_at, end_of, WordMet, EndMet}
use Rattle.keywords.specs.declared.Argument.TheVariants.{DirectionV}
use Rattle.keywords.specs.Arguments.{is_argument}
use Rattle.keywords.specs.Lookup.{argument_at}
use Rattle.model.specs.Parse as parse
use Rattle.read_word_checks.specs.declared.tests.Tests.{Tests}
use Rattle.read_word_checks.specs.Faults.{WordCheck, Valid, Fault, Refused, Nothing, check_of, tested_by, test_by, on_check, fault_in}

-- ---- the words that are left
module _ (s : List ℕ) (i : ℕ) where
  pub end-words : {q : ℕ} → EndMet s i q → (rest_at s i).words ≡ []
  end-words m = ap (λ (x : Rest). x.words) m.rest

  pub start-words : {p : ℕ} → WordMet s i p → (rest_at s i).words ≡ word_at s p ∷ (rest_at s (end_of s p)).words
  start-words m = ap (λ (x : Rest). x.words) m.rest

-- ---- words passed over
pub record Skipping (s : List ℕ) (at count i left : ℕ) : Type 0 where
  pub to : i ≤ length s
  pub rest : drop left (rest_at s i).words ≡ drop count (rest_at s at).words

drop-word : (l : ℕ) (w : Word) (ws : List Word) → 0 < l → drop l (w ∷ ws) ≡ drop (l - 1) ws
drop-word zero w ws h = absurd (omega arith)
drop-word (suc l) w ws h = let e : suc l - 1 ≡ l = omega arith in rw e refl

drop-none : {A : Type 0} (l : ℕ) → drop {A = A} l [] ≡ []
drop-none zero = refl
drop-none (suc l) = refl

module _ (s : List ℕ) (at count i left : ℕ) (k : Skipping s at count i left) where
  pub skip-turn : {p e : ℕ} → 0 < left → WordMet s i p → e ≡ end_of s p → (Skipping s at count e (left - 1)) × (i < e)
  skip-turn {p} {e} h m d =
      let x = m.from in
      let y = m.more in
      let z = m.to in
      let w : (rest_at s i).words ≡ word_at s p ∷ (rest_at s (end_of s p)).words = ap (λ (x : Rest). x.words) m.rest in (
        record {
          to = omega arith;
          rest =
              ap (λ (y : ℕ). drop (left - 1) (rest_at s y).words) d
              ∙ sym (drop-word left (word_at s p) (rest_at s (end_of s p)).words h)
              ∙ sym (ap (drop left) w)
              ∙ k.rest;
        },
        omega arith,
      )

  pub skip-end : (rest_at s i).words ≡ [] → (i ≤ length s) × ((rest_at s i).words ≡ drop count (rest_at s at).words)
  skip-end e = (k.to, e ∙ sym (drop-none left) ∙ sym (ap (drop left) e) ∙ k.rest)

  pub skip-done : left ≡ 0 → (i ≤ length s) × ((rest_at s i).words ≡ drop count (rest_at s at).words)
  skip-done e = (k.to, sym (ap (λ (l : ℕ). drop l (rest_at s i).words) e) ∙ k.rest)

pub skip-further : (s : List ℕ) (at count i k : ℕ) → Skipping s at count i (count - k - 1) → Skipping s at count i (count - (k + 1))
skip-further s at count i k w = let e : count - k - 1 ≡ count - (k + 1) = omega arith in rw e at w

pub skip-none : (s : List ℕ) (at count : ℕ) → at ≤ length s → Skipping s at count at (count - 0)
skip-none s at count h = let e : count ≡ count - 0 = omega arith in record { to = h; rest = ap (λ (l : ℕ). drop l (rest_at s at).words) (sym e) }

-- ---- words held against their tests
module _ (n : parse.Seen) (t : List ℤ) (f : Tests) (m : ℕ) where
  pub record Faulting (s : List ℕ) (at i index : ℕ) : Type 0 where
    pub to : i ≤ length s
    pub small : index ≤ i
    pub rest : fault_in n t f m index (rest_at s i).words ≡ fault_in n t f m 0 (rest_at s at).words

  module _ (s : List ℕ) (at i index : ℕ) (k : Faulting s at i index) where
    word_next : {p : ℕ} → WordMet s i p
        → on_check (check_of (tested_by n t (test_by f m index) (word_at s p))) p (fault_in n t f m (suc index) (rest_at s (end_of s p)).words)
        ≡ fault_in n t f m 0 (rest_at s at).words
    word_next {p} w = sym (ap (λ (r : Rest). fault_in n t f m index r.words) w.rest) ∙ k.rest

    pub fault-turn : {p e : ℕ} → WordMet s i p → e ≡ end_of s p → Valid ≡ check_of (tested_by n t (test_by f m index) (word_at s p)) → (Faulting s at e (index + 1)) × (i < e)
    fault-turn {p} {e} w d h =
        let x = w.from in
        let y = w.more in
        let z = w.to in
        let l = k.small in
        let j : on_check Valid p (fault_in n t f m (suc index) (rest_at s (end_of s p)).words) ≡ fault_in n t f m 0 (rest_at s at).words = ap (λ (y : WordCheck). on_check y p (fault_in n t f m (suc index) (rest_at s (end_of s p)).words)) h ∙ word_next w in (
          record {
            to = omega arith;
            small = omega arith;
            rest = rw add-one (ap (λ (y : ℕ). fault_in n t f m (suc index) (rest_at s y).words) d ∙ j);
          },
          omega arith,
        )

    pub fault-wrong : {p a : ℕ} → WordMet s i p → Fault a ≡ check_of (tested_by n t (test_by f m index) (word_at s p)) → Refused a p ≡ fault_in n t f m 0 (rest_at s at).words
    fault-wrong {p} w h = ap (λ (y : WordCheck). on_check y p (fault_in n t f m (suc index) (rest_at s (end_of s p)).words)) h ∙ word_next w

    pub fault-none : (rest_at s i).words ≡ [] → Nothing ≡ fault_in n t f m 0 (rest_at s at).words
    fault-none e = sym (ap (fault_in n t f m index) e) ∙ k.rest

-- ---- the first word
pub v-first : (s : List ℕ) (at p : ℕ) {b : Bool} → (rest_at s at).words ≡ word_at s p ∷ (rest_at s (end_of s p)).words → b ≡ is_argument (argument_at s p) DirectionV → b ≡ parse.says_v (rest_at s at).words
unfolding argument_at
v-first s at p e h = h ∙ sym (ap parse.says_v e)
