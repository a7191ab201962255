-- What stands at a place between words, for each thing that the code tests there: the rest of the line from the place on, one step further.
use Prim.Native.Nat.{ℕ, suc, ◌+◌, ◌≤◌, ◌<◌}
use mathlib.Core.Path.{◌≡◌, refl, sym, ap, ◌∙◌}
use mathlib.Core.List.{List, [], ◌∷◌}
use mathlib.Core.Bool.{Bool, true, false, ◌&&◌, not}
use mathlib.Core.Option.{none}
use mathlib.Core.Logic.{⊎_elim}
use lib.ListN.{length, drop, get_or, drop_of_length-le, length-drop}
use lib.Seq.{drop-cons, drop-drop}
use lib.Dec.{eqb}
use native.Mathlib.Omega.{arith}
use native.Mathlib.Numerals.{add-one}
use borrow.Author.Tests.{ne_eqb}
use Rattle.lists.proofs.Tests.{test}
use Rattle.text.specs.Bytes.{is_word, is_blank, lf, line_end}
use Rattle.text.specs.Tokens.{starts_word}
use Rattle.text.specs.Lines.{gap, word, join, look, refused, ending}
use Rattle.text.specs.Words.{word_of}
use Rattle.text.specs.Rest.{Rest, rest_at, push, word_at, end_of, WordMet, EndMet, BadMet, JoinMet, break_of}
use Rattle.text.proofs.Walk as W

pub here : (s : List ℕ) (i : ℕ) → i < length s → drop i s ≡ get_or s i 0 ∷ drop (i + 1) s
here s i h = rw (add-one, drop-cons s i 0 h) refl

-- ---- the ending of a line
-- what its number of bytes tells
break-some : (l : List ℕ) → 0 < break_of l → line_end l ≡ true
break-some l h =
    ⊎_elim (λ t. t) (λ (t : line_end l ≡ false). let z : break_of l ≡ 0 = rw t refl in absurd (omega arith)) (test (line_end l))

break-ending : (l : List ℕ) → line_end l ≡ true → break_of l ≡ ending l
break-ending l t = rw t refl

two : (l : List ℕ) → lf l ≡ true → 1 ≤ length l
two [] h = let z : ◌≡◌ {A = ℕ} 0 1 = cc in omega arith
two (b ∷ bs) h = omega arith

pub ending-some : (l : List ℕ) → line_end l ≡ true → (0 < ending l) × (ending l ≤ length l)
ending-some [] h = let z : ◌≡◌ {A = ℕ} 0 1 = cc in absurd (omega arith)
ending-some (b ∷ bs) h =
    ⊎_elim
    (λ (e : b ≡ 10). rw e (omega arith, omega arith))
    (λ (e : (b ≡ 13) × (lf bs ≡ true)). let x : b ≡ 13 = e.0 in let y = two bs e.1 in rw x (omega arith, omega arith))
    (W.end_is b bs h)

ending-none : (l : List ℕ) → break_of l ≡ 0 → line_end l ≡ false
ending-none l z =
    ⊎_elim
    (λ (t : line_end l ≡ true). let y = (ending-some l t).0 in let x = break-ending l t in absurd (omega arith))
    (λ t. t)
    (test (line_end l))

-- ---- steps
module _ (s : List ℕ) (i : ℕ) where
  pub rest-past : length s ≤ i → rest_at s i ≡ record { words = []; bad = none; next = i }
  rest-past h = W.rest_in-gap s i ∙ rw (drop_of_length-le s h) (W.rest-none gap i)

  module _ (h : i < length s) where
    abbrev byte : ℕ
    byte = get_or s i 0

    abbrev after : List ℕ
    after = drop (i + 1) s

    pub rest-here : rest_at s i ≡ W.rest_in gap i (byte ∷ after)
    rest-here = W.rest_in-gap s i ∙ ap (W.rest_in gap i) (here s i h)

    pub rest-blank : is_blank byte ≡ true → rest_at s i ≡ rest_at s (i + 1)
    rest-blank t =
        rest-here ∙ W.rest_goes gap i byte after gap (W.blank-look byte after t) refl
        ∙ ap (λ (q : ℕ). W.rest_in gap q after) (sym (add-one i)) ∙ sym (W.rest_in-gap s (i + 1))

    pub word-met : starts_word byte ≡ true → WordMet s i i
    word-met t =
        let k : word_of (drop i s) ≡ byte ∷ word_of after = rw (here s i h, W.starts-word byte t) refl in
        let z = ap length k in
        let z₂ = W.word-short (drop i s) in
        let z₃ = length-drop i s in
        let j : ℕ = length (word_of after) in
        let d : i + 1 + j ≡ end_of s i = omega arith in
        let e : W.rest_in word (suc i) after ≡ rest_at s (end_of s i) =
        ap (λ (q : ℕ). W.rest_in word q after) (sym (add-one i)) ∙ W.past_word (i + 1) after
        ∙ ap (W.rest_in gap (i + 1 + j)) (drop-drop j (i + 1) s) ∙ ap (λ (q : ℕ). W.rest_in gap q (drop q s)) d ∙ sym (W.rest_in-gap s (end_of s i)) in
        record {
          from = omega arith;
          more = omega arith;
          to = omega arith;
          rest = rest-here ∙ W.rest-opens gap i byte after word (W.word-look byte after t) refl
              ∙ ap (λ (l : List ℕ). push (record { place = i; bytes = word_of l }) (W.rest_in word (suc i) after)) (sym (here s i h))
              ∙ ap (push (word_at s i)) e;
        }

    pub end-met : (n : ℕ) → n ≡ break_of (drop i s) → 0 < n → EndMet s i (i + n)
    end-met n e p =
        let t : line_end (drop i s) ≡ true = break-some (drop i s) (omega arith) in
        let x = break-ending (drop i s) t in
        let y = ending-some (drop i s) t in
        let z = length-drop i s in
        let u : line_end (byte ∷ after) ≡ true = rw (here s i h) at t in
        let v : ending (byte ∷ after) ≡ n = sym (ap ending (here s i h)) ∙ sym x ∙ sym e in
        record {
          from = omega arith;
          ahead = λ q. omega arith;
          to = omega arith;
          rest = rest-here ∙ W.rest-ends gap i byte after (W.end-look byte after u)
              ∙ ap (λ (q : ℕ). record { words = []; bad = none; next = i + q }) v;
        }

    pub join-met : byte ≡ 92 → (n : ℕ) → n ≡ break_of after → 0 < n → JoinMet s i (i + 1 + n)
    join-met b n e p =
        let t : line_end after ≡ true = break-some after (omega arith) in
        let x = break-ending after t in
        let y = ending-some after t in
        let z = length-drop (i + 1) s in
        let k : ℕ = ending after in
        let d : i + 1 + k ≡ i + 1 + n = omega arith in
        record {
          ahead = omega arith;
          to = omega arith;
          rest = rest-here ∙ W.rest_goes gap i byte after join (W.join-look byte after b t) refl
              ∙ ap (λ (q : ℕ). W.rest_in join q after) (sym (add-one i)) ∙ W.joined (i + 1) after t
              ∙ ap (W.rest_in gap (i + 1 + k)) (drop-drop k (i + 1) s) ∙ ap (λ (q : ℕ). W.rest_in gap q (drop q s)) d
              ∙ sym (W.rest_in-gap s (i + 1 + n));
        }

    pub bad-met : look gap byte after ≡ refused → BadMet s i i
    bad-met e =
        let r = W.rest-refused gap i byte after e in
        record {
          from = omega arith;
          to = h;
          no_words = ap (λ (r : Rest). r.words) rest-here ∙ r.0;
          bad-at = ap (λ (r : Rest). r.bad) rest-here ∙ r.1;
        }

    -- neither a blank nor a word's start nor a comment's nor a line's end
    no_word : starts_word byte ≡ false → (byte ≡ 35 → ⊥) → is_word byte ≡ false
    no_word a b = drop-not (is_word byte) (eqb byte 35) a (ne_eqb byte 35 b)
      where
        drop-not : (x y : Bool) → (x && not y) ≡ false → y ≡ false → x ≡ false
        drop-not true y p q = rw q at p
        drop-not false y p q = refl

    module _ (a : is_blank byte ≡ false) (b : starts_word byte ≡ false) (n : byte ≡ 35 → ⊥) (k : ℕ) (u : k ≡ break_of (drop i s)) (z : k ≤ 0) where
      abbrev no_end : line_end (byte ∷ after) ≡ false
      no_end = rw (here s i h) at (ending-none (drop i s) (omega arith))

      pub bad-back : byte ≡ 92 → (j : ℕ) → j ≡ break_of after → j ≤ 0 → BadMet s i i
      bad-back e j v y =
          let x : line_end after ≡ false = ending-none after (omega arith) in
          bad-met (rw (ne_eqb byte 35 n, no_word b n, a, no_end, e, x) refl)

      pub bad-other : (byte ≡ 92 → ⊥) → BadMet s i i
      bad-other m = bad-met (rw (ne_eqb byte 35 n, no_word b n, a, no_end, ne_eqb byte 92 m) refl)
