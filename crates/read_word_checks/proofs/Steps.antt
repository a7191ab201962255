-- The steps of what is held against a line put together: what each answer says of the definition in its order.
use Prim.Native.Nat.{ℕ}
use mathlib.Core.Path.{◌≡◌, refl, sym, ap, ◌∙◌}
use mathlib.Core.List.{List, ◌∷◌}
use mathlib.Core.Bool.{Bool, true, false}
use lib.ListN.{drop}
use lib.IntN.{ℤ}
use Rattle.text.specs.Words.{Word, word_of}
use Rattle.text.specs.Rest.{rest_at, word_at, end_of}
use Rattle.digits.specs.Said.{Said, says, wrong}
use Rattle.digits.specs.Answers.{ends_at}
use Rattle.references.specs.Corner.{Corner, Parts, corner_of}
use Rattle.digits.proofs.Saids.{ended-says, ended-wrong}
use Rattle.model.specs.Parse as parse
use Rattle.read_state.specs.declared.Form.{Form}
use Rattle.statements.specs.declared.Free.{Free}
use Rattle.statements.specs.declared.rules.Held.{Held}
use Rattle.read_word_checks.specs.Faults.{Refusal, Refused, Nothing, fault_in, alike_tests, on_first, pattern_fault, owed, or_else, free_fault, held_fault}

-- ---- one after the other
pub or_nothing : {x y q : Refusal} → Nothing ≡ x → q ≡ y → q ≡ or_else x y
or_nothing {y = y} h k = k ∙ ap (λ (z : Refusal). or_else z y) h

pub or-refused : {x : Refusal} (y : Refusal) {n p : ℕ} → Refused n p ≡ x → Refused n p ≡ or_else x y
or-refused y h = ap (λ (z : Refusal). or_else z y) h

pub owed-is : (b : Bool) (n p : ℕ) {q r : Refusal} → b ≡ true → q ≡ r → q ≡ owed b n p r
owed-is b n p h k = rw h k

pub owed-not : (b : Bool) (n p : ℕ) (r : Refusal) → b ≡ false → Refused n p ≡ owed b n p r
owed-not b n p r h = rw h refl

-- ---- the first corner, and the others
module _ (n : parse.Seen) (t : List ℤ) (k : Parts) (s : List ℕ) (at : ℕ) where
  pub pattern-end : {c : Corner} {z : ℕ} → says (c, z) ≡ ends_at (corner_of n.counts k (word_of (drop at s))) (end_of s at) → z ≡ end_of s at
  pattern-end {c} {z} h = (ended-says (corner_of n.counts k (word_of (drop at s))) c (end_of s at) z h).1

  pub pattern-found : {c : Corner} {z : ℕ} {q : Refusal} → says (c, z) ≡ ends_at (corner_of n.counts k (word_of (drop at s))) (end_of s at) → q ≡ fault_in n t (alike_tests k.vt k.vn c) 0 0 (rest_at s z).words
      → q ≡ pattern_fault n t k.vt k.vn (word_at s at ∷ (rest_at s (end_of s at)).words)
  pattern-found {c} {z} h e =
      let y = ended-says (corner_of n.counts k (word_of (drop at s))) c (end_of s at) z h in
      e
      ∙ ap (λ (i : ℕ). fault_in n t (alike_tests k.vt k.vn c) 0 0 (rest_at s i).words) y.1
      ∙ sym (ap (λ (x : Said Corner). on_first x (λ c. fault_in n t (alike_tests k.vt k.vn c) 0 0 (rest_at s (end_of s at)).words)) y.0)

  pub pattern-none : {m : ℕ} → wrong m ≡ ends_at (corner_of n.counts k (word_of (drop at s))) (end_of s at) → Nothing ≡ pattern_fault n t k.vt k.vn (word_at s at ∷ (rest_at s (end_of s at)).words)
  pattern-none {m} h =
      let y = ended-wrong (corner_of n.counts k (word_of (drop at s))) m (end_of s at) h in
      sym (ap (λ (x : Said Corner). on_first x (λ c. fault_in n t (alike_tests k.vt k.vn c) 0 0 (rest_at s (end_of s at)).words)) y)

pub by-held : (n : parse.Seen) (t : List ℤ) (f : Form) (key : ℕ) (ws : List Word) {h g : Held} {q : Refusal} → h ≡ g → q ≡ held_fault n t f key g ws → q ≡ held_fault n t f key h ws
by-held n t f key ws e k = rw e k

pub by-free : (n : parse.Seen) (t : List ℤ) (f : Form) (key : ℕ) (ws : List Word) {h g : Free} {q : Refusal} → h ≡ g → q ≡ free_fault n t f key g ws → q ≡ free_fault n t f key h ws
by-free n t f key ws e k = rw e k
