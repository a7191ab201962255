-- The ways out of `part_at` and `reference_at`: how many digits there are, and whether the word ends with them.
use Prim.Native.Nat.{ℕ, ◌+◌, ◌-◌, ◌≤◌, ◌<◌}
use mathlib.Core.Path.{◌≡◌, refl, sym, ap, ap₂, ◌∙◌}
use mathlib.Core.List.{List, [], ◌∷◌}
use mathlib.Core.Bool.{Bool, true, false, cond, ◌&&◌}
use mathlib.Core.Logic.{⊎_elim}
use lib.ListN.{length, drop, length-drop}
use lib.Seq.{drop-drop}
use lib.Dec.{leb, eqb}
use borrow.Author.Tests.{le-leb, lt-leb, eq-eqb, ne_eqb}
use native.Mathlib.Omega.{arith}
use Rattle.lists.proofs.Tests.{and_first, and_second, test}
use Rattle.text.specs.Bytes.{is_word}
use mir.Val.{bool_byte}
use Rattle.text.specs.Words.{word_of}
use Rattle.text.specs.Rest.{end_of}
use Rattle.digits.specs.Said.{says, wrong}
use Rattle.digits.specs.Answers.{ends_at}
use Rattle.digits.specs.Digits.{nat_of, negative, unminus}
use Rattle.references.specs.Reference.{is_reference, item, refer, reference_of}
use Rattle.digits.specs.Straight.{first, is_empty, run, past, cap, front, WholeRead}
use Rattle.references.specs.Straight.{places, PartRead}
use Rattle.digits.proofs.Fronts.{word-front, digit-word}
use Rattle.digits.proofs.Lengths.{ten-digits}
use Rattle.references.proofs.Pieces.{negative-first, minus-drop, refer-yes, refer-not, refer-bad, refer-is, refer-length, beyond}
use Rattle.digits.proofs.Saids.{says-ends}

minus-in : (l : List ℕ) → cond (negative l) 1 0 ≤ length l
minus-in [] = omega arith
minus-in (b ∷ bs) =
    ⊎_elim (λ (t : eqb b 45 ≡ true). rw t (omega arith)) (λ (t : eqb b 45 ≡ false). rw t (omega arith)) (test (eqb b 45))

-- ---- part_from
pub one_if : (t : Bool) → bool_byte t ≡ cond t 1 0
one_if true = refl
one_if false = refl

module _ (s : List ℕ) (at n : ℕ) (back : Bool) (h : at ≤ length s) (e : back ≡ negative (drop at s)) (k : n ≡ cond back 1 0) where
  minus : n ≡ cond (negative (drop at s)) 1 0
  minus = k ∙ ap (λ (t : Bool). cond t 1 0) e

  pub minus-fits : at + n ≤ length s
  minus-fits = let y = minus-in (drop at s) in let x = minus in let z = length-drop at s in omega arith

  start : drop (at + n) s ≡ unminus (drop at s)
  start = sym (drop-drop n at s) ∙ ap (λ (m : ℕ). drop m (drop at s)) minus ∙ sym (minus-drop (drop at s))

  module _ (end value : ℕ) (w : WholeRead s (at + n) end value) where
    size : end ≡ at + n + length (places (drop at s))
    size = w.end_is ∙ ap (λ (l : List ℕ). at + n + length (run l)) start

    pub part_none : end ≡ at + n → (leb 1 (length (places (drop at s))) && leb (length (places (drop at s))) 10) ≡ false
    part_none z = let y = size in and_first (leb (length (places (drop at s))) 10) (lt-leb 1 (length (places (drop at s))) (omega arith))

    pub part-many : 10 < end - (at + n) → (leb 1 (length (places (drop at s))) && leb (length (places (drop at s))) 10) ≡ false
    part-many z = let y = size in and_second (leb 1 (length (places (drop at s)))) (lt-leb (length (places (drop at s))) 10 (omega arith))

    pub part_of : (count number : ℕ) → (end ≡ at + n → ⊥) → end - (at + n) ≤ 10 → number ≡ item back count value → PartRead count s at number end
    part_of count number f g q =
        let y = size in
        let m = minus in
        let few : length (places (drop at s)) ≤ 10 = omega arith in
        let v : value ≡ nat_of 0 (places (drop at s)) =
        w.value-is ∙ ap (λ (l : List ℕ). cap (nat_of 0 (run l))) start ∙ ten-digits (unminus (drop at s)) few in
        record {
          to = w.to;
          some = omega arith;
          few = few;
          number_is = q ∙ ap₂ (λ (t : Bool) (x : ℕ). item t count x) e v;
          end_is = omega arith;
        }

-- ---- part_at
pub minus-there : (l : List ℕ) (b : ℕ) → b ≡ first l → b ≡ 45 → true ≡ negative l
minus-there l b e f = sym (sym (ap (λ (x : ℕ). eqb x 45) e ∙ negative-first l) ∙ eq-eqb b 45 f)

pub minus-absent : (l : List ℕ) (b : ℕ) → b ≡ first l → (b ≡ 45 → ⊥) → false ≡ negative l
minus-absent l b e f = sym (sym (ap (λ (x : ℕ). eqb x 45) e ∙ negative-first l) ∙ ne_eqb b 45 f)

-- ---- where a part stops
pub stops : (count : ℕ) (s : List ℕ) (at number end : ℕ) → PartRead count s at number end → drop end s ≡ past (unminus (drop at s))
stops count s at number end p =
    let l : List ℕ = drop at s in
    ap (λ (m : ℕ). drop m s) p.end_is ∙ sym (drop-drop (cond (negative l) 1 0 + length (places l)) at s) ∙ beyond l

-- ---- reference_at
pub reference-bad : (count : ℕ) (s : List ℕ) (at : ℕ) → (leb 1 (length (places (drop at s))) && leb (length (places (drop at s))) 10) ≡ false
    → wrong 6 ≡ ends_at (reference_of count (word_of (drop at s))) (end_of s at)
unfolding reference_of
reference-bad count s at h = rw (ap is_reference (word-front (drop at s)) ∙ refer-bad is_word digit-word refl (drop at s) h) refl

module _ (count : ℕ) (s : List ℕ) (at number end : ℕ) (p : PartRead count s at number end) where
  overs : (b : Bool) → b ≡ is_empty (word_of (drop end s)) → is_empty (front is_word (past (unminus (drop at s)))) ≡ b
  overs b o = sym (o ∙ ap is_empty (word-front (drop end s) ∙ ap (front is_word) (stops count s at number end p)))

  pub reference-not : false ≡ is_empty (word_of (drop end s)) → wrong 6 ≡ ends_at (reference_of count (word_of (drop at s))) (end_of s at)
  unfolding reference_of
  reference-not o = rw (ap is_reference (word-front (drop at s)) ∙ refer-not is_word digit-word refl (drop at s) (overs false o)) refl

  module _ (o : true ≡ is_empty (word_of (drop end s))) where
    form : is_reference (word_of (drop at s)) ≡ true
    form = ap is_reference (word-front (drop at s)) ∙ refer-yes is_word digit-word refl (drop at s) (overs true o) p.some p.few

    is : refer count (word_of (drop at s)) ≡ number
    is = ap (refer count) (word-front (drop at s)) ∙ refer-is is_word digit-word refl count (drop at s) (overs true o) ∙ sym p.number_is

    pub reference-missing : number ≡ 0 → wrong 8 ≡ ends_at (reference_of count (word_of (drop at s))) (end_of s at)
    unfolding reference_of
    reference-missing z = rw (form, is ∙ z) refl

    pub reference-item : (number ≡ 0 → ⊥) → says (number, end) ≡ ends_at (reference_of count (word_of (drop at s))) (end_of s at)
    reference-item z =
        says-ends (reference_of count (word_of (drop at s))) number (end_of s at) end found
        (p.end_is ∙ ap (λ (n : ℕ). at + n) (sym (ap length (word-front (drop at s)) ∙ refer-length is_word digit-word refl (drop at s) (overs true o))))
      where
        found : reference_of count (word_of (drop at s)) ≡ says number
        found = unfold reference_of in rw (form, is, le-leb 1 number (omega arith)) refl
