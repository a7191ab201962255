-- A word without its sign, by the byte that stands at its front.
use Prim.Native.Nat.{ℕ, ◌+◌, ◌≤◌}
use mathlib.Core.Path.{◌≡◌, refl, sym, ap, ◌∙◌, subst}
use mathlib.Core.List.{List, [], ◌∷◌}
use mathlib.Core.Bool.{Bool, true, false, cond, ◌||◌}
use mathlib.Core.Logic.{⊎_elim}
use lib.ListN.{length, drop, length-drop}
use lib.Seq.{drop-drop}
use lib.Dec.{eqb}
use borrow.Author.Tests.{eqb-true, eq-eqb}
use native.Mathlib.Omega.{arith}
use Rattle.lists.proofs.Tests.{test, never}
use Rattle.text.specs.Bytes.{is_word}
use Rattle.text.specs.Words.{word_of}
use Rattle.text.specs.Rest.{end_of}
use Rattle.digits.specs.Digits.{negative}
use Rattle.digits.specs.Straight.{first}
use Rattle.decimals.specs.Number.{is_sign, unsigned}

or_right : (a b : Bool) → (a || b) ≡ false → b ≡ false
or_right true b h = never (sym h)
or_right false b h = h

pub record Signed (l : List ℕ) (n : ℕ) : Type 0 where
  pub unsigned_is : unsigned (word_of l) ≡ word_of (drop n l)
  pub negative-is : negative (word_of l) ≡ eqb (first l) 45
  pub length-is : length (word_of l) ≡ n + length (word_of (drop n l))
  pub fits : n ≤ length l

with-sign : (l : List ℕ) (b : ℕ) → first l ≡ b → is_word b ≡ true → eqb b 10 ≡ false → is_sign b ≡ true → Signed l 1
with-sign [] b e h n k = never (sym n ∙ eq-eqb b 10 (sym e))
with-sign (c ∷ cs) b e h n k =
    let q : is_word c ≡ true = ap is_word e ∙ h in
    let r : is_sign c ≡ true = ap is_sign e ∙ k in
    record { unsigned_is = rw (q, r) refl; negative-is = rw q refl; length-is = rw q (omega arith); fits = omega arith }

without_sign : (l : List ℕ) → is_sign (first l) ≡ false → Signed l 0
without_sign [] k = record { unsigned_is = refl; negative-is = refl; length-is = omega arith; fits = omega arith }
without_sign (c ∷ cs) k =
    record {
      unsigned_is = ⊎_elim (λ (t : is_word c ≡ true). rw (t, k) refl) (λ (t : is_word c ≡ false). rw t refl) (test (is_word c));
      negative-is =
          ⊎_elim (λ (t : is_word c ≡ true). rw t refl) (λ (t : is_word c ≡ false). rw t (sym (or_right (eqb c 43) (eqb c 45) k))) (test (is_word c));
      length-is = omega arith;
      fits = omega arith;
    }

signed-at : (l : List ℕ) → Signed l (cond (is_sign (first l)) 1 0)
signed-at l =
    ⊎_elim
    (λ (t : eqb (first l) 43 ≡ true). rw t (with-sign l 43 (eqb-true (first l) 43 t) refl refl refl))
    (λ (t : eqb (first l) 43 ≡ false).
    ⊎_elim
    (λ (u : eqb (first l) 45 ≡ true). rw (t, u) (with-sign l 45 (eqb-true (first l) 45 u) refl refl refl))
    (λ (u : eqb (first l) 45 ≡ false). rw (t, u) (without_sign l (rw (t, u) refl)))
    (test (eqb (first l) 45)))
    (test (eqb (first l) 43))

pub sign-most : (b n : ℕ) → n ≡ cond (is_sign b) 1 0 → n ≤ 1
sign-most b n e =
    ⊎_elim (λ (t : is_sign b ≡ true). let q = rw t at e in omega arith) (λ (t : is_sign b ≡ false). let q = rw t at e in omega arith) (test (is_sign b))

-- ---- at a place
module _ (s : List ℕ) (at b n : ℕ) (h : at ≤ length s) (e : b ≡ first (drop at s)) (k : n ≡ cond (is_sign b) 1 0) where
  pub signs : Signed (drop at s) n
  signs = subst (λ (m : ℕ). Signed (drop at s) m) (sym (k ∙ ap (λ (x : ℕ). cond (is_sign x) 1 0) e)) (signed-at (drop at s))

  pub sign_fits : at + n ≤ length s
  sign_fits = let z = signs.fits in let y = length-drop at s in omega arith

  word : drop (at + n) s ≡ drop n (drop at s)
  word = sym (drop-drop n at s)

  pub unsigned_is : word_of (drop (at + n) s) ≡ unsigned (word_of (drop at s))
  unsigned_is = ap word_of word ∙ sym signs.unsigned_is

  pub ends : end_of s (at + n) ≡ end_of s at
  ends = let y = signs.length-is in let z = ap (λ (l : List ℕ). length (word_of l)) word in omega arith
