-- The k-th curv2 is one alone: k stand before every element after it.
use Prim.Native.Nat.{ℕ, zero, suc, ◌+◌, ◌/◌, ◌<◌, ◌≤◌, ◌-◌, min}
use mathlib.Core.Path.{◌≡◌, refl, sym, ap, ◌∙◌}
use mathlib.Core.List.{List}
use mathlib.Core.Bool.{false}
use native.Mathlib.Omega.{arith}
use native.Mathlib.Nat.{add-zero, add-suc}
use native.Mathlib.Numerals.{add-one}
use borrow.Author.Tests.{ne_eqb, eq-eqb}
use lib.Dec.{eqb}
use lib.ListN.{length}
use Rattle.lists.proofs.Tests.{and_both, and_first, and_second}
use Rattle.tables.specs.Records.{number_at}
use Rattle.tables.specs.declared.Used.{Used}
use Rattle.record_rules.specs.Rules.{curves_among}
use Rattle.c_tables.specs.CurveNumbers.{curve_among, curve_of}

module _ (l : List ℕ) where
  more : (i d : ℕ) → curves_among l i ≤ curves_among l (i + d)
  more i zero = rw add-zero (omega arith)
  more i (suc d) = let h : curves_among l i ≤ curves_among l (i + d) = more i d in rw add-suc (omega arith)

  counted : (i : ℕ) → number_at 9 l i 0 ≡ 5 → curves_among l (suc i) ≡ curves_among l i + 1
  counted i h = rw h refl

  found-past : (k i d : ℕ) → number_at 9 l i 0 ≡ 5 → curves_among l i + 1 ≡ k → curve_among l k (suc i + d) ≡ suc i
  found-past k i zero h e = rw (add-zero, and_both (eq-eqb (number_at 9 l i 0) 5 h) (eq-eqb (curves_among l i + 1) k e)) refl
  found-past k i (suc d) h e =
      let before : curves_among l (suc i) ≤ curves_among l (suc i + d) = more (suc i) d in
      let one : curves_among l (suc i) ≡ curves_among l i + 1 = counted i h in
      let no : eqb (curves_among l (suc i + d) + 1) k ≡ false = ne_eqb (curves_among l (suc i + d) + 1) k (λ f. omega arith) in
      rw (add-suc, and_second (eqb (number_at 9 l (suc i + d) 0) 5) no) (found-past k i d h e)

  -- the element at index i, after b curv2: it is the one, or another curv2, or none
  module _ (k i b : ℕ) (e : b ≡ curves_among l i) where
    pub found : (n : ℕ) → i < n → number_at 9 l i 0 ≡ 5 → b + 1 ≡ k → i + 1 ≡ curve_among l k n
    found n g h f =
        let whole : suc i + (n - suc i) ≡ n = omega arith in
        let last : curves_among l i + 1 ≡ k = sym (ap (λ (c : ℕ). c + 1) e) ∙ f in
        add-one i ∙ sym (rw whole at (found-past k i (n - suc i) h last))

    module _ (none : curve_among l k i ≡ 0) where
      pub other-curve : number_at 9 l i 0 ≡ 5 → (b + 1 ≡ k → ⊥) → (b + 1 ≡ curves_among l (i + 1)) × (curve_among l k (i + 1) ≡ 0)
      other-curve h f =
          let no : eqb (curves_among l i + 1) k ≡ false = rw e at (ne_eqb (b + 1) k f) in
          (ap (λ (c : ℕ). c + 1) e ∙ sym (counted i h) ∙ ap (curves_among l) (sym (add-one i)), rw (add-one, and_second (eqb (number_at 9 l i 0) 5) no) none)

      pub no-curve : (number_at 9 l i 0 ≡ 5 → ⊥) → (b ≡ curves_among l (i + 1)) × (curve_among l k (i + 1) ≡ 0)
      no-curve f =
          let no : eqb (number_at 9 l i 0) 5 ≡ false = ne_eqb (number_at 9 l i 0) 5 f in
          (rw (add-one, e, no, add-zero) refl, rw (add-one, and_first (eqb (curves_among l i + 1) k) no) none)

pub of-whole : (used : Used) (l : List ℕ) (k : ℕ) {n x : ℕ} → n ≡ min used.elements (length l / 9) → x ≡ curve_among l k n → x ≡ curve_of used l k
unfolding curve_of
of-whole used l k e f = f ∙ ap (curve_among l k) e
