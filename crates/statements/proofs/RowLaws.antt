-- Laws of the rows: how many words a body's element has at least, a count held against a statement's row, and where a statement may stand, by the tests on a
-- kind's number.
use Prim.Native.Nat.{ℕ, ◌+◌, ◌≤◌}
use mathlib.Core.Path.{◌≡◌, refl, ap, ◌∙◌}
use mathlib.Core.Bool.{Bool, true, false, cond, ◌||◌, not}
use mathlib.Core.Option.{none, some}
use lib.Dec.{eqb}
use native.Mathlib.Omega.{arith}
use borrow.Author.Tests.{eqb-true, ne_eqb}
use Rattle.statements.specs.declared.Free.{Free}
use Rattle.statements.specs.declared.Free.TheVariants.{Curve, Curve2, Surface}
use Rattle.statements.specs.declared.Carried.{Carried}
use Rattle.statements.specs.declared.rules.Rules.{Rules}
use Rattle.statements.specs.Rules.{is_surface, in_body, outside, range_words, fewest_controls, rules_of, counted_by}
use Rattle.tables.specs.Records.{curve2_kind, surface_kind}
use Rattle.statements.specs.Numbered.{free_numbered}

pub few_words : (k : Free) → range_words k + fewest_controls k ≤ 5
few_words Curve = omega arith
few_words Curve2 = omega arith
few_words Surface = omega arith

-- the row as the code has it
pub row-counted : (k : Carried) (n : ℕ) {r : Rules} {b : Bool} → r ≡ rules_of k → b ≡ counted_by r.count n → b ≡ counted_by (rules_of k).count n
row-counted k n e h = h ∙ ap (λ (x : Rules). counted_by x.count n) e

-- ---- the kind of the open body's element, by its number
by-none : (b : Bool) (k : Free) → b ≡ outside (cond b none (some k))
by-none true k = refl
by-none false k = refl

by-some : (b : Bool) (k : Free) → not b ≡ in_body (cond b none (some k)) (λ j. true)
by-some true k = refl
by-some false k = refl

by-surface : (b c d : Bool) → (c ≡ true → b ≡ false) → c ≡ in_body (cond b none (some (cond c Surface (cond d Curve2 Curve)))) is_surface
by-surface true true d h = h refl
by-surface true false d h = refl
by-surface false true d h = refl
by-surface false false true h = refl
by-surface false false false h = refl

by-curve : (d v : Bool) → not v ≡ (is_surface (cond d Curve2 Curve) || not v)
by-curve true v = refl
by-curve false v = refl

module _ (kind : ℕ) where
  pub outside-kind : eqb kind 0 ≡ outside (free_numbered kind)
  outside-kind = by-none (eqb kind 0) _

  pub body-kind : not (eqb kind 0) ≡ in_body (free_numbered kind) (λ k. true)
  body-kind = by-some (eqb kind 0) _

  pub surface-kind : eqb kind surface_kind ≡ in_body (free_numbered kind) is_surface
  surface-kind = by-surface (eqb kind 0) (eqb kind surface_kind) (eqb kind curve2_kind) (λ e. let l = eqb-true kind surface_kind e in ne_eqb kind 0 (λ z. omega arith))

  pub curve-kind : (v : Bool) → (kind ≡ 0 → ⊥) → (kind ≡ surface_kind → ⊥) → not v ≡ in_body (free_numbered kind) (λ k. is_surface k || not v)
  curve-kind v a b = rw (ne_eqb kind 0 a, ne_eqb kind surface_kind b) (by-curve (eqb kind curve2_kind) v)
