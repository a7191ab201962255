-- Must be believed: a promise reaches every definition of this file.
-- Which element is the curv2 that a loop part names: 01, "k means the k-th of its kind so far".
use Rattle.std.specs.Prelude.{ℕ, zero, suc, ◌+◌, ◌/◌, min, List, cond, ◌&&◌, eqb, length}
use Rattle.tables.specs.Records.{number_at, element_width, curve2_kind}
use Rattle.tables.specs.declared.Used.{Used}
use Rattle.record_rules.specs.Rules.{curves_among}

-- the number of the element that is the k-th curv2 among those at indices below n, 0 for none: before it there are k - 1
abbrev pub curve_among : List ℕ → ℕ → ℕ → ℕ
curve_among elements k zero = zero
curve_among elements k (suc i) =
    cond
    (eqb (number_at element_width elements i 0) curve2_kind && eqb (curves_among elements i + 1) k)
    (suc i)
    (curve_among elements k i)

-- of the elements that are used and stand whole within the lent entries
unfoldable pub curve_of : Used → List ℕ → ℕ → ℕ
curve_of used elements k = curve_among elements k (min used.elements (length elements / element_width))
