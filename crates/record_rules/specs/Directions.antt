-- Must be believed: a promise reaches every definition of this file.
-- 01, "Records" and "Bodies": a body's type, degrees and parameters.
use Rattle.std.specs.Prelude.{ℕ, ◌+◌, List, Bool, cond, not, ◌&&◌, ◌||◌, leb, eqb, ℤ}
use Rattle.record_rules.specs.Numbers.{run_in_range}

-- "Degree: 1 to 3 digits, 1 to 20, else 7"; "Cardinal needs no deg; its degree is 3"
unfoldable pub degree_obeys : ℕ → ℕ → Bool
degree_obeys type n = leb 1 n && leb n 20 && (not (eqb type 3) || eqb n 3)

-- "type, rational or not, degrees"; "a curve's v entries are 0"
unfoldable pub type_obeys : Bool → ℕ → ℕ → ℕ → ℕ → Bool
type_obeys surface type rational m n =
    leb 1 type && leb type 4 && leb rational 1 && degree_obeys type m && cond surface (degree_obeys type n) (eqb n 0)

-- "parm u or v, then 2 or more": p parameters along u and q along v, one after the other from `first` on
unfoldable pub parameters_obey : Bool → List ℤ → ℕ → ℕ → ℕ → ℕ → Bool
parameters_obey surface l used first p q =
    leb (first + (p + q)) used && run_in_range l first (p + q) && leb 2 p && cond surface (leb 2 q) (eqb q 0)
