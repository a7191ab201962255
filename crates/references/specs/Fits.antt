-- Values that a word can say: what is read is one of them, and each of them is read back as it is written.
use Rattle.std.specs.Prelude.{ℕ, Bool, ◌&&◌, ◌||◌, leb, eqb, ℤ, nat_abs}
use Rattle.references.specs.Corner.{Corner, Counts, Parts}

abbrev pub number_fits : ℤ → Bool
number_fits z = leb (nat_abs z) 2000000000

-- one of `count`
abbrev pub reference_fits : ℕ → ℕ → Bool
reference_fits count n = leb 1 n && leb n count

-- none, or one of `count` where the statement has such a part
abbrev pub part_fits : Bool → ℕ → ℕ → Bool
part_fits has count n = eqb n 0 || (has && reference_fits count n)

abbrev pub corner_fits : Counts → Parts → Corner → Bool
corner_fits c k x = reference_fits c.v x.v && (part_fits k.vt c.vt x.vt && part_fits k.vn c.vn x.vn)

abbrev pub degree_fits : ℕ → Bool
degree_fits n = leb 1 n && leb n 20

abbrev pub smoothing_fits : ℕ → Bool
smoothing_fits n = leb n 65535
