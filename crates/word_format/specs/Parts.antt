-- What stands after a corner's vertex, by the parts that are there: the rest of `written_corner` of references.
use Rattle.std.specs.Prelude.{ℕ, zero, suc, List, [], ◌∷◌, ◌++◌}
use Rattle.references.specs.Written.{written_whole}

abbrev pub written_part : ℕ → List ℕ
written_part n = 47 ∷ written_whole n

abbrev pub written_parts : ℕ → ℕ → List ℕ
written_parts zero zero = []
written_parts (suc t) zero = written_part (suc t)
written_parts zero (suc n) = 47 ∷ written_part (suc n)
written_parts (suc t) (suc n) = written_part (suc t) ++ written_part (suc n)
