-- Must be believed: a promise reaches every definition of this file.
-- 01, "How a point is made": a run, the parameters that it samples at and the numbers that it writes.
use Rattle.std.specs.Prelude.{List, [], ◌∷◌, ◌++◌, ℕ, zero, suc, ◌*◌, ◌/◌, ℤ, pos, nat_abs, ◌+ℤ◌, ◌-ℤ◌}

-- "A run of N steps samples at start + floor(j(end-start)/N), j = 0..N"
unfoldable pub parameter_at : (start end : ℤ) (steps j : ℕ) → ℤ
parameter_at start end steps j = start +ℤ pos (j * nat_abs (end -ℤ start) / steps)

-- f 0, f 1 .. f (n - 1), one after the other
abbrev pub joined : ℕ → (ℕ → List ℤ) → List ℤ
joined zero f = []
joined (suc n) f = joined n f ++ f n

abbrev pub tabulated : ℕ → (ℕ → ℤ) → List ℤ
tabulated n f = joined n (λ i. f i ∷ [])
