-- Must be believed: a promise reaches every definition of this file.
-- Q-8, "The head must stay inside the block": the outline of controls on one axis, and what the rounded rule keeps of it.
use Rattle.std.specs.Prelude.{Bool, cond, ◌≡◌, ℕ, zero, suc, ◌+◌, ◌<◌, length, ℤ, ◌≤ℤ◌}
use Rattle.std.specs.Int.Signed.{le_z}
use Rattle.point_exact.specs.Directions.{bezier, Direction, at}
use Rattle.point_exact.specs.Sampled.{first_control}

-- of f 0 .. f n the one that stands before all the others
unfoldable pub extreme : (before : ℤ → ℤ → Bool) (n : ℕ) → (ℕ → ℤ) → ℤ
extreme before zero f = f 0
extreme before (suc n) f = cond (before (extreme before n f) (f (suc n))) (extreme before n f) (f (suc n))

-- "the least and the greatest value" of f 0 .. f n
abbrev pub least : (n : ℕ) → (ℕ → ℤ) → ℤ
least n f = extreme (λ a b. le_z a b) n f

abbrev pub greatest : (n : ℕ) → (ℕ → ℤ) → ℤ
greatest n f = extreme (λ a b. le_z b a) n f

-- z lies between the least and the greatest of f 0 .. f n, "ends included"
pub record Within (n : ℕ) (f : ℕ → ℤ) (z : ℤ) : Type 0 where
  pub low : least n f ≤ℤ z
  pub high : z ≤ℤ greatest n f

-- and of f i j, with i from 0 to m and j from 0 to n
pub record WithinGrid (m n : ℕ) (f : ℕ → ℕ → ℤ) (z : ℤ) : Type 0 where
  pub low : least n (λ j. least m (λ i. f i j)) ≤ℤ z
  pub high : z ≤ℤ greatest n (λ j. greatest m (λ i. f i j))

-- "the controls that its de Casteljau or de Boor starts from": the n + 1 controls of the segment or span chosen for t
abbrev pub starting_row : Direction → (t : ℤ) → (ℕ → ℤ) → ℕ → ℤ
starting_row d t c j = c (first_control d t + j)

abbrev pub starting_grid : (u v : Direction) (s t : ℤ) → (ℕ → ℕ → ℤ) → ℕ → ℕ → ℤ
starting_grid u v s t c i j = c (first_control u s + i) (first_control v t + j)

-- "at the start or end of a Bezier segment": t is parameter g, where segment g starts and the one before it ends
pub record AtParameter (d : Direction) (t : ℤ) (g : ℕ) : Type 0 where
  pub type : d.basis ≡ bezier
  pub some : g < length d.parameters
  pub there : t ≡ at d.parameters g
