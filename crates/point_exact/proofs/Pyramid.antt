-- What `pyramid` reads, by its levels: the numbers 0 .. r of its row, and the parts of the levels below.
use mathlib.Core.Path.{◌≡◌, refl, ◌∙◌, ap₂}
use Prim.Native.Nat.{ℕ, zero, suc, ◌+◌, ◌≤◌, ◌<◌}
use native.Mathlib.Omega.{arith}
use lib.IntN.{ℤ}
use Rattle.rounding.specs.Round.{between}
use Rattle.point_exact.specs.Directions.{Direction}
use Rattle.point_exact.specs.Sampled.{pyramid, offset_at, gap_at, first_control, curve_sampled, surface_sampled}

-- it reads the numbers 0 .. r alone, and the parts below r
pub pyramid-cong : (p g p' g' : ℕ → ℕ → ℕ) (r : ℕ) (c d : ℕ → ℤ)
    → ((q j : ℕ) → q < r → j ≤ q → p q j ≡ p' q j) → ((q j : ℕ) → q < r → j ≤ q → g q j ≡ g' q j) → ((j : ℕ) → j ≤ r → c j ≡ d j)
    → pyramid p g r c ≡ pyramid p' g' r d
unfolding pyramid
pyramid-cong p g p' g' zero c d hp hg h = h 0 (omega arith)
pyramid-cong p g p' g' (suc r) c d hp hg h =
    pyramid-cong p g p' g' r (λ j. between (c j) (c (suc j)) (p r j) (g r j)) (λ j. between (d j) (d (suc j)) (p' r j) (g' r j))
    (λ q j u v. hp q j (omega arith) v) (λ q j u v. hg q j (omega arith) v)
    (λ j l. ap₂ (λ a b. between a b (p r j) (g r j)) (h j (omega arith)) (h (suc j) (omega arith))
    ∙ ap₂ (λ (a b : ℕ). between (d j) (d (suc j)) b a) (hg r j (omega arith) l) (hp r j (omega arith) l))

-- the invariant of the code's outer loop: a row d made of the row c leaves the answer as it was
pub pyramid-row : (p g : ℕ → ℕ → ℕ) (r : ℕ) (c d : ℕ → ℤ)
    → ((j : ℕ) → j ≤ r → d j ≡ between (c j) (c (suc j)) (p r j) (g r j)) → pyramid p g r d ≡ pyramid p g (suc r) c
unfolding pyramid
pyramid-row p g r c d h = pyramid-cong p g p g r d (λ j. between (c j) (c (suc j)) (p r j) (g r j)) (λ q j u v. refl) (λ q j u v. refl) h

-- a point reads the n + 1 controls of its segment or span alone
pub sampled-cong : (d : Direction) (t : ℤ) (b c : ℕ → ℤ) → ((j : ℕ) → j ≤ d.degree → b (first_control d t + j) ≡ c (first_control d t + j))
    → curve_sampled d t b ≡ curve_sampled d t c
unfolding curve_sampled
sampled-cong d t b c h =
    pyramid-cong (offset_at d t) (gap_at d t) (offset_at d t) (gap_at d t) d.degree (λ j. b (first_control d t + j)) (λ j. c (first_control d t + j))
    (λ q j u v. refl) (λ q j u v. refl) h

pub surface-cong : (u v : Direction) (s t : ℤ) (b c : ℕ → ℕ → ℤ) → ((i j : ℕ) → b i j ≡ c i j) → surface_sampled u v s t b ≡ surface_sampled u v s t c
unfolding surface_sampled
surface-cong u v s t b c h =
    sampled-cong v t (λ j. curve_sampled u s (λ i. b i j)) (λ j. curve_sampled u s (λ i. c i j))
    (λ j l. sampled-cong u s (λ i. b i (first_control v t + j)) (λ i. c i (first_control v t + j)) (λ i m. h (first_control u s + i) (first_control v t + j)))
