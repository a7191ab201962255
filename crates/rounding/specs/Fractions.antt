-- Must be believed: a promise reaches every definition of this file.
-- 01, "How a point is made": "a fraction stands as two whole numbers, the lower above 0, and is held against another by multiplying out".
use Rattle.std.specs.Prelude.{◌≡◌, ℕ, zero, suc, ◌*◌, ◌≤◌, ◌<◌, ℤ, pos, negsuc, neg_ℤ, nat_abs, ◌+ℤ◌, ◌-ℤ◌, ◌*ℤ◌}

-- top / bot
pub record Frac : Type 0 where
  pub top : ℤ
  pub bot : ℕ

unfoldable pub whole : ℤ → Frac
whole z = record { top = z; bot = 1 }

infixl 6 ◌+ᶠ◌
unfoldable pub ◌+ᶠ◌ : Frac → Frac → Frac
f +ᶠ g = record { top = f.top *ℤ pos g.bot +ℤ g.top *ℤ pos f.bot; bot = f.bot * g.bot }

infixl 6 ◌-ᶠ◌
unfoldable pub ◌-ᶠ◌ : Frac → Frac → Frac
f -ᶠ g = record { top = f.top *ℤ pos g.bot -ℤ g.top *ℤ pos f.bot; bot = f.bot * g.bot }

infixl 7 ◌*ᶠ◌
unfoldable pub ◌*ᶠ◌ : Frac → Frac → Frac
f *ᶠ g = record { top = f.top *ℤ g.top; bot = f.bot * g.bot }

-- f to the power n, "a power 0 being 1"
unfoldable pub power : Frac → ℕ → Frac
unfolding whole
power f zero = whole (pos 1)
power f (suc n) = power f n *ᶠ f

-- a / d; "one whose divisor is 0 counts as 0"
unfoldable pub over : ℤ → ℤ → Frac
over a (pos zero) = record { top = pos 0; bot = 1 }
over a (pos (suc d)) = record { top = a; bot = suc d }
over a (negsuc d) = record { top = neg_ℤ a; bot = suc d }

-- f 0 + .. + f (n - 1)
unfoldable pub sum_to : ℕ → (ℕ → Frac) → Frac
unfolding whole
sum_to zero f = whole (pos 0)
sum_to (suc n) f = sum_to n f +ᶠ f n

-- two fractions are the same number: multiplied out
infix 4 ◌≈◌
unfoldable pub ◌≈◌ : Frac → Frac → Type 0
f ≈ g = f.top *ℤ pos g.bot ≡ g.top *ℤ pos f.bot

-- the whole number S differs from the fraction f by at most k / 2: multiplied out, and the lower number of f is above 0
pub record Close (S : ℤ) (f : Frac) (k : ℕ) : Type 0 where
  pub above : 0 < f.bot
  pub near : 2 * nat_abs (S *ℤ pos f.bot -ℤ f.top) ≤ k * f.bot
