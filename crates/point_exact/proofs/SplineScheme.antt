-- De Boor's scheme on a span, rounded at each step: each level's weights are those of Cox and de Boor over a common divisor, the product of the level's gaps.
use mathlib.Core.Path.{◌≡◌, refl, sym, ◌∙◌, ap, ap₂, subst}
use mathlib.Core.Logic.{◌⊎◌, inl, inr}
use mathlib.Core.List.{[], ◌∷◌}
use Prim.Native.Nat.{ℕ, zero, suc, ◌+◌, ◌*◌, ◌-◌, ◌/◌, ◌≤◌, ◌<◌, ◌∣◌}
use native.Mathlib.Nat.{mul-pos, zero-lt-suc, le_refl, le_step, not-suc-le-zero, le_of_suc-le-suc, mul-div_cancel', dvd-mul_left, dvd-mul_right_of_dvd, mul-le-mul_left, eq-or-lt_of_le, add-zero, add-suc}
use native.Mathlib.Omega.{arith}
use lib.IntN.{ℤ, pos, nat_abs, ◌+ℤ◌, ◌-ℤ◌, ◌*ℤ◌}
use lib.Signed.{◌≤ℤ◌}
use Rattle.rounding.specs.Round.{between}
use Rattle.rounding.proofs.IntLaws.{abs-*}
use Rattle.rounding.proofs.Ring.{ring, ◌⊕◌, ◌⊝◌, ◌⊗◌, ◌≐◌}
use Rattle.rounding.proofs.Order.{Up, up, up-refl, up-trans, up-abs, up-wide}
use Rattle.rounding.proofs.Rounding.{between-near}
use Rattle.point_exact.specs.Sampled.{pyramid}
use Rattle.point_exact.proofs.Scheme.{mix, Over, Near, near-zero, near_step}
use Rattle.point_exact.proofs.Chosen.{Holds}

-- t lies on span k, below which there are n knots or more, and the knots that count never decrease
pub record OnSpan (x : ℕ → ℤ) (t : ℤ) (k n : ℕ) : Type 0 where
  pub rising : (i : ℕ) → i < k + n → x i ≤ℤ x (suc i)
  pub holds : Holds x t k
  pub deep : n ≤ k

-- number j of the row of r + 1 numbers goes from knot k + j - r to knot k + j + 1
abbrev pub part : (x : ℕ → ℤ) (t : ℤ) (k : ℕ) → ℕ → ℕ → ℕ
part x t k r j = nat_abs (t -ℤ x (k + j - r))

abbrev pub gap : (x : ℕ → ℤ) (t : ℤ) (k : ℕ) → ℕ → ℕ → ℕ
gap x t k r j = nat_abs (x (suc (k + j)) -ℤ x (k + j - r))

prod : ℕ → (ℕ → ℕ) → ℕ
prod zero f = 1
prod (suc n) f = prod n f * f n

prod-pos : (n : ℕ) (f : ℕ → ℕ) → ((i : ℕ) → i < n → 0 < f i) → 0 < prod n f
unfolding prod
prod-pos zero f h = zero-lt-suc 0
prod-pos (suc n) f h = mul-pos (prod-pos n f (λ i l. h i (le_step l))) (h n (le_refl (suc n)))

prod-dvd : (n : ℕ) (f : ℕ → ℕ) (i : ℕ) → i < n → f i ∣ prod n f
unfolding prod
prod-dvd zero f i h = absurd (not-suc-le-zero h)
prod-dvd (suc n) f i h = pick (eq-or-lt_of_le (le_of_suc-le-suc h)) (prod-dvd n f i)
  where
    pick : (i ≡ n) ⊎ (i < n) → (i < n → f i ∣ prod n f) → f i ∣ prod n f * f n
    pick (inl e) k = rw e (dvd-mul_left (f n) (prod n f))
    pick (inr l) k = dvd-mul_right_of_dvd (f i) (k l) (f n)

module _ (x : ℕ → ℤ) (t : ℤ) (k : ℕ) where
  -- what is left of the gap after the part
  pub rest : ℕ → ℕ → ℕ
  rest r j = nat_abs (x (suc (k + j)) -ℤ t)

  -- the level's common divisor, and by how much it is larger than a gap
  pub level : ℕ → ℕ
  level r = prod (suc r) (gap x t k r)

  pub scale : ℕ → ℕ → ℕ
  scale r j = level r / gap x t k r j

  -- what numbers j and j + 1 count for, of the level
  unfoldable pub left : ℕ → ℕ → ℕ
  left r j = rest r j * scale r j

  unfoldable pub right : ℕ → ℕ → ℕ
  right r j = part x t k r j * scale r j

  -- what control j of the window weighs at degree r, of all
  unfoldable pub portion : ℕ → ℕ → ℕ
  portion zero zero = 1
  portion zero (suc j) = 0
  portion (suc r) zero = left r 0 * portion r 0
  portion (suc r) (suc j) = right r j * portion r j + left r (suc j) * portion r (suc j)

  unfoldable pub all : ℕ → ℕ
  all zero = 1
  all (suc r) = level r * all r

  pub portion-past : (r j : ℕ) → r < j → portion r j ≡ 0
  unfolding portion
  portion-past r zero h = absurd (not-suc-le-zero h)
  portion-past zero (suc j) h = refl
  portion-past (suc r) (suc j) h = rw (portion-past r j (le_of_suc-le-suc h), portion-past r (suc j) (omega arith)) (omega arith)

  portion-over : (r : ℕ) → Over (left r) (right r) (portion r) (portion (suc r))
  unfolding portion
  portion-over r = record { first = refl; next = λ i. refl }

  module _ (n : ℕ) (s : OnSpan x t k n) where
    steps : (i d : ℕ) → i + d ≤ k + n → Up (x i) (x (i + d))
    steps i zero h = rw add-zero (up-refl (x i))
    steps i (suc d) h = rw add-suc (up-trans (steps i d (omega arith)) (up (s.rising (i + d) (omega arith))))

    climb : (i j : ℕ) → i ≤ j → j ≤ k + n → Up (x i) (x j)
    climb i j h l =
        let e : i + (j - i) ≡ j = omega arith in
        subst (λ (q : ℕ). Up (x i) (x q)) e (steps i (j - i) (omega arith))

    module _ (r j : ℕ) (h : r < n) (l : j ≤ r) where
      under : Up (x (k + j - r)) (x k)
      under = let d : n ≤ k = s.deep in climb (k + j - r) k (omega arith) (omega arith)

      beyond : Up (x (suc k)) (x (suc (k + j)))
      beyond = climb (suc k) (suc (k + j)) (omega arith) (omega arith)

      pub part-is : t -ℤ x (k + j - r) ≡ pos (part x t k r j)
      part-is = up-abs (up-trans under (up s.holds.low))

      pub rest-is : x (suc (k + j)) -ℤ t ≡ pos (rest r j)
      unfolding rest
      rest-is = up-abs (up-trans (up s.holds.high) beyond)

      pub gap_is : x (suc (k + j)) -ℤ x (k + j - r) ≡ pos (gap x t k r j)
      gap_is = up-abs (up-trans (up-trans under (up s.holds.low)) (up-trans (up s.holds.high) beyond))

      pub gap-pos : 0 < gap x t k r j
      gap-pos = up-wide under s.holds.wide beyond

      gap-sum : gap x t k r j ≡ rest r j + part x t k r j
      gap-sum = ap nat_abs (sym gap_is ∙ ring (x (suc (k + j)) ∷ t ∷ x (k + j - r) ∷ []) (λ a t b. a ⊝ b ≐ a ⊝ t ⊕ (t ⊝ b)) tt ∙ ap₂ ◌+ℤ◌ rest-is part-is)

      pub part-le : part x t k r j ≤ gap x t k r j
      part-le = omega (arith, gap-sum)

      pub scale-is : gap x t k r j * scale r j ≡ level r
      unfolding scale level
      scale-is = mul-div_cancel' (gap x t k r j) (prod-dvd (suc r) (gap x t k r) j (omega arith))

      sides-are : left r j + right r j ≡ level r
      unfolding left right
      sides-are = sym scale-sum
        where
          scale-sum : level r ≡ rest r j * scale r j + part x t k r j * scale r j
          scale-sum = sym scale-is ∙ ap (λ (g : ℕ). g * scale r j) gap-sum ∙ omega arith

    pub all_above : (r : ℕ) → r ≤ n → 0 < all r
    unfolding all level
    all_above zero h = zero-lt-suc 0
    all_above (suc r) h = mul-pos (prod-pos (suc r) (gap x t k r) (λ j l. gap-pos r j h (le_of_suc-le-suc l))) (all_above r (omega arith))

    -- ---- the scheme, rounded
    module _ (c : ℕ → ℤ) (r j : ℕ) (h : r < n) (l : j ≤ r) where
      abbrev d : ℤ
      d = between (c j) (c (suc j)) (part x t k r j) (gap x t k r j)

      scaled : pos (level r) *ℤ d -ℤ mix (left r) (right r) c j ≡ pos (scale r j) *ℤ (pos (gap x t k r j) *ℤ d -ℤ (pos (rest r j) *ℤ c j +ℤ pos (part x t k r j) *ℤ c (suc j)))
      unfolding left right
      scaled = rw (← scale-is r j h l)
          (ring (pos (gap x t k r j) ∷ pos (scale r j) ∷ d ∷ pos (rest r j) ∷ pos (part x t k r j) ∷ c j ∷ c (suc j) ∷ [])
          (λ g m d a b c c'. g ⊗ m ⊗ d ⊝ (a ⊗ m ⊗ c ⊕ b ⊗ m ⊗ c') ≐ m ⊗ (g ⊗ d ⊝ (a ⊗ c ⊕ b ⊗ c'))) tt)

      row_near : 2 * nat_abs (pos (level r) *ℤ d -ℤ mix (left r) (right r) c j) ≤ level r
      row_near = rw (scaled, abs-*) (go (nat_abs Y) (mul-le-mul_left (scale r j) one) (scale-is r j h l))
        where
          Y : ℤ
          Y = pos (gap x t k r j) *ℤ d -ℤ (pos (rest r j) *ℤ c j +ℤ pos (part x t k r j) *ℤ c (suc j))

          less : gap x t k r j ≡ rest r j + part x t k r j → gap x t k r j - part x t k r j ≡ rest r j
          less e = omega arith

          one : 2 * nat_abs Y ≤ gap x t k r j
          one = subst (λ (a : ℕ). 2 * nat_abs (pos (gap x t k r j) *ℤ d -ℤ (pos a *ℤ c j +ℤ pos (part x t k r j) *ℤ c (suc j))) ≤ gap x t k r j)
              (less (gap-sum r j h l)) (between-near (c j) (c (suc j)) (part x t k r j) (gap x t k r j) (gap-pos r j h l))

          go : (y : ℕ) → scale r j * (2 * y) ≤ scale r j * gap x t k r j → gap x t k r j * scale r j ≡ level r → 2 * (scale r j * y) ≤ level r
          go y p q = omega arith

    pub near : (r : ℕ) → r ≤ n → (c : ℕ → ℤ) → Near (suc r) (portion r) c (all r) r (pyramid (part x t k) (gap x t k) r c)
    unfolding portion all pyramid
    near zero h c = near-zero (portion 0) c refl
    near (suc r) h c =
        near_step (left r) (right r) (portion r) (portion (suc r)) (portion-over r) (suc r) (level r) (all r) r c (λ j. between (c j) (c (suc j)) (part x t k r j) (gap x t k r j))
        (pyramid (part x t k) (gap x t k) (suc r) c) (portion-past r (suc r) (le_refl (suc r))) (λ i l. sides-are r i h (le_of_suc-le-suc l)) (λ i l. row_near c r i h (le_of_suc-le-suc l))
        (near r (omega arith) (λ j. between (c j) (c (suc j)) (part x t k r j) (gap x t k r j)))
