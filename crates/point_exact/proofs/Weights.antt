-- Weights as parts of a whole, in a window of the controls and 0 outside it; a number near the sum they weigh is near the exact value, and near again over rows.
use mathlib.Core.Path.{◌≡◌, refl, sym, ◌∙◌, ap, ap₂, subst}
use mathlib.Core.Bool.{cond, ◌&&◌}
use mathlib.Core.Logic.{◌⊎◌, inl, inr}
use mathlib.Core.List.{[], ◌∷◌}
use Prim.Native.Nat.{ℕ, zero, suc, ◌+◌, ◌*◌, ◌-◌, ◌≤◌, ◌<◌}
use native.Mathlib.Nat.{mul-pos, le_refl, le_trans, le_of_eq, mul-le-mul_left, mul-one, add-zero, add-suc}
use native.Mathlib.Decide.{dec_le}
use native.Mathlib.Omega.{arith}
use borrow.Author.Tests.{le-leb, lt-leb}
use lib.Dec.{leb}
use lib.IntN.{ℤ, pos, nat_abs, ◌+ℤ◌, ◌-ℤ◌, ◌*ℤ◌}
use Rattle.rounding.specs.Fractions.{Frac, whole, ◌*ᶠ◌, sum_to, Close}
use Rattle.rounding.proofs.IntLaws.{abs-+, abs-*}
use Rattle.rounding.proofs.Ring.{ring, K, ◌⊕◌, ◌⊝◌, ◌⊗◌, ◌≐◌}
use Rattle.rounding.proofs.FracLaws.{Is, is-conv, is_whole, is-times, is_zero, is_sum, sum, close-to}
use Rattle.lists.proofs.Tests.{and_second}
use Rattle.point_exact.proofs.Scheme.{total, weigh, bound, pull, Near}

-- f goes from controls to a number, at most n / 2 from the sum of the controls by the first m weights w, which are parts of a whole, none below 0
pub record Sampler (m : ℕ) (w : ℕ → Frac) (n : ℕ) (f : (ℕ → ℤ) → ℤ) : Type 0 where
  pub parts : ℕ → ℕ
  pub all : ℕ
  pub some : 0 < all
  pub are : (i : ℕ) → i < m → Is (w i) (pos (parts i)) all
  pub make : total m parts ≡ all
  pub near : (c : ℕ → ℤ) → 2 * nat_abs (pos all *ℤ f c -ℤ weigh m parts c) ≤ n * all

-- ---- a window: n + 1 weights from `first` on
module _ (first n : ℕ) (w : ℕ → ℕ) where
  part : ℕ → ℕ
  part i = cond (leb first i && leb i (first + n)) (w (i - first)) 0

  part_in : (j : ℕ) → j ≤ n → part (first + j) ≡ w j
  unfolding part
  part_in j h =
      let e : first + j - first ≡ j = omega arith in
      rw (le-leb first (first + j) (omega arith), le-leb (first + j) (first + n) (omega arith), e)

  part-below : (i : ℕ) → i < first → part i ≡ 0
  unfolding part
  part-below i h = rw (lt-leb first i h)

  part-beyond : (i : ℕ) → first + n < i → part i ≡ 0
  unfolding part
  part-beyond i h = rw (and_second (leb first i) (lt-leb i (first + n) h))

  module _ (c : ℕ → ℤ) where
    abbrev there : ℕ → ℤ
    there j = c (first + j)

    none : (i : ℕ) → part i ≡ 0 → (z : ℤ) → z +ℤ pos (part i) *ℤ c i ≡ z
    none i e z = ap (λ (p : ℕ). z +ℤ pos p *ℤ c i) e ∙ ring (z ∷ c i ∷ []) (λ z c. z ⊕ K (pos 0) ⊗ c ≐ z) tt

    before : (m : ℕ) → m ≤ first → weigh m part c ≡ pos 0
    unfolding sum
    before zero h = refl
    before (suc m) h = none m (part-below m h) (weigh m part c) ∙ before m (omega arith)

    within : (j : ℕ) → j ≤ suc n → weigh (first + j) part c ≡ weigh j w there
    unfolding sum
    within zero h = rw add-zero (before first (le_refl first))
    within (suc j) h = rw add-suc (ap₂ (λ z (p : ℕ). z +ℤ pos p *ℤ c (first + j)) (within j (omega arith)) (part_in j (omega arith)))

    after : (l : ℕ) → weigh (first + suc n + l) part c ≡ weigh (suc n) w there
    unfolding sum
    after zero = rw add-zero (within (suc n) (le_refl (suc n)))
    after (suc l) = rw add-suc (none (first + suc n + l) (part-beyond (first + suc n + l) (omega arith)) (weigh (first + suc n + l) part c) ∙ after l)

    weigh-window : (m : ℕ) → first + n < m → weigh m part c ≡ weigh (suc n) w there
    weigh-window m h =
        let e : first + suc n + (m - (first + suc n)) ≡ m = omega arith in
        subst (λ (q : ℕ). weigh q part c ≡ weigh (suc n) w there) e (after (m - (first + suc n)))

-- the weights' total is what they weigh of ones
ones : (m : ℕ) (w : ℕ → ℕ) → weigh m w (λ i. pos 1) ≡ pos (total m w)
unfolding sum total
ones zero w = refl
ones (suc m) w = ap (λ z. z +ℤ pos (w m) *ℤ pos 1) (ones m w) ∙ ring (pos (total m w) ∷ pos (w m) ∷ []) (λ t w. t ⊕ w ⊗ K (pos 1) ≐ t ⊕ w) tt

total-window : (first n : ℕ) (w : ℕ → ℕ) (m : ℕ) → first + n < m → total m (part first n w) ≡ total (suc n) w
total-window first n w m h = ap nat_abs (sym (ones m (part first n w)) ∙ weigh-window first n w (λ i. pos 1) m h ∙ ones (suc n) w)

-- the exact value as W / Q
weighed-is : (m Q : ℕ) (u : ℕ → Frac) (w : ℕ → ℕ) → ((i : ℕ) → i < m → Is (u i) (pos (w i)) Q) → (c : ℕ → ℤ) → Is (sum_to m (λ i. u i *ᶠ whole (c i))) (weigh m w c) Q
weighed-is m Q u w are c =
    is_sum m Q (λ i. u i *ᶠ whole (c i)) (λ i. pos (w i) *ℤ c i)
    (λ i l. is-conv (ring (pos (w i) ∷ c i ∷ []) (λ w c. w ⊗ (c ⊗ K (pos 1)) ≐ w ⊗ c) tt) (mul-one Q) (is-times (are i l) (is_whole (c i) 1)))

module _ (m first n : ℕ) (f : ℕ → Frac) (w : ℕ → ℕ) (Q : ℕ) (fits : first + n < m)
    (inside : (j : ℕ) → j ≤ n → Is (f (first + j)) (pos (w j)) Q)
    (outside : (i : ℕ) → (i < first) ⊎ (first + n < i) → Is (f i) (pos 0) 1) where
  is-part : (i : ℕ) → Is (f i) (pos (part first n w i)) Q
  is-part i = go (dec_le first i) (dec_le i (first + n))
    where
      out : (i < first) ⊎ (first + n < i) → part first n w i ≡ 0 → Is (f i) (pos (part first n w i)) Q
      out h e = is-conv (ap pos (sym e)) refl (is_zero Q (outside i h))

      go : Dec (first ≤ i) → Dec (i ≤ first + n) → Is (f i) (pos (part first n w i)) Q
      go (yes h) (yes l) =
          let e : first + (i - first) ≡ i = omega arith in
          subst (λ (q : ℕ). Is (f q) (pos (part first n w q)) Q) e
          (is-conv (ap pos (sym (part_in first n w (i - first) (omega arith)))) refl (inside (i - first) (omega arith)))
      go (yes h) (no l) = out (inr (omega arith)) (part-beyond first n w i (omega arith))
      go (no h) l = out (inl (omega arith)) (part-below first n w i (omega arith))

  -- the sum over all controls is the window's
  pub window-is : (c : ℕ → ℤ) → Is (sum_to m (λ i. f i *ᶠ whole (c i))) (weigh (suc n) w (λ j. c (first + j))) Q
  window-is c = is-conv (weigh-window first n w c m fits) refl (weighed-is m Q f (part first n w) (λ i l. is-part i) c)

  module _ (S : (ℕ → ℤ) → ℤ) (some : 0 < Q) (near : (c : ℕ → ℤ) → Near (suc n) w c Q n (S c)) where
    pub window-sampler : Sampler m f n (λ c. S (λ j. c (first + j)))
    window-sampler = record {
      parts = part first n w;
      all = Q;
      some = some;
      are = λ i l. is-part i;
      make = total-window first n w m fits ∙ (near (λ i. pos 0)).whole;
      near = λ c. rw (weigh-window first n w c m fits) (near (λ j. c (first + j))).close;
    }

-- ---- the exact values as W / Q
module _ {m : ℕ} {u : ℕ → Frac} {k : ℕ} {f : (ℕ → ℤ) → ℤ} (a : Sampler m u k f) where
  pub curve-is : (c : ℕ → ℤ) → Is (sum_to m (λ i. u i *ᶠ whole (c i))) (weigh m a.parts c) a.all
  curve-is c = weighed-is m a.all u a.parts a.are c

  pub weights-are : Is (sum_to m u) (pos a.all) a.all
  unfolding sum total
  weights-are = is-conv (sum-parts m ∙ ap pos a.make) refl (is_sum m a.all u (λ i. pos (a.parts i)) a.are)
    where
      sum-parts : (m : ℕ) → sum m (λ i. pos (a.parts i)) ≡ pos (total m a.parts)
      sum-parts zero = refl
      sum-parts (suc m) = ap (λ z. z +ℤ pos (a.parts m)) (sum-parts m)

  take_out : (v : ℤ) (w : ℕ → ℕ) (c : ℕ → ℤ) (m : ℕ) → sum m (λ i. pos (w i) *ℤ v *ℤ c i) ≡ v *ℤ weigh m w c
  unfolding sum
  take_out v w c zero = ring (v ∷ []) (λ v. K (pos 0) ≐ v ⊗ K (pos 0)) tt
  take_out v w c (suc m) =
      ap (λ z. z +ℤ pos (w m) *ℤ v *ℤ c m) (take_out v w c m)
      ∙ ring (v ∷ weigh m w c ∷ pos (w m) ∷ c m ∷ []) (λ v s w c. v ⊗ s ⊕ w ⊗ v ⊗ c ≐ v ⊗ (s ⊕ w ⊗ c)) tt

  module _ {n : ℕ} {v : ℕ → Frac} {l : ℕ} {g : (ℕ → ℤ) → ℤ} (b : Sampler n v l g) where
    surface-is : (c : ℕ → ℕ → ℤ)
        → Is (sum_to n (λ j. sum_to m (λ i. u i *ᶠ v j *ᶠ whole (c i j)))) (weigh n b.parts (λ j. weigh m a.parts (λ i. c i j))) (a.all * b.all)
    surface-is c =
        is_sum n (a.all * b.all) (λ j. sum_to m (λ i. u i *ᶠ v j *ᶠ whole (c i j))) (λ j. pos (b.parts j) *ℤ weigh m a.parts (λ i. c i j))
        (λ j l. is-conv (take_out (pos (b.parts j)) a.parts (λ i. c i j) m) refl
        (is_sum m (a.all * b.all) (λ i. u i *ᶠ v j *ᶠ whole (c i j)) (λ i. pos (a.parts i) *ℤ pos (b.parts j) *ℤ c i j)
        (λ i k. is-conv (ring (pos (a.parts i) ∷ pos (b.parts j) ∷ c i j ∷ []) (λ x y c. x ⊗ y ⊗ (c ⊗ K (pos 1)) ≐ x ⊗ y ⊗ c) tt) (mul-one (a.all * b.all))
        (is-times (is-times (a.are i k) (b.are j l)) (is_whole (c i j) 1)))))

pub sampler-close : {m n : ℕ} {u : ℕ → Frac} {f : (ℕ → ℤ) → ℤ} → Sampler m u n f → (c : ℕ → ℤ) → Close (f c) (sum_to m (λ i. u i *ᶠ whole (c i))) n
sampler-close {m} {n} {u} {f} a c = close-to (sum_to m (λ i. u i *ᶠ whole (c i))) (weigh m a.parts c) (f c) a.all n (curve-is a c) a.some (a.near c)

-- ---- P R is near X in each row, and Q S near the rows R
over-rows : (w : ℕ → ℕ) (R X : ℕ → ℤ) (S : ℤ) (N P Q m n : ℕ) → total N w ≡ Q → ((j : ℕ) → j < N → 2 * nat_abs (pos P *ℤ R j -ℤ X j) ≤ m * P)
    → 2 * nat_abs (pos Q *ℤ S -ℤ weigh N w R) ≤ n * Q → 2 * nat_abs (pos (P * Q) *ℤ S -ℤ weigh N w X) ≤ (m + n) * (P * Q)
over-rows w R X S N P Q m n e h k =
    rw apart (both (nat_abs (pos Q *ℤ S -ℤ weigh N w R)) (nat_abs (weigh N w (λ j. pos P *ℤ R j -ℤ X j)))
    (mul-le-mul_left P k) (subst (λ (x : ℕ). 2 * nat_abs (weigh N w (λ j. pos P *ℤ R j -ℤ X j)) ≤ m * P * x) e (bound w (λ j. pos P *ℤ R j -ℤ X j) (m * P) N h))
    (far (pos Q *ℤ S -ℤ weigh N w R) (weigh N w (λ j. pos P *ℤ R j -ℤ X j))))
  where
    apart : pos (P * Q) *ℤ S -ℤ weigh N w X ≡ pos P *ℤ (pos Q *ℤ S -ℤ weigh N w R) +ℤ weigh N w (λ j. pos P *ℤ R j -ℤ X j)
    apart =
        ring (pos P ∷ pos Q ∷ S ∷ weigh N w R ∷ weigh N w X ∷ []) (λ p q s r x. p ⊗ q ⊗ s ⊝ x ≐ p ⊗ (q ⊗ s ⊝ r) ⊕ (p ⊗ r ⊝ x)) tt
        ∙ ap (λ z. pos P *ℤ (pos Q *ℤ S -ℤ weigh N w R) +ℤ z) (pull w R X (pos P) N)

    far : (a b : ℤ) → nat_abs (pos P *ℤ a +ℤ b) ≤ P * nat_abs a + nat_abs b
    far a b = le_trans (abs-+ (pos P *ℤ a) b) (le_of_eq (ap (λ (x : ℕ). x + nat_abs b) (abs-* (pos P) a)))

    both : (x y : ℕ) {a : ℕ} → P * (2 * x) ≤ P * (n * Q) → 2 * y ≤ m * P * Q → a ≤ P * x + y → 2 * a ≤ (m + n) * (P * Q)
    both x y p q l = omega arith

-- u first, along each row, and then v
pub rows-close : {m n k l : ℕ} {u v : ℕ → Frac} {f g : (ℕ → ℤ) → ℤ} → Sampler m u k f → Sampler n v l g
    → (c : ℕ → ℕ → ℤ) → Close (g (λ j. f (λ i. c i j))) (sum_to n (λ j. sum_to m (λ i. u i *ᶠ v j *ᶠ whole (c i j)))) (k + l)
rows-close {m} {n} {k} {l} {u} {v} {f} {g} a b c =
    close-to (sum_to n (λ j. sum_to m (λ i. u i *ᶠ v j *ᶠ whole (c i j)))) (weigh n b.parts (λ j. weigh m a.parts (λ i. c i j))) (g (λ j. f (λ i. c i j)))
    (a.all * b.all) (k + l) (surface-is a b c) (mul-pos a.some b.some)
    (over-rows b.parts (λ j. f (λ i. c i j)) (λ j. weigh m a.parts (λ i. c i j)) (g (λ j. f (λ i. c i j))) n a.all b.all k l b.make
    (λ j h. a.near (λ i. c i j)) (b.near (λ j. f (λ i. c i j))))
