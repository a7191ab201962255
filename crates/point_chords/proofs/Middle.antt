-- The middle is half of the sum rounded down: a half that leaves 0 or 1 is one alone. On an interval it lies half the way from the start.
use mathlib.Core.Path.{◌≡◌, refl, sym, ap, ◌∙◌, subst}
use mathlib.Core.Bool.{false}
use mathlib.Core.List.{[], ◌∷◌}
use mathlib.Core.Logic.{⊎_elim}
use Prim.Native.Nat.{ℕ, suc, ◌+◌, ◌*◌, ◌-◌, ◌/◌, ◌≤◌, ◌<◌}
use native.Mathlib.Nat.{le-div_iff_mul-le, div-mul-le_self, div-le_self, div-add-mod', mod-lt}
use native.Mathlib.Omega.{arith}
use borrow.Author.Tests.{leb-false}
use lib.Dec.{ltb}
use lib.IntN.{ℤ, pos, negsuc, neg_ℤ, nat_abs, sub_ℕ, ◌+ℤ◌, ◌-ℤ◌, ◌*ℤ◌, pos-+ℤ-pos, +ℤ_idl, +ℤ_invr}
use lib.Signed.{◌≤ℤ◌, ◌<ℤ◌, le_z, mag, shr_z, quot_z}
use Rattle.rounding.proofs.IntLaws.{abs_neg, abs-*, sub-eq, cond_ind}
use Rattle.rounding.proofs.Order.{Up, up, up_le, up-abs, lt-or-le, <ℤ→≤ℤ}
use Rattle.rounding.proofs.Ring.{ring, K, ◌⊕◌, ◌⊝◌, ◌⊗◌, ◌≐◌}
use Rattle.rounding.proofs.Rounding.{distance}
use Rattle.point_chords.specs.Chords.{middle, short_interval}
use Rattle.point_chords.specs.Promises.{MiddleFloored}

-- z is twice m, and 0 or 1
record Halved (z m : ℤ) : Type 0 where
  left : ℕ
  small : left ≤ 1
  same : z ≡ pos 2 *ℤ m +ℤ pos left

left-small : (n : ℕ) → n - n / 2 * 2 ≤ 1
left-small n = omega (arith, div-add-mod' n 2, mod-lt n (let z : 0 < 2 = omega arith in z))

back : (x y : ℤ) → neg_ℤ (x +ℤ y) +ℤ y ≡ neg_ℤ x
back x y =
    ap (λ (z : ℤ). z +ℤ y) (sym (+ℤ_idl (neg_ℤ (x +ℤ y)))) ∙ ring (x ∷ y ∷ []) (λ x y. K (pos 0) ⊝ (x ⊕ y) ⊕ y ≐ K (pos 0) ⊝ x) tt ∙ +ℤ_idl (neg_ℤ x)

halved : (z : ℤ) → Halved z (shr_z z 2)
halved (pos n) =
    let r = n - n / 2 * 2 in
    let e : n ≡ 2 * (n / 2) + r = omega (arith, div-mul-le_self n 2) in
    record { left = r; small = left-small n; same = ap pos e }
halved (negsuc n) =
    let r = 1 - (n - n / 2 * 2) in
    let s : r ≤ 1 = omega arith in
    let e : 2 * suc (n / 2) ≡ suc n + r = omega (arith, div-mul-le_self n 2, left-small n) in
    record {
      left = r;
      small = s;
      same = sym (ap (λ (k : ℕ). neg_ℤ (pos k) +ℤ pos r) e ∙ back (pos (suc n)) (pos r));
    }

abs-zero : (z : ℤ) → nat_abs z ≡ 0 → z ≡ pos 0
abs-zero (pos n) h = ap pos h
abs-zero (negsuc n) h = absurd (omega (arith, h))

half-unique : {z m n : ℤ} → Halved z m → Halved z n → m ≡ n
half-unique {z} {m} {n} h k =
    let r = pos h.left in
    let s = pos k.left in
    let e : pos 2 *ℤ (m -ℤ n) ≡ s -ℤ r =
    ring (m ∷ n ∷ r ∷ []) (λ m n r. K (pos 2) ⊗ (m ⊝ n) ≐ K (pos 2) ⊗ m ⊕ r ⊝ r ⊝ K (pos 2) ⊗ n) tt
    ∙ ap (λ (z : ℤ). z -ℤ r -ℤ pos 2 *ℤ n) (sym h.same ∙ k.same)
    ∙ ring (n ∷ r ∷ s ∷ []) (λ n r s. K (pos 2) ⊗ n ⊕ s ⊝ r ⊝ K (pos 2) ⊗ n ≐ s ⊝ r) tt in
    let a : 2 * nat_abs (m -ℤ n) ≡ nat_abs (s -ℤ r) = sym (abs-* (pos 2) (m -ℤ n)) ∙ ap nat_abs e in
    let f : 2 * k.left ≤ 2 * h.left + 2 = omega (arith, k.small) in
    let g : 2 * h.left ≤ 2 * k.left + 2 = omega (arith, h.small) in
    let b : 2 * nat_abs (s -ℤ r) ≤ 2 = distance k.left h.left 2 f g in
    sub-eq m n (abs-zero (m -ℤ n) (omega (arith, a, b)))

-- ---- "rounded down"
lt-add : (a : ℤ) (k : ℕ) → 0 < k → a <ℤ (a +ℤ pos k)
lt-add a k h = ⊎_elim (λ l. l) (λ l. absurd (stuck (up l))) (lt-or-le a (a +ℤ pos k))
  where
    stuck : Up (a +ℤ pos k) a → ⊥
    stuck u =
        let e : a -ℤ a ≡ pos k +ℤ pos u.by = ap (λ (z : ℤ). z -ℤ a) u.same ∙ ring (a ∷ pos k ∷ pos u.by ∷ []) (λ a x y. a ⊕ x ⊕ y ⊝ a ≐ x ⊕ y) tt in
        let n : 0 ≡ k + u.by = ap nat_abs (sym (+ℤ_invr a) ∙ e ∙ pos-+ℤ-pos k u.by) in
        omega (arith, n)

floored : {z m : ℤ} → Halved z m → ((pos 2 *ℤ m) ≤ℤ z) × (z <ℤ (pos 2 *ℤ m +ℤ pos 2))
floored {z} {m} h =
    let r = h.left in
    let e : r + (2 - r) ≡ 2 = omega (arith, h.small) in
    let s : z +ℤ pos (2 - r) ≡ pos 2 *ℤ m +ℤ pos 2 =
    ap (λ (x : ℤ). x +ℤ pos (2 - r)) h.same ∙ ring ((pos 2 *ℤ m) ∷ pos r ∷ pos (2 - r) ∷ []) (λ a x y. a ⊕ x ⊕ y ≐ a ⊕ (x ⊕ y)) tt
    ∙ ap (λ (n : ℕ). pos 2 *ℤ m +ℤ pos n) e in
    let p : 0 < 2 - r = omega (arith, h.small) in
    (up_le (record { by = r; same = h.same }), subst (λ (x : ℤ). z <ℤ x) s (lt-add z (2 - r) p))

pub middle-floored : MiddleFloored
unfolding middle
middle-floored a b = let f = floored (halved (a +ℤ b)) in record { most = f.0; least = f.1 }

-- ---- on an interval
module _ {a b : ℤ} (o : a ≤ℤ b) where
  abbrev way : ℕ
  way = nat_abs (b -ℤ a)

  sum_is : a +ℤ b ≡ pos 2 *ℤ (a +ℤ pos (way / 2)) +ℤ pos (way - way / 2 * 2)
  sum_is =
      let half = way / 2 in
      let left = way - half * 2 in
      let e : way ≡ half + half + left = omega (arith, div-mul-le_self way 2) in
      let d : b -ℤ a ≡ pos half +ℤ pos half +ℤ pos left = up-abs (up o) ∙ ap pos e in
      ring (a ∷ b ∷ []) (λ a b. a ⊕ b ≐ a ⊕ (a ⊕ (b ⊝ a))) tt ∙ ap (λ (z : ℤ). a +ℤ (a +ℤ z)) d
      ∙ ring (a ∷ pos half ∷ pos left ∷ []) (λ a x y. a ⊕ (a ⊕ (x ⊕ x ⊕ y)) ≐ K (pos 2) ⊗ (a ⊕ x) ⊕ y) tt

  middle-is : middle a b ≡ a +ℤ pos (way / 2)
  unfolding middle
  middle-is = half-unique (halved (a +ℤ b)) (record { left = way - way / 2 * 2; small = left-small way; same = sum_is })

  end_is : middle a b +ℤ pos (way - way / 2) ≡ b
  end_is =
      let e : way / 2 + (way - way / 2) ≡ way = omega (arith, div-le_self way 2) in
      ap (λ (z : ℤ). z +ℤ pos (way - way / 2)) middle-is
      ∙ ring (a ∷ pos (way / 2) ∷ pos (way - way / 2) ∷ []) (λ a x y. a ⊕ x ⊕ y ≐ a ⊕ (x ⊕ y)) tt
      ∙ ap (λ (z : ℤ). a +ℤ z) (pos-+ℤ-pos (way / 2) (way - way / 2) ∙ ap pos e ∙ sym (up-abs (up o)))
      ∙ ring (a ∷ b ∷ []) (λ a b. a ⊕ (b ⊝ a) ≐ b) tt

  pub middle-from : a ≤ℤ middle a b
  middle-from = up_le (record { by = way / 2; same = middle-is })

  pub middle-upto : middle a b ≤ℤ b
  middle-upto = up_le (record { by = way - way / 2; same = sym end_is })

-- strictly inside where the interval is no chord
module _ {a b : ℤ} (l : a <ℤ b) (h : short_interval a b ≡ false) where
  long : 2 ≤ nat_abs (b -ℤ a)
  unfolding short_interval
  long = leb-false (nat_abs (b -ℤ a)) 1 (ap (λ (z : ℤ). le_z z (pos 1)) (sym (up-abs (up (<ℤ→≤ℤ l)))) ∙ h)

  some : 1 ≤ nat_abs (b -ℤ a) / 2
  some = let g : 1 * 2 ≤ nat_abs (b -ℤ a) = omega (arith, long) in (le-div_iff_mul-le (let z : 0 < 2 = omega arith in z)).1 g

  pub middle-after : a <ℤ middle a b
  middle-after = subst (λ (z : ℤ). a <ℤ z) (sym (middle-is (<ℤ→≤ℤ l))) (lt-add a (nat_abs (b -ℤ a) / 2) some)

  pub middle-before : middle a b <ℤ b
  middle-before =
      let n = nat_abs (b -ℤ a) in
      let p : 0 < n - n / 2 = omega (arith, div-mul-le_self n 2, some) in
      subst (λ (z : ℤ). middle a b <ℤ z) (end_is (<ℤ→≤ℤ l)) (lt-add (middle a b) (n - n / 2) p)

-- ---- as the code finds it: the sum raised by 2^32 is not below zero, and half of that is lowered by 2^31
raised : (z : ℤ) (n : ℕ) → nat_abs z ≤ n → (j : ℕ) × (z +ℤ pos n ≡ pos j)
raised (pos k) n h = (k + n, refl)
raised (negsuc k) n h =
    let e : n ≡ suc k + (n - suc k) = omega arith in (
      n - suc k,
      ap (λ (m : ℕ). negsuc k +ℤ pos m) e ∙ ap (λ (z : ℤ). z +ℤ (pos (suc k) +ℤ pos (n - suc k))) (sym (+ℤ_idl (negsuc k)))
          ∙ ring (pos (suc k) ∷ pos (n - suc k) ∷ []) (λ x y. K (pos 0) ⊝ x ⊕ (x ⊕ y) ≐ y) tt,
    )

pub lowered : (z : ℤ) → nat_abs z ≤ 4294967296 → quot_z (z +ℤ pos 4294967296) (pos 2) -ℤ pos 2147483648 ≡ shr_z z 2
lowered z h =
    let u = raised z 4294967296 h in
    let j = u.0 in
    let k = halved (pos j) in
    let e : z ≡ pos 2 *ℤ (pos (j / 2) -ℤ pos 2147483648) +ℤ pos k.left =
    ring (z ∷ []) (λ z. z ≐ z ⊕ K (pos 4294967296) ⊝ K (pos 4294967296)) tt ∙ ap (λ (x : ℤ). x -ℤ pos 4294967296) (u.1 ∙ k.same)
    ∙ ring (pos (j / 2) ∷ pos k.left ∷ []) (λ q r. K (pos 2) ⊗ q ⊕ r ⊝ K (pos 4294967296) ≐ K (pos 2) ⊗ (q ⊝ K (pos 2147483648)) ⊕ r) tt in
    ap (λ (x : ℤ). quot_z x (pos 2) -ℤ pos 2147483648) u.1 ∙ half-unique (record { left = k.left; small = k.small; same = e }) (halved z)

pub half-size : (z : ℤ) → nat_abs (quot_z z (pos 2)) ≤ nat_abs z
half-size (pos n) = div-le_self n 2
half-size (negsuc n) = rw (abs_neg (pos (suc n / 2))) (div-le_self (suc n) 2)

-- and it fits where its two numbers do
mag-sub : (a b : ℕ) → mag (sub_ℕ a b) ≤ a + b
mag-sub a b = cond_ind (ltb a b) (negsuc (b - suc a)) (pos (a - b)) (λ z. mag z ≤ a + b) (λ t. omega arith) (λ t. omega arith)

mag_sum : (a b : ℤ) → mag (a +ℤ b) ≤ suc (mag a + mag b)
mag_sum (pos a) (pos b) = omega arith
mag_sum (pos a) (negsuc b) = omega (arith, mag-sub a (suc b))
mag_sum (negsuc a) (pos b) = omega (arith, mag-sub b (suc a))
mag_sum (negsuc a) (negsuc b) = omega arith

mag-half : (z : ℤ) → mag (shr_z z 2) ≡ mag z / 2
mag-half (pos n) = refl
mag-half (negsuc n) = refl

pub middle-fits : (a b : ℤ) → mag a < 2147483648 → mag b < 2147483648 → mag (middle a b) < 2147483648
unfolding middle
middle-fits a b h k = omega (arith, mag-half (a +ℤ b), mag_sum a b, div-mul-le_self (mag (a +ℤ b)) 2)
