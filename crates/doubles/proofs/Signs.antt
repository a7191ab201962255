-- Doubles as signed fractions: `At x z c` says that x is z / c, multiplied out; a sum and a product are the exact one, rounded.
use mathlib.Core.Path.{◌≡◌, refl, sym, ap, ap₂, ◌∙◌, subst}
use mathlib.Core.Bool.{Bool, true, false, not, ◌||◌, beq, cond, true≢false}
use mathlib.Core.List.{[], ◌∷◌}
use Prim.Native.Nat.{ℕ, zero, suc, ◌+◌, ◌-◌, ◌*◌, ◌^◌, ◌≤◌, ◌<◌}
use native.Mathlib.Nat.{mul-pos, mul-one, zero-mul, le_of_lt, lt_irrefl, mul-lt-mul_of_pos_right, le_of_mul-le-mul_right}
use native.Mathlib.Omega.{arith}
use lib.Dec.{T, ltb, eqb, ltb→lt, nltb→le, eqb→eq}
use lib.IntN.{ℤ, pos, neg_ℤ, nat_abs, ◌+ℤ◌, ◌-ℤ◌, ◌*ℤ◌, neg_ℤ-+ℤ, neg_ℤ-neg_ℤ, pos-ne-negsuc}
use lib.Pow.{pow_pos}
use lib.Ieee.{Float, nan, inf, fin, Format, prec, emax, low, up, down, unlike, level, round, neg, sum, add, sub, mul, div, eq}
use lib.Ieee.Fits.{down_pos, and_l, and_r}
use lib.Ieee.Exact.{HasValue}
use lib.Ieee.Back.{round_whole}
use lib.Ieee.Scale.{round_same}
use Rattle.lists.specs.Signs.{with_sign}
use Rattle.rounding.proofs.IntLaws.{abs_neg, abs-*, neg-*ℤ}
use Rattle.rounding.proofs.Bits.{abs-signed}
use Rattle.rounding.proofs.FracLaws.{cancel}
use Rattle.rounding.proofs.Ring.{ring, ◌⊕◌, ◌⊝◌, ◌⊗◌, ⊖, ◌≐◌}
use Rattle.rounding.proofs.Rounding.{distance}
use Rattle.doubles.proofs.Near.{Halfway, Rounds, round-near}

-- ---- signs
signed-times : (s : Bool) (m n : ℕ) → with_sign s (m * n) ≡ with_sign s m *ℤ pos n
signed-times true m n = sym (neg-*ℤ (pos m) (pos n))
signed-times false m n = refl

signed-not : (s : Bool) (m : ℕ) → with_sign (not s) m ≡ neg_ℤ (with_sign s m)
signed-not true m = sym (neg_ℤ-neg_ℤ (pos m))
signed-not false m = refl

signed-unlike : (s t : Bool) (m n : ℕ) → with_sign (unlike s t) (m * n) ≡ with_sign s m *ℤ with_sign t n
signed-unlike true true m n = ring (pos m ∷ pos n ∷ []) (λ m n. m ⊗ n ≐ ⊖ m ⊗ ⊖ n) tt
signed-unlike true false m n = ring (pos m ∷ pos n ∷ []) (λ m n. ⊖ (m ⊗ n) ≐ ⊖ m ⊗ n) tt
signed-unlike false true m n = ring (pos m ∷ pos n ∷ []) (λ m n. ⊖ (m ⊗ n) ≐ m ⊗ ⊖ n) tt
signed-unlike false false m n = refl

apart : (s : Bool) (x y : ℕ) → nat_abs (with_sign s x -ℤ with_sign s y) ≡ nat_abs (pos x -ℤ pos y)
apart true x y = ap nat_abs (ring (pos x ∷ pos y ∷ []) (λ x y. ⊖ x ⊝ ⊖ y ≐ ⊖ (x ⊝ y)) tt) ∙ abs_neg (pos x -ℤ pos y)
apart false x y = refl

-- ---- x is z / c
abbrev pub At : Float → ℤ → ℕ → Type 0
At nan z c = ⊥
At (inf s) z c = ⊥
At (fin s m e) z c = with_sign s (m * up e) *ℤ pos c ≡ z *ℤ pos (down e)

pub at_value : (x : Float) (s : Bool) (a c : ℕ) → HasValue x s a c → At x (with_sign s a) c
at_value nan s a c v = v
at_value (inf t) s a c v = v
at_value (fin t m e) s a c v =
    ap (λ (b : Bool). with_sign b (m * up e) *ℤ pos c) v.0 ∙ sym (signed-times s (m * up e) c) ∙ ap (λ (n : ℕ). with_sign s n) v.1 ∙ signed-times s a (down e)

-- the same fraction over another whole
pub at_same : (x : Float) (y z : ℤ) (c d : ℕ) → 0 < c → y *ℤ pos d ≡ z *ℤ pos c → At x y c → At x z d
at_same nan y z c d C e v = v
at_same (inf s) y z c d C e v = v
at_same (fin s m k) y z c d C e v =
    let X = with_sign s (m * up k) in
    cancel c (X *ℤ pos d) (z *ℤ pos (down k)) C
    (ring (X ∷ pos c ∷ pos d ∷ []) (λ x c d. c ⊗ (x ⊗ d) ≐ x ⊗ c ⊗ d) tt
    ∙ ap (λ t. t *ℤ pos d) v
    ∙ ring (y ∷ pos (down k) ∷ pos d ∷ []) (λ y k d. y ⊗ k ⊗ d ≐ y ⊗ d ⊗ k) tt
    ∙ ap (λ t. t *ℤ pos (down k)) e
    ∙ ring (z ∷ pos c ∷ pos (down k) ∷ []) (λ z c k. z ⊗ c ⊗ k ≐ c ⊗ (z ⊗ k)) tt)

at-neg : (x : Float) (z : ℤ) (c : ℕ) → At x z c → At (neg x) (neg_ℤ z) c
unfolding neg
at-neg nan z c v = v
at-neg (inf s) z c v = v
at-neg (fin s m e) z c v =
    ap (λ t. t *ℤ pos c) (signed-not s (m * up e))
    ∙ neg-*ℤ (with_sign s (m * up e)) (pos c) ∙ ap neg_ℤ v ∙ sym (neg-*ℤ z (pos (down e)))

-- ---- x is z / c, rounded
pub record Rounded (f : Format) (x : Float) (z : ℤ) (c : ℕ) : Type 0 where
  pub sign : Bool
  pub size : ℕ
  pub is : x ≡ round f sign size c
  pub same : with_sign sign size ≡ z

pub rounded-same : (f : Format) (x : Float) (y z : ℤ) (c d : ℕ) → 0 < c → 0 < d → y *ℤ pos d ≡ z *ℤ pos c → Rounded f x y c → Rounded f x z d
rounded-same f x y z c d C D e r = record {
  sign = r.sign;
  size = nat_abs z;
  is = r.is ∙ round_same f r.sign r.size c (nat_abs z) d C D sizes;
  same =
      cancel c (with_sign r.sign (nat_abs z)) z C
      (ring (with_sign r.sign (nat_abs z) ∷ pos c ∷ []) (λ z c. c ⊗ z ≐ z ⊗ c) tt
      ∙ sym (signed-times r.sign (nat_abs z) c)
      ∙ ap (λ (n : ℕ). with_sign r.sign n) (sym sizes)
      ∙ signed-times r.sign r.size d
      ∙ ap (λ t. t *ℤ pos d) r.same
      ∙ e
      ∙ ring (z ∷ pos c ∷ []) (λ z c. z ⊗ c ≐ c ⊗ z) tt);
}
  where
    sizes : r.size * d ≡ nat_abs z * c
    sizes =
        ap (λ (n : ℕ). n * d) (sym (abs-signed r.sign r.size) ∙ ap nat_abs r.same)
        ∙ sym (abs-* y (pos d)) ∙ ap nat_abs e ∙ abs-* z (pos c)

-- ---- sums
pub minus : (a b : ℕ) → b ≤ a → pos a -ℤ pos b ≡ pos (a - b)
minus a b h =
    let e : a ≡ a - b + b = omega arith in
    ap (λ (n : ℕ). pos n -ℤ pos b) e ∙ ring (pos (a - b) ∷ pos b ∷ []) (λ x y. x ⊕ y ⊝ y ≐ x) tt

minus-back : (a b : ℕ) → b ≤ a → neg_ℤ (pos (a - b)) ≡ pos b -ℤ pos a
minus-back a b h = ap neg_ℤ (sym (minus a b h)) ∙ ring (pos a ∷ pos b ∷ []) (λ a b. ⊖ (a ⊝ b) ≐ b ⊝ a) tt

turned : (a b : ℕ) → pos b -ℤ pos a ≡ neg_ℤ (pos a) +ℤ pos b
turned a b = ring (pos a ∷ pos b ∷ []) (λ a b. b ⊝ a ≐ ⊖ a ⊕ b) tt

module _ (f : Format) (a b c : ℕ) where
  less-more : (q : Bool) → (T q → a < b) → (T (not q) → b ≤ a) → Rounded f (cond q (round f true (b - a) c) (round f false (a - b) c)) (pos a +ℤ neg_ℤ (pos b)) c
  less-more true h k = record { sign = true; size = b - a; is = refl; same = minus-back b a (le_of_lt (h tt)) }
  less-more false h k = record { sign = false; size = a - b; is = refl; same = sym (minus a b (k tt)) }

  either : (q : Bool) → b ≤ a → (T (not q) → a ≤ b) → with_sign q (a - b) ≡ neg_ℤ (pos a) +ℤ pos b
  either true h k = minus-back a b h ∙ turned a b
  either false h k = let e : a - b ≡ 0 = none (k tt) in ap pos e ∙ sym (ap (λ (n : ℕ). neg_ℤ (pos n)) e) ∙ minus-back a b h ∙ turned a b
    where
      none : a ≤ b → a - b ≡ 0
      none l = omega arith

  more-less : (q : Bool) → (T q → a < b) → (T (not q) → b ≤ a) → Rounded f (cond q (round f false (b - a) c) (round f (ltb b a) (a - b) c)) (neg_ℤ (pos a) +ℤ pos b) c
  more-less true h k = record { sign = false; size = b - a; is = refl; same = sym (minus b a (le_of_lt (h tt))) ∙ turned a b }
  more-less false h k = record { sign = ltb b a; size = a - b; is = refl; same = either (ltb b a) (k tt) (nltb→le b a) }

sum-rounded : (f : Format) (s : Bool) (a : ℕ) (t : Bool) (b c : ℕ) → Rounded f (sum f s a t b c) (with_sign s a +ℤ with_sign t b) c
unfolding sum
sum-rounded f true a true b c = record { sign = true; size = a + b; is = refl; same = neg_ℤ-+ℤ (pos a) (pos b) }
sum-rounded f true a false b c = more-less f a b c (ltb a b) (ltb→lt a b) (nltb→le a b)
sum-rounded f false a true b c = less-more f a b c (ltb a b) (ltb→lt a b) (nltb→le a b)
sum-rounded f false a false b c = record { sign = false; size = a + b; is = refl; same = refl }

pub add-rounded : (f : Format) (x y : Float) (u v : ℤ) (c : ℕ) → 0 < c → At x u c → At y v c → Rounded f (add f x y) (u +ℤ v) c
unfolding add
add-rounded f nan y u v c C p q = absurd p
add-rounded f (inf s) y u v c C p q = absurd p
add-rounded f (fin s m e) nan u v c C p q = absurd q
add-rounded f (fin s m e) (inf t) u v c C p q = absurd q
add-rounded f (fin s m e) (fin t n d) u v c C p q =
    let X = with_sign s (m * up e) in
    let Y = with_sign t (n * up d) in
    rounded-same f (sum f s (m * up e * down d) t (n * up d * down e) (down e * down d)) (with_sign s (m * up e * down d) +ℤ with_sign t (n * up d * down e)) (u +ℤ v) (down e * down d) c
    (mul-pos (down_pos e) (down_pos d)) C
    (ap₂ (λ a b. (a +ℤ b) *ℤ pos c) (signed-times s (m * up e) (down d)) (signed-times t (n * up d) (down e))
    ∙ ring (X ∷ Y ∷ pos (down e) ∷ pos (down d) ∷ pos c ∷ []) (λ x y e d c. (x ⊗ d ⊕ y ⊗ e) ⊗ c ≐ x ⊗ c ⊗ d ⊕ y ⊗ c ⊗ e) tt
    ∙ ap₂ (λ a b. a *ℤ pos (down d) +ℤ b *ℤ pos (down e)) p q
    ∙ ring (u ∷ v ∷ pos (down e) ∷ pos (down d) ∷ []) (λ u v e d. u ⊗ e ⊗ d ⊕ v ⊗ d ⊗ e ≐ (u ⊕ v) ⊗ (e ⊗ d)) tt)
    (sum-rounded f s (m * up e * down d) t (n * up d * down e) (down e * down d))

pub sub-rounded : (f : Format) (x y : Float) (u v : ℤ) (c : ℕ) → 0 < c → At x u c → At y v c → Rounded f (sub f x y) (u -ℤ v) c
unfolding sub
sub-rounded f x y u v c C p q = add-rounded f x (neg y) u (neg_ℤ v) c C p (at-neg y v c q)

-- ---- products
pub mul-rounded : (f : Format) (x y : Float) (u v : ℤ) (c d : ℕ) → 0 < c → 0 < d → At x u c → At y v d → Rounded f (mul f x y) (u *ℤ v) (c * d)
unfolding mul
mul-rounded f nan y u v c d C D p q = absurd p
mul-rounded f (inf s) y u v c d C D p q = absurd p
mul-rounded f (fin s m e) nan u v c d C D p q = absurd q
mul-rounded f (fin s m e) (inf t) u v c d C D p q = absurd q
mul-rounded f (fin s m e) (fin t n g) u v c d C D p q =
    let X = with_sign s (m * up e) in
    let Y = with_sign t (n * up g) in
    rounded-same f (round f (unlike s t) (m * up e * (n * up g)) (down e * down g)) (X *ℤ Y) (u *ℤ v) (down e * down g) (c * d)
    (mul-pos (down_pos e) (down_pos g)) (mul-pos C D)
    (ring (X ∷ Y ∷ pos c ∷ pos d ∷ []) (λ x y c d. x ⊗ y ⊗ (c ⊗ d) ≐ x ⊗ c ⊗ (y ⊗ d)) tt
    ∙ ap₂ ◌*ℤ◌ p q
    ∙ ring (u ∷ v ∷ pos (down e) ∷ pos (down g) ∷ []) (λ u v e g. u ⊗ e ⊗ (v ⊗ g) ≐ u ⊗ v ⊗ (e ⊗ g)) tt)
    (record { sign = unlike s t; size = m * up e * (n * up g); is = refl; same = signed-unlike s t (m * up e) (n * up g) })

-- ---- what is rounded lies near
pub record Nearby (f : Format) (x : Float) (z : ℤ) (c j : ℕ) : Type 0 where
  pub number : ℤ
  pub value : At x number (2 ^ low f)
  pub near : 2 * nat_abs (number *ℤ pos c -ℤ z *ℤ pos (2 ^ low f)) ≤ c * 2 ^ j

module _ (f : Format) (x : Float) (z : ℤ) (c j : ℕ) (C : 0 < c) (fine : prec f + j < low f + suc (emax f)) (h : nat_abs z * 2 ^ low f < 2 ^ (prec f + j) * c) (r : Rounded f x z c) where
  sizes : nat_abs z ≡ r.size
  sizes = ap nat_abs (sym r.same) ∙ abs-signed r.sign r.size

  rounds : Rounds f r.sign r.size c j
  rounds = round-near f r.sign r.size c j C fine (subst (λ (n : ℕ). n * 2 ^ low f < 2 ^ (prec f + j) * c) sizes h)

  close : (s : Bool) (n m u k : ℕ) → Halfway (c * n) (m * u) k → 2 * nat_abs (with_sign s n *ℤ pos c -ℤ with_sign s m *ℤ pos u) ≤ k
  close s n m u k g =
      let e : nat_abs (with_sign s n *ℤ pos c -ℤ with_sign s m *ℤ pos u) ≡ nat_abs (pos (n * c) -ℤ pos (m * u)) = ap₂ (λ y z. nat_abs (y -ℤ z)) (sym (signed-times s n c)) (sym (signed-times s m u)) ∙ apart s (n * c) (m * u) in
      subst (λ (t : ℕ). 2 * t ≤ k) (sym e) (distance (n * c) (m * u) k (omega (arith, g.above)) (omega (arith, g.below)))

  pub nearby : Nearby f x z c j
  nearby = record {
    number = with_sign r.sign rounds.size;
    value =
        subst (λ (y : Float). At y (with_sign r.sign rounds.size) (2 ^ low f)) (sym r.is)
        (at_value (round f r.sign r.size c) r.sign rounds.size (2 ^ low f) rounds.value);
    near =
        subst (λ (y : ℤ). 2 * nat_abs (with_sign r.sign rounds.size *ℤ pos c -ℤ y *ℤ pos (2 ^ low f)) ≤ c * 2 ^ j) r.same
        (close r.sign rounds.size r.size (2 ^ low f) (c * 2 ^ j) rounds.half);
  }

-- of a fraction over the format's smallest values
pub record Close (f : Format) (x : Float) (z : ℤ) (j : ℕ) : Type 0 where
  pub number : ℤ
  pub value : At x number (2 ^ low f)
  pub near : 2 * nat_abs (number -ℤ z) ≤ 2 ^ j

one_unit : (y z : ℤ) (u k : ℕ) → 0 < u → 2 * nat_abs (y *ℤ pos u -ℤ z *ℤ pos u) ≤ u * k → 2 * nat_abs (y -ℤ z) ≤ k
one_unit y z u k U h =
    let e : nat_abs (y *ℤ pos u -ℤ z *ℤ pos u) ≡ nat_abs (y -ℤ z) * u = ap nat_abs (ring (y ∷ z ∷ pos u ∷ []) (λ y z u. y ⊗ u ⊝ z ⊗ u ≐ (y ⊝ z) ⊗ u) tt) ∙ abs-* (y -ℤ z) (pos u) in
    le_of_mul-le-mul_right {m = 2 * nat_abs (y -ℤ z)} {n = k} {k = u} (omega (arith, e)) U

pub close-by : (f : Format) (x : Float) (z : ℤ) (j : ℕ) → prec f + j < low f + suc (emax f) → nat_abs z < 2 ^ (prec f + j) → Rounded f x z (2 ^ low f) → Close f x z j
close-by f x z j fine h r =
    let n = nearby f x z (2 ^ low f) j (pow_pos (low f)) fine (mul-lt-mul_of_pos_right h (pow_pos (low f))) r in
    record { number = n.number; value = n.value; near = one_unit n.number z (2 ^ low f) (2 ^ j) (pow_pos (low f)) n.near }

-- ---- whole numbers
pub at-whole : (f : Format) (x : Float) (z : ℤ) → nat_abs z ≤ 2 ^ prec f → Rounded f x z 1 → At x z 1
at-whole f x z h r =
    let l : r.size ≤ 2 ^ prec f = subst (λ (n : ℕ). n ≤ 2 ^ prec f) (ap nat_abs (sym r.same) ∙ abs-signed r.sign r.size) h in
    subst (λ (y : ℤ). At x y 1) r.same
    (subst (λ (y : Float). At y (with_sign r.sign r.size) 1) (sym r.is) (at_value (round f r.sign r.size 1) r.sign r.size 1 (round_whole f r.sign r.size l)))

-- a fraction above 0 is rounded with the sign of 0
pub upright : (f : Format) (x : Float) (n c : ℕ) → 0 < n → Rounded f x (pos n) c → x ≡ round f false n c
upright f x n c N r = r.is ∙ go r.sign r.size r.same
  where
    go : (s : Bool) (m : ℕ) → with_sign s m ≡ pos n → round f s m c ≡ round f false n c
    go true zero e = absurd (lt_irrefl 0 (subst (λ (k : ℕ). 0 < k) (sym (ap nat_abs e)) N))
    go true (suc m) e = absurd (pos-ne-negsuc n m (sym e))
    go false m e = ap (λ (k : ℕ). round f false k c) (ap nat_abs e)

-- ---- quotients of whole numbers
pub div-round : (f : Format) (x y : Float) (a b : ℕ) → 0 < b → HasValue x false a 1 → HasValue y false b 1 → div f x y ≡ round f false a b
unfolding div
div-round f nan y a b B p q = absurd p
div-round f (inf s) y a b B p q = absurd p
div-round f (fin true m e) y a b B p q = absurd (true≢false p.0)
div-round f (fin false m e) nan a b B p q = absurd q
div-round f (fin false m e) (inf t) a b B p q = absurd q
div-round f (fin false m e) (fin true n d) a b B p q = absurd (true≢false q.0)
div-round f (fin false m e) (fin false n d) a b B p q = go (eqb n 0) (eqb→eq n 0)
  where
    some : 0 < n * up d
    some = subst (λ (k : ℕ). 0 < k) (sym q.1 ∙ mul-one (n * up d)) (mul-pos B (down_pos d))

    ratio : (x y u v : ℕ) → x * 1 ≡ a * u → y * 1 ≡ b * v → x * v * b ≡ a * (y * u)
    ratio x y u v h k =
        let g : x * (b * v) ≡ a * u * (b * v) = ap (λ (i : ℕ). i * (b * v)) (sym (mul-one x) ∙ h) in
        let l : a * u * y ≡ a * u * (b * v) = ap (λ (i : ℕ). a * u * i) (sym (mul-one y) ∙ k) in
        omega arith

    go : (t : Bool) → (T t → n ≡ 0)
        → cond t (cond (eqb m 0) nan (inf false)) (round f false (m * up e * down d) (n * up d * down e)) ≡ round f false a b
    go true h = absurd (lt_irrefl 0 (subst (λ (k : ℕ). 0 < k) (ap (λ (k : ℕ). k * up d) (h tt) ∙ zero-mul (up d)) some))
    go false h = round_same f false (m * up e * down d) (n * up d * down e) a b (mul-pos some (down_pos e)) B (ratio (m * up e) (n * up d) (down e) (down d) p.1 q.1)

-- ---- equal doubles are equal numbers
levelled : (s t : Bool) (m n : ℕ) → T (level s m t n) → with_sign s m ≡ with_sign t n
levelled s t m n h = go s t (eqb→eq m n (and_l (eqb m n) (beq s t || eqb m 0) h)) (eqb→eq m 0) (and_r (eqb m n) (beq s t || eqb m 0) h)
  where
    go : (s t : Bool) → m ≡ n → (T (eqb m 0) → m ≡ 0) → T (beq s t || eqb m 0) → with_sign s m ≡ with_sign t n
    go true true e z k = ap (λ (i : ℕ). with_sign true i) e
    go true false e z k = ap (λ (i : ℕ). neg_ℤ (pos i)) (z k) ∙ sym (ap pos (sym e ∙ z k))
    go false true e z k = ap pos (z k) ∙ sym (ap (λ (i : ℕ). neg_ℤ (pos i)) (sym e ∙ z k))
    go false false e z k = ap pos e

pub eq-at : (x y : Float) (u v : ℤ) (c : ℕ) → At x u c → At y v c → eq x y ≡ true → u ≡ v
unfolding eq
eq-at nan y u v c p q e = absurd p
eq-at (inf s) y u v c p q e = absurd p
eq-at (fin s m k) nan u v c p q e = absurd q
eq-at (fin s m k) (inf t) u v c p q e = absurd q
eq-at (fin s m k) (fin t n d) u v c p q e =
    let X = with_sign s (m * up k) in
    let Y = with_sign t (n * up d) in
    let l : X *ℤ pos (down d) ≡ Y *ℤ pos (down k) = sym (signed-times s (m * up k) (down d)) ∙ levelled s t (m * up k * down d) (n * up d * down k) (subst T (sym e) tt) ∙ signed-times t (n * up d) (down k) in
    cancel (down k * down d) u v (mul-pos (down_pos k) (down_pos d))
    (ring (u ∷ pos (down k) ∷ pos (down d) ∷ []) (λ u k d. k ⊗ d ⊗ u ≐ u ⊗ k ⊗ d) tt
    ∙ ap (λ a. a *ℤ pos (down d)) (sym p)
    ∙ ring (X ∷ pos c ∷ pos (down d) ∷ []) (λ x c d. x ⊗ c ⊗ d ≐ x ⊗ d ⊗ c) tt
    ∙ ap (λ a. a *ℤ pos c) l
    ∙ ring (Y ∷ pos c ∷ pos (down k) ∷ []) (λ y c k. y ⊗ k ⊗ c ≐ y ⊗ c ⊗ k) tt
    ∙ ap (λ a. a *ℤ pos (down k)) q
    ∙ ring (v ∷ pos (down k) ∷ pos (down d) ∷ []) (λ v k d. v ⊗ d ⊗ k ≐ k ⊗ d ⊗ v) tt)
