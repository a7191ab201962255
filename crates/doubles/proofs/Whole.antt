-- Whole numbers as floats: a sum or a difference of two is that of the numbers, rounded once. So the anchor gives back what it keeps.
use mathlib.Core.Path.{◌≡◌, refl, sym, ap, ◌∙◌, subst}
use mathlib.Core.Bool.{Bool, true, false, not, ◌&&◌, beq, cond}
use mathlib.Core.List.{[], ◌∷◌}
use Prim.Native.Nat.{ℕ, zero, suc, ◌+◌, ◌-◌, ◌*◌, ◌^◌, ◌≤◌, ◌<◌, zero-le}
use native.Mathlib.Nat.{add-zero, add-suc, mul-sub, mul-one, mul_assoc, mul_right_comm, mul_comm, mul-pos, mul-lt-mul_of_pos_right, lt_of_mul-lt-mul_right, zero-lt-suc}
use native.Mathlib.Omega.{arith}
use borrow.Author.Tests.{le-ltb}
use lib.Dec.{T, ltb, le→leb, ltb→lt, lt→ltb, nltb→le, lit≤}
use lib.IntN.{ℤ, pos, negsuc, neg_ℤ, nat_abs, sub_ℕ, ◌+ℤ◌, ◌-ℤ◌, +ℤ_idr, +ℤ_comm}
use lib.Signed.{non_neg}
use lib.Ieee.{Float, fin, Format, binary64, prec, up, down, round, neg, sum, add, sub, of_int, of_bits, to_signed, in_signed, in_float, fits}
use lib.Ieee.Fits.{down_pos, of_int-fits}
use lib.Ieee.Exact.{HasValue}
use lib.Ieee.Back.{round_whole, positive_back, negative_back}
use lib.Ieee.Scale.{round_same}
use Rattle.rounding.specs.Range.{InRange}
use Rattle.rounding.proofs.IntLaws.{abs-+, abs_neg}
use Rattle.rounding.proofs.Order.{Up, up-abs}
use Rattle.rounding.proofs.Ring.{ring, ◌⊕◌, ◌⊝◌, ◌≐◌}
use Rattle.doubles.specs.Doubles.{anchor, encode, decode, Encoding}

-- ---- a sum sees only the values of its two fractions
both_ways : (x y : Bool) → (T x → T y) → (T y → T x) → x ≡ y
both_ways true true f g = refl
both_ways true false f g = absurd (f tt)
both_ways false true f g = absurd (g tt)
both_ways false false f g = refl

less-same : (a b c : ℕ) → 0 < c → ltb (a * c) (b * c) ≡ ltb a b
less-same a b c C =
    both_ways (ltb (a * c) (b * c)) (ltb a b) (λ t. lt→ltb a b (lt_of_mul-lt-mul_right c (ltb→lt (a * c) (b * c) t)))
    (λ t. lt→ltb (a * c) (b * c) (mul-lt-mul_of_pos_right (ltb→lt a b t) C))

times-less : (a b c : ℕ) → a * c - b * c ≡ (a - b) * c
times-less a b c = sym (mul_comm (a - b) c ∙ mul-sub c a b ∙ λ i. mul_comm c a i - mul_comm c b i)

whole_same : (f : Format) (s : Bool) (n m c : ℕ) → 0 < c → n ≡ m * c → round f s n c ≡ round f s m 1
whole_same f s n m c C e = round_same f s n c m 1 C (zero-lt-suc 0) (mul-one n ∙ e)

sum_same : (f : Format) (s : Bool) (a : ℕ) (t : Bool) (b c : ℕ) → 0 < c → sum f s (a * c) t (b * c) c ≡ sum f s a t b 1
unfolding sum
sum_same f s a t b c C =
    let p : round f s (a * c + b * c) c ≡ round f s (a + b) 1 = whole_same f s (a * c + b * c) (a + b) c C (omega arith) in
    let q : round f t (b * c - a * c) c ≡ round f t (b - a) 1 = whole_same f t (b * c - a * c) (b - a) c C (times-less b a c) in
    let r : round f (s && ltb (b * c) (a * c)) (a * c - b * c) c ≡ round f (s && ltb b a) (a - b) 1 =
    ap (λ (x : Bool). round f (s && x) (a * c - b * c) c) (less-same b a c C) ∙ whole_same f (s && ltb b a) (a * c - b * c) (a - b) c C (times-less a b c) in
    λ i. cond (beq s t) (p i) (cond (less-same a b c C i) (q i) (r i))

add_same : (f : Format) (x y : Float) (s : Bool) (a : ℕ) (t : Bool) (b : ℕ) → HasValue x s a 1 → HasValue y t b 1 → add f x y ≡ sum f s a t b 1
unfolding add
add_same f (fin p m e) (fin q n d) s a t b v w =
    let c = down e * down d in
    let x : m * up e * down d ≡ a * c = ap (λ (z : ℕ). z * down d) (sym (mul-one (m * up e)) ∙ v.1) ∙ mul_assoc a (down e) (down d) in
    let y : n * up d * down e ≡ b * c = ap (λ (z : ℕ). z * down e) (sym (mul-one (n * up d)) ∙ w.1) ∙ mul_right_comm b (down d) (down e) ∙ mul_assoc b (down e) (down d) in
    (λ i. sum f (v.0 i) (x i) (w.0 i) (y i) c) ∙ sum_same f s a t b c (mul-pos (down_pos e) (down_pos d))
add_same f lib.Ieee.nan y s a t b v w = elim v [ ]
add_same f (lib.Ieee.inf _) y s a t b v w = elim v [ ]
add_same f (fin p m e) lib.Ieee.nan s a t b v w = elim w [ ]
add_same f (fin p m e) (lib.Ieee.inf _) s a t b v w = elim w [ ]

-- ---- a sum of two whole numbers, by their signs
both-plus : (f : Format) (a b : ℕ) → sum f false a false b 1 ≡ of_int f (pos (a + b))
unfolding sum of_int
both-plus f a b = refl

both-minus : (f : Format) (a b : ℕ) → sum f true (suc a) true b 1 ≡ of_int f (negsuc (a + b))
unfolding sum of_int
both-minus f a b = ap (λ (n : ℕ). round f true n 1) (omega arith)

apart : (a b : ℕ) → a < b → b - a ≡ suc (b - suc a)
apart a b h = omega arith

plus-minus : (f : Format) (a b : ℕ) → sum f false a true b 1 ≡ of_int f (sub_ℕ a b)
unfolding sum of_int
plus-minus f a b = go (ltb a b) (ltb→lt a b)
  where
    go : (x : Bool) → (T x → a < b) → cond x (round f true (b - a) 1) (round f false (a - b) 1) ≡ of_int f (cond x (negsuc (b - suc a)) (pos (a - b)))
    go true h = ap (λ (n : ℕ). round f true n 1) (apart a b (h tt))
    go false h = refl

minus_plus : (f : Format) (a b : ℕ) → sum f true a false b 1 ≡ of_int f (sub_ℕ b a)
unfolding sum of_int
minus_plus f a b = go (ltb a b) (ltb b a) (ltb→lt a b) (ltb→lt b a) (nltb→le a b) (nltb→le b a)
  where
    none : a < b → b < a → ⊥
    none h k = omega arith

    same : b ≤ a → a ≤ b → a - b ≡ b - a
    same h k = omega arith

    go : (x y : Bool) → (T x → a < b) → (T y → b < a) → (T (not x) → b ≤ a) → (T (not y) → a ≤ b)
        → cond x (round f false (b - a) 1) (round f y (a - b) 1) ≡ of_int f (cond y (negsuc (a - suc b)) (pos (b - a)))
    go true true h k l m = absurd (none (h tt) (k tt))
    go true false h k l m = refl
    go false true h k l m = ap (λ (n : ℕ). round f true n 1) (apart b a (k tt))
    go false false h k l m = ap (λ (n : ℕ). round f false n 1) (same (l tt) (m tt))

-- ---- sums and differences of whole numbers
pub in-float : (f : Format) (z : ℤ) → nat_abs z ≤ 2 ^ prec f → T (in_float f z)
unfolding in_float
in-float f (pos n) h = le→leb n (2 ^ prec f) h
in-float f (negsuc n) h = lt→ltb n (2 ^ prec f) h

pub of_int-value : (f : Format) (z : ℤ) → nat_abs z ≤ 2 ^ prec f → HasValue (of_int f z) (not (non_neg z)) (nat_abs z) 1
unfolding of_int
of_int-value f (pos n) h = round_whole f false n h
of_int-value f (negsuc n) h = round_whole f true (suc n) h

neg_value : (x : Float) (s : Bool) (a c : ℕ) → HasValue x s a c → HasValue (neg x) (not s) a c
unfolding neg
neg_value (fin t m e) s a c v = (ap not v.0, v.1)
neg_value lib.Ieee.nan s a c v = elim v [ ]
neg_value (lib.Ieee.inf _) s a c v = elim v [ ]

less : (a b : ℕ) → sub_ℕ a b ≡ pos a -ℤ pos b
less a zero = ap (λ (t : Bool). cond t (negsuc (0 - suc a)) (pos (a - 0))) (le-ltb a 0 zero-le) ∙ ap pos (omega arith)
less a (suc b) = refl

further : (a b : ℕ) → negsuc (a + b) ≡ negsuc a -ℤ pos b
further a zero = ap negsuc (add-zero a) ∙ sym (+ℤ_idr (negsuc a))
further a (suc b) = ap negsuc (add-suc a b)

pub add-whole : (f : Format) (y z : ℤ) → nat_abs y ≤ 2 ^ prec f → nat_abs z ≤ 2 ^ prec f → add f (of_int f y) (of_int f z) ≡ of_int f (y +ℤ z)
add-whole f y z h k = add_same f (of_int f y) (of_int f z) (not (non_neg y)) (nat_abs y) (not (non_neg z)) (nat_abs z) (of_int-value f y h) (of_int-value f z k) ∙ signs y z
  where
    signs : (y z : ℤ) → sum f (not (non_neg y)) (nat_abs y) (not (non_neg z)) (nat_abs z) 1 ≡ of_int f (y +ℤ z)
    signs (pos a) (pos b) = both-plus f a b
    signs (pos a) (negsuc b) = plus-minus f a (suc b)
    signs (negsuc a) (pos b) = minus_plus f (suc a) b
    signs (negsuc a) (negsuc b) = both-minus f a (suc b) ∙ ap (of_int f) (further a (suc b))

pub sub-whole : (f : Format) (y z : ℤ) → nat_abs y ≤ 2 ^ prec f → nat_abs z ≤ 2 ^ prec f → sub f (of_int f y) (of_int f z) ≡ of_int f (y -ℤ z)
unfolding sub
sub-whole f y z h k =
    add_same f (of_int f y) (neg (of_int f z)) (not (non_neg y)) (nat_abs y) (not (not (non_neg z))) (nat_abs z) (of_int-value f y h)
    (neg_value (of_int f z) (not (non_neg z)) (nat_abs z) 1 (of_int-value f z k)) ∙ signs y z
  where
    signs : (y z : ℤ) → sum f (not (non_neg y)) (nat_abs y) (not (not (non_neg z))) (nat_abs z) 1 ≡ of_int f (y -ℤ z)
    signs (pos a) (pos b) = plus-minus f a b ∙ ap (of_int f) (less a b)
    signs (pos a) (negsuc b) = both-plus f a (suc b)
    signs (negsuc a) (pos b) = both-minus f a b ∙ ap (of_int f) (further a b)
    signs (negsuc a) (negsuc b) = minus_plus f (suc a) (suc b)

-- ---- the anchor
-- the literal of the code
abbrev pub anchored : Float
anchored = of_bits binary64 4843621399236968448

anchored-is : anchored ≡ of_int binary64 (pos anchor)
unfolding of_bits of_int
anchored-is = refl

small-in : (z : ℤ) → InRange z → nat_abs z ≤ 2 ^ 53
small-in z h = omega arith

-- the way up from a small number to another
pub way_up : (a b : ℤ) → Up a b → InRange a → InRange b → sub binary64 (of_int binary64 b) (of_int binary64 a) ≡ of_int binary64 (pos (nat_abs (b -ℤ a)))
way_up a b u h k = sub-whole binary64 b a (small-in b k) (small-in a h) ∙ ap (of_int binary64) (up-abs u)

anchor-in : anchor ≤ 2 ^ 53
anchor-in = lit≤ tt

encode-in : (z : ℤ) → InRange z → nat_abs (pos anchor +ℤ z) ≤ 2 ^ 53
encode-in z h = omega (arith, abs-+ (pos anchor) z)

-- what is kept lies above zero
pub encode-place : (z : ℤ) → InRange z → pos anchor +ℤ z ≡ pos (nat_abs (pos anchor +ℤ z))
encode-place (pos n) h = refl
encode-place (negsuc n) h = rw (le-ltb anchor (suc n) (omega arith)) refl

pub encode-value : (z : ℤ) → InRange z → HasValue (encode z) false (nat_abs (pos anchor +ℤ z)) 1
unfolding encode
encode-value z h = subst (λ (s : Bool). HasValue (of_int binary64 (pos anchor +ℤ z)) (not s) (nat_abs (pos anchor +ℤ z)) 1) (ap non_neg (encode-place z h)) (of_int-value binary64 (pos anchor +ℤ z) (encode-in z h))

pub encode-fits : (z : ℤ) → T (fits binary64 (encode z))
unfolding encode
encode-fits z = of_int-fits binary64 (pos anchor +ℤ z)

pub encode-sum : (z : ℤ) → InRange z → add binary64 (of_int binary64 z) anchored ≡ encode z
unfolding encode
encode-sum z h = ap (add binary64 (of_int binary64 z)) anchored-is ∙ add-whole binary64 z (pos anchor) (small-in z h) anchor-in ∙ ap (of_int binary64) (+ℤ_comm z (pos anchor))

-- the way between two numbers is exact
pub encode-apart : (a b : ℤ) → InRange a → InRange b → sub binary64 (encode b) (encode a) ≡ of_int binary64 (b -ℤ a)
unfolding encode
encode-apart a b h k =
    sub-whole binary64 (pos anchor +ℤ b) (pos anchor +ℤ a) (encode-in b k) (encode-in a h) ∙ ap (of_int binary64) (ring (pos anchor ∷ a ∷ b ∷ []) (λ m a b. m ⊕ b ⊝ (m ⊕ a) ≐ b ⊝ a) tt)

pub apart-value : (a b : ℤ) → InRange a → InRange b → HasValue (sub binary64 (encode b) (encode a)) (not (non_neg (b -ℤ a))) (nat_abs (b -ℤ a)) 1
apart-value a b h k = subst (λ (x : Float). HasValue x (not (non_neg (b -ℤ a))) (nat_abs (b -ℤ a)) 1) (sym (encode-apart a b h k))
    (of_int-value binary64 (b -ℤ a) (omega (arith, abs-+ b (neg_ℤ a), abs_neg a)))

pub encode-less : (z : ℤ) → InRange z → sub binary64 (encode z) anchored ≡ of_int binary64 z
unfolding encode
encode-less z h =
    ap (sub binary64 (encode z)) anchored-is
    ∙ sub-whole binary64 (pos anchor +ℤ z) (pos anchor) (encode-in z h) anchor-in
    ∙ ap (of_int binary64) (ring (pos anchor ∷ z ∷ []) (λ m z. m ⊕ z ⊝ m ≐ z) tt)

-- ---- and back
back : (z : ℤ) → InRange z → T (in_signed binary64 31 (of_int binary64 z)) × (to_signed 31 (of_int binary64 z) ≡ z)
back (pos n) h = positive_back binary64 31 n (in-float binary64 (pos n) (small-in (pos n) h)) (omega arith)
back (negsuc n) h = negative_back binary64 31 n (in-float binary64 (negsuc n) (small-in (negsuc n) h)) (omega arith)

pub encode-back : (a : Float) (k : Encoding a) → T (in_signed binary64 31 (sub binary64 a anchored)) × (to_signed 31 (sub binary64 a anchored) ≡ k.number)
encode-back a k =
    subst (λ (x : Float). T (in_signed binary64 31 x) × (to_signed 31 x ≡ k.number)) (sym (ap (λ (x : Float). sub binary64 x anchored) k.same ∙ encode-less k.number k.small))
    (back k.number k.small)

-- ---- what a double keeps
pub decode_is : {a : Float} (k : Encoding a) → decode a ≡ k.number
unfolding decode
decode_is {a} k = ap (λ (x : Float). to_signed 31 (sub binary64 a x)) (sym anchored-is) ∙ (encode-back a k).1

pub decode-encode : (z : ℤ) → InRange z → decode (encode z) ≡ z
decode-encode z h = decode_is (record { number = z; small = h; same = refl })

pub encode-decode : {a : Float} → Encoding a → a ≡ encode (decode a)
encode-decode k = k.same ∙ ap encode (sym (decode_is k))

pub decode-small : {a : Float} → Encoding a → InRange (decode a)
decode-small k = rw (decode_is k) k.small
