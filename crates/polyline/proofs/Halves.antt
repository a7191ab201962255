-- What an interval comes to by its tests, and the ends of its chords from that.
use mathlib.Core.Path.{◌≡◌, refl, sym, ap, ◌∙◌}
use mathlib.Core.Bool.{Bool, true, false, cond}
use mathlib.Core.List.{List, [], ◌∷◌, ◌++◌, append_assoc, append-nil}
use Prim.Native.Nat.{ℕ, zero, suc, ◌+◌, ◌-◌, ◌^◌, ◌≤◌}
use lib.Pow.{pow_pos, pow_mono}
use native.Mathlib.Numerals.{sub-one}
use native.Mathlib.Omega.{arith}
use lib.ListN.{length, set, length-append}
use lib.Seq.{sets}
use lib.IntN.{ℤ}
use Rattle.sampler.specs.Answers.{PointAnswer, point_outcome}
use Rattle.std.specs.Prelude.{Option, Some, None, Result}
use Rattle.refusals.specs.declared.Reason.{Reason}
use Rattle.sampler.specs.declared.Point.{Point}
use Rattle.point_chords.specs.Chords.{middle, straight, short_interval, chord, ends, numbers}
use Rattle.polyline.specs.Inner.{PieceEnds, split_of}
use Rattle.polyline.specs.declared.Halved.{Halved}

-- ---- by the tests that lead to each
module _ (sample : ℤ → PointAnswer) (tolerance a b : ℤ) where
  abbrev point : ℤ → List ℤ
  point p = (sample p).outcome.coordinates

  pub split-none : (depth : ℕ) → depth ≡ 0 → None ≡ split_of sample tolerance depth a b
  unfolding split_of
  split-none depth h = rw h refl

  split-chord : (depth : ℕ) → chord point tolerance a b ≡ true → None ≡ split_of sample tolerance depth a b
  unfolding split_of
  split-chord zero h = refl
  split-chord (suc depth) h = rw h refl

  split-parted : (depth : ℕ) → (depth ≡ 0 → ⊥) → chord point tolerance a b ≡ false → Some (record { middle = middle a b; point = (sample (middle a b)).answer }) ≡ split_of sample tolerance depth a b
  unfolding split_of
  split-parted zero f h = absurd (f refl)
  split-parted (suc depth) f h = rw h refl

  pub split-short : (depth : ℕ) → short_interval a b ≡ true → None ≡ split_of sample tolerance depth a b
  unfolding chord
  split-short depth h = split-chord depth (rw h refl)

  module _ (depth : ℕ) (h : short_interval a b ≡ false) where
    pub split-straight : straight tolerance (point a) (point (middle a b)) (point b) ≡ true → None ≡ split_of sample tolerance depth a b
    unfolding chord
    split-straight k = split-chord depth (rw (h, k) refl)

    pub split-halves : (depth ≡ 0 → ⊥) → straight tolerance (point a) (point (middle a b)) (point b) ≡ false
        → Some (record { middle = middle a b; point = (sample (middle a b)).answer }) ≡ split_of sample tolerance depth a b
    unfolding chord
    split-halves f k = split-parted depth f (rw (h, k) refl)

-- ---- the ends of the chords, by what the interval comes to
-- the two halves of an interval at m, where s is sampled
pub record Parted (point : ℤ → List ℤ) (tolerance : ℤ) (depth : ℕ) (a b m : ℤ) (s : Result Point Reason) : Type 0 where
  pub deep : depth ≡ 0 → ⊥
  pub middle-is : m ≡ middle a b
  pub point-is : (point_outcome s).coordinates ≡ point m
  pub joined : ends point tolerance depth a b ≡ ends point tolerance (depth - 1) a m ++ ends point tolerance (depth - 1) m b

module _ (sample : ℤ → PointAnswer) (agree : (p : ℤ) → point_outcome (sample p).answer ≡ (sample p).outcome) (tolerance a b : ℤ) where
  pub one-chord : (depth : ℕ) → split_of sample tolerance depth a b ≡ None → ends (λ p. (sample p).outcome.coordinates) tolerance depth a b ≡ b ∷ []
  unfolding ends split_of
  one-chord zero h = refl
  one-chord (suc depth) h = go (chord (λ p. (sample p).outcome.coordinates) tolerance a b) _ h
    where
      go : (c : Bool) (x : List ℤ) → ◌≡◌ {A = Option Halved} (cond c None (Some (record { middle = middle a b; point = (sample (middle a b)).answer }))) None → cond c (b ∷ []) x ≡ b ∷ []
      go true x k = refl
      go false x k = absurd cc

  parted : (depth : ℕ) → (c : Bool) → chord (λ p. (sample p).outcome.coordinates) tolerance a b ≡ c → {h : Halved}
      → ◌≡◌ {A = Option Halved} (cond c None (Some (record { middle = middle a b; point = (sample (middle a b)).answer }))) (Some h)
      → Parted (λ p. (sample p).outcome.coordinates) tolerance (suc depth) a b h.middle h.point
  unfolding ends
  parted depth true e k = absurd cc
  parted depth false e {h} k =
      let g : h ≡ record { middle = middle a b; point = (sample (middle a b)).answer } = cc in
      let f : h.middle ≡ middle a b = ap (λ (x : Halved). x.middle) g in
      record {
        deep = λ z. omega (arith, z);
        middle-is = f;
        point-is = ap (λ (x : Halved). (point_outcome x.point).coordinates) g ∙ ap (λ x. x.coordinates) (agree (middle a b)) ∙ ap (λ (x : ℤ). (sample x).outcome.coordinates) (sym f);
        joined = rw (sub-one (suc depth), f, e) refl;
      }

  pub two-halves : (depth : ℕ) {h : Halved} → split_of sample tolerance depth a b ≡ Some h → Parted (λ p. (sample p).outcome.coordinates) tolerance depth a b h.middle h.point
  unfolding split_of
  two-halves zero h = absurd cc
  two-halves (suc depth) h = parted depth (chord (λ p. (sample p).outcome.coordinates) tolerance a b) refl h

-- at most 4,096 chords
both : (c : Bool) (b : ℤ) (x y : List ℤ) (n : ℕ) → 1 ≤ n → length x ≤ n → length y ≤ n → length (cond c (b ∷ []) (x ++ y)) ≤ n + n
both true b x y n h k l = omega arith
both false b x y n h k l = rw length-append (omega arith)

ends-many : (point : ℤ → List ℤ) (tolerance : ℤ) (depth : ℕ) (a b : ℤ) → length (ends point tolerance depth a b) ≤ 2 ^ depth
unfolding ends
ends-many point tolerance zero a b = omega arith
ends-many point tolerance (suc depth) a b =
    let m = middle a b in
    let h = both (chord point tolerance a b) b (ends point tolerance depth a m) (ends point tolerance depth m b) (2 ^ depth) (pow_pos depth)
    (ends-many point tolerance depth a m) (ends-many point tolerance depth m b) in
    omega (arith, h)

pub ends-few : (point : ℤ → List ℤ) (t : ℤ) {d : ℕ} (a b : ℤ) → d ≤ 12 → length (ends point t d a b) ≤ 4096
ends-few point t {d} a b h = omega (arith, ends-many point t d a b, pow_mono h)

-- ---- what is written for one chord, and for two halves one after the other
pub numbers-joined : (point : ℤ → List ℤ) (x y : List ℤ) → numbers point (x ++ y) ≡ numbers point x ++ numbers point y
numbers-joined point [] y = refl
numbers-joined point (p ∷ x) y = ap (λ (l : List ℤ). point p ++ l) (numbers-joined point x y) ∙ sym (append_assoc (point p) (numbers point x) (numbers point y))

pub numbers-chord : {point : ℤ → List ℤ} {a b : ℤ} {p q : Result Point Reason} {x : List ℤ} → PieceEnds point a b p q → x ≡ b ∷ [] → numbers point x ≡ (point_outcome q).coordinates
numbers-chord {point} {b = b} i e = ap (numbers point) e ∙ append-nil (point b) ∙ sym i.end_is

sets-joined : (x y l : List ℤ) (i : ℕ) → sets l i (x ++ y) ≡ sets (sets l i x) (i + length x) y
sets-joined [] y l i = let e : i ≡ i + 0 = omega arith in ap (λ (k : ℕ). sets l k y) e
sets-joined (v ∷ x) y l i =
    let e : suc i + length x ≡ i + suc (length x) = omega arith in
    sets-joined x y (set l i v) (suc i) ∙ ap (λ (k : ℕ). sets (sets (set l i v) (suc i) x) k y) e

module _ (at n : ℕ) (l r : List ℤ) {x : List ℤ} (e : x ≡ l ++ r) where
  long : length x ≡ length l + length r
  long = ap length e ∙ length-append l r

  pub room-first : at + length x ≤ n → at + length l ≤ n
  room-first h = omega (arith, long)

  pub room-second : {next k : ℕ} → next ≡ at + length l → k ≡ n → at + length x ≤ n → next + length r ≤ k
  room-second f g h = omega (arith, long)

  pub both-written : (p : List ℤ) {q o : List ℤ} {next end : ℕ} → next ≡ at + length l → q ≡ sets p at l → end ≡ next + length r → o ≡ sets q next r → (end ≡ at + length x) × (o ≡ sets p at x)
  both-written p {next = next} f g h k =
      (omega (arith, long), k ∙ ap (λ (z : List ℤ). sets z next r) g ∙ ap (λ (j : ℕ). sets (sets p at l) j r) f ∙ sym (sets-joined l r p at) ∙ ap (sets p at) (sym e))

-- ---- a function's own numbers as it hands them on
pub counted : (point : ℤ → List ℤ) (d : ℕ) {t t' a a' b b' : ℤ} {n : ℕ} → n ≡ length (ends point t' d a' b') → t' ≡ t → a' ≡ a → b' ≡ b → n ≡ length (ends point t d a b)
counted point d e f g h = rw (f, g, h) at e

pub interval-read : {point : ℤ → List ℤ} {a a' b b' : ℤ} {p q : Result Point Reason} → a' ≡ a → b' ≡ b → PieceEnds point a b p q → PieceEnds point a' b' p q
interval-read f g i = rw (f, g) i

module _ (point : ℤ → List ℤ) (d : ℕ) {t t' a a' b b' : ℤ} (f : t' ≡ t) (g : a' ≡ a) (h : b' ≡ b) (at : ℕ) where
  pub room-read : (n : ℕ) → at + length (numbers point (ends point t d a b)) ≤ n → at + length (numbers point (ends point t' d a' b')) ≤ n
  room-read n k = rw (f, g, h) k

  pub written : (p : List ℤ) {o : List ℤ} {end : ℕ} → (end ≡ at + length (numbers point (ends point t' d a' b'))) × (o ≡ sets p at (numbers point (ends point t' d a' b')))
      → (end ≡ at + length (numbers point (ends point t d a b))) × (o ≡ sets p at (numbers point (ends point t d a b)))
  written p k = rw (f, g, h) at k
