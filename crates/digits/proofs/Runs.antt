-- A turn of each loop over digits: what is left to read comes to what all of it comes to.
use Prim.Native.Nat.{ℕ, zero, suc, ◌+◌, ◌-◌, ◌*◌, ◌^◌, ◌≤◌, ◌<◌}
use mathlib.Core.Path.{◌≡◌, refl, sym, ap, ◌∙◌}
use mathlib.Core.List.{List, [], ◌∷◌}
use mathlib.Core.Bool.{true, false}
use lib.ListN.{length, take, drop, get_or, drop_of_length-le, length-take, length-drop}
use lib.Seq.{drop-cons, drop-drop, take-nil, take_all}
use lib.Dec.{leb}
use borrow.Author.Tests.{le-leb, lt-leb}
use native.Mathlib.Omega.{arith}
use native.Mathlib.Nat.{pow-le-pow_right, mul-le-mul_left}
use native.Mathlib.Numerals.{add-one}
use mathlib.Core.Logic.{⊎_elim}
use borrow.Author.Tests.{leb-true, leb-false}
use Rattle.lists.proofs.Tests.{test, never}
use Rattle.digits.specs.Digits.{is_digit, nat_of}
use Rattle.digits.specs.Straight.{first, digit_of, cap, run, WholeRead, UptoRead}
use Rattle.digits.proofs.Rows.{low_digit, high_digit, mid-digit, cap-nat_of, nat_of-ge, few-small, run_short}
use Rattle.digits.proofs.Lengths.{ten-digits}

-- ---- a byte's number tells whether it is a digit
low : (b : ℕ) → b < 48 → digit_of b ≡ b + 208
low b h = rw (lt-leb 48 b h)

same : (b : ℕ) → 48 ≤ b → digit_of b ≡ b - 48
same b h = rw (le-leb 48 b h)

pub digit-no : (b d : ℕ) → d ≡ digit_of b → 9 < d → is_digit b ≡ false
digit-no b d e h =
    ⊎_elim
    (λ (t : leb 48 b ≡ true). let z = same b (leb-true 48 b t) in let y = leb-true 48 b t in high_digit b (omega arith))
    (λ (t : leb 48 b ≡ false). low_digit b (leb-false 48 b t))
    (test (leb 48 b))

pub digit-yes : (b d : ℕ) → d ≡ digit_of b → d ≤ 9 → (is_digit b ≡ true) × (d ≡ b - 48)
digit-yes b d e h =
    ⊎_elim
    (λ (t : leb 48 b ≡ true).
    let z = same b (leb-true 48 b t) in let y = leb-true 48 b t in (mid-digit b y (omega arith), omega arith))
    (λ (t : leb 48 b ≡ false). let z = low b (leb-false 48 b t) in absurd (omega arith))
    (test (leb 48 b))

-- ---- the digits at a place
module _ (s : List ℕ) (i : ℕ) where
  pub run_more : i < length s → is_digit (get_or s i 0) ≡ true → run (drop i s) ≡ get_or s i 0 ∷ run (drop (i + 1) s)
  run_more h d = rw (drop-cons s i 0 h, d, add-one)

  pub run-stop : i < length s → is_digit (get_or s i 0) ≡ false → run (drop i s) ≡ []
  run-stop h d = rw (drop-cons s i 0 h, d)

  pub run_end : length s ≤ i → run (drop i s) ≡ []
  run_end h = ap run (drop_of_length-le s h)

  -- the same by what `digit` answers
  pub run-no : (d : ℕ) → i < length s → d ≡ digit_of (get_or s i 0) → 9 < d → run (drop i s) ≡ []
  run-no d h e k = run-stop h (digit-no (get_or s i 0) d e k)

  pub run-yes : (d : ℕ) → i < length s → d ≡ digit_of (get_or s i 0) → d ≤ 9 → run (drop i s) ≡ get_or s i 0 ∷ run (drop (i + 1) s)
  run-yes d h e k = run_more h (digit-yes (get_or s i 0) d e k).0

-- ---- where they end
module _ (s : List ℕ) (at i : ℕ) where
  pub end-stop : i + length (run (drop i s)) ≡ at + length (run (drop at s)) → run (drop i s) ≡ [] → i ≡ at + length (run (drop at s))
  end-stop g r = let q = rw r at g in omega arith

  pub end-turn : (d : ℕ) → i + length (run (drop i s)) ≡ at + length (run (drop at s)) → i < length s → d ≡ digit_of (get_or s i 0) → d ≤ 9
      → i + 1 + length (run (drop (i + 1) s)) ≡ at + length (run (drop at s))
  end-turn d g h e k = let q = rw (run-yes s i d h e k) at g in omega arith

-- ---- all of them, capped
pub record Going (s : List ℕ) (at i a : ℕ) : Type 0 where
  pub to : i ≤ length s
  pub small : a ≤ 20000000005
  pub end_is : i + length (run (drop i s)) ≡ at + length (run (drop at s))
  pub value-is : cap (nat_of a (run (drop i s))) ≡ cap (nat_of 0 (run (drop at s)))

module _ {s : List ℕ} {at i a : ℕ} (g : Going s at i a) where
  pub whole-stop : run (drop i s) ≡ [] → WholeRead s at i a
  whole-stop r =
      record {
        to = g.to;
        end_is = end-stop s at i g.end_is r;
        value-is = let q = rw r at g.value-is in let k = g.small in omega arith;
      }

  pub whole-turn : (d a' : ℕ) → i < length s → d ≡ digit_of (get_or s i 0) → d ≤ 9 → a' ≡ cap (a * 10 + d) → Going s at (i + 1) a'
  whole-turn d a' h e k f =
      let z = (digit-yes (get_or s i 0) d e k).1 in
      let v : a' ≡ cap (a * 10 + (get_or s i 0 - 48)) = f ∙ ap (λ (n : ℕ). cap (a * 10 + n)) z in
      record {
        to = omega arith;
        small = omega arith;
        end_is = end-turn s at i d g.end_is h e k;
        value-is =
            ap (λ (n : ℕ). cap (nat_of n (run (drop (i + 1) s)))) v
            ∙ cap-nat_of (a * 10 + (get_or s i 0 - 48)) (run (drop (i + 1) s))
            ∙ (rw (run-yes s i d h e k) at g.value-is);
      }

-- ---- the first few, after those of w: from `at` on, up to at + most
take-front : (s : List ℕ) (i room k d : ℕ) → room ≡ suc k → i < length s → d ≡ digit_of (get_or s i 0) → d ≤ 9
    → take room (run (drop i s)) ≡ get_or s i 0 ∷ take k (run (drop (i + 1) s))
take-front s i room k d z h e l = rw (z, run-yes s i d h e l) refl

pub record Few (most : ℕ) (s : List ℕ) (at w i a room : ℕ) : Type 0 where
  pub within : i + room ≤ length s
  pub end_is : i + length (take room (run (drop i s))) ≡ at + length (take most (run (drop at s)))
  pub value-is : nat_of a (take room (run (drop i s))) ≡ nat_of w (take most (run (drop at s)))

pub few-start : (most : ℕ) (s : List ℕ) (at w : ℕ) → at + most ≤ length s → Few most s at w at w ((at + most) - at)
few-start most s at w h = let e : (at + most) - at ≡ most = omega arith in rw e (record { within = h; end_is = refl; value-is = refl })

module _ {most : ℕ} {s : List ℕ} {at w i a room : ℕ} (g : Few most s at w i a room) where
  stops : take room (run (drop i s)) ≡ [] → UptoRead most s at w i a
  stops r =
      record {
        to = let x = g.within in omega arith;
        end_is = let q = rw r at g.end_is in omega arith;
        value-is = rw r at g.value-is;
      }

  pub few-full : room ≡ 0 → UptoRead most s at w i a
  few-full z = stops (rw z refl)

  pub few-stop : run (drop i s) ≡ [] → UptoRead most s at w i a
  few-stop r = stops (rw r (take-nil {A = ℕ} room))

module _ {most : ℕ} {s : List ℕ} {at w i a : ℕ} (g : Few most s at w i a ((at + most) - i)) where
  module _ (d : ℕ) (b : i < at + most) (r : at + most ≤ length s) (e : d ≡ digit_of (get_or s i 0)) (l : d ≤ 9) where
    abbrev k : ℕ
    k = (at + most) - (i + 1)

    h : i < length s
    h = omega arith

    abbrev room : ℕ
    room = (at + most) - i

    z : room ≡ suc k
    z = omega arith

    front : take room (run (drop i s)) ≡ get_or s i 0 ∷ take k (run (drop (i + 1) s))
    front = take-front s i room k d z h e l

    value : nat_of (a * 10 + d) (take k (run (drop (i + 1) s))) ≡ nat_of w (take most (run (drop at s)))
    value =
        ap (λ (n : ℕ). nat_of (a * 10 + n) (take k (run (drop (i + 1) s)))) (digit-yes (get_or s i 0) d e l).1
        ∙ (rw front at g.value-is)

    -- no digit makes it wrap
    pub few-small-turn : (w + 1) * 10 ^ most ≤ 2 ^ 60 → a * 10 + d < 2 ^ 60
    few-small-turn b =
        let x = nat_of-ge (a * 10 + d) (take k (run (drop (i + 1) s))) in
        let y = few-small most w (drop at s) b in
        let q = value in
        omega arith

    pub few-turn : Few most s at w (i + 1) (a * 10 + d) ((at + most) - (i + 1))
    few-turn =
        record {
          within = let x = g.within in omega arith;
          end_is = let q = rw front at g.end_is in omega arith;
          value-is = value;
        }

-- ---- the same, capped
pub record FirstDigits (most : ℕ) (s : List ℕ) (at w i a room : ℕ) : Type 0 where
  pub within : i + room ≤ length s
  pub small : a ≤ 20000000005
  pub value-is : cap (nat_of a (take room (run (drop i s)))) ≡ cap (nat_of w (take most (run (drop at s))))

pub first-start : (most : ℕ) (s : List ℕ) (at w : ℕ) → at + most ≤ length s → w ≤ 20000000005 → FirstDigits most s at w at w ((at + most) - at)
first-start most s at w h b =
    let e : (at + most) - at ≡ most = omega arith in rw e (record { within = h; small = b; value-is = refl })

module _ {most : ℕ} {s : List ℕ} {at w i a room : ℕ} (g : FirstDigits most s at w i a room) where
  first_stops : take room (run (drop i s)) ≡ [] → a ≡ cap (nat_of w (take most (run (drop at s))))
  first_stops r = let q = rw r at g.value-is in let k = g.small in omega arith

  pub first-full : room ≡ 0 → a ≡ cap (nat_of w (take most (run (drop at s))))
  first-full z = first_stops (rw z refl)

  pub first-stop : run (drop i s) ≡ [] → a ≡ cap (nat_of w (take most (run (drop at s))))
  first-stop r = first_stops (rw r (take-nil {A = ℕ} room))

pub first-turn : {most : ℕ} {s : List ℕ} {at w i a : ℕ} → FirstDigits most s at w i a ((at + most) - i) → (d a' : ℕ) → i < at + most → at + most ≤ length s
    → d ≡ digit_of (get_or s i 0) → d ≤ 9 → a' ≡ cap (a * 10 + d) → FirstDigits most s at w (i + 1) a' ((at + most) - (i + 1))
first-turn {most} {s} {at} {w} {i} {a} g d a' b r e l f =
    let k : ℕ = (at + most) - (i + 1) in
    let z : (at + most) - i ≡ suc ((at + most) - (i + 1)) = omega arith in
    let h : i < length s = omega arith in
    let v : a' ≡ cap (a * 10 + (get_or s i 0 - 48)) = f ∙ ap (λ (n : ℕ). cap (a * 10 + n)) (digit-yes (get_or s i 0) d e l).1 in
    record {
      within = let x = g.within in omega arith;
      small = omega arith;
      value-is =
          ap (λ (n : ℕ). cap (nat_of n (take k (run (drop (i + 1) s))))) v
          ∙ cap-nat_of (a * 10 + (get_or s i 0 - 48)) (take k (run (drop (i + 1) s)))
          ∙ (rw (take-front s i ((at + most) - i) k d z h e l) at g.value-is);
    }

-- each of the digits is one
digit-in : (n : ℕ) (l : List ℕ) → n < length (run l) → is_digit (first (drop n l)) ≡ true
digit-in n [] h = absurd (omega arith)
digit-in zero (b ∷ bs) h =
    ⊎_elim (λ (t : is_digit b ≡ true). t) (λ (t : is_digit b ≡ false). let q = rw t at h in absurd (omega arith)) (test (is_digit b))
digit-in (suc n) (b ∷ bs) h =
    ⊎_elim
    (λ (t : is_digit b ≡ true). let q = rw t at h in digit-in n bs (omega arith))
    (λ (t : is_digit b ≡ false). let q = rw t at h in absurd (omega arith))
    (test (is_digit b))

pub few-near : {most : ℕ} {s : List ℕ} {at a end value : ℕ} → UptoRead most s at a end value → end ≤ at + most
few-near {most} {s} {at} f = let x = f.end_is in let y = length-take most (run (drop at s)) in omega arith

-- where no digit follows them they are all there are
pub few-all : {most : ℕ} {s : List ℕ} {at a end value : ℕ} → UptoRead most s at a end value → is_digit (first (drop end s)) ≡ false → length (run (drop at s)) ≤ most
few-all {most} {s} {at} {a} {end} f o =
    ⊎_elim
    (λ (t : leb (length (run (drop at s))) most ≡ true). leb-true (length (run (drop at s))) most t)
    (λ (t : leb (length (run (drop at s))) most ≡ false).
    let k = leb-false (length (run (drop at s))) most t in
    let z : end ≡ at + most = (let x = f.end_is in let y = length-take most (run (drop at s)) in omega arith) in
    never
    (sym o
    ∙ ap (λ (n : ℕ). is_digit (first (drop n s))) z
    ∙ ap (λ (l : List ℕ). is_digit (first l)) (sym (drop-drop most at s))
    ∙ digit-in most (drop at s) k))
    (test (leb (length (run (drop at s))) most))

-- all of them, far below the cap
pub all_whole : {most : ℕ} {s : List ℕ} {at end value : ℕ} → UptoRead most s at 0 end value → length (run (drop at s)) ≤ most → length (run (drop at s)) ≤ 10 → WholeRead s at end value
all_whole {most} {s} {at} f m z =
    let e : take most (run (drop at s)) ≡ run (drop at s) = take_all most (run (drop at s)) m in
    record {
      to = f.to;
      end_is = f.end_is ∙ ap (λ (t : List ℕ). at + length t) e;
      value-is = f.value-is ∙ ap (nat_of 0) e ∙ sym (ten-digits (drop at s) z);
    }

-- few digits, and not as many as were allowed
pub few-whole : {s : List ℕ} {at end value : ℕ} → UptoRead 11 s at 0 end value → end - at < 11 → WholeRead s at end value
few-whole {s} {at} f h =
    let x = f.end_is in
    let y = length-take 11 (run (drop at s)) in
    let z : length (run (drop at s)) ≤ 10 = omega arith in
    all_whole f (omega arith) z

-- fewer bytes are left than seven: their digits are all there are
pub few-seven : (s : List ℕ) (at w left end value : ℕ) → left ≡ length s - at → left < 7 → UptoRead left s at w end value → UptoRead 7 s at w end value
few-seven s at w left end value e h f =
    let l : List ℕ = run (drop at s) in
    let n : length l ≤ left = (let x = run_short (drop at s) in let y = length-drop at s in omega arith) in
    let q : take left l ≡ take 7 l = take_all left l n ∙ sym (take_all 7 l (let r : length l ≤ 7 = omega arith in r)) in
    record {
      to = f.to;
      end_is = f.end_is ∙ ap (λ (t : List ℕ). at + length t) q;
      value-is = f.value-is ∙ ap (nat_of w) q;
    }

-- no row of at most seven digits after a capped number wraps
pub left-small : (w left : ℕ) → w ≤ 20000000005 → left ≤ 7 → (w + 1) * 10 ^ left ≤ 2 ^ 60
left-small w left h l =
    let b : 10 ^ left ≤ 10 ^ 7 = pow-le-pow_right {n = 10} (omega arith) l in
    let c : (w + 1) * 10 ^ left ≤ (w + 1) * 10 ^ 7 = mul-le-mul_left (w + 1) b in
    omega arith
