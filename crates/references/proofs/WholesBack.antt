-- Whole numbers, references and corners that are written are read back, and what is read can be written.
use Prim.Native.Nat.{ℕ, suc, ◌+◌, ◌-◌, ◌^◌, ◌≤◌, ◌<◌}
use mathlib.Core.Path.{◌≡◌, refl, sym, ap, ◌∙◌}
use mathlib.Core.List.{List, [], ◌∷◌}
use mathlib.Core.Bool.{Bool, true, false, cond, ◌&&◌}
use mathlib.Core.Logic.{⊎_elim}
use lib.ListN.{length}
use lib.Dec.{leb}
use borrow.Author.Tests.{le-leb, leb-true, ne_eqb}
use native.Mathlib.Omega.{arith}
use Rattle.lists.specs.Lists.{same}
use Rattle.lists.proofs.Tests.{and_left, and_right, and_both, test, never}
use Rattle.digits.specs.Said.{says}
use Rattle.digits.specs.Digits.{is_digit, digits, nat_of, is_whole, negative, unminus}
use Rattle.keywords.specs.declared.Argument.TheVariants.{Off}
use Rattle.keywords.specs.Arguments.{arguments, argument_bytes}
use Rattle.digits.specs.Degree.{degree_of, smoothing_of}
use Rattle.references.specs.Reference.{is_reference, item, refer, reference_of}
use Rattle.references.specs.Written.{written_whole}
use Rattle.references.specs.Fits.{degree_fits, smoothing_fits, reference_fits}
use Rattle.references.proofs.Numerals.{short-digits, short-few, short-some, short-value}
use Rattle.digits.proofs.Saids.{must-both}

pub written-digits : (n : ℕ) → digits (written_whole n) ≡ true
unfolding written_whole
written-digits n = short-digits 10 n

pub written-some : (n : ℕ) → 1 ≤ length (written_whole n)
unfolding written_whole
written-some n = short-some 9 n

pub written-few : (k n : ℕ) → n < 10 ^ suc k → length (written_whole n) ≤ suc k
unfolding written_whole
written-few k n h = short-few 10 k n h

pub written-value : (n : ℕ) → n < 10 ^ 10 → nat_of 0 (written_whole n) ≡ n
unfolding written_whole
written-value n h = short-value 10 n h

whole_back : (k n : ℕ) → n < 10 ^ suc k → is_whole (suc k) (written_whole n) ≡ true
unfolding is_whole
whole_back k n h =
    rw (written-digits n, le-leb 1 (length (written_whole n)) (written-some n), le-leb (length (written_whole n)) (suc k) (written-few k n h)) refl

-- ---- degrees
pub degree-back : (n : ℕ) → degree_fits n ≡ true → degree_of (written_whole n) ≡ says n
unfolding degree_of
degree-back n h =
    let l : n ≤ 20 = leb-true n 20 (and_right (leb 1 n) (leb n 20) h) in
    rw (whole_back 2 n (omega arith), written-value n (omega arith), h) refl

pub degree-fits : (w : List ℕ) (n : ℕ) → degree_of w ≡ says n → degree_fits n ≡ true
unfolding degree_of
degree-fits w n h =
    let p = must-both (is_whole 3 w) (leb 1 (nat_of 0 w) && leb (nat_of 0 w) 20) 6 7 (nat_of 0 w) n h in
    ap degree_fits (sym p.2) ∙ p.1

-- ---- smoothing numbers
no-off : (w : List ℕ) → digits w ≡ true → same w (argument_bytes Off) ≡ false
unfolding arguments argument_bytes
no-off [] h = refl
no-off (b ∷ bs) h =
    let l : b ≤ 57 = leb-true b 57 (and_right (leb 48 b) (leb b 57) (and_left (is_digit b) (digits bs) h)) in
    rw (ne_eqb b 111 (omega arith)) refl

pub smoothing-back : (n : ℕ) → smoothing_fits n ≡ true → smoothing_of (written_whole n) ≡ says n
unfolding smoothing_of
smoothing-back n h =
    let l : n ≤ 65535 = leb-true n 65535 h in
    rw (no-off (written_whole n) (written-digits n), whole_back 4 n (omega arith), written-value n (omega arith), h) refl

pub smoothing-fits : (w : List ℕ) (n : ℕ) → smoothing_of w ≡ says n → smoothing_fits n ≡ true
unfolding smoothing_of
smoothing-fits w n h =
    ⊎_elim
    (λ (t : same w (argument_bytes Off) ≡ true). let e : n ≡ 0 = (let y = rw t at h in cc) in rw e refl)
    (λ (t : same w (argument_bytes Off) ≡ false).
    let p = must-both (is_whole 5 w) (leb (nat_of 0 w) 65535) 6 7 (nat_of 0 w) n (rw t at h) in
    ap smoothing_fits (sym p.2) ∙ p.1)
    (test (same w (argument_bytes Off)))

-- ---- references
no_minus : (w : List ℕ) → digits w ≡ true → (unminus w ≡ w) × (negative w ≡ false)
no_minus [] h = (refl, refl)
no_minus (b ∷ bs) h =
    let l : 48 ≤ b = leb-true 48 b (and_left (leb 48 b) (leb b 57) (and_left (is_digit b) (digits bs) h)) in
    (rw (ne_eqb b 45 (omega arith)) refl, ne_eqb b 45 (omega arith))

pub reference-form : (n : ℕ) → n < 10 ^ 10 → is_reference (written_whole n) ≡ true
unfolding is_reference
reference-form n l = ap (is_whole 10) (no_minus (written_whole n) (written-digits n)).0 ∙ whole_back 9 n l

pub refer-back : (count n : ℕ) → reference_fits count n ≡ true → n < 10 ^ 10 → refer count (written_whole n) ≡ n
unfolding refer
refer-back count n h l =
    let p = no_minus (written_whole n) (written-digits n) in
    rw (p.0, p.1, written-value n l, h) refl

pub reference-back : (count n : ℕ) → reference_fits count n ≡ true → n < 10 ^ 10 → reference_of count (written_whole n) ≡ says n
unfolding reference_of
reference-back count n h l = rw (reference-form n l, refer-back count n h l, and_left (leb 1 n) (leb n count) h) refl

item-fits : (t : Bool) (count k : ℕ) → leb 1 (item t count k) ≡ true → reference_fits count (item t count k) ≡ true
item-fits t count k h =
    ⊎_elim
    (λ (e : (leb 1 k && leb k count) ≡ true). rw e (inner t e))
    (λ (e : (leb 1 k && leb k count) ≡ false). let z : false ≡ true = rw e at h in never z)
    (test (leb 1 k && leb k count))
  where
    inner : (t : Bool) → (leb 1 k && leb k count) ≡ true → reference_fits count (cond t (count + 1 - k) k) ≡ true
    inner true e =
        let a = leb-true 1 k (and_left (leb 1 k) (leb k count) e) in
        let b = leb-true k count (and_right (leb 1 k) (leb k count) e) in
        and_both (le-leb 1 (count + 1 - k) (omega arith)) (le-leb (count + 1 - k) count (omega arith))
    inner false e = e

pub refer-fits : (count : ℕ) (w : List ℕ) → leb 1 (refer count w) ≡ true → reference_fits count (refer count w) ≡ true
unfolding refer
refer-fits count w h = item-fits (negative w) count (nat_of 0 (unminus w)) h

pub reference-fits : (count : ℕ) (w : List ℕ) (n : ℕ) → reference_of count w ≡ says n → reference_fits count n ≡ true
unfolding reference_of
reference-fits count w n h =
    let p = must-both (is_reference w) (leb 1 (refer count w)) 6 8 (refer count w) n h in
    ap (reference_fits count) (sym p.2) ∙ refer-fits count w p.1
