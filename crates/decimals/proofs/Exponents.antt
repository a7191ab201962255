-- The ways out of `exponent_at` and `taken`: an exponent is a row of digits after its sign, and the first digits of a mantissa are those of its two rows.
use Prim.Native.Nat.{ℕ, ◌+◌, ◌-◌, ◌*◌, ◌^◌, ◌≤◌, ◌<◌}
use mathlib.Core.Path.{◌≡◌, refl, sym, ap, ◌∙◌}
use mathlib.Core.List.{List, ◌++◌}
use mathlib.Core.Bool.{Bool, true, false, cond, ◌&&◌}
use lib.ListN.{length, take, drop, length-append}
use lib.Seq.{take-append-le, take-append-add, take_all}
use lib.Dec.{leb, eqb}
use borrow.Author.Tests.{leb-true}
use native.Mathlib.Omega.{arith}
use native.Mathlib.Nat.{mul-one}
use Rattle.lists.proofs.Tests.{and_left, and_right}
use Rattle.text.specs.Words.{word_of}
use Rattle.text.specs.Rest.{end_of}
use Rattle.digits.specs.Said.{Said, says, wrong}
use Rattle.digits.specs.Answers.{ends_at}
use Rattle.digits.specs.Digits.{digits, nat_of, is_whole, negative}
use Rattle.digits.specs.Straight.{first, run, cap}
use Rattle.digits.proofs.Rows.{nat_of-append, nat_of-below, cap-nat_of, ten-pos}
use Rattle.digits.proofs.Wholes.{RowRead, NoRow, row-digits, no-digits}
use Rattle.digits.proofs.Saids.{says-ends, ended-says, must-says, must-wrong}
use Rattle.decimals.specs.Number.{is_sign, unsigned}
use Rattle.decimals.specs.declared.exponent.Exponent.{Exponent}
use Rattle.decimals.specs.Straight.{exponent_of, taken_of, MantissaRead}
use Rattle.decimals.proofs.Shifts.{cap-times}
use Rattle.decimals.proofs.Signed.{signs, unsigned_is, ends}

abbrev signed : Bool → ℕ → Exponent
signed minus power = record { minus = minus; power = power }

-- ---- exponent_at
module _ (s : List ℕ) (at b n : ℕ) (h : at ≤ length s) (e : b ≡ first (drop at s)) (k : n ≡ cond (is_sign b) 1 0) where
  abbrev x : List ℕ
  x = word_of (drop at s)

  pub exponent-bad : {m : ℕ} → NoRow m 3 s (at + n) → wrong m ≡ ends_at (exponent_of x) (end_of s at)
  unfolding exponent_of
  exponent-bad {m} r =
      let q = no-digits s (at + n) 3 r in rw (q.1, ap (is_whole 3) (sym (unsigned_is s at b n h e k)) ∙ q.0) refl

  pub exponent-read : (v end : ℕ) → RowRead 3 s (at + n) v end → says (signed (eqb b 45) v, end) ≡ ends_at (exponent_of x) (end_of s at)
  exponent-read v end r =
      let t = row-digits s (at + n) 3 v end r in
      let u = unsigned_is s at b n h e k in
      let m : negative x ≡ eqb b 45 = (signs s at b n h e k).negative-is ∙ ap (λ (y : ℕ). eqb y 45) (sym e) in
      says-ends (exponent_of x) (signed (eqb b 45) v) (end_of s at) end (found (ap (is_whole 3) (sym u) ∙ t.0) (ap (nat_of 0) (sym u) ∙ t.1) m) (t.2 ∙ ends s at b n h e k)
    where
      found : is_whole 3 (unsigned x) ≡ true → nat_of 0 (unsigned x) ≡ v → negative x ≡ eqb b 45 → exponent_of x ≡ says (signed (eqb b 45) v)
      found f g m = unfold exponent_of in rw (f, g, m) refl

-- what an exponent says of what stands after e or E
pub exponent-true : (x : List ℕ) (p : Exponent) → exponent_of x ≡ says p → (is_whole 3 (unsigned x) ≡ true) × (negative x ≡ p.minus) × (nat_of 0 (unsigned x) ≡ p.power)
unfolding exponent_of
exponent-true x p h =
    let t = must-says (is_whole 3 (unsigned x)) 6 (says (signed (negative x) (nat_of 0 (unsigned x)))) p h in
    let q : ◌≡◌ {A = Exponent} (signed (negative x) (nat_of 0 (unsigned x))) p = (let y = t.1 in cc) in
    (t.0, ap (λ (y : Exponent). y.minus) q, ap (λ (y : Exponent). y.power) q)

pub exponent-false : (x : List ℕ) (m : ℕ) → exponent_of x ≡ wrong m → (is_whole 3 (unsigned x) ≡ false) × (m ≡ 6)
unfolding exponent_of
exponent-false x m h =
    let t : is_whole 3 (unsigned x) ≡ false = must-wrong (is_whole 3 (unsigned x)) 6 (signed (negative x) (nat_of 0 (unsigned x))) m h in
    let e : ◌≡◌ {A = Said Exponent} (wrong 6) (wrong m) = rw t at h in
    (t, cc)

-- three digits
pub exponent_small : (s : List ℕ) (at : ℕ) (p : Exponent) (end : ℕ) → says (p, end) ≡ ends_at (exponent_of (word_of (drop at s))) (end_of s at) → p.power < 1000
unfolding is_whole
exponent_small s at p end r =
    let x : List ℕ = unsigned (word_of (drop at s)) in
    let t = exponent-true (word_of (drop at s)) p (ended-says (exponent_of (word_of (drop at s))) p (end_of s at) end r).0 in
    let l = and_left (digits x && leb 1 (length x)) (leb (length x) 3) t.0 in
    let f : digits x ≡ true = and_left (digits x) (leb 1 (length x)) l in
    let k : length x ≤ 3 = leb-true (length x) 3 (and_right (digits x && leb 1 (length x)) (leb (length x) 3) t.0) in
    let r : nat_of 0 x ≡ p.power = t.2 in
    omega (arith, nat_of-below 3 0 x f k)

-- ---- taken: the first q digits of two rows
taken-both : (b a : List ℕ) (q : ℕ) → length b ≤ q → cap (nat_of (cap (nat_of 0 b)) (take (q - length b) a)) ≡ cap (nat_of 0 (take q (b ++ a)))
taken-both b a q h =
    let e : q ≡ length b + (q - length b) = omega arith in
    let t : take q (b ++ a) ≡ b ++ take (q - length b) a = ap (λ (n : ℕ). take n (b ++ a)) e ∙ take-append-add b a (q - length b) in
    cap-nat_of (nat_of 0 b) (take (q - length b) a)
    ∙ ap cap (sym (ap (nat_of 0) t ∙ nat_of-append 0 b (take (q - length b) a)))

module _ (b a : List ℕ) (q r : ℕ) where
  no-zeros : q ≤ length b + length a → cap (nat_of 0 (take q (b ++ a))) ≡ cap (taken_of q (b ++ a))
  no-zeros h =
      let e = length-append b a in
      let z : q - length (b ++ a) ≡ 0 = omega arith in
      ap cap (sym (ap (λ (k : ℕ). nat_of 0 (take q (b ++ a)) * 10 ^ k) z ∙ mul-one (nat_of 0 (take q (b ++ a)))))

  taken-first : q ≤ length b → r ≡ cap (nat_of 0 (take q b)) → r ≡ cap (taken_of q (b ++ a))
  taken-first h e = e ∙ ap (λ (l : List ℕ). cap (nat_of 0 l)) (sym (take-append-le q b a h)) ∙ no-zeros (omega arith)

  module _ (v : ℕ) (f : v ≡ cap (nat_of 0 (take (length b) b))) (h : length b ≤ q) where
    value : v ≡ cap (nat_of 0 b)
    value = f ∙ ap (λ (l : List ℕ). cap (nat_of 0 l)) (take_all (length b) b (omega arith))

    taken-second : q - length b ≤ length a → r ≡ cap (nat_of v (take (q - length b) a)) → r ≡ cap (taken_of q (b ++ a))
    taken-second l e =
        e ∙ ap (λ (n : ℕ). cap (nat_of n (take (q - length b) a))) value ∙ taken-both b a q h ∙ no-zeros (omega arith)

    taken-zeros : length a < q - length b → (w : ℕ) → w ≡ cap (nat_of v (take (length a) a)) → r ≡ cap (w * 10 ^ (q - length b - length a)) → r ≡ cap (taken_of q (b ++ a))
    taken-zeros l w g e =
        let n : q - length (b ++ a) ≡ q - length b - length a = omega (arith, length-append b a) in
        let t : take (length a) a ≡ take (q - length b) a = take_all (length a) a (omega arith) ∙ sym (take_all (q - length b) a (let y : length a ≤ q - length b = omega arith in y)) in
        let z : w ≡ cap (nat_of 0 (take q (b ++ a))) = g ∙ ap (λ (n : ℕ). cap (nat_of n (take (length a) a))) value ∙ ap (λ (l : List ℕ). cap (nat_of (cap (nat_of 0 b)) l)) t ∙ taken-both b a q h in
        e
        ∙ ap (λ (n : ℕ). cap (n * 10 ^ (q - length b - length a))) z
        ∙ cap-times (nat_of 0 (take q (b ++ a))) (10 ^ (q - length b - length a)) (ten-pos (q - length b - length a))
        ∙ ap (λ (k : ℕ). cap (nat_of 0 (take q (b ++ a)) * 10 ^ k)) (sym n)

-- the same at a place
module _ {s : List ℕ} {at point from end : ℕ} (m : MantissaRead s at point from end) (q r : ℕ) where
  abbrev b : List ℕ
  b = run (drop at s)

  abbrev a : List ℕ
  a = run (drop from s)

  wholes : point - at ≡ length b
  wholes = let p = m.point-is in omega arith

  decimals : end - from ≡ length a
  decimals = let p = m.end_is in omega arith

  pub taken-before : q ≤ point - at → r ≡ cap (nat_of 0 (take q b)) → r ≡ cap (taken_of q (b ++ a))
  taken-before h e = let n = wholes in taken-first b a q r (omega arith) e

  module _ (v : ℕ) (f : v ≡ cap (nat_of 0 (take (point - at) b))) (h : point - at < q) where
    first-value : v ≡ cap (nat_of 0 (take (length b) b))
    first-value = f ∙ ap (λ (n : ℕ). cap (nat_of 0 (take n b))) wholes

    pub taken-after : q - (point - at) ≤ end - from → r ≡ cap (nat_of v (take (q - (point - at)) a)) → r ≡ cap (taken_of q (b ++ a))
    taken-after l e =
        let n = wholes in
        let k = decimals in
        taken-second b a q r v first-value (omega arith) (omega arith) (e ∙ ap (λ (i : ℕ). cap (nat_of v (take (q - i) a))) n)

    pub taken-padded : end - from < q - (point - at) → (w : ℕ) → w ≡ cap (nat_of v (take (end - from) a)) → r ≡ cap (w * 10 ^ (q - (point - at) - (end - from))) → r ≡ cap (taken_of q (b ++ a))
    taken-padded l w g e =
        let n = wholes in
        let k = decimals in
        let z : q - (point - at) - (end - from) ≡ q - length b - length a = omega arith in
        taken-zeros b a q r v first-value (omega arith) (omega arith) w (g ∙ ap (λ (i : ℕ). cap (nat_of v (take i a))) k) (e ∙ ap (λ (i : ℕ). cap (w * 10 ^ i)) z)
