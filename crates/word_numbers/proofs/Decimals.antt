-- What the code finds is what the word says as a number: by where the digits stop, at the point, at the word's end or at another byte.
use Prim.Native.Nat.{ℕ, ◌+◌, ◌-◌, ◌*◌, ◌^◌, ◌≤◌, ◌<◌}
use mathlib.Core.Path.{◌≡◌, refl, sym, ap, ◌∙◌}
use mathlib.Core.List.{List, [], ◌∷◌, ◌++◌}
use mathlib.Core.Bool.{Bool, true, false, ◌&&◌}
use mathlib.Core.Logic.{⊎_elim}
use lib.ListN.{length, take, drop}
use lib.Dec.{leb, eqb}
use borrow.Author.Tests.{le-leb, lt-leb, ne_eqb}
use native.Mathlib.Omega.{arith}
use native.Mathlib.Nat.{mul-pos}
use Rattle.lists.proofs.Tests.{and_left, and_right, and_second, test}
use Rattle.text.specs.Words.{word_of}
use Rattle.digits.specs.Said.{Said, says, wrong, must}
use Rattle.digits.specs.Answers.{ends_at}
use Rattle.digits.specs.Digits.{is_digit, digits, nat_of, negative}
use Rattle.decimals.specs.Number.{mantissa, exponent, before, after, decimal, numerator, denominator, raised, lowered, nearest, unsigned, limited, value_of, number_of}
use Rattle.decimals.specs.Straight.{ten_millionths, magnitude_of, pointed, settle_of, has_exponent, shifted, scaled_of, size_of}
use Rattle.digits.specs.Straight.{first, is_empty, run, past, cap}
use Rattle.digits.proofs.Rows.{run-digits, nat_of-append, ten-pos}
use Rattle.digits.proofs.Saids.{must-says, must-wrong, ended-says, ended-wrong}
use Rattle.decimals.proofs.Mantissas.{decimal-plain, must-have}
use Rattle.decimals.proofs.Points.{before-point, after-point, before-none, after_none, before-other}
use Rattle.word_numbers.proofs.Rounding.{rounding, settles, cap-settles}
use Rattle.digits.proofs.Fronts.{word-run, word-all, word-not, past-digit, past_word, on_word}

length-zero : (l : List ℕ) → length l ≡ 0 → l ≡ []
length-zero [] h = refl
length-zero (b ∷ bs) h = absurd (omega arith)

-- ---- the cases of a word of digits
pub at-point : (d u : List ℕ) → digits d ≡ true → magnitude_of (d ++ 46 ∷ u) ≡ pointed (length d) (cap (nat_of 0 d)) u
unfolding magnitude_of decimal ten_millionths pointed
at-point d u h = rw (before-point d u h, after-point d u h, h) refl

pub no-point : (d : List ℕ) → digits d ≡ true → 1 ≤ length d → magnitude_of d ≡ says (cap (nat_of 0 d) * 10 ^ 7)
unfolding magnitude_of decimal ten_millionths
no-point d h k = rw (before-none d h, after_none d h, h, le-leb 1 (length d + 0) (omega arith)) refl

pub other_byte : (d : List ℕ) (c : ℕ) (u : List ℕ) → digits d ≡ true → is_digit c ≡ false → eqb c 46 ≡ false → magnitude_of (d ++ c ∷ u) ≡ wrong 6
unfolding magnitude_of decimal
other_byte d c u h e₁ e₂ = rw (before-other d c u h e₁ e₂) refl

pub no_byte : magnitude_of [] ≡ wrong 6
unfolding magnitude_of decimal
no_byte = refl

-- ---- the same at a place
module _ (l : List ℕ) where
  pub point_at : first (past l) ≡ 46 → magnitude_of (word_of l) ≡ pointed (length (run l)) (cap (nat_of 0 (run l))) (word_of (drop 1 (past l)))
  point_at e = ap magnitude_of (word-run l ∙ ap (λ (r : List ℕ). run l ++ r) (past_word l 46 e refl refl)) ∙ at-point (run l) (word_of (drop 1 (past l))) (run-digits l)

  pub bare-at : is_empty (word_of (past l)) ≡ true → 1 ≤ length (run l) → magnitude_of (word_of l) ≡ says (cap (nat_of 0 (run l)) * 10 ^ 7)
  bare-at o k = ap magnitude_of (word-all l o) ∙ no-point (run l) (run-digits l) k

  pub other_at : (first (past l) ≡ 46 → ⊥) → is_empty (word_of (past l)) ≡ false → magnitude_of (word_of l) ≡ wrong 6
  other_at f o =
      ap magnitude_of (word-run l ∙ ap (λ (r : List ℕ). run l ++ r) (on_word (past l) o))
      ∙ other_byte (run l) (first (past l)) (word_of (drop 1 (past l))) (run-digits l) (past-digit l) (ne_eqb (first (past l)) 46 f)

  pub none-at : (first (past l) ≡ 46 → ⊥) → length (run l) ≡ 0 → magnitude_of (word_of l) ≡ wrong 6
  none-at f z =
      ⊎_elim
      (λ (o : is_empty (word_of (past l)) ≡ true). ap magnitude_of (word-all l o ∙ length-zero (run l) z) ∙ no_byte)
      (λ (o : is_empty (word_of (past l)) ≡ false). other_at f o)
      (test (is_empty (word_of (past l))))

-- ---- after the point
module _ (n a : ℕ) (l : List ℕ) where
  pub pointed-not : is_empty (word_of (past l)) ≡ false → pointed n a (word_of l) ≡ wrong 6
  unfolding pointed
  pointed-not o = rw (word-not l o) refl

  pub pointed-none : n + length (run l) ≡ 0 → pointed n a (word_of l) ≡ wrong 6
  pointed-none z =
      ⊎_elim
      (λ (o : is_empty (word_of (past l)) ≡ true). ap (pointed n a) (word-all l o) ∙ nothing)
      (λ (o : is_empty (word_of (past l)) ≡ false). pointed-not o)
      (test (is_empty (word_of (past l))))
    where
      nothing : pointed n a (run l) ≡ wrong 6
      nothing = unfold pointed in rw (run-digits l, lt-leb 1 (n + length (run l)) (omega arith)) refl

  pub pointed-of : is_empty (word_of (past l)) ≡ true → 1 ≤ n + length (run l)
      → pointed n a (word_of l) ≡ says (nat_of a (take 7 (run l)) * 10 ^ (7 - length (run l)))
  unfolding pointed
  pointed-of o k = rw (word-all l o, run-digits l, le-leb 1 (n + length (run l)) k) refl

-- ---- without an exponent, else with one
pub size-plain : (u : List ℕ) (m e end : ℕ) → says (m, e) ≡ ends_at (magnitude_of u) end → says (m, e) ≡ ends_at (size_of u) end
size-plain u m e end h = let q = ended-says (magnitude_of u) m end e h in rw q.0 (ap (λ (n : ℕ). says (m, n)) q.1)

pub size-scaled : (u : List ℕ) (n end : ℕ) (r : Said (ℕ × ℕ)) → wrong n ≡ ends_at (magnitude_of u) end → r ≡ ends_at (scaled_of u) end → r ≡ ends_at (size_of u) end
size-scaled u n end r h k = rw (ended-wrong (magnitude_of u) n end h) k

-- ---- the number
lowered-pos : (x : List ℕ) (d : ℕ) → 0 < d → 0 < lowered x d
lowered-pos [] d h = h
lowered-pos (e ∷ x) d h =
    ⊎_elim
    (λ (t : negative x ≡ true). rw t (mul-pos h (ten-pos (nat_of 0 (unsigned x)))))
    (λ (t : negative x ≡ false). rw t h)
    (test (negative x))

module _ (w : List ℕ) where
  pub number-long : 64 < length w → number_of w ≡ wrong 6
  unfolding number_of
  number-long h = rw (lt-leb (length w) 64 h) refl

  pub number-bad : (m : ℕ) → size_of (unsigned w) ≡ wrong m → number_of w ≡ wrong m
  unfolding number_of magnitude_of scaled_of
  number-bad m h =
      let u : List ℕ = unsigned w in
      ⊎_elim
      (λ (t : decimal u ≡ true). let z : ◌≡◌ {A = ℕ} 0 1 = (let y = rw t at h in cc) in absurd (omega arith))
      (λ (t : decimal u ≡ false).
      let y : must (decimal (mantissa u) && has_exponent (exponent u)) 6 (says (cap (shifted u))) ≡ wrong m = rw t at h in
      let f = must-wrong (decimal (mantissa u) && has_exponent (exponent u)) 6 (cap (shifted u)) m y in
      let e : ◌≡◌ {A = Said ℕ} (wrong 6) (wrong m) = rw f at y in
      let k : 6 ≡ m = cc in
      rw (and_second (leb (length w) 64) (must-have u t ∙ f)) (ap wrong k))
      (test (decimal u))

  exact : decimal (unsigned w) ≡ true → (minus : Bool) → settle_of minus (ten_millionths (unsigned w)) ≡ limited minus (nearest (numerator (unsigned w)) (denominator (unsigned w)))
  unfolding decimal ten_millionths numerator denominator
  exact t minus =
      let u : List ℕ = unsigned w in
      let d = and_right (digits (before u)) (digits (after u)) (and_left (digits (before u) && digits (after u)) (leb 1 (length (before u) + length (after u))) t) in
      settles minus (nat_of 0 (before u)) (after u) d
      ∙ ap (λ (n : ℕ). limited minus (nearest n (10 ^ length (after u)))) (sym (nat_of-append 0 (before u) (after u)))

  scaled_exact : (minus : Bool) → limited minus (value_of (unsigned w)) ≡ settle_of minus (cap (shifted (unsigned w)))
  unfolding shifted denominator
  scaled_exact minus =
      let u : List ℕ = unsigned w in
      ap (limited minus) (rounding (raised (exponent u) (numerator (mantissa u))) (lowered (exponent u) (denominator (mantissa u))) (lowered-pos (exponent u) (denominator (mantissa u)) (ten-pos (length (after (mantissa u))))))
      ∙ sym (cap-settles minus (shifted u))

  pub number-of : (m : ℕ) → size_of (unsigned w) ≡ says m → length w ≤ 64 → number_of w ≡ settle_of (negative w) m
  unfolding number_of magnitude_of scaled_of
  number-of m h k =
      let u : List ℕ = unsigned w in
      ⊎_elim
      (λ (t : decimal u ≡ true).
      let y : ten_millionths u ≡ m = (let x = rw t at h in cc) in
      let p = decimal-plain u t in
      rw (p.0, p.1, le-leb (length w) 64 k, t) (sym (exact t (negative w)) ∙ ap (settle_of (negative w)) y))
      (λ (t : decimal u ≡ false).
      let y : must (decimal (mantissa u) && has_exponent (exponent u)) 6 (says (cap (shifted u))) ≡ says m = rw t at h in
      let q = must-says (decimal (mantissa u) && has_exponent (exponent u)) 6 (says (cap (shifted u))) m y in
      let z : cap (shifted u) ≡ m = (let x = q.1 in cc) in
      rw (le-leb (length w) 64 k, must-have u t ∙ q.0) (scaled_exact (negative w) ∙ ap (settle_of (negative w)) z))
      (test (decimal u))
