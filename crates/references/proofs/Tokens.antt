-- Each written word is a token: digits, signs, points and slashes are word bytes, and none is #.
use Prim.Native.Nat.{ℕ, zero, suc, ◌/◌, ◌%◌, ◌≤◌}
use mathlib.Core.Path.{◌≡◌, refl, sym, ap, ◌∙◌}
use mathlib.Core.List.{List, [], ◌∷◌, ◌++◌, append-nil}
use mathlib.Core.Bool.{true}
use lib.ListN.{length}
use lib.Dec.{leb}
use lib.IntN.{ℤ, pos, negsuc}
use borrow.Author.Tests.{leb-true, ne_eqb}
use native.Mathlib.Omega.{arith}
use Rattle.lists.specs.Lists.{all}
use Rattle.lists.proofs.Tests.{and_left, and_right, and_both}
use Rattle.lists.proofs.Laws.{all_append, all-imp}
use Rattle.text.specs.Bytes.{is_word}
use Rattle.text.specs.Tokens.{is_token}
use Rattle.digits.specs.Digits.{is_digit, digits}
use Rattle.references.specs.Corner.{Corner}
use Rattle.references.specs.Written.{full, written_whole, written_millionths, written_number, slashed, written_corner}
use Rattle.digits.proofs.Fronts.{digit-word}
use Rattle.references.proofs.Numerals.{full-digits}
use Rattle.references.proofs.WholesBack.{written-digits, written-some}

digit-words : (w : List ℕ) → digits w ≡ true → all is_word w ≡ true
digit-words w h = all-imp is_digit is_word digit-word w h

-- digits, and word bytes after them
token : (w r : List ℕ) → digits w ≡ true → 1 ≤ length w → all is_word r ≡ true → is_token (w ++ r) ≡ true
token [] r h l k = absurd (omega arith)
token (b ∷ bs) r h l k =
    let d = and_left (is_digit b) (digits bs) h in
    let m = leb-true 48 b (and_left (leb 48 b) (leb b 57) d) in
    and_both (and_both (digit-word b d) (rw (ne_eqb b 35 (omega arith)) refl))
    (all_append is_word bs r (digit-words bs (and_right (is_digit b) (digits bs) h)) k)

pub whole-token : (n : ℕ) → is_token (written_whole n) ≡ true
whole-token n = ap is_token (sym (append-nil (written_whole n))) ∙ token (written_whole n) [] (written-digits n) (written-some n) refl

whole_words : (n : ℕ) → all is_word (written_whole n) ≡ true
whole_words n = digit-words (written_whole n) (written-digits n)

millionths-token : (m : ℕ) → is_token (written_millionths m) ≡ true
unfolding written_millionths
millionths-token m =
    token (written_whole (m / 1000000)) (46 ∷ full 6 (m % 1000000)) (written-digits (m / 1000000)) (written-some (m / 1000000))
    (digit-words (full 6 (m % 1000000)) (full-digits 6 (m % 1000000)))

millionths-words : (m : ℕ) → all is_word (written_millionths m) ≡ true
unfolding written_millionths
millionths-words m =
    all_append is_word (written_whole (m / 1000000)) (46 ∷ full 6 (m % 1000000)) (whole_words (m / 1000000))
    (digit-words (full 6 (m % 1000000)) (full-digits 6 (m % 1000000)))

pub number-token : (z : ℤ) → is_token (written_number z) ≡ true
number-token (pos m) = millionths-token m
number-token (negsuc m) = millionths-words (suc m)

pub corner-token : (x : Corner) → is_token (written_corner x) ≡ true
corner-token x = go x.v x.vt x.vn
  where
    go : (a t n : ℕ) → is_token (slashed (written_whole a) t n) ≡ true
    go a zero zero = whole-token a
    go a (suc t) zero = token (written_whole a) (47 ∷ written_whole (suc t)) (written-digits a) (written-some a) (whole_words (suc t))
    go a zero (suc n) = token (written_whole a) (47 ∷ 47 ∷ written_whole (suc n)) (written-digits a) (written-some a) (whole_words (suc n))
    go a (suc t) (suc n) =
        token (written_whole a) (47 ∷ (written_whole (suc t) ++ 47 ∷ written_whole (suc n))) (written-digits a) (written-some a)
        (all_append is_word (written_whole (suc t)) (47 ∷ written_whole (suc n)) (whole_words (suc t)) (whole_words (suc n)))
