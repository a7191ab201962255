-- The ways out of `row_at`, `degree_at`, `smoothing_at` and `name_at`: the form of the word first, then its value.
use Prim.Native.Nat.{ℕ, ◌+◌, ◌-◌, ◌≤◌, ◌<◌}
use mathlib.Core.Path.{◌≡◌, refl, sym, ap, ◌∙◌}
use mathlib.Core.List.{List}
use Rattle.std.specs.Prelude.{Some, None}
use mathlib.Core.Bool.{Bool, true, false, ◌&&◌}
use lib.ListN.{length, drop}
use lib.Dec.{leb}
use borrow.Author.Tests.{le-leb, lt-leb}
use native.Mathlib.Omega.{arith}
use Rattle.lists.proofs.Tests.{and_first, and_second, and_both}
use Rattle.text.specs.Bytes.{is_word}
use Rattle.text.specs.Words.{word_of}
use Rattle.text.specs.Rest.{end_of}
use Rattle.keywords.proofs.Arguments.{off_end, off-found, off-not}
use Rattle.digits.specs.Said.{Said, says, wrong, must}
use Rattle.digits.specs.Answers.{ends_at}
use Rattle.digits.specs.Digits.{nat_of, is_whole}
use Rattle.digits.specs.Degree.{degree_of, smoothing_of, name_of}
use Rattle.digits.specs.Straight.{is_empty, run, past, front, WholeRead, whole_of}
use Rattle.digits.proofs.Fronts.{word-front, word-all, digit-word, past-at}
use Rattle.digits.proofs.Lengths.{whole-yes, whole-not, whole-bad, ten-digits}
use Rattle.digits.proofs.Saids.{says-ends, unsaid, ended-says, ended-wrong, must-says, must-wrong}

-- ---- row_at
module _ (s : List ℕ) (at most end value : ℕ) (w : WholeRead s at end value) where
  row-no : is_whole most (word_of (drop at s)) ≡ false → wrong 6 ≡ ends_at (whole_of most (word_of (drop at s))) (end_of s at)
  unfolding whole_of
  row-no h = rw h refl

  pub row-none : end ≡ at → wrong 6 ≡ ends_at (whole_of most (word_of (drop at s))) (end_of s at)
  row-none z =
      let y = w.end_is in
      let l : List ℕ = drop at s in
      row-no (ap (is_whole most) (word-front l) ∙ whole-bad is_word digit-word most l (and_first (leb (length (run l)) most) (lt-leb 1 (length (run l)) (omega arith))))

  pub row-many : most < end - at → wrong 6 ≡ ends_at (whole_of most (word_of (drop at s))) (end_of s at)
  row-many z =
      let y = w.end_is in
      let l : List ℕ = drop at s in
      row-no (ap (is_whole most) (word-front l) ∙ whole-bad is_word digit-word most l (and_second (leb 1 (length (run l))) (lt-leb (length (run l)) most (omega arith))))

  overs : (b : Bool) → b ≡ is_empty (word_of (drop end s)) → is_empty (word_of (past (drop at s))) ≡ b
  overs b o = sym (o ∙ ap (λ (l : List ℕ). is_empty (word_of l)) (past-at s at end w.end_is))

  fronts : (b : Bool) → b ≡ is_empty (word_of (drop end s)) → is_empty (front is_word (past (drop at s))) ≡ b
  fronts b o = ap is_empty (sym (word-front (past (drop at s)))) ∙ overs b o

  pub row-not : false ≡ is_empty (word_of (drop end s)) → wrong 6 ≡ ends_at (whole_of most (word_of (drop at s))) (end_of s at)
  row-not o = row-no (ap (is_whole most) (word-front (drop at s)) ∙ whole-not is_word digit-word most (drop at s) (fronts false o))

  pub row_of : most ≤ 10 → (end ≡ at → ⊥) → end - at ≤ most → true ≡ is_empty (word_of (drop end s)) → says (value, end) ≡ ends_at (whole_of most (word_of (drop at s))) (end_of s at)
  row_of m f g o =
      let y = w.end_is in
      let l : List ℕ = drop at s in
      let e : word_of l ≡ run l = word-all l (overs true o) in
      let h : is_whole most (word_of l) ≡ true =
      ap (is_whole most) (word-front l) ∙ whole-yes is_word digit-word most l (fronts true o)
      ∙ and_both (le-leb 1 (length (run l)) (omega arith)) (le-leb (length (run l)) most (omega arith)) in
      let v : nat_of 0 (word_of l) ≡ value = ap (nat_of 0) e ∙ sym (w.value-is ∙ ten-digits l (omega arith)) in
      says-ends (whole_of most (word_of l)) value (end_of s at) end (found h v) (y ∙ ap (λ (x : List ℕ). at + length x) (sym e))
    where
      found : is_whole most (word_of (drop at s)) ≡ true → nat_of 0 (word_of (drop at s)) ≡ value → whole_of most (word_of (drop at s)) ≡ says value
      found h v = unfold whole_of in rw (h, v) refl

-- the word at `at`, which is of 1 to k digits and ends at `end`, and one that is not
abbrev pub RowRead : ℕ → List ℕ → ℕ → ℕ → ℕ → Type 0
RowRead k s at v end = says (v, end) ≡ ends_at (whole_of k (word_of (drop at s))) (end_of s at)

abbrev pub NoRow : ℕ → ℕ → List ℕ → ℕ → Type 0
NoRow n k s at = wrong n ≡ ends_at (whole_of k (word_of (drop at s))) (end_of s at)

module _ (s : List ℕ) (at : ℕ) where
  abbrev w : List ℕ
  w = word_of (drop at s)

  pub row-digits : (k v end : ℕ) → RowRead k s at v end → (is_whole k w ≡ true) × (nat_of 0 w ≡ v) × (end ≡ end_of s at)
  unfolding whole_of
  row-digits k v end h =
      let x = ended-says (whole_of k w) v (end_of s at) end h in
      let y = must-says (is_whole k w) 6 (says (nat_of 0 w)) v x.0 in
      (y.0, (let z = y.1 in cc), x.1)

  pub no-digits : {n : ℕ} (k : ℕ) → NoRow n k s at → (is_whole k w ≡ false) × (n ≡ 6)
  unfolding whole_of
  no-digits {n} k h =
      let t : is_whole k w ≡ false = must-wrong (is_whole k w) 6 (nat_of 0 w) n (ended-wrong (whole_of k w) n (end_of s at) h) in
      let e : ◌≡◌ {A = Said (ℕ × ℕ)} (wrong n) (wrong 6) = rw t at h in
      (t, cc)

  -- ---- degree_at
  pub degree-bad : {n : ℕ} → NoRow n 3 s at → wrong n ≡ ends_at (degree_of w) (end_of s at)
  unfolding degree_of
  degree-bad {n} h = let q = no-digits 3 h in rw (q.1, q.0) refl

  module _ (v end : ℕ) (h : RowRead 3 s at v end) where
    degree : degree_of w ≡ must (leb 1 v && leb v 20) 7 (says v)
    unfolding degree_of
    degree = let q = row-digits 3 v end h in rw (q.0, q.1) refl

    pub degree-low : v ≡ 0 → wrong 7 ≡ ends_at (degree_of w) (end_of s at)
    degree-low z = unsaid (degree_of w) 7 (end_of s at) (degree ∙ rw z refl)

    pub degree-high : (v ≡ 0 → ⊥) → 20 < v → wrong 7 ≡ ends_at (degree_of w) (end_of s at)
    degree-high z l = unsaid (degree_of w) 7 (end_of s at) (degree ∙ rw (le-leb 1 v (omega arith), lt-leb v 20 l) refl)

    pub degree-of : (v ≡ 0 → ⊥) → v ≤ 20 → says (v, end) ≡ ends_at (degree_of w) (end_of s at)
    degree-of z l = says-ends (degree_of w) v (end_of s at) end (degree ∙ rw (le-leb 1 v (omega arith), le-leb v 20 l) refl) (row-digits 3 v end h).2

  -- ---- smoothing_at
  pub smoothing-off : (off : ℕ) → Some off ≡ off_end s at → says (0, off) ≡ ends_at (smoothing_of w) (end_of s at)
  unfolding smoothing_of
  smoothing-off off o = let f = off-found s at off o in rw f.0 (ap (λ (n : ℕ). says (0, n)) f.1)

  module _ (o : None ≡ off_end s at) where
    pub smoothing-bad : {n : ℕ} → NoRow n 5 s at → wrong n ≡ ends_at (smoothing_of w) (end_of s at)
    unfolding smoothing_of
    smoothing-bad {n} h = let q = no-digits 5 h in rw (q.1, off-not s at o, q.0) refl

    module _ (v end : ℕ) (h : RowRead 5 s at v end) where
      smoothing : smoothing_of w ≡ must (leb v 65535) 7 (says v)
      unfolding smoothing_of
      smoothing = let q = row-digits 5 v end h in rw (off-not s at o, q.0, q.1) refl

      pub smoothing-high : 65535 < v → wrong 7 ≡ ends_at (smoothing_of w) (end_of s at)
      smoothing-high l = unsaid (smoothing_of w) 7 (end_of s at) (smoothing ∙ rw (lt-leb v 65535 l) refl)

      pub smoothing-of : v ≤ 65535 → says (v, end) ≡ ends_at (smoothing_of w) (end_of s at)
      smoothing-of l = says-ends (smoothing_of w) v (end_of s at) end (smoothing ∙ rw (le-leb v 65535 l) refl) (row-digits 5 v end h).2

-- ---- name_at
module _ (s : List ℕ) (at end : ℕ) (h : end ≡ end_of s at) where
  pub name-none : end ≡ at → wrong 6 ≡ ends_at (name_of (word_of (drop at s))) (end_of s at)
  unfolding name_of
  name-none z = rw (lt-leb 1 (length (word_of (drop at s))) (omega arith)) refl

  pub name-long : (end ≡ at → ⊥) → 255 < end - at → wrong 6 ≡ ends_at (name_of (word_of (drop at s))) (end_of s at)
  unfolding name_of
  name-long z l =
      rw (le-leb 1 (length (word_of (drop at s))) (omega arith), lt-leb (length (word_of (drop at s))) 255 (omega arith)) refl

  pub name-of : (end ≡ at → ⊥) → end - at ≤ 255 → says (word_of (drop at s), end) ≡ ends_at (name_of (word_of (drop at s))) (end_of s at)
  name-of z l = says-ends (name_of (word_of (drop at s))) (word_of (drop at s)) (end_of s at) end found h
    where
      found : name_of (word_of (drop at s)) ≡ says (word_of (drop at s))
      found = unfold name_of in rw (le-leb 1 (length (word_of (drop at s))) (omega arith), le-leb (length (word_of (drop at s))) 255 (omega arith)) refl
