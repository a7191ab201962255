-- A word finds a row exactly when it is that row's spelling: by the rows, of which no two share one.
use Prim.Native.Nat.{ℕ, zero, suc, ◌+◌, ◌≤◌, ◌<◌}
use mathlib.Core.Path.{◌≡◌, refl, sym, ap, ◌∙◌}
use mathlib.Core.Logic.{⊎_elim}
use mathlib.Core.List.{List, [], ◌∷◌}
use mathlib.Core.Bool.{Bool, true, false, cond, ◌&&◌, not}
use native.Mathlib.Omega.{arith}
use borrow.Author.Tests.{not-true, ltb-true, ltb-false}
use lib.ListN.{length}
use lib.Dec.{eqb, ltb}
use Rattle.lists.specs.Lists.{all, same}
use Rattle.lists.proofs.Tests.{test, and_left, and_right}
use Rattle.lists.proofs.Laws.{same-eq, same_refl}
use Rattle.text.specs.Bytes.{is_word}
use Rattle.text.specs.Tokens.{starts_word}
use Rattle.spellings.specs.Rows.{Row, bytes, row_of, spelling_at, Finds}

-- no two rows share a spelling
abbrev pub others : {K : Type 0} → List ℕ → List (Row K) → Bool
others w rs = all (λ q. not (same (bytes q.spelling) w)) rs

abbrev pub distinct : {K : Type 0} → List (Row K) → Bool
distinct [] = true
distinct (r ∷ rs) = others (bytes r.spelling) rs && distinct rs

-- a word that opens no comment
abbrev pub is_token : List ℕ → Bool
is_token [] = false
is_token (b ∷ bs) = starts_word b && all is_word bs

abbrev pub tokens : {K : Type 0} → List (Row K) → Bool
tokens rs = all (λ r. is_token (bytes r.spelling)) rs

-- how many rows have the letter k
abbrev pub rows_with : {K : Type 0} → (K → ℕ) → ℕ → List (Row K) → ℕ
rows_with letter k [] = 0
rows_with letter k (r ∷ rs) = cond (eqb k (letter r.kind)) 1 0 + rows_with letter k rs

module _ {K : Type 0} where
  row_within : (rs : List (Row K)) (w : List ℕ) → row_of rs w ≤ length rs
  row_within [] w = omega arith
  row_within (r ∷ rs) w =
      ⊎_elim (λ s. rw s (omega arith)) (λ s. let h = row_within rs w in rw s (omega arith)) (test (same w (bytes r.spelling)))

  -- what a word finds is a row that it is the spelling of
  row-spelled : (rs : List (Row K)) (w : List ℕ) → row_of rs w < length rs → w ≡ spelling_at rs (row_of rs w)
  row-spelled [] w h = absurd (omega arith)
  row-spelled (r ∷ rs) w h =
      ⊎_elim
      (λ s. rw s (same-eq w (bytes r.spelling) s))
      (λ s.
      let e : row_of (r ∷ rs) w ≡ suc (row_of rs w) = rw s refl in
      let l : row_of rs w < length rs = omega (arith, e) in
      rw e (row-spelled rs w l))
      (test (same w (bytes r.spelling)))

  other_at : (rs : List (Row K)) (w : List ℕ) (j : ℕ) → others w rs ≡ true → j < length rs → same (spelling_at rs j) w ≡ false
  other_at [] w j o h = absurd (omega arith)
  other_at (r ∷ rs) w zero o h = not-true (same (bytes r.spelling) w) (and_left (not (same (bytes r.spelling) w)) (others w rs) o)
  other_at (r ∷ rs) w (suc j) o h = other_at rs w j (and_right (not (same (bytes r.spelling) w)) (others w rs) o) (omega arith)

  -- the spelling of a row finds it
  spelled-row : (rs : List (Row K)) (i : ℕ) → distinct rs ≡ true → i < length rs → row_of rs (spelling_at rs i) ≡ i
  spelled-row [] i d h = absurd (omega arith)
  spelled-row (r ∷ rs) zero d h = rw (same_refl (bytes r.spelling)) refl
  spelled-row (r ∷ rs) (suc i) d h =
      rw (other_at rs (bytes r.spelling) i (and_left (others (bytes r.spelling) rs) (distinct rs) d) (omega arith))
      (ap suc (spelled-row rs i (and_right (others (bytes r.spelling) rs) (distinct rs) d) (omega arith)))

  pub finds-exactly : (rs : List (Row K)) → distinct rs ≡ true → (w : List ℕ) → Finds rs w (row_of rs w)
  finds-exactly rs d w =
      record {
        within = row_within rs w;
        exactly = λ i h. (λ e. rw (← e) (row-spelled rs w (omega (arith, e))), λ e. rw e (spelled-row rs i d h));
        nothing = (λ e i h s. let f = spelled-row rs i d h in let g : row_of rs w ≡ i = rw s f in omega arith, λ f. none f);
      }
    where
      none : ((i : ℕ) → i < length rs → w ≡ spelling_at rs i → ⊥) → row_of rs w ≡ length rs
      none f =
          ⊎_elim
          (λ l. let h = ltb-true (row_of rs w) (length rs) l in absurd (f (row_of rs w) h (row-spelled rs w h)))
          (λ l. let h = ltb-false (row_of rs w) (length rs) l in let g = row_within rs w in omega arith)
          (test (ltb (row_of rs w) (length rs)))

  pub no-two : (rs : List (Row K)) → distinct rs ≡ true → (i j : ℕ) → i < length rs → j < length rs → spelling_at rs i ≡ spelling_at rs j → i ≡ j
  no-two rs d i j h k e = sym (spelled-row rs i d h) ∙ (ap (row_of rs) e ∙ spelled-row rs j d k)
