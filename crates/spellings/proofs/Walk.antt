-- A table walked row by row: the rows that are left find what all of them find.
use Prim.Native.Nat.{ℕ, zero, suc, ◌+◌, ◌*◌, ◌-◌, ◌≤◌, ◌<◌}
use mathlib.Core.Path.{◌≡◌, refl, ◌∙◌}
use mathlib.Core.Logic.{⊎_elim}
use mathlib.Core.List.{List}
use mathlib.Core.Bool.{Bool, true, false}
use Rattle.std.specs.Prelude.{Some, None}
use native.Mathlib.Omega.{arith}
use borrow.Author.Tests.{lt-ltb, le-ltb}
use lib.ListN.{length, drop, get_or}
use lib.Seq.{drop-drop}
use Rattle.lists.specs.Lists.{same}
use Rattle.lists.proofs.Tests.{test, and_left, and_right}
use Rattle.text.specs.Words.{word_of}
use Rattle.text.specs.Rest.{end_of}
use Rattle.spellings.specs.Lookup.{row_in, found_in, word_ahead, ahead_in}
use Rattle.spellings.proofs.Compare.{compare_of, front-differs}

abbrev pub same_at : List ℕ → ℕ → List ℕ → ℕ → Bool
same_at s at t from = same (word_of (drop at s)) (word_of (drop from t))

pub record Walked (s : List ℕ) (at : ℕ) (t : List ℕ) (rows row : ℕ) : Type 0 where
  pub rest : row_in rows t (word_of (drop at s)) ≡ row + row_in (rows - row) (drop (12 * row) t) (word_of (drop at s))
  pub place : row ≤ rows
  pub room : 12 * rows ≤ length t
  pub ahead : ahead_in (rows - row) (drop (12 * row) t) ≡ true

pub start : (s : List ℕ) (at : ℕ) (t : List ℕ) (rows : ℕ) → 12 * rows ≤ length t → ahead_in rows t ≡ true → Walked s at t rows 0
start s at t rows h a =
    let e : rows - 0 ≡ rows = omega arith in
    record { rest = rw e (omega arith); place = omega arith; room = h; ahead = rw e a }

-- one row of a list of bytes
past_row : (n : ℕ) (t w : List ℕ) → 0 < n → same w (word_of t) ≡ false → row_in n t w ≡ suc (row_in (n - 1) (drop 12 t) w)
past_row zero t w h f = absurd (omega arith)
past_row (suc n) t w h f = let e : suc n - 1 ≡ n = omega arith in rw (f, e) refl

at_row : (n : ℕ) (t w : List ℕ) → 0 < n → same w (word_of t) ≡ true → row_in n t w ≡ 0
at_row zero t w h f = absurd (omega arith)
at_row (suc n) t w h f = rw f refl

ahead_past : (n : ℕ) (t : List ℕ) → 0 < n → ahead_in n t ≡ true → ahead_in (n - 1) (drop 12 t) ≡ true
ahead_past zero t h a = absurd (omega arith)
ahead_past (suc n) t h a = let e : suc n - 1 ≡ n = omega arith in rw e (and_right (word_ahead t) (ahead_in n (drop 12 t)) a)

ahead-first : (n : ℕ) (t : List ℕ) → 0 < n → ahead_in n t ≡ true → word_ahead t ≡ true
ahead-first zero t h a = absurd (omega arith)
ahead-first (suc n) t h a = and_left (word_ahead t) (ahead_in n (drop 12 t)) a

module _ {s : List ℕ} {at : ℕ} {t : List ℕ} {rows row : ℕ} (c : Walked s at t rows row) where
  module _ (more : row < rows) where
    left : 0 < rows - row
    left = omega arith

    next : drop 12 (drop (12 * row) t) ≡ drop (12 * (row + 1)) t
    next = let e : 12 * row + 12 ≡ 12 * (row + 1) = omega arith in drop-drop 12 (12 * row) t ∙ rw e refl

    pub turn : same_at s at t (12 * row) ≡ false → Walked s at t rows (row + 1)
    turn f =
        let e : (rows - row) - 1 ≡ rows - (row + 1) = omega arith in
        let q : row_in (rows - row) (drop (12 * row) t) (word_of (drop at s)) ≡ suc (row_in (rows - (row + 1)) (drop (12 * (row + 1)) t) (word_of (drop at s))) =
        past_row (rows - row) (drop (12 * row) t) (word_of (drop at s)) left f ∙ rw (e, next) refl in
        record {
          rest = c.rest ∙ omega (arith, q);
          place = omega arith;
          room = c.room;
          ahead = rw (← e, ← next) (ahead_past (rows - row) (drop (12 * row) t) left c.ahead);
        }

    begins : word_ahead (drop (12 * row) t) ≡ true
    begins = ahead-first (rows - row) (drop (12 * row) t) left c.ahead

    pub differs : at < length s → (get_or s at 0 ≡ get_or t (12 * row) 0 → ⊥) → same_at s at t (12 * row) ≡ false
    differs h n = front-differs s t at (12 * row) h begins n

    pub here : {end : ℕ} → Some end ≡ compare_of s at t (12 * row) → record { row = row; end = end } ≡ found_in rows t (word_of (drop at s)) at
    here {end} e =
        ⊎_elim
        (λ f.
        let g : Some end ≡ Some (end_of s at) = rw f at e in
        let k : end ≡ end_of s at = cc in
        let z = at_row (rows - row) (drop (12 * row) t) (word_of (drop at s)) left f in
        let r : row_in rows t (word_of (drop at s)) ≡ row = omega (arith, c.rest, z) in
        rw (k, r, lt-ltb row rows more) refl)
        (λ f. let g : Some end ≡ None = rw f at e in cc)
        (test (same_at s at t (12 * row)))

  pub nowhere : rows ≤ row → record { row = rows; end = at } ≡ found_in rows t (word_of (drop at s)) at
  nowhere h =
      let e : rows - row ≡ 0 = omega arith in
      let z : row_in (rows - row) (drop (12 * row) t) (word_of (drop at s)) ≡ 0 = rw e refl in
      let p = c.place in
      let r : row_in rows t (word_of (drop at s)) ≡ rows = omega (arith, c.rest, z) in
      rw (r, le-ltb rows rows (omega arith)) refl

pub not-here : (s : List ℕ) (at : ℕ) (t : List ℕ) (from : ℕ) → None ≡ compare_of s at t from → same_at s at t from ≡ false
not-here s at t from e =
    ⊎_elim (λ f. let g : None ≡ Some (end_of s at) = rw f at e in cc) (λ f. f) (test (same_at s at t from))
