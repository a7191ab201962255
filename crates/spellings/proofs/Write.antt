-- A row found by its letter, and a word copied: what is left comes to what all of it comes to.
use Prim.Native.Nat.{ℕ, zero, suc, ◌+◌, ◌*◌, ◌-◌, ◌≤◌, ◌<◌}
use mathlib.Core.Path.{◌≡◌, refl, sym, ap, ◌∙◌}
use mathlib.Core.List.{List, []}
use mathlib.Core.Bool.{true, false}
use native.Mathlib.Numerals.{add-one}
use native.Mathlib.Omega.{arith}
use borrow.Author.Tests.{eq-eqb, ne_eqb, le-leb, lt-leb}
use lib.ListN.{length, drop, get_or, set, length-set}
use lib.Seq.{drop-drop, get_or-drop, drop-length, sets}
use lib.Dec.{eqb}
use Rattle.text.specs.Words.{word_of}
use Rattle.spellings.specs.Rows.{fitting}
use Rattle.spellings.specs.Lookup.{lettered_in, word_ahead}
use Rattle.spellings.proofs.Compare.{word_at, word_none}

pub record Sought (t : List ℕ) (k rows row : ℕ) : Type 0 where
  pub rest : lettered_in rows t k ≡ lettered_in (rows - row) (drop (12 * row) t) k
  pub place : row ≤ rows
  pub room : 12 * rows ≤ length t

pub sought : (t : List ℕ) (k rows : ℕ) → 12 * rows ≤ length t → Sought t k rows 0
sought t k rows h = let e : rows - 0 ≡ rows = omega arith in record { rest = rw e refl; place = omega arith; room = h }

past_row : (n : ℕ) (t : List ℕ) (k : ℕ) → 0 < n → eqb k (get_or t 11 0) ≡ false → lettered_in n t k ≡ lettered_in (n - 1) (drop 12 t) k
past_row zero t k h f = absurd (omega arith)
past_row (suc n) t k h f = let e : suc n - 1 ≡ n = omega arith in rw (f, e) refl

at_row : (n : ℕ) (t : List ℕ) (k : ℕ) → 0 < n → eqb k (get_or t 11 0) ≡ true → lettered_in n t k ≡ word_of t
at_row zero t k h f = absurd (omega arith)
at_row (suc n) t k h f = rw f refl

module _ {t : List ℕ} {k rows row : ℕ} (c : Sought t k rows row) where
  pub further : row < rows → (k ≡ get_or t (12 * row + 11) 0 → ⊥) → Sought t k rows (row + 1)
  further h n =
      let e : eqb k (get_or (drop (12 * row) t) 11 0) ≡ false = rw (get_or-drop (12 * row) t 11 0) (ne_eqb k (get_or t (12 * row + 11) 0) n) in
      let m : (rows - row) - 1 ≡ rows - (row + 1) = omega arith in
      let a : 12 * row + 12 ≡ 12 * (row + 1) = omega arith in
      let d : drop 12 (drop (12 * row) t) ≡ drop (12 * (row + 1)) t = drop-drop 12 (12 * row) t ∙ rw a refl in
      record {
        rest = c.rest ∙ (past_row (rows - row) (drop (12 * row) t) k (omega arith) e ∙ rw (m, d) refl);
        place = omega arith;
        room = c.room;
      }

  pub row_here : row < rows → k ≡ get_or t (12 * row + 11) 0 → (12 * row ≤ length t) × (word_of (drop (12 * row) t) ≡ lettered_in rows t k)
  row_here h n =
      let e : eqb k (get_or (drop (12 * row) t) 11 0) ≡ true = rw (get_or-drop (12 * row) t 11 0) (eq-eqb k (get_or t (12 * row + 11) 0) n) in
      (omega (arith, c.room), sym (c.rest ∙ at_row (rows - row) (drop (12 * row) t) k (omega arith) e))

  pub no_row : rows ≤ row → (length t ≤ length t) × (word_of (drop (length t) t) ≡ lettered_in rows t k)
  no_row h = let z : rows - row ≡ 0 = omega arith in (omega arith, sym (c.rest ∙ rw (z, drop-length t) refl))

pub record Copied (s : List ℕ) (from : ℕ) (o : List ℕ) (at : ℕ) (l : List ℕ) (i j : ℕ) : Type 0 where
  pub rest : sets l j (word_of (drop i s)) ≡ sets o at (word_of (drop from s))
  pub end : j + length (word_of (drop i s)) ≡ at + length (word_of (drop from s))
  pub size : length l ≡ length o

module _ {s : List ℕ} {from : ℕ} {o : List ℕ} {at : ℕ} {l : List ℕ} {i j : ℕ} (c : Copied s from o at l i j) where
  pub room : at + length (word_of (drop from s)) ≤ length o → word_ahead (drop i s) ≡ true → j < length l
  room h a = let n = ap length (word_at s i a) in omega (arith, c.end, c.size)

  pub copy : word_ahead (drop i s) ≡ true → Copied s from o at (set l j (get_or s i 0)) (i + 1) (j + 1)
  copy a =
      let w = word_at s i a in
      let e : sets (set l j (get_or s i 0)) (j + 1) (word_of (drop (i + 1) s)) ≡ sets l j (word_of (drop i s)) = rw (w, add-one j) refl in
      let n = ap length w in
      record { rest = e ∙ c.rest; end = omega (arith, c.end); size = length-set l j (get_or s i 0) ∙ c.size }

  pub copied : word_ahead (drop i s) ≡ false → (j ≡ at + length (word_of (drop from s))) × (l ≡ sets o at (word_of (drop from s)))
  copied a =
      let w = word_none (drop i s) a in
      let n : length (word_of (drop i s)) ≡ 0 = rw w refl in
      (omega (arith, c.end), rw w at c.rest)

-- w written to the front of o where it has room
abbrev pub Wrote : List ℕ → List ℕ → ℕ → List ℕ → Type 0
Wrote o w r l = (r ≡ length (fitting (length o) w)) × (l ≡ sets o 0 (fitting (length o) w))

pub wrote-all : (o w : List ℕ) (r : ℕ) (l : List ℕ) → length w ≤ length o → r ≡ 0 + length w → l ≡ sets o 0 w → Wrote o w r l
wrote-all o w r l h e f =
    let k : fitting (length o) w ≡ w = rw (le-leb (length w) (length o) h) refl in
    (rw k (omega (arith, e)), rw k f)

pub wrote_nothing : (o w : List ℕ) → fitting (length o) w ≡ [] → Wrote o w 0 o
wrote_nothing o w k = (rw k refl, rw k refl)

pub no_room : (n : ℕ) (w : List ℕ) → n < length w → fitting n w ≡ []
no_room n w h = rw (lt-leb (length w) n h) refl

pub no_word : (n : ℕ) (w : List ℕ) → w ≡ [] → fitting n w ≡ []
no_word n w e = rw (e, le-leb 0 n (omega arith)) refl
