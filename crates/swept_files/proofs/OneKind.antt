-- The records of one kind after a sweep: how many, their table, and where each named one went. Over the kind.
use Prim.Native.Nat.{ℕ, zero, suc, ◌+◌, ◌*◌, ◌-◌, ◌≤◌, ◌<◌}
use mathlib.Core.Path.{◌≡◌, refl, ap, ◌∙◌}
use mathlib.Core.List.{List}
use mathlib.Core.Bool.{Bool, true}
use native.Mathlib.Nat.{mul-le-mul_left}
use native.Mathlib.Omega.{arith}
use lib.ListN.{length, take, drop}
use lib.IntN.{ℤ, pos}
use Rattle.lists.specs.Lists.{filled}
use Rattle.tables.specs.Tables.{Tables}
use Rattle.tables.specs.declared.Used.{Used}
use Rattle.tables.proofs.Filled.{length-filled}
use Rattle.model.specs.Model.{VertexKind, geometric, texture, normal, parametric}
use Rattle.sweep_marks.specs.Counting.{kept_upto, new_number}
use Rattle.sweep.specs.Named.{used_of_kind, table_in, width_in, named}
use Rattle.sweep.specs.Swept.{kept_in, dropped_in, rows_after, swept_used, swept_tables, dropped_of}
use Rattle.swept_files.specs.Promises.{row_numbered, dropped_as}
use Rattle.sweep_marks.proofs.Counting.{kept-most}
use Rattle.swept_files.proofs.Counting.{kept-named, kept_more, new-named, new-zero, Old, kept-old}
use Rattle.swept_files.proofs.Parts.{row_within}
use Rattle.swept_files.proofs.Rows.{rows_fit, table-row}
use Rattle.table_rules.proofs.Lent.{Lent}

pub lent-in : (used : Used) (t : Tables) → Lent used t → (kind : VertexKind) → width_in kind * used_of_kind kind used ≤ length (table_in kind t)
lent-in used t l geometric = l.vertices.v
lent-in used t l texture = l.vertices.vt
lent-in used t l normal = l.vertices.vn
lent-in used t l parametric = l.vertices.vp

module _ (used : Used) (t : Tables) where
  pub used-in : (kind : VertexKind) → used_of_kind kind (swept_used used t) ≡ kept_in used t kind
  unfolding swept_used
  used-in geometric = refl
  used-in texture = refl
  used-in normal = refl
  used-in parametric = refl

  pub dropped-in : (kind : VertexKind) → dropped_as kind (dropped_of used t) ≡ dropped_in used t kind
  unfolding dropped_of
  dropped-in geometric = refl
  dropped-in texture = refl
  dropped-in normal = refl
  dropped-in parametric = refl

  pub table-in : (kind : VertexKind) → table_in kind (swept_tables used t) ≡ filled (length (table_in kind t)) (pos 0) (rows_after used t kind)
  unfolding swept_tables
  table-in geometric = refl
  table-in texture = refl
  table-in normal = refl
  table-in parametric = refl

-- record k of a table of w numbers to a record is record m of another, one of the used ones there and lent
pub record Moved (w : ℕ) (l after : List ℤ) (used k m : ℕ) : Type 0 where
  pub some : 1 ≤ m
  pub most : m ≤ used
  pub lent : w * (m - 1) + w ≤ length after
  pub same : take w (drop (w * (m - 1)) after) ≡ take w (drop (w * (k - 1)) l)

module _ (used : Used) (t : Tables) (lent : Lent used t) (kind : VertexKind) where
  abbrev f : ℕ → Bool
  f = named used t kind

  abbrev w : ℕ
  w = width_in kind

  abbrev n : ℕ
  n = used_of_kind kind used

  abbrev l : List ℤ
  l = table_in kind t

  pub table-length : length (table_in kind (swept_tables used t)) ≡ length l
  table-length =
      ap length (table-in used t kind) ∙ length-filled (length l) (pos 0) (rows_after used t kind) (rows_fit w f l n (lent-in used t lent kind))

  pub rows-lent : w * used_of_kind kind (swept_used used t) ≤ length (table_in kind (swept_tables used t))
  rows-lent =
      let a = table-length in
      let b = lent-in used t lent kind in
      let c = mul-le-mul_left w (kept-most f n) in
      rw (used-in used t kind) (omega arith)

  module _ (i : ℕ) (h : i < n) (e : f (suc i) ≡ true) where
    pub record-moved : row_numbered kind (swept_tables used t) (suc (kept_upto f i)) ≡ row_numbered kind t (suc i)
    record-moved =
        ap (λ (x : List ℤ). take w (drop (w * kept_upto f i) x)) (table-in used t kind) ∙ table-row w f l n (lent-in used t lent kind) i h e

    pub moved : Moved w l (table_in kind (swept_tables used t)) (used_of_kind kind (swept_used used t)) (suc i) (suc (kept_upto f i))
    moved =
        let a = kept-named f i e in
        let b = kept_more f (suc i) n h in
        let u = used-in used t kind in
        let q : suc (kept_upto f i) ≤ used_of_kind kind (swept_used used t) = omega arith in
        let x : suc (kept_upto f i) - 1 ≡ kept_upto f i = omega arith in
        let y : suc i - 1 ≡ i = omega arith in
        record {
          some = omega arith;
          most = q;
          lent = rw x (let r = row_within w (kept_upto f i) (used_of_kind kind (swept_used used t)) q in let s = rows-lent in omega arith);
          same = rw (x, y) record-moved;
        }

  -- the number of a named record, and of no record
  pub new-moved : (k : ℕ) → k ≤ n → f k ≡ true → row_numbered kind (swept_tables used t) (new_number f k) ≡ row_numbered kind t k
  new-moved zero h e = ap (row_numbered kind (swept_tables used t)) (new-zero f)
  new-moved (suc i) h e = ap (row_numbered kind (swept_tables used t)) (new-named f (suc i) e ∙ kept-named f i e) ∙ record-moved i h e

  pub moved_to : (k : ℕ) → 1 ≤ k → k ≤ n → f k ≡ true → Moved w l (table_in kind (swept_tables used t)) (used_of_kind kind (swept_used used t)) k (new_number f k)
  moved_to zero a h e = absurd (omega arith)
  moved_to (suc i) a h e = rw (new-named f (suc i) e ∙ kept-named f i e) (moved i h e)

  -- each record that is left was one of them
  pub moved-from : (m : ℕ) → m < used_of_kind kind (swept_used used t) → Old f n (suc m)
  moved-from m h = let u = used-in used t kind in kept-old f n (suc m) (omega arith) (omega arith)
