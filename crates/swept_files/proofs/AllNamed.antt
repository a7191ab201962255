-- Tables in which every record is named: a sweep of them keeps every record where it is, and every number.
use Prim.Native.Nat.{ℕ, ◌*◌, ◌≤◌, ◌<◌}
use mathlib.Core.Path.{◌≡◌, refl, ap, ap₂, ◌∙◌}
use mathlib.Core.List.{[], ◌∷◌}
use mathlib.Core.Bool.{Bool, true, false, cond}
use native.Mathlib.Omega.{arith}
use lib.ListN.{take}
use lib.Dec.{eqb}
use Rattle.tables.specs.Tables.{Tables}
use Rattle.tables.specs.Records.{element_at, corner_at}
use Rattle.tables.specs.Rows.{corner_numbers}
use Rattle.tables.specs.declared.Used.{Used}
use Rattle.tables.specs.declared.Corner.{Corner}
use Rattle.model.specs.Model.{VertexKind, geometric, texture, normal, parametric}
use Rattle.sweep_marks.specs.Counting.{new_number}
use Rattle.sweep.specs.Named.{used_of_kind, table_in, width_in, named, corner_after}
use Rattle.sweep.specs.Swept.{kept_in, dropped_in, rows_after, swept_used, dropped_of, none_dropped}
use Rattle.swept_files.specs.Promises.{reference_in}
use Rattle.sweep_marks.proofs.Counting.{kept-dropped}
use Rattle.swept_files.proofs.Counting.{kept-all, new-named}
use Rattle.swept_files.proofs.Rows.{rows_all}
use Rattle.swept_files.proofs.Standing.{Standing, reference-in}

module _ (used : Used) (t : Tables) (all : (kind : VertexKind) (k : ℕ) → 1 ≤ k → k ≤ used_of_kind kind used → named used t kind k ≡ true) where
  kept_same : (kind : VertexKind) → kept_in used t kind ≡ used_of_kind kind used
  kept_same kind = kept-all (named used t kind) (used_of_kind kind used) (all kind)

  nothing_dropped : (kind : VertexKind) → dropped_in used t kind ≡ 0
  nothing_dropped kind = let a = kept_same kind in let b = kept-dropped (named used t kind) (used_of_kind kind used) in omega arith

  pub used-same : swept_used used t ≡ used
  unfolding swept_used
  used-same = rw (kept_same geometric, kept_same texture, kept_same normal, kept_same parametric) refl

  pub dropped-none : dropped_of used t ≡ none_dropped
  unfolding dropped_of
  dropped-none = rw (nothing_dropped geometric, nothing_dropped texture, nothing_dropped normal, nothing_dropped parametric) refl

  pub rows_same : (kind : VertexKind) → rows_after used t kind ≡ take (width_in kind * used_of_kind kind used) (table_in kind t)
  rows_same kind = rows_all (width_in kind) (named used t kind) (table_in kind t) (used_of_kind kind used) (all kind)

  -- ---- numbers
  new-same : (kind : VertexKind) (k : ℕ) → named used t kind k ≡ true → k ≤ used_of_kind kind used → new_number (named used t kind) k ≡ k
  new-same kind k e h = new-named (named used t kind) k e ∙ kept-all (named used t kind) k (λ j a b. all kind j a (omega arith))

  module _ (s : Standing used t) (i j : ℕ) (h : i < used.elements) (l : j < (element_at t i).corners.count) where
    abbrev e : ℕ
    e = (element_at t i).kind

    abbrev c : Corner
    c = corner_at t (element_at t i).corners j

    held_same : (kind : VertexKind) → new_number (named used t kind) (reference_in kind t i j) ≡ reference_in kind t i j
    held_same kind = let r = reference-in used t s kind i j h l in new-same kind (reference_in kind t i j) r.names r.within

    first-same : (b : Bool) → new_number (named used t geometric) (cond b 0 c.v) ≡ cond b 0 c.v
        → new_number (named used t parametric) (cond b c.v 0) ≡ cond b c.v 0
        → cond b (new_number (named used t parametric) c.v) (new_number (named used t geometric) c.v) ≡ c.v
    first-same true g p = p
    first-same false g p = g

    pub corner-same : corner_after used t e c ≡ corner_numbers c
    corner-same =
        ap₂ (λ (x y : ℕ). x ∷ y ∷ new_number (named used t normal) c.vn ∷ []) (first-same (eqb e 5) (held_same geometric) (held_same parametric)) (held_same texture)
        ∙ ap (λ (z : ℕ). c.v ∷ c.vt ∷ z ∷ []) (held_same normal)
