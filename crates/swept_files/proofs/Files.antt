-- The sweep of an accepted text's tables leaves the tables of the model without its unnamed vertices; and its tidy text has the same lines, renumbered.
use Prim.Native.Nat.{ℕ, suc, ◌+◌, ◌*◌, ◌-◌, ◌≤◌}
use mathlib.Core.Path.{◌≡◌, refl, sym, ap, ap₂, ◌∙◌, subst}
use mathlib.Core.Bool.{Bool, true, false, cond}
use mathlib.Core.List.{List, [], ◌∷◌, ◌++◌, map}
use native.Mathlib.Omega.{arith}
use lib.ListN.{length, take, replicate, length-append, length-replicate, length-map}
use lib.IntN.{ℤ, pos}
use Rattle.lists.specs.Lists.{flat, filled}
use Rattle.tables.specs.Tables.{Tables}
use Rattle.tables.specs.declared.Used.{Used}
use Rattle.tables.proofs.Filled.{length-filled}
use Rattle.model.proofs.Rooms.{fits-parts}
use Rattle.model.specs.Model.{VertexKind, geometric, texture, normal, parametric, Body, Element, Model, is_curve2}
use Rattle.model.specs.Room.{Rooms, summed, of_kind, part_count}
use Rattle.model.specs.Read.{read, read_of}
use Rattle.model.specs.Layout.{corner_rows, element_row, element_rows, body_of_kind, bodies_of, body_rows, range_row, parameter_row, loop_rows, span_rows, itself, tables_of, used_of}
use Rattle.model.proofs.Rows.{corner_rows-length, element_rows-length, body_rows-length, range_rows-length, parameter_rows-length, loop_rows-length, span_rows-length}
use Rattle.reader.specs.Reading.{rooms_of, read_into, ReadAnswer, answered}
use Rattle.tidy_form.proofs.Good.{GoodVertices}
use Rattle.tidy_form.proofs.Reading.{read-came}
use Rattle.model.proofs.Placed.{wide-length}
use Rattle.model.proofs.Stands.{Stands, stands-filled, stands-used}
use Rattle.sampled_files.proofs.Vertices.{width}
use Rattle.model.proofs.Laid.{laid}
use Rattle.tidy_form.proofs.Placed.{vertices-wide, kept}
use Rattle.sweep_marks.specs.Counting.{kept_upto, kept_rows}
use Rattle.sweep.specs.Named.{width_in, named, corners_after}
use Rattle.sweep.specs.Swept.{swept_used, swept_tables}
use Rattle.swept_files.specs.Files.{named_in, kept_of, swept_corner, swept_element, swept_model, SweptFiles}
use Rattle.swept_files.proofs.ByIndex.{kept-length}
use Rattle.swept_files.proofs.NamedIn.{width_is, named-same, rows_left, corners-after}

-- ---- a lent table filled again, over its length
module _ {A : Type 0} (n : ℕ) (z : A) (xs : List A) where
  refilled : (ys : List A) → length ys ≡ length xs → filled (length (filled n z xs)) z ys ≡ filled n z ys
  refilled ys e =
      let l : length (filled n z xs) ≡ length xs + (n - length xs) = length-append xs (replicate (n - length xs) z) ∙ ap (λ (k : ℕ). length xs + k) (length-replicate (n - length xs) z) in
      ap (λ (k : ℕ). ys ++ replicate k z) (let q : length (filled n z xs) - length ys ≡ n - length ys = omega arith in q)

  -- with what is used of it
  kept_whole : (k : ℕ) → length xs ≡ k → filled (length (filled n z xs)) z (take k (filled n z xs)) ≡ filled n z xs
  kept_whole k e = ap (filled (length (filled n z xs)) z) (stands-used (filled n z xs) xs k e (stands-filled n z xs)) ∙ refilled xs refl

-- ---- what the elements of a swept model keep
module _ (m : Model) where
  pub bodies_kept : (es : List Element) → bodies_of (map (swept_element m) es) ≡ bodies_of es
  bodies_kept [] = refl
  bodies_kept (e ∷ es) = ap (λ (r : List Body). body_of_kind e.kind ++ r) (bodies_kept es)

  pub corners-kept : (es : List Element) → summed (λ e. length e.corners) (map (swept_element m) es) ≡ summed (λ e. length e.corners) es
  corners-kept [] = refl
  corners-kept (e ∷ es) = ap₂ (λ (a b : ℕ). a + b) (length-map e.corners _) (corners-kept es)

  rows-kept : (c b : ℕ) (es : List Element) → element_rows c b (map (swept_element m) es) ≡ element_rows c b es
  rows-kept c b [] = refl
  rows-kept c b (e ∷ es) =
      rw (length-map e.corners (swept_corner m (is_curve2 e.kind)))
      (ap (λ (r : List ℕ). element_row c b e ++ r) (rows-kept (c + 3 * length e.corners) (b + of_kind (λ x. 1) e.kind) es))

-- ---- vertices: fewer rows, in a table of the same length
pub kept-fewer : {A : Type 0} (f : ℕ → Bool) (xs : List A) → length (kept_of f xs) ≤ length xs
kept-fewer f [] = omega arith
kept-fewer f (x ∷ xs) = let e = kept-fewer (λ k. f (suc k)) xs in go (f 1) e
  where
    go : (q : Bool) → length (kept_of (λ k. f (suc k)) xs) ≤ length xs → length (cond q (x ∷ kept_of (λ k. f (suc k)) xs) (kept_of (λ k. f (suc k)) xs)) ≤ suc (length xs)
    go true l = omega arith
    go false l = omega arith

module _ (R : Rooms) (s : List ℕ) (m : Model) (h : read_of R s ≡ read m) where
  abbrev t : Tables
  t = tables_of R m

  abbrev u : Used
  u = used_of m

  abbrev es : List Element
  es = m.elements

  abbrev bs : List Body
  bs = bodies_of es

  count_left : (kind : VertexKind) (zs : List (List ℤ)) → kept_upto (named u t kind) (length zs) ≡ length (kept_of (named_in m kind) zs)
  count_left kind zs = ap (λ (f : ℕ → Bool). kept_upto f (length zs)) (named-same R s m h kind) ∙ kept-length (named_in m kind) zs

  table-left : (kind : VertexKind) (n : ℕ) (zs : List (List ℤ)) → GoodVertices kind zs → Stands (filled n (pos 0) (flat itself zs)) 0 (flat itself zs) → width_in kind * length zs ≤ n
      → filled (length (filled n (pos 0) (flat itself zs))) (pos 0) (kept_rows (width_in kind) (named u t kind) (filled n (pos 0) (flat itself zs)) (length zs))
      ≡ filled n (pos 0) (flat itself (kept_of (named_in m kind) zs))
  table-left kind n zs g l r =
      let w : length (flat itself zs) ≡ width_in kind * length zs = wide-length (width kind) zs (vertices-wide kind zs g) ∙ ap (λ (k : ℕ). k * length zs) (width_is kind) in
      ap₂ (λ (k : ℕ) (x : List ℤ). filled k (pos 0) x) (length-filled n (pos 0) (flat itself zs) (omega arith))
      (ap (λ (f : ℕ → Bool). kept_rows (width_in kind) f (filled n (pos 0) (flat itself zs)) (length zs)) (named-same R s m h kind) ∙ rows_left kind (filled n (pos 0) (flat itself zs)) zs g l (named_in m kind))

  pub used-left : swept_used u t ≡ used_of (swept_model m)
  unfolding swept_used used_of swept_model
  used-left i =
      record {
        v = count_left geometric m.vertices.v i;
        vt = count_left texture m.vertices.vt i;
        vn = count_left normal m.vertices.vn i;
        vp = count_left parametric m.vertices.vp i;
        corners = 3 * sym (corners-kept m es) i;
        elements = sym (length-map es (swept_element m)) i;
        bodies = length (sym (bodies_kept m es) i);
        parameters = summed (λ b. length b.us + length b.vs) (sym (bodies_kept m es) i);
        loops = summed part_count (sym (bodies_kept m es) i);
      }

  pub tables-left : swept_tables u t ≡ tables_of R (swept_model m)
  unfolding swept_tables tables_of used_of swept_model
  tables-left i =
      let c = read-came R s m h in
      let w = fits-parts R c.state c.room in
      let K = kept R s m h in
      let L = laid R m in
      record {
        vertices = record {
          v = table-left geometric R.vertices.v m.vertices.v K.v L.v (subst (λ (k : Model). 4 * length k.vertices.v ≤ R.vertices.v) c.model w.vertices.v) i;
          vt = table-left texture R.vertices.vt m.vertices.vt K.vt L.vt (subst (λ (k : Model). 3 * length k.vertices.vt ≤ R.vertices.vt) c.model w.vertices.vt) i;
          vn = table-left normal R.vertices.vn m.vertices.vn K.vn L.vn (subst (λ (k : Model). 3 * length k.vertices.vn ≤ R.vertices.vn) c.model w.vertices.vn) i;
          vp = table-left parametric R.vertices.vp m.vertices.vp K.vp L.vp (subst (λ (k : Model). 4 * length k.vertices.vp ≤ R.vertices.vp) c.model w.vertices.vp) i;
        };
        elements = record {
          corners = corners-left i;
          elements = (kept_whole R.elements.elements 0 (element_rows 0 0 es) (9 * length es) (element_rows-length 0 0 es) ∙ ap (filled R.elements.elements 0) (sym (rows-kept m 0 0 es))) i;
        };
        bodies = record {
          bodies = (kept_whole R.bodies.bodies 0 (body_rows 0 0 bs) (9 * length bs) (body_rows-length 0 0 bs) ∙ ap (λ (x : List Body). filled R.bodies.bodies 0 (body_rows 0 0 x)) (sym (bodies_kept m es))) i;
          ranges = (kept_whole R.bodies.ranges (pos 0) (flat range_row bs) (4 * length bs) (range_rows-length bs) ∙ ap (λ (x : List Body). filled R.bodies.ranges (pos 0) (flat range_row x)) (sym (bodies_kept m es))) i;
          parameters = (kept_whole R.bodies.parameters (pos 0) (flat parameter_row bs) (summed (λ b. length b.us + length b.vs) bs) (parameter_rows-length bs) ∙ ap (λ (x : List Body). filled R.bodies.parameters (pos 0) (flat parameter_row x)) (sym (bodies_kept m es))) i;
          loops = (kept_whole R.bodies.loops 0 (flat loop_rows bs) (2 * summed part_count bs) (loop_rows-length bs) ∙ ap (λ (x : List Body). filled R.bodies.loops 0 (flat loop_rows x)) (sym (bodies_kept m es))) i;
          spans = (kept_whole R.bodies.spans (pos 0) (flat span_rows bs) (2 * summed part_count bs) (span_rows-length bs) ∙ ap (λ (x : List Body). filled R.bodies.spans (pos 0) (flat span_rows x)) (sym (bodies_kept m es))) i;
        };
      }
    where
      corners-left : filled (length (filled R.elements.corners 0 (flat corner_rows es))) 0 (corners_after u t) ≡ filled R.elements.corners 0 (flat corner_rows (map (swept_element m) es))
      corners-left =
          ap (filled (length (filled R.elements.corners 0 (flat corner_rows es))) 0) (corners-after R s m h)
          ∙ refilled R.elements.corners 0 (flat corner_rows es) (flat corner_rows (map (swept_element m) es))
          (corner_rows-length (map (swept_element m) es) ∙ ap (λ (k : ℕ). 3 * k) (corners-kept m es) ∙ sym (corner_rows-length es))

pub swept-files : SweptFiles
unfolding read_into
swept-files s S m h =
    let R = rooms_of S in
    let r : read_into s S ≡ answered S (read m) = ap (answered S) h in
    record {
      used = ap (λ (q : ReadAnswer). swept_used q.outcome.used q.tables) r ∙ used-left R s m h;
      tables = ap (λ (q : ReadAnswer). swept_tables q.outcome.used q.tables) r ∙ tables-left R s m h;
    }
