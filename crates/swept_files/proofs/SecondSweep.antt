-- "A second sweep changes no table": every record that is left is named, since the corner that named it still does.
use Prim.Native.Nat.{ℕ, zero, suc, ◌*◌, ◌≤◌, ◌<◌}
use mathlib.Core.Path.{◌≡◌, sym, ap, ap₂, ◌∙◌, subst}
use mathlib.Core.List.{List}
use mathlib.Core.Bool.{true}
use native.Mathlib.Omega.{arith}
use native.Mathlib.Nat.{mul-le-mul_left}
use lib.ListN.{length}
use lib.IntN.{ℤ, pos}
use Rattle.lists.specs.Lists.{filled}
use Rattle.tables.specs.Tables.{Tables}
use Rattle.tables.proofs.Groups.{vertex-tables-eq, element-tables-eq, body-tables-eq, tables-eq}
use Rattle.tables.specs.Records.{element_at, corner_at}
use Rattle.tables.specs.declared.Used.{Used}
use Rattle.tables.specs.declared.Element.{Element}
use Rattle.model.specs.Model.{VertexKind, geometric, texture, normal, parametric}
use Rattle.table_rules.specs.Whole.{whole_obeys}
use Rattle.sweep_marks.specs.Counting.{kept_upto, new_number, flat_below}
use Rattle.sweep.specs.Named.{used_of_kind, table_in, width_in, named, corner_after, corners_after}
use Rattle.sweep.specs.Swept.{SweepAnswer, numbers_needed, rows_after, swept_used, swept_tables, swept_answer, sweep_into}
use Rattle.swept_files.specs.Promises.{reference_in, AllNamed, Unchanged}
use Rattle.sweep_marks.proofs.Counting.{kept-most}
use Rattle.swept_files.proofs.Counting.{kept-named, new-named}
use Rattle.sweep_marks.proofs.FlatBelow.{flat_below-same}
use Rattle.swept_files.proofs.Parts.{front, front-filled, front-again}
use Rattle.swept_files.proofs.Rows.{rows-length}
use Rattle.swept_files.proofs.OneKind.{lent-in, used-in, table-in, moved-from}
use Rattle.swept_files.proofs.Others.{fronts, elements_same}
use Rattle.swept_files.proofs.CornersAfter.{corners-table, corner-after, named-held, holder}
use Rattle.swept_files.proofs.Counted.{same-counts}
use Rattle.swept_files.proofs.Standing.{Standing, standing, reference-in}
use Rattle.swept_files.proofs.ElementAfter.{corners-lent}
use Rattle.swept_files.proofs.SweptObeys.{swept-obeys}
use Rattle.swept_files.proofs.Given.{sweep-is}
use Rattle.tables.specs.Rows.{corner_numbers}
use Rattle.swept_files.proofs.AllNamed.{used-same, dropped-none, rows_same, corner-same}

module _ (used : Used) (t : Tables) (h : whole_obeys used t ≡ true) where
  abbrev U : Used
  U = swept_used used t

  abbrev W : Tables
  W = swept_tables used t

  s : Standing used t
  s = standing used t h

  again : Standing U W
  again = standing U W (swept-obeys used t h)

  still-named : (kind : VertexKind) (k : ℕ) → 1 ≤ k → k ≤ used_of_kind kind U → named U W kind k ≡ true
  still-named kind zero a b = absurd (omega arith)
  still-named kind (suc m) a b =
      let f = named used t kind in
      let o = moved-from used t s.lent kind m b in
      let x = holder used t kind (suc o.index) o.passes in
      let i = x.element in
      let j = x.corner in
      let r = reference-in used t s kind i j x.used-one x.one-of-its in
      let g : reference_in kind W i j ≡ suc m =
      r.after ∙ ap (λ (k : ℕ). new_number f k) x.holds ∙ new-named f (suc o.index) o.passes ∙ kept-named f o.index o.passes ∙ o.counted in
      let p : i < U.elements = (let c = (same-counts used t).elements in let d = x.used-one in omega arith) in
      let q : j < (element_at W i).corners.count = (let c = ap (λ (e : Element). e.corners.count) (elements_same used t s.lent i x.used-one) in let d = x.one-of-its in omega arith) in
      subst (λ (k : ℕ). named U W kind k ≡ true) g (named-held U W kind i j p q)

  -- ---- each table
  rows-again : (kind : VertexKind) → table_in kind (swept_tables U W) ≡ table_in kind W
  rows-again kind =
      let f = named used t kind in
      let w = width_in kind in
      let n = used_of_kind kind used in
      let l = table_in kind t in
      let lent = lent-in used t s.lent kind in
      let k : w * kept_upto f n ≤ length l = (let q = mul-le-mul_left w (kept-most f n) in omega arith) in
      table-in U W kind
      ∙ ap (filled (length (table_in kind W)) (pos 0)) (rows_same U W still-named kind)
      ∙ ap₂ (λ (x : ℕ) (y : List ℤ). front (pos 0) (w * x) y) (used-in used t kind) (table-in used t kind)
      ∙ front-filled (length l) (pos 0) (rows_after used t kind) (w * kept_upto f n) (rows-length w f l n lent) k
      ∙ sym (table-in used t kind)

  corner-again : (i j : ℕ) → i < used.elements → j < (element_at t i).corners.count
      → corner_after U W (element_at t i).kind (corner_at W (element_at t i).corners j) ≡ corner_after used t (element_at t i).kind (corner_at t (element_at t i).corners j)
  corner-again i j a b =
      let e = elements_same used t s.lent i a in
      let p : i < U.elements = (let c = (same-counts used t).elements in omega arith) in
      let q : j < (element_at W i).corners.count = (let c = ap (λ (e : Element). e.corners.count) e in omega arith) in
      sym (ap (λ (e : Element). corner_after U W e.kind (corner_at W e.corners j)) e)
      ∙ corner-same U W still-named again i j p q
      ∙ ap (λ (e : Element). corner_numbers (corner_at W e.corners j)) e
      ∙ ap corner_numbers (corner-after used t i j a b (s.follows i a))

  corners-same : corners_after U W ≡ corners_after used t
  unfolding corners_after
  corners-same =
      let run : Used → Tables → Element → List ℕ = λ u w e. flat_below e.corners.count (λ j. corner_after u w e.kind (corner_at w e.corners j)) in
      ap (λ (n : ℕ). flat_below n (λ i. run U W (element_at W i))) (same-counts used t).elements
      ∙ flat_below-same (λ i. run U W (element_at W i)) (λ i. run used t (element_at t i)) used.elements
      (λ i a.
      ap (run U W) (elements_same used t s.lent i a)
      ∙ flat_below-same (λ j. corner_after U W (element_at t i).kind (corner_at W (element_at t i).corners j))
      (λ j. corner_after used t (element_at t i).kind (corner_at t (element_at t i).corners j)) (element_at t i).corners.count (λ j b. corner-again i j a b))

  corners-again : (swept_tables U W).elements.corners ≡ W.elements.corners
  corners-again =
      corners-table U W ∙ ap₂ (λ (n : ℕ) (x : List ℕ). filled n 0 x) (corners-lent used t s) corners-same ∙ sym (corners-table used t)

  front_same : {A : Type 0} (z : A) (k m : ℕ) (l x : List A) → x ≡ front z m l → k ≡ m → m ≤ length l → front z k x ≡ x
  front_same {A} z k m l x e n b = ap₂ (λ (n : ℕ) (y : List A). front z n y) n e ∙ front-again z m l b ∙ sym e

  tables-again : swept_tables U W ≡ W
  tables-again =
      let c = same-counts used t in
      let l = s.lent in
      tables-eq (vertex-tables-eq (rows-again geometric) (rows-again texture) (rows-again normal) (rows-again parametric))
      (element-tables-eq corners-again
      ((fronts U W).elements ∙ front_same 0 (9 * U.elements) (9 * used.elements) t.elements.elements W.elements.elements (fronts used t).elements (ap (λ (n : ℕ). 9 * n) c.elements) l.elements.elements))
      (body-tables-eq
      ((fronts U W).bodies ∙ front_same 0 (9 * U.bodies) (9 * used.bodies) t.bodies.bodies W.bodies.bodies (fronts used t).bodies (ap (λ (n : ℕ). 9 * n) c.bodies) l.bodies.bodies)
      ((fronts U W).ranges ∙ front_same (pos 0) (4 * U.bodies) (4 * used.bodies) t.bodies.ranges W.bodies.ranges (fronts used t).ranges (ap (λ (n : ℕ). 4 * n) c.bodies) l.bodies.ranges)
      ((fronts U W).parameters ∙ front_same (pos 0) U.parameters used.parameters t.bodies.parameters W.bodies.parameters (fronts used t).parameters c.parameters l.bodies.parameters)
      ((fronts U W).loops ∙ front_same 0 (2 * U.loops) (2 * used.loops) t.bodies.loops W.bodies.loops (fronts used t).loops (ap (λ (n : ℕ). 2 * n) c.loops) l.bodies.loops)
      ((fronts U W).spans ∙ front_same (pos 0) (2 * U.loops) (2 * used.loops) t.bodies.spans W.bodies.spans (fronts used t).spans (ap (λ (n : ℕ). 2 * n) c.loops) l.bodies.spans))

pub all_named : (used : Used) (t : Tables) → whole_obeys used t ≡ true → AllNamed (swept_used used t) (swept_tables used t)
all_named used t h kind k a b = holder (swept_used used t) (swept_tables used t) kind k (still-named used t h kind k a b)

pub second-sweep : (used : Used) (t : Tables) (numbers : List ℕ) → whole_obeys used t ≡ true → (list : List ℕ) → numbers_needed (swept_used used t) ≤ length list
    → Unchanged (swept_answer used t numbers) (sweep_into (swept_used used t) (swept_tables used t) list)
second-sweep used t numbers h list room =
    let e = sweep-is (swept_used used t) (swept_tables used t) list (swept-obeys used t h) room in
    record {
      given = ap (λ (a : SweepAnswer). a.outcome.number) e;
      used = ap (λ (a : SweepAnswer). a.outcome.used) e ∙ used-same (swept_used used t) (swept_tables used t) (still-named used t h);
      dropped = ap (λ (a : SweepAnswer). a.outcome.dropped) e ∙ dropped-none (swept_used used t) (swept_tables used t) (still-named used t h);
      tables = ap (λ (a : SweepAnswer). a.tables) e ∙ tables-again used t h;
    }
