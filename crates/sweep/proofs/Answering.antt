-- The answer put together: a refusal, or what the passes have left, each table by its own equation.
use Prim.Native.Nat.{ℕ, zero, suc, ◌+◌, ◌*◌, ◌-◌, ◌≤◌, ◌<◌}
use mathlib.Core.Path.{◌≡◌, refl, sym, ap, ap₂, ◌∙◌}
use mathlib.Core.List.{List, [], ◌∷◌, ◌++◌, append_assoc}
use mathlib.Core.Bool.{Bool, true, false, cond}
use mathlib.Core.Logic.{◌⊎◌, inl, inr}
use native.Mathlib.Omega.{arith}
use borrow.Author.Tests.{leb-true, le-leb}
use lib.Dec.{leb, eqb}
use lib.IntN.{ℤ, pos}
use lib.ListN.{length, get_or, take, drop, length-append, get_or-append}
use lib.Seq.{sets, sets-eq, length-sets, take_at, get_or-append-add}
use Rattle.lists.specs.Lists.{filled}
use Rattle.lists.proofs.Tests.{test}
use Rattle.tables.proofs.Groups.{vertex-tables-eq, element-tables-eq, body-tables-eq, tables-eq}
use Rattle.tables.specs.Tables.{Tables, tables}
use Rattle.tables.specs.Records.{element_at, corner_at, curve2_kind}
use Rattle.tables.specs.declared.Used.{Used}
use Rattle.tables.specs.declared.Corner.{Corner}
use Rattle.model.specs.Model.{VertexKind, geometric, texture, normal, parametric}
use Rattle.table_rules.specs.Whole.{whole_obeys}
use Rattle.tables.specs.Rows.{corner_numbers}
use Rattle.sweep_marks.specs.Marks.{number_listed, corner_by, marked_run, runs_by, corners_upto}
use Rattle.sweep_marks.proofs.Counting.{kept-dropped, kept-most}
use Rattle.sweep_marks.proofs.FlatBelow.{flat_below-same}
use Rattle.sweep_marks.proofs.Numbering.{length-numbers, numbers-at}
use Rattle.sweep_rows.proofs.Renumbering.{length_runs}
use Rattle.sweep.specs.Named.{named, reference, used_of_kind, new_number, new_numbers, corner_after, corners_after}
use Rattle.sweep.specs.Swept.{sweep_answer, sweep_into, swept_used, dropped_of, swept_tables, swept_numbers, numbers_needed, kept_in, dropped_in, swept_answer, refused_sweep}
use Rattle.sweep.specs.Vertices.{VerticesSwept, fewer, sweep_refusal}
use Rattle.sweep.specs.declared.Dropped.{Dropped}
use Rattle.std.specs.Prelude.{Result, Ok, Err}
use Rattle.refusals.specs.declared.Reason.{Reason}
use Rattle.refusals.specs.declared.Reason.TheVariants.{BrokenRecord, NoOutputRoom}
use Rattle.tables.specs.VertexTables.{VertexTables, vertex_tables}
use Rattle.tables.specs.ElementTables.{element_tables}
use Rattle.tables.specs.BodyTables.{body_tables}
use Rattle.table_rules.proofs.Lent.{Lent, lent-facts}
use Rattle.sweep.proofs.Whole.{whole_parts}
use Rattle.sweep.proofs.References.{references-within, corners-follow, corners-end}

-- ---- a number looked up is the record's new number
module _ (f : ℕ → Bool) (n : ℕ) where
  pub number_is : (list pre post : List ℕ) (base k : ℕ) → list ≡ pre ++ (new_numbers f n ++ post) → length pre ≡ base → k ≤ n → number_listed list base k ≡ new_number f k
  number_is list pre post base zero e b h = go (f 0)
    where
      go : (z : Bool) → ◌≡◌ {A = ℕ} 0 (cond z 0 0)
      go true = refl
      go false = refl
  number_is list pre post base (suc i) e b h =
      let N : List ℕ = new_numbers f n in
      let long : length N ≡ n = length-numbers f n in
      let k : i < length N = omega arith in
      ap₂ (λ (x : List ℕ) (m : ℕ). get_or x (m + i) 0) e (sym b) ∙ get_or-append-add pre (N ++ post) i 0 ∙ get_or-append N post 0 i k ∙ numbers-at f n i h

module _ (used : Used) (t : Tables) (rest : List ℕ) where
  abbrev list : List ℕ
  list = swept_numbers used t ++ rest

  abbrev N : VertexKind → List ℕ
  N kind = new_numbers (named used t kind) (used_of_kind kind used)

  long : (kind : VertexKind) → length (N kind) ≡ used_of_kind kind used
  long kind = length-numbers (named used t kind) (used_of_kind kind used)

  split-v : list ≡ [] ++ (N geometric ++ (N texture ++ (N normal ++ (N parametric ++ rest))))
  unfolding swept_numbers
  split-v = simp append_assoc

  split-vt : list ≡ N geometric ++ (N texture ++ (N normal ++ (N parametric ++ rest)))
  unfolding swept_numbers
  split-vt = simp append_assoc

  split-vn : list ≡ (N geometric ++ N texture) ++ (N normal ++ (N parametric ++ rest))
  unfolding swept_numbers
  split-vn = simp append_assoc

  split-vp : list ≡ ((N geometric ++ N texture) ++ N normal) ++ (N parametric ++ rest)
  unfolding swept_numbers
  split-vp = simp append_assoc

  two-long : length (N geometric ++ N texture) ≡ used.v + used.vt
  two-long = length-append (N geometric) (N texture) ∙ ap₂ (λ (a b : ℕ). a + b) (long geometric) (long texture)

  three-long : length ((N geometric ++ N texture) ++ N normal) ≡ used.v + used.vt + used.vn
  three-long = length-append (N geometric ++ N texture) (N normal) ∙ ap₂ (λ (a b : ℕ). a + b) two-long (long normal)

  -- a corner whose numbers are those of used records
  module _ (e : ℕ) (c : Corner) (within : (kind : VertexKind) → reference kind e c ≤ used_of_kind kind used) where
    first-after : number_listed list (cond (eqb e curve2_kind) (used.v + used.vt + used.vn) 0) c.v
        ≡ cond (eqb e curve2_kind) (new_number (named used t parametric) c.v) (new_number (named used t geometric) c.v)
    first-after = go (test (eqb e curve2_kind))
      where
        go : (eqb e curve2_kind ≡ true) ⊎ (eqb e curve2_kind ≡ false) →
            number_listed list (cond (eqb e curve2_kind) (used.v + used.vt + used.vn) 0) c.v
            ≡ cond (eqb e curve2_kind) (new_number (named used t parametric) c.v) (new_number (named used t geometric) c.v)
        go (inl z) =
            let h : c.v ≤ used.vp = rw z at (within parametric) in
            rw z (number_is (named used t parametric) used.vp list ((N geometric ++ N texture) ++ N normal) rest (used.v + used.vt + used.vn) c.v split-vp three-long h)
        go (inr z) =
            let h : c.v ≤ used.v = rw z at (within geometric) in
            rw z (number_is (named used t geometric) used.v list [] (N texture ++ (N normal ++ (N parametric ++ rest))) 0 c.v split-v refl h)

    corner-after : corner_numbers (corner_by used list e c) ≡ corner_after used t e c
    unfolding corner_by
    corner-after =
        let a = first-after in
        let b = number_is (named used t texture) used.vt list (N geometric) _ used.v c.vt split-vt (long geometric) (within texture) in
        let d = number_is (named used t normal) used.vn list (N geometric ++ N texture) _ (used.v + used.vt) c.vn split-vn two-long (within normal) in
        ap₂ (λ (x : ℕ) (y : List ℕ). x ∷ y) a (ap₂ (λ (x y : ℕ). x ∷ y ∷ []) b d)

  module _ (h : whole_obeys used t ≡ true) where
    runs-are : runs_by used list t.elements.elements t.elements.corners used.elements ≡ corners_after used t
    unfolding runs_by marked_run corners_after
    runs-are =
        flat_below-same _ _ used.elements (λ i l.
        flat_below-same _ _ (element_at t i).corners.count (λ j k.
        corner-after (element_at t i).kind (corner_at t (element_at t i).corners j) (λ kind. references-within used t h kind i j l k)))

    -- the corners renumbered, and the entries after the used ones cleared
    pub corners-are : {once twice : List ℕ} → used.corners ≤ length t.elements.corners → once ≡ sets t.elements.corners 0 (runs_by used list t.elements.elements t.elements.corners used.elements) →
        twice ≡ filled (length once) 0 (take used.corners once) → twice ≡ filled (length t.elements.corners) 0 (corners_after used t)
    corners-are {once} {twice} lent a b =
        let xs : List ℕ = runs_by used list t.elements.elements t.elements.corners used.elements in
        let many : length xs ≡ used.corners = length_runs used list t.elements.elements t.elements.corners used.elements ∙ corners-end used t h in
        let fits : 0 + length xs ≤ length t.elements.corners = omega arith in
        let stored : once ≡ xs ++ drop (0 + length xs) t.elements.corners = a ∙ sets-eq xs t.elements.corners 0 fits in
        b
        ∙ ap₂ (λ (n : ℕ) (x : List ℕ). filled n 0 x) (ap length a ∙ length-sets t.elements.corners 0 xs) (ap (take used.corners) stored ∙ take_at xs _ used.corners many)
        ∙ ap (filled (length t.elements.corners) 0) runs-are

-- ---- refused
module _ (used : Used) (t : Tables) (list : List ℕ) where
  pub refused-is : {r : Reason} → Err r ≡ sweep_refusal used t (length list) → sweep_answer (Err r) t list ≡ sweep_into used t list
  unfolding sweep_refusal sweep_into
  refused-is {r} e = go (whole_obeys used t) (leb (numbers_needed used) (length list)) e
    where
      go : (w room : Bool) → Err r ≡ cond w (cond room (Ok (tt {0})) (Err NoOutputRoom)) (Err BrokenRecord) →
          sweep_answer (Err r) t list ≡ cond w (cond room (swept_answer used t list) (refused_sweep NoOutputRoom t list)) (refused_sweep BrokenRecord t list)
      go true true a = let z : ◌≡◌ {A = Result (Unit {0}) Reason} (Err r) (Ok (tt {0})) = a in cc
      go true false a = let z : r ≡ NoOutputRoom = cc in rw z
      go false room a = let z : r ≡ BrokenRecord = cc in rw z

  -- what no refusal says
  pub record Passed : Type 0 where
    pub whole : whole_obeys used t ≡ true
    pub room : numbers_needed used ≤ length list

  pub passed : {x : Unit {0}} → Ok x ≡ sweep_refusal used t (length list) → Passed
  unfolding sweep_refusal
  passed {x} e = go (whole_obeys used t) (leb (numbers_needed used) (length list)) refl refl e
    where
      go : (w room : Bool) → whole_obeys used t ≡ w → leb (numbers_needed used) (length list) ≡ room → Ok x ≡ cond w (cond room (Ok (tt {0})) (Err NoOutputRoom)) (Err BrokenRecord) → Passed
      go true true a b h = record { whole = a; room = leb-true (numbers_needed used) (length list) b }
      go true false a b h = let z : ◌≡◌ {A = Result (Unit {0}) Reason} (Ok x) (Err NoOutputRoom) = h in cc
      go false room a b h = let z : ◌≡◌ {A = Result (Unit {0}) Reason} (Ok x) (Err BrokenRecord) = h in cc

  -- ---- swept: by the tables that the passes look at
  abbrev looked : Tables
  looked = tables t.vertices.v t.vertices.vt t.vertices.vn t.vertices.vp t.elements.corners t.elements.elements [] [] [] [] []

  module _ {after : Used} {v vt vn vp : List ℤ} {numbers : List ℕ} (s : VerticesSwept used looked list after v vt vn vp numbers) where
    in-full : VerticesSwept used t list after v vt vn vp numbers
    unfolding named swept_used swept_numbers
    in-full = record { counts = s.counts; v-is = s.v-is; vt_is = s.vt_is; vn_is = s.vn_is; vp-is = s.vp-is; numbers-are = s.numbers-are }

    pub fewer-left : (after.v ≤ used.v) × (after.vt ≤ used.vt) × (after.vn ≤ used.vn) × (after.vp ≤ used.vp)
    unfolding swept_used
    fewer-left =
        rw in-full.counts
        (kept-most (named used t geometric) used.v, kept-most (named used t texture) used.vt, kept-most (named used t normal) used.vn, kept-most (named used t parametric) used.vp)

    -- what is not kept is dropped
    left_over : (kind : VertexKind) → used_of_kind kind used - kept_in used t kind ≡ dropped_in used t kind
    left_over kind = let e = kept-dropped (named used t kind) (used_of_kind kind used) in omega arith

    dropped-are : fewer used after ≡ dropped_of used t
    unfolding swept_used dropped_of
    dropped-are = rw (in-full.counts, left_over geometric, left_over texture, left_over normal, left_over parametric)

    pub swept-is : Passed → {once corners elements bodies loops : List ℕ} {ranges parameters spans : List ℤ} {vertices : VertexTables} {dropped : Dropped}
        → used.corners ≤ length t.elements.corners
        → once ≡ sets t.elements.corners 0 (runs_by used numbers t.elements.elements t.elements.corners used.elements)
        → vertices ≡ vertex_tables v vt vn vp
        → corners ≡ filled (length once) 0 (take used.corners once)
        → elements ≡ filled (length t.elements.elements) 0 (take (9 * used.elements) t.elements.elements)
        → bodies ≡ filled (length t.bodies.bodies) 0 (take (9 * used.bodies) t.bodies.bodies)
        → ranges ≡ filled (length t.bodies.ranges) (pos 0) (take (4 * used.bodies) t.bodies.ranges)
        → parameters ≡ filled (length t.bodies.parameters) (pos 0) (take used.parameters t.bodies.parameters)
        → loops ≡ filled (length t.bodies.loops) 0 (take (2 * used.loops) t.bodies.loops)
        → spans ≡ filled (length t.bodies.spans) (pos 0) (take (2 * used.loops) t.bodies.spans)
        → dropped ≡ fewer used after
        → sweep_answer (Ok (record { used = after; dropped = dropped })) (record { vertices = vertices; elements = element_tables corners elements; bodies = body_tables bodies ranges parameters loops spans }) numbers ≡ sweep_into used t list
    unfolding sweep_into swept_tables
    swept-is p {once} {corners} {elements} {bodies} {loops} {ranges} {parameters} {spans} {vertices} {dropped} lent a w c e b r q l x d =
        let f = in-full in
        let moved : once ≡ sets t.elements.corners 0 (runs_by used (swept_numbers used t ++ drop (numbers_needed used) list) t.elements.elements t.elements.corners used.elements) =
        a ∙ ap (λ (k : List ℕ). sets t.elements.corners 0 (runs_by used k t.elements.elements t.elements.corners used.elements)) f.numbers-are in
        let all : ◌≡◌ {A = Tables} (record { vertices = vertices; elements = element_tables corners elements; bodies = body_tables bodies ranges parameters loops spans }) (swept_tables used t) =
        tables-eq (w ∙ vertex-tables-eq f.v-is f.vt_is f.vn_is f.vp-is)
        (element-tables-eq (corners-are used t (drop (numbers_needed used) list) p.whole lent moved c) e) (body-tables-eq b r q l x) in
        let left : dropped ≡ dropped_of used t = d ∙ dropped-are in
        let counts : after ≡ swept_used used t = f.counts in
        let listed : numbers ≡ swept_numbers used t ++ drop (numbers_needed used) list = f.numbers-are in
        ap₂ (λ (y : Used) (z : Dropped). sweep_answer (Ok (record { used = y; dropped = z })) (record { vertices = vertices; elements = element_tables corners elements; bodies = body_tables bodies ranges parameters loops spans }) numbers) counts left
        ∙ ap₂ (λ (y : Tables) (z : List ℕ). sweep_answer (Ok (record { used = swept_used used t; dropped = dropped_of used t })) y z) all listed
        ∙ rw (p.whole, le-leb (numbers_needed used) (length list) p.room)

-- ---- what the passes ask for
module _ (used : Used) (t : Tables) (list : List ℕ) (p : Passed used t list) where
  pub lent : Lent used t
  lent = lent-facts used t (whole_parts used t p.whole).lent

  pub vertices-lent : (4 * used.v ≤ length t.vertices.v) × (3 * used.vt ≤ length t.vertices.vt) × (3 * used.vn ≤ length t.vertices.vn) × (4 * used.vp ≤ length t.vertices.vp) × (numbers_needed used ≤ length list)
  vertices-lent = (lent.vertices.v, lent.vertices.vt, lent.vertices.vn, lent.vertices.vp, p.room)

  pub corners-lent : ((i : ℕ) → i < used.elements → (element_at t i).corners.first ≡ corners_upto t.elements.elements i) × (corners_upto t.elements.elements used.elements ≤ length t.elements.corners)
  corners-lent = (corners-follow used t p.whole, rw (corners-end used t p.whole) lent.elements.corners)

  pub rest-lent : {n : ℕ} → n ≡ length t.elements.corners →
      (used.corners ≤ n) × (9 * used.elements ≤ length t.elements.elements) × (9 * used.bodies ≤ length t.bodies.bodies) × (4 * used.bodies ≤ length t.bodies.ranges) × (used.parameters ≤ length t.bodies.parameters) × (2 * used.loops ≤ length t.bodies.loops) × (2 * used.loops ≤ length t.bodies.spans)
  rest-lent e = (rw e lent.elements.corners, lent.elements.elements, lent.bodies.bodies, lent.bodies.ranges, lent.bodies.parameters, lent.bodies.loops, lent.bodies.spans)
