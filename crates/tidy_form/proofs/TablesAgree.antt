-- Demand 2, of the lent tables: those of two accepted texts agree exactly where the models do. From the models the tables by the layout, and back by the law that
-- tables give their model back.
use Prim.Native.Nat.{ℕ, zero, suc, ◌+◌, ◌*◌, ◌-◌, ◌<◌}
use mathlib.Core.Path.{◌≡◌, refl, sym, ap, ap₂, ◌∙◌}
use mathlib.Core.List.{List, [], ◌∷◌, ◌++◌}
use mathlib.Core.Option.{Option, none, some}
use native.Mathlib.Omega.{arith}
use lib.ListN.{length, get_or, replicate, take}
use Rattle.lists.specs.Lists.{flat, filled}
use Rattle.text.specs.Words.{Word}
use Rattle.text.specs.Written.{bytes_of}
use Rattle.tables.specs.VertexTables.{VertexTables, vertex_tables, VertexRooms, vertex_filled, vertex_first}
use Rattle.tables.specs.BodyTables.{BodyTables, body_tables, BodyRooms, body_filled, body_first}
use Rattle.tables.specs.Tables.{Tables}
use Rattle.tables.specs.Records.{element_width, corner_width, number_at, element_at, v_width, vt_width, vn_width, vp_width, body_width, range_width, loop_width, span_width}
use Rattle.tables.specs.declared.Used.{Used}
use Rattle.tables.specs.declared.Element as records
use Rattle.tables.proofs.Groups.{vertex-tables-eq, element-tables-eq, body-tables-eq, tables-eq}
use Rattle.model.specs.Model.{Vertices, Body, Element, Model}
use Rattle.model.specs.Room.{Rooms, summed, of_kind, part_count, needed_vertices}
use Rattle.model.specs.Read.{read, read_of}
use Rattle.model.specs.Layout.{listed, kind_number, body_number, corner_rows, element_rows, body_of_kind, bodies_of, body_rows, range_row, parameter_row, loop_rows, span_rows, itself, tables_of, used_of, words_in}
use Rattle.model.specs.In.{each, vertices_from, first_of, element_from, model_in}
use Rattle.model.proofs.Rows.{corner_rows-length, element_rows-length, body_rows-length, range_rows-length, parameter_rows-length, loop_rows-length, span_rows-length}
use Rattle.model.proofs.Stands.{stands-used}
use Rattle.model.proofs.Placed.{wide-length, Placed}
use Rattle.model.proofs.Laid.{laid}
use Rattle.model.proofs.In.{model_in-placed}
use Rattle.tidy_form.specs.Agree.{words_at, unnamed, names_shown, TablesAgree}
use Rattle.tidy_form.specs.Bare.{bare_option, bare_element, bare_elements, bare, Agree}
use Rattle.tidy_form.proofs.Bare.{bare-words, summed-bare, length-bare}
use Rattle.tidy_form.proofs.SameTidy.{bytes-bare}
use Rattle.tidy_form.proofs.Layouts.{fives, unnamed-is, names_of, names_in, with_element_table, unnamed-at, group_at, material-at}
use Rattle.tidy_form.proofs.Placed.{read-placed}

-- ---- the layout looks at places in the elements' last four numbers alone
pub bodies-bare : (es : List Element) → bodies_of (bare_elements es) ≡ bodies_of es
bodies-bare [] = refl
bodies-bare (e ∷ es) = ap (λ (r : List Body). body_of_kind e.kind ++ r) (bodies-bare es)

pub corners-bare : (es : List Element) → flat corner_rows (bare_elements es) ≡ flat corner_rows es
corners-bare [] = refl
corners-bare (e ∷ es) = ap (λ (r : List ℕ). corner_rows e ++ r) (corners-bare es)

fives-bare : (c b : ℕ) (es : List Element) → fives c b (bare_elements es) ≡ fives c b es
fives-bare c b [] = refl
fives-bare c b (e ∷ es) =
    ap (λ (r : List ℕ). kind_number e.kind ∷ c ∷ length e.corners ∷ body_number e.kind b ∷ e.names.smoothing ∷ r)
    (fives-bare (c + corner_width * length e.corners) (b + of_kind (λ x. 1) e.kind) es)

option-bare : (o : Option Word) → bytes_of (listed (bare_option o)) ≡ bytes_of (listed o)
option-bare none = refl
option-bare (some w) = refl

words-bare : (es : List Element) → names_of (bare_elements es) ≡ names_of es
words-bare [] = refl
words-bare (e ∷ es) =
    ap₂ (λ (x y : List (List ℕ)). x ∷ y ∷ names_of (bare_elements es)) (bytes-bare e.names.group) (option-bare e.names.material)
    ∙ ap (λ (r : List (List (List ℕ))). bytes_of e.names.group ∷ bytes_of (listed e.names.material) ∷ r) (words-bare es)

-- what a layout holds of elements, places forgotten, is the same of elements that agree
pub agreed : {A : Type 0} (f : List Element → A) → ((es : List Element) → f (bare_elements es) ≡ f es) → (es fs : List Element) → bare_elements es ≡ bare_elements fs → f es ≡ f fs
agreed f h es fs e = sym (h es) ∙ ap f e ∙ h fs

-- ---- what is used of each table is the rows
abbrev vertex-rows : Vertices → VertexTables
vertex-rows x = vertex_tables (flat itself x.v) (flat itself x.vt) (flat itself x.vn) (flat itself x.vp)

abbrev body-rows : List Body → BodyTables
body-rows bs = body_tables (body_rows 0 0 bs) (flat range_row bs) (flat parameter_row bs) (flat loop_rows bs) (flat span_rows bs)

module _ (R : Rooms) (t : List ℕ) (m : Model) (p : Placed t m) where
  abbrev es : List Element
  es = m.elements

  abbrev bs : List Body
  bs = bodies_of es

  abbrev rooms : VertexRooms
  rooms = needed_vertices m.vertices

  abbrev body-rooms : BodyRooms
  body-rooms = record { bodies = body_width * length bs; ranges = range_width * length bs; parameters = summed (λ b. length b.us + length b.vs) bs; loops = loop_width * summed part_count bs; spans = span_width * summed part_count bs }

  record UsedRows : Type 0 where
    vertices : vertex_first rooms (tables_of R m).vertices ≡ vertex-rows m.vertices
    corners : take (corner_width * summed (λ e. length e.corners) es) (tables_of R m).elements.corners ≡ flat corner_rows es
    elements : unnamed (length es) (tables_of R m).elements.elements ≡ fives 0 0 es
    bodies : body_first body-rooms (tables_of R m).bodies ≡ body-rows bs
    names : names_shown t (length es) (tables_of R m).elements.elements ≡ names_of es

  used-rows : UsedRows
  unfolding tables_of
  used-rows =
      let x = m.vertices in
      let w = p.rows in
      let L = laid R m in
      let T = tables_of R m in
      let spare : List ℕ = replicate (R.elements.elements - length (element_rows 0 0 es)) 0 in
      record {
        vertices = vertex-tables-eq
            (stands-used T.vertices.v (flat itself x.v) (v_width * length x.v) (wide-length v_width x.v w.0) L.v)
            (stands-used T.vertices.vt (flat itself x.vt) (vt_width * length x.vt) (wide-length vt_width x.vt w.1) L.vt)
            (stands-used T.vertices.vn (flat itself x.vn) (vn_width * length x.vn) (wide-length vn_width x.vn w.2) L.vn)
            (stands-used T.vertices.vp (flat itself x.vp) (vp_width * length x.vp) (wide-length vp_width x.vp w.3) L.vp);
        corners = stands-used T.elements.corners (flat corner_rows es) (corner_width * summed (λ e. length e.corners) es) (corner_rows-length es) L.corners;
        elements = unnamed-is 0 0 es spare;
        bodies = body-tables-eq
            (stands-used T.bodies.bodies (body_rows 0 0 bs) (body_width * length bs) (body_rows-length 0 0 bs) L.bodies)
            (stands-used T.bodies.ranges (flat range_row bs) (range_width * length bs) (range_rows-length bs) L.ranges)
            (stands-used T.bodies.parameters (flat parameter_row bs) (summed (λ b. length b.us + length b.vs) bs) (parameter_rows-length bs) L.parameters)
            (stands-used T.bodies.loops (flat loop_rows bs) (loop_width * summed part_count bs) (loop_rows-length bs) L.loops)
            (stands-used T.bodies.spans (flat span_rows bs) (span_width * summed part_count bs) (span_rows-length bs) L.spans);
        names = names_in t 0 0 es spare p.names;
      }

-- ---- an element read back, places forgotten, from the first five numbers of its record and the words of its names
bare-first : (vs ws : List Word) → bytes_of vs ≡ bytes_of ws → bare_option (first_of vs) ≡ bare_option (first_of ws)
bare-first [] [] e = refl
bare-first [] (w ∷ ws) e = absurd (let z : ◌≡◌ {A = ℕ} 0 1 = cc in omega arith)
bare-first (v ∷ vs) [] e = absurd (let z : ◌≡◌ {A = ℕ} 0 1 = cc in omega arith)
bare-first (v ∷ vs) (w ∷ ws) e = let z : v.bytes ≡ w.bytes = cc in ap (λ (b : List ℕ). some (record { place = 0; bytes = b })) z

same_from : (t u : List ℕ) (T : Tables) (r q : records.Element) → r.kind ≡ q.kind → r.corners.first ≡ q.corners.first → r.corners.count ≡ q.corners.count → r.body ≡ q.body → r.smoothing ≡ q.smoothing
    → words_at t r.group ≡ words_at u q.group
    → words_at t r.material ≡ words_at u q.material
    → bare_element (element_from t T r) ≡ bare_element (element_from u T q)
same_from t u T r q e₁ e₂ e₃ e₄ e₅ g o =
    let b = bare-words (words_in t r.group) (words_in u q.group) g in
    let f = bare-first (words_in t r.material) (words_in u q.material) o in
    rw (e₁, e₂, e₃, e₄, e₅, b, f) refl

each_bare : (f g : ℕ → Element) (n i : ℕ) → ((k : ℕ) → k < i + n → bare_element (f k) ≡ bare_element (g k)) → bare_elements (each f n i) ≡ bare_elements (each g n i)
each_bare f g zero i h = refl
each_bare f g (suc n) i h = ap₂ (λ (x : Element) (xs : List Element). x ∷ xs) (h i (omega arith)) (each_bare f g n (suc i) (λ k l. h k (omega arith)))

-- ---- the theorem
module _ (R S : Rooms) (t u : List ℕ) (m n : Model) (h : Placed t m) (k : Placed u n) where
  -- from the models to the tables
  pub placed-agree : Agree m n → TablesAgree t (tables_of R m) (used_of m) u (tables_of S n) (used_of n)
  unfolding Agree bare used_of
  placed-agree e =
      let es = m.elements in
      let fs = n.elements in
      let x : m.vertices ≡ n.vertices = ap (λ (j : Model). j.vertices) e in
      let q : bare_elements es ≡ bare_elements fs = ap (λ (j : Model). j.elements) e in
      let b : bodies_of es ≡ bodies_of fs = agreed bodies_of bodies-bare es fs q in
      let l : length es ≡ length fs = agreed length length-bare es fs q in
      let c : summed (λ (e : Element). length e.corners) es ≡ summed (λ (e : Element). length e.corners) fs =
      agreed (summed (λ (e : Element). length e.corners)) (summed-bare (λ (e : Element). length e.corners) (λ e. refl)) es fs q in
      let M = used-rows R t m h in
      let N = used-rows S u n k in
      record {
        used = rw (x, c, l, b) refl;
        vertices = M.vertices ∙ ap vertex-rows x ∙ sym N.vertices;
        corners = M.corners ∙ agreed (flat corner_rows) corners-bare es fs q ∙ sym N.corners;
        elements = M.elements ∙ agreed (fives 0 0) (fives-bare 0 0) es fs q ∙ sym N.elements;
        bodies = M.bodies ∙ ap body-rows b ∙ sym N.bodies;
        names = M.names ∙ agreed names_of words-bare es fs q ∙ sym N.names;
      }

  -- ---- from the tables to the models, in one room: the tables differ in the names of elements alone
  module _ (a : TablesAgree t (tables_of R m) (used_of m) u (tables_of S n) (used_of n)) where
    abbrev M : UsedRows R t m h
    M = used-rows R t m h

    abbrev N : UsedRows S u n k
    N = used-rows S u n k

    abbrev T : Tables
    T = tables_of R m

    abbrev U : Tables
    U = tables_of R n

    pub others_same : with_element_table U.elements.elements T ≡ U
    unfolding tables_of used_of
    others_same =
        tables-eq (ap (vertex_filled R.vertices) (sym M.vertices ∙ a.vertices ∙ N.vertices))
        (element-tables-eq (ap (filled R.elements.corners 0) (sym M.corners ∙ a.corners ∙ N.corners)) refl)
        (ap (body_filled R.bodies) (sym M.bodies ∙ a.bodies ∙ N.bodies))

    pub counts_same : length m.elements ≡ length n.elements
    unfolding used_of
    counts_same = ap (λ (p : Used). p.elements) a.used

    pub number_same : (i j : ℕ) → i < length m.elements → j < 5 → number_at element_width T.elements.elements i j ≡ number_at element_width U.elements.elements i j
    unfolding used_of
    number_same i j l b =
        let c = counts_same in
        let x = element_rows-length 0 0 m.elements in
        let y = element_rows-length 0 0 n.elements in
        sym (unnamed-at (length m.elements) T.elements.elements (let s = (laid R m).elements.lent in omega arith) i j l b)
        ∙ ap (λ (r : List ℕ). get_or r (5 * i + j) 0) (a.elements ∙ N.elements ∙ sym (used-rows R u n k).elements)
        ∙ unnamed-at (length n.elements) U.elements.elements (let s = (laid R n).elements.lent in omega arith) i j (omega arith) b

    names_same : names_shown t (length m.elements) T.elements.elements ≡ names_shown u (length n.elements) U.elements.elements
    unfolding used_of
    names_same = a.names ∙ N.names ∙ sym (used-rows R u n k).names

    element-same : (i : ℕ) → i < length m.elements → bare_element (element_from t T (element_at T i)) ≡ bare_element (element_from u U (element_at U i))
    element-same i l =
        let c = counts_same in
        let g = sym (group_at t (length m.elements) T.elements.elements i l) ∙ ap (λ (r : List (List (List ℕ))). get_or r (2 * i) []) names_same ∙ group_at u (length n.elements) U.elements.elements i (omega arith) in
        let o = sym (material-at t (length m.elements) T.elements.elements i l) ∙ ap (λ (r : List (List (List ℕ))). get_or r (2 * i + 1) []) names_same ∙ material-at u (length n.elements) U.elements.elements i (omega arith) in
        same_from t u T (element_at T i) (element_at U i) (number_same i 0 l (omega arith)) (number_same i 1 l (omega arith)) (number_same i 2 l (omega arith)) (number_same i 3 l (omega arith)) (number_same i 4 l (omega arith)) g o
        ∙ ap (λ (w : Tables). bare_element (element_from u w (element_at U i))) others_same

    models-same : bare (model_in t (used_of m) T) ≡ bare (model_in u (used_of n) U)
    unfolding bare model_in used_of
    models-same =
        ap₂ (λ (x : Vertices) (es : List Element). record { vertices = x; elements = es })
        (ap (λ (w : Used). vertices_from w T) a.used ∙ ap (vertices_from (used_of n)) others_same)
        (each_bare (λ i. element_from t T (element_at T i)) (λ i. element_from u U (element_at U i)) (length m.elements) 0 (λ i l. element-same i (omega arith))
        ∙ ap (λ (j : ℕ). bare_elements (each (λ i. element_from u U (element_at U i)) j 0)) counts_same)

    pub placed-models : Agree m n
    unfolding Agree
    placed-models = ap bare (sym (model_in-placed t R m h)) ∙ models-same ∙ ap bare (model_in-placed u R n k)

module _ (R S : Rooms) (t u : List ℕ) (m n : Model) (h : read_of R t ≡ read m) (k : read_of S u ≡ read n) where
  pub agree-tables : Agree m n → TablesAgree t (tables_of R m) (used_of m) u (tables_of S n) (used_of n)
  agree-tables = placed-agree R S t u m n (read-placed R t m h) (read-placed S u n k)

  pub tables_agree : TablesAgree t (tables_of R m) (used_of m) u (tables_of S n) (used_of n) → Agree m n
  tables_agree = placed-models R S t u m n (read-placed R t m h) (read-placed S u n k)
