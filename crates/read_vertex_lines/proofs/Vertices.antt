-- A line of v, vt, vn, vp: what `take_vertex` answers is what the line comes to, or shows that there is no room for it.
use Prim.Native.Nat.{ℕ, suc, ◌+◌, ◌*◌, ◌-◌, ◌≤◌, ◌<◌}
use mathlib.Core.Path.{◌≡◌, refl, sym, ap, ap₂, ◌∙◌, subst}
use mathlib.Core.List.{List, [], ◌∷◌, ◌++◌}
use mathlib.Core.Bool.{true, false}
use mathlib.Core.Option.{none}
use mathlib.Core.Logic.{⊎_elim}
use native.Mathlib.Omega.{arith}
use native.Mathlib.Nat.{mul-suc}
use lib.ListN.{length, length-append}
use lib.Seq.{sets}
use lib.IntN.{ℤ, pos}
use Rattle.lists.specs.Lists.{flat}
use Rattle.lists.proofs.Tests.{test}
use Rattle.text.specs.Words.{Word}
use Rattle.text.specs.Rest.{rest_at, push}
use Rattle.tables.specs.Tables.{Tables}
use Rattle.tables.specs.declared.Used.{Used}
use Rattle.tables.proofs.Filled.{length-filled}
use Rattle.tables.proofs.Flat.{flat_append}
use Rattle.keywords.specs.Keywords.{statement_of}
use Rattle.model.specs.Model as model
use Rattle.model.specs.Model.{VertexKind, geometric, texture, normal, parametric, Vertices}
use Rattle.model.specs.Statements.{Statement, vertex, with_vertex, apply}
use Rattle.model.specs.Parse.{fine, fault, a-vertex, vertex_record, parse}
use Rattle.model.specs.Standing.{outside_body}
use Rattle.model.specs.Room.{Rooms, fits}
use Rattle.model.specs.Layout.{itself}
use Rattle.model.specs.Read.{carried_in}
use Rattle.read_state.specs.declared.State.{State}
use Rattle.read_state.specs.State.{StateIs, used_in}
use Rattle.read_state.specs.Image.{image_of}
use Rattle.read_state.specs.Changed.{row_stored, rows_of, table_of, width_of, room_of, Counted, AllCounted, Wide}
use Rattle.read_state.proofs.Images.{vertex-image}
use Rattle.model.proofs.Rooms.{Within, fits-parts, parts-fit}
use Rattle.read_vertices.specs.Vertex.{width, TakenVertex, NoVertex}
use Rattle.read_vertices.proofs.Taking.{vertex-row}
use Rattle.read_vertices.proofs.Parse.{vertex-wide, taken-parse, parse-said}
use Rattle.read_vertex_lines.specs.Stepping.{count_in, with_count, with_used}
use Rattle.read_vertex_lines.specs.Holding.{Holds, NextLine, line_says}
use Rattle.read_vertex_lines.proofs.Steps.{line-fine, line-roomless, line-bounded, next-is}

width_is : (k : VertexKind) → width k ≡ width_of k
width_is geometric = refl
width_is texture = refl
width_is normal = refl
width_is parametric = refl

-- ---- room for one more
rows-room : (k : VertexKind) (R : Rooms) (x : model.State) (z : List ℤ) → Within (Rattle.model.specs.Room.needed (apply (vertex k z) x)) R → width_of k * length (rows_of k x.model.vertices) + width_of k ≤ room_of k R
rows-room geometric R x z w = let e = length-append x.model.vertices.v (z ∷ []) in let h = w.vertices.v in omega arith
rows-room texture R x z w = let e = length-append x.model.vertices.vt (z ∷ []) in let h = w.vertices.vt in omega arith
rows-room normal R x z w = let e = length-append x.model.vertices.vn (z ∷ []) in let h = w.vertices.vn in omega arith
rows-room parametric R x z w = let e = length-append x.model.vertices.vp (z ∷ []) in let h = w.vertices.vp in omega arith

room-rows : (k : VertexKind) (R : Rooms) (x : model.State) (z : List ℤ) → fits R x ≡ true → width_of k * length (rows_of k x.model.vertices) + width_of k ≤ room_of k R → fits R (apply (vertex k z) x) ≡ true
room-rows geometric R x z f h = let w = fits-parts R x f in let e = length-append x.model.vertices.v (z ∷ []) in parts-fit R (apply (vertex geometric z) x) (record { vertices = record { v = omega arith; vt = w.vertices.vt; vn = w.vertices.vn; vp = w.vertices.vp }; elements = w.elements; bodies = w.bodies })
room-rows texture R x z f h = let w = fits-parts R x f in let e = length-append x.model.vertices.vt (z ∷ []) in parts-fit R (apply (vertex texture z) x) (record { vertices = record { v = w.vertices.v; vt = omega arith; vn = w.vertices.vn; vp = w.vertices.vp }; elements = w.elements; bodies = w.bodies })
room-rows normal R x z f h = let w = fits-parts R x f in let e = length-append x.model.vertices.vn (z ∷ []) in parts-fit R (apply (vertex normal z) x) (record { vertices = record { v = w.vertices.v; vt = w.vertices.vt; vn = omega arith; vp = w.vertices.vp }; elements = w.elements; bodies = w.bodies })
room-rows parametric R x z f h = let w = fits-parts R x f in let e = length-append x.model.vertices.vp (z ∷ []) in parts-fit R (apply (vertex parametric z) x) (record { vertices = record { v = w.vertices.v; vt = w.vertices.vt; vn = w.vertices.vn; vp = omega arith }; elements = w.elements; bodies = w.bodies })

lent_is : (k : VertexKind) (R : Rooms) (x : model.State) → Wide x.model.vertices → fits R x ≡ true → length (table_of k (image_of R x)) ≡ room_of k R
unfolding image_of
lent_is geometric R x w f = let h = (fits-parts R x f).vertices.v in let e = w.rows geometric in length-filled R.vertices.v (pos 0) (flat itself x.model.vertices.v) (omega arith)
lent_is texture R x w f = let h = (fits-parts R x f).vertices.vt in let e = w.rows texture in length-filled R.vertices.vt (pos 0) (flat itself x.model.vertices.vt) (omega arith)
lent_is normal R x w f = let h = (fits-parts R x f).vertices.vn in let e = w.rows normal in length-filled R.vertices.vn (pos 0) (flat itself x.model.vertices.vn) (omega arith)
lent_is parametric R x w f = let h = (fits-parts R x f).vertices.vp in let e = w.rows parametric in length-filled R.vertices.vp (pos 0) (flat itself x.model.vertices.vp) (omega arith)

-- ---- what stays, and what is one more
wider : (w : ℕ) (rows : List (List ℤ)) (z : List ℤ) → length (flat itself rows) ≡ w * length rows → length z ≡ w → length (flat itself (rows ++ z ∷ [])) ≡ w * length (rows ++ z ∷ [])
wider w rows z h l =
    let a = length-append rows (z ∷ []) in
    let b : length (flat itself (rows ++ z ∷ [])) ≡ length (flat itself rows) + length (z ++ []) = ap length (flat_append itself rows (z ∷ [])) ∙ length-append (flat itself rows) (z ++ []) in
    let c : length (z ++ []) ≡ length z = ap length (mathlib.Core.List.append-nil z) in
    let d : w * length (rows ++ z ∷ []) ≡ w * length rows + w = ap (λ (n : ℕ). w * n) (let q : length (rows ++ z ∷ []) ≡ suc (length rows) = omega arith in q) ∙ mul-suc w (length rows) in
    omega arith

one_more : (rows : List (List ℤ)) (z : List ℤ) → AllCounted rows → Counted z → AllCounted (rows ++ z ∷ [])
one_more [] z a c = (c, tt)
one_more (y ∷ rows) z a c = (a.0, one_more rows z a.1 c)

still-counted : (k : VertexKind) (x : Vertices) (zs : List ℤ) → length (vertex_record k zs) ≡ width_of k → AllCounted x.vp → AllCounted (with_vertex k (vertex_record k zs) x).vp
still-counted geometric x zs l a = a
still-counted texture x zs l a = a
still-counted normal x zs l a = a
still-counted parametric x zs l a = one_more x.vp (vertex_record parametric zs) a (record { wide = l; count = length zs; first = refl })

still-rows : (k : VertexKind) (x : Vertices) (z : List ℤ) → length z ≡ width_of k → Wide x → (j : VertexKind) → length (flat itself (rows_of j (with_vertex k z x))) ≡ width_of j * length (rows_of j (with_vertex k z x))
still-rows k x z l w j = go k l j
  where
    go : (k : VertexKind) → length z ≡ width_of k → (j : VertexKind) → length (flat itself (rows_of j (with_vertex k z x))) ≡ width_of j * length (rows_of j (with_vertex k z x))
    go geometric l geometric = wider 4 x.v z (w.rows geometric) l
    go geometric l texture = w.rows texture
    go geometric l normal = w.rows normal
    go geometric l parametric = w.rows parametric
    go texture l geometric = w.rows geometric
    go texture l texture = wider 3 x.vt z (w.rows texture) l
    go texture l normal = w.rows normal
    go texture l parametric = w.rows parametric
    go normal l geometric = w.rows geometric
    go normal l texture = w.rows texture
    go normal l normal = wider 3 x.vn z (w.rows normal) l
    go normal l parametric = w.rows parametric
    go parametric l geometric = w.rows geometric
    go parametric l texture = w.rows texture
    go parametric l normal = w.rows normal
    go parametric l parametric = wider 4 x.vp z (w.rows parametric) l

still-wide : (k : VertexKind) (x : Vertices) (z zs : List ℤ) → z ≡ vertex_record k zs → length z ≡ width_of k → Wide x → Wide (with_vertex k z x)
still-wide k x z zs e l w =
    record {
      rows = still-rows k x z l w;
      counts = subst (λ (y : List ℤ). AllCounted (with_vertex k y x).vp) (sym e) (still-counted k x zs (ap length (sym e) ∙ l) w.counts);
    }

pub count-is : (k : VertexKind) (x : model.State) → count_in k (used_in x) ≡ length (rows_of k x.model.vertices)
count-is geometric x = refl
count-is texture x = refl
count-is normal x = refl
count-is parametric x = refl

state-after : (s : List ℕ) (k : VertexKind) (x : model.State) (c : State) (z : List ℤ) → StateIs s x c → StateIs s (apply (vertex k z) x) (with_used (with_count k (count_in k c.used + 1) c.used) c)
state-after s geometric x c z h = record { used = ap (λ (u : Used). with_count geometric (count_in geometric u + 1) u) h.used ∙ ap (λ (n : ℕ). with_count geometric n (used_in x)) (sym (length-append x.model.vertices.v (z ∷ []))); curves = h.curves; names = h.names; form = h.form; open-body = h.open-body }
state-after s texture x c z h = record { used = ap (λ (u : Used). with_count texture (count_in texture u + 1) u) h.used ∙ ap (λ (n : ℕ). with_count texture n (used_in x)) (sym (length-append x.model.vertices.vt (z ∷ []))); curves = h.curves; names = h.names; form = h.form; open-body = h.open-body }
state-after s normal x c z h = record { used = ap (λ (u : Used). with_count normal (count_in normal u + 1) u) h.used ∙ ap (λ (n : ℕ). with_count normal n (used_in x)) (sym (length-append x.model.vertices.vn (z ∷ []))); curves = h.curves; names = h.names; form = h.form; open-body = h.open-body }
state-after s parametric x c z h = record { used = ap (λ (u : Used). with_count parametric (count_in parametric u + 1) u) h.used ∙ ap (λ (n : ℕ). with_count parametric n (used_in x)) (sym (length-append x.model.vertices.vp (z ∷ []))); curves = h.curves; names = h.names; form = h.form; open-body = h.open-body }

-- ---- the line
module _ (R : Rooms) (s : List ℕ) (p at read : ℕ) (x : model.State) (c : State) (t : Tables) (h : Holds R s x c t read) (w : Word) (k : VertexKind)
    (begins : rest_at s p ≡ push w (rest_at s at)) (keyword : carried_in (statement_of w.bytes) w.place ≡ fine (a-vertex k))
    (out : outside_body x.open-body ≡ true) where
  counts : count_in k c.used ≡ length (rows_of k x.model.vertices)
  counts = ap (count_in k) h.state.used ∙ count-is k x

  pub vertex-next : (m : List ℤ) (q : ℕ) → TakenVertex k s at (count_in k c.used) (table_of k t) m q
      → NextLine R s p read x (with_used (with_count k (count_in k c.used + 1) c.used) c) (row_stored k m t) q × (q ≡ (rest_at s p).next)
  vertex-next m q v =
      let z : List ℤ = v.row in
      let pv = taken-parse k x (rest_at s at) z q out v.said in
      let l : length z ≡ width_of k = vertex-wide k (rest_at s at) z q v.said ∙ width_is k in
      let row = vertex-row k (rest_at s at) z q v.said in
      let e : table_of k t ≡ table_of k (image_of R x) = ap (table_of k) h.image in
      let n : length (table_of k t) ≡ room_of k R = ap length e ∙ lent_is k R x h.wide h.room in
      let g : width_of k * length (rows_of k x.model.vertices) + width_of k ≤ room_of k R =
      subst (λ (j : ℕ). j * length (rows_of k x.model.vertices) + j ≤ room_of k R) (width_is k)
      (subst (λ (i : ℕ). width k * i + width k ≤ room_of k R) counts (subst (λ (i : ℕ). width k * count_in k c.used + width k ≤ i) n v.room)) in
      let f : fits R (apply (vertex k z) x) ≡ true = room-rows k R x z h.room g in
      let m' : m ≡ sets (table_of k (image_of R x)) (width_of k * length (rows_of k x.model.vertices)) z =
      v.stored ∙ ap₂ (λ (l : List ℤ) (i : ℕ). sets l i z) e (ap₂ (λ (i j : ℕ). i * j) (width_is k) counts) in
      let im : row_stored k m t ≡ image_of R (apply (vertex k z) x) = ap₂ (λ (l : List ℤ) (u : Tables). row_stored k l u) m' h.image ∙ vertex-image R x k z h.wide l g in (
        record {
          after = apply (vertex k z) x;
          said = line-fine R s p at x w (a-vertex k) begins keyword (vertex k z) pv.bad (pv.parsed w.place) f;
          holds = record {
            state = state-after s k x c z h.state;
            image = im;
            wide = still-wide k x.model.vertices z row.numbers row.whole l h.wide;
            room = f;
            bounded = subst (λ (i : ℕ). Rattle.read_state.specs.Bounds.Bounded (read + (i - p)) (apply (vertex k z) x)) pv.next (line-bounded R s p at x w (a-vertex k) begins keyword (vertex k z) (pv.parsed w.place) h.bounded);
            body = h.body;
          };
        },
        sym (next-is R s p at x w (a-vertex k) begins keyword ∙ pv.next),
      )

  pub vertex-roomless : (m : List ℤ) → NoVertex k s at (count_in k c.used) (table_of k t) m → (rest_at s at).bad ≡ none
      → (u : Statement) → parse (a-vertex k) x w.place (rest_at s at).words ≡ fine u → line_says R s p x ≡ fault 14 w.place
  vertex-roomless m v b u e =
      let y = parse-said k x (rest_at s at) w.place u out b e in
      let n : length (table_of k t) ≡ room_of k R = ap (λ (a : Tables). length (table_of k a)) h.image ∙ lent_is k R x h.wide h.room in
      let short : room_of k R < width_of k * length (rows_of k x.model.vertices) + width_of k =
      subst (λ (j : ℕ). room_of k R < j * length (rows_of k x.model.vertices) + j) (width_is k)
      (subst (λ (i : ℕ). room_of k R < width k * i + width k) counts (subst (λ (i : ℕ). i < width k * count_in k c.used + width k) n (v.short y.row (rest_at s at).next y.said))) in
      let full : fits R (apply u x) ≡ false =
      ⊎_elim (λ (f : fits R (apply u x) ≡ true). absurd (let g = rows-room k R x y.row (fits-parts R (apply (vertex k y.row) x) (ap (λ (a : Statement). fits R (apply a x)) (sym y.is) ∙ f)) in omega arith)) (λ f. f) (test (fits R (apply u x))) in
      line-roomless R s p at x w (a-vertex k) begins keyword u b e full
