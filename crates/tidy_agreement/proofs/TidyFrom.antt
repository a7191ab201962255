-- The tidy text written from the tables of an accepted text is the tidy text of its model: what the tables give back, by the law that this is the model.
use Prim.Native.Nat.{ℕ, suc, ◌+◌, ◌*◌, ◌-◌}
use mathlib.Core.Path.{◌≡◌, refl, sym, ap, ap₂, ◌∙◌}
use mathlib.Core.List.{List, ◌∷◌, ◌++◌, map}
use mathlib.Core.Bool.{Bool, true, false, cond}
use native.Mathlib.Omega.{arith}
use borrow.Author.Tests.{le-leb}
use lib.ListN.{length, length-append}
use Rattle.lists.proofs.Tests.{and_both}
use Rattle.text.specs.Written.{written_lines}
use Rattle.tables.specs.Tables.{Tables}
use Rattle.tables.specs.Records.{v_width, vt_width, vn_width, vp_width, element_width, element_in}
use Rattle.tables.specs.Asking.{held, no_element, asked_element}
use Rattle.tables.specs.declared.Used.{Used}
use Rattle.model.specs.Model.{geometric, texture, normal, parametric, Element, Model, start}
use Rattle.model.specs.Statements.{vertex}
use Rattle.model.specs.Room.{Rooms}
use Rattle.model.specs.Read.{read, read_of}
use Rattle.model.specs.Layout.{bodies_of, tables_of, used_of}
use Rattle.model.specs.In as model
use Rattle.model.specs.In.{element_from, model_in}
use Rattle.model.proofs.Stands.{Among}
use Rattle.model.proofs.Placed.{Placed}
use Rattle.model.proofs.Laid.{laid}
use Rattle.model.proofs.ElementRows.{corners_in, laid_element, row_of}
use Rattle.model.proofs.In.{element-back, model_in-placed}
use Rattle.tidy_form.specs.declared.Weights.{Weights}
use Rattle.tidy_form.specs.declared.Weights.TheVariants.{Always}
use Rattle.tidy_form.specs.Tidied.{vertex_lines, elements_lines, tidied}
use Rattle.tidy_form.specs.Printed.{printed, tidy_text}
use Rattle.tidy_form.proofs.Values.{map-append}
use Rattle.tidy_form.proofs.Placed.{read-placed}
use Rattle.tidy_writer.specs.TidyFrom.{vertices_from, tidy_from}
use Rattle.tidy_writer.proofs.NamedLines.{names-go}
use Rattle.tidy_agreement.proofs.Streams.{vertices-are}
use Rattle.tidy_agreement.proofs.Elements.{lines_from, Told, elements-are}

-- number 0 is no element
no-element : (used : Used) (E : List ℕ) → asked_element used E 0 ≡ no_element
unfolding asked_element held
no-element used E = refl

map-four : {A C : Type 0} (f : A → C) (a b c d : List A) → map f (a ++ (b ++ (c ++ d))) ≡ map f a ++ (map f b ++ (map f c ++ map f d))
map-four {A} {C} f a b c d =
    map-append f a (b ++ (c ++ d)) ∙ ap (λ (q : List C). map f a ++ q) (map-append f b (c ++ d) ∙ ap (λ (q : List C). map f b ++ q) (map-append f c d))

-- the vertices of any tables, as `model_in` reads them
vertices-from : (W : Weights) (u : Used) (t : Tables) → vertices_from W u t ≡ map (printed W) (vertex_lines (model.vertices_from u t))
vertices-from W u t =
    let x = model.vertices_from u t in
    ap₂ (λ (a b : List (List (List ℕ))). a ++ b) (vertices-are W W geometric false (λ z. refl) v_width t.vertices.v u.v 0)
    (ap₂ (λ (a b : List (List (List ℕ))). a ++ b) (vertices-are W Always texture false (λ z. refl) vt_width t.vertices.vt u.vt 0)
    (ap₂ (λ (a b : List (List (List ℕ))). a ++ b) (vertices-are W Always normal false (λ z. refl) vn_width t.vertices.vn u.vn 0)
    (vertices-are W W parametric true (λ z. refl) vp_width t.vertices.vp u.vp 0)))
    ∙ sym (map-four (printed W) (map (vertex geometric) x.v) (map (vertex texture) x.vt) (map (vertex normal) x.vn) (map (vertex parametric) x.vp))

module _ (W : Weights) (R : Rooms) (s : List ℕ) (m : Model) (h : read_of R s ≡ read m) where
  abbrev T : Tables
  T = tables_of R m

  abbrev u : Used
  u = used_of m

  P : Placed s m
  P = read-placed R s m h

  vertices : vertices_from W u T ≡ map (printed W) (vertex_lines m.vertices)
  unfolding model_in
  vertices = vertices-from W u T ∙ ap (λ (k : Model). map (printed W) (vertex_lines k.vertices)) (model_in-placed s R m P)

  told : (k : ℕ) (a : Among m.elements k) → Told W s u T (0 + suc k) a.one
  unfolding asked_element held
  told k a =
      let L = laid R m in
      let r = row_of T m.elements k L.elements a in
      let n = L.used-elements in
      let l : length m.elements ≡ length (a.before ++ a.one ∷ a.after) = ap length a.is in
      let j = length-append a.before (a.one ∷ a.after) in
      let o = a.many in
      let q = r.lent in
      let c = corners_in a.before in
      let b = length (bodies_of a.before) in
      let e = element-back s u T m L P k a in
      let f : element_from s T (laid_element c b a.one) ≡ a.one = sym (ap (element_from s T) r.is) ∙ e in
      record {
        first = c;
        body = b;
        is =
            ap₂ (λ (x : Bool) (i : ℕ). cond x (element_in T.elements.elements i) no_element)
            (and_both (and_both (le-leb 1 (0 + suc k) (omega arith)) (le-leb (0 + suc k) u.elements (omega arith))) (le-leb (element_width * (0 + suc k)) (length T.elements.elements) (omega arith)))
            (let i : 0 + suc k - 1 ≡ k = omega arith in i)
            ∙ r.is;
        kind = ap (λ (y : Element). y.kind) f;
        corners = ap (λ (y : Element). y.corners) f;
      }

  elements : lines_from W s u T u.elements 0 ≡ map (printed W) (elements_lines start.names m.elements)
  unfolding used_of
  elements = let n = names-go s R m h in elements-are W s u T 0 start.names m.elements 0 no_element.corners 0 (no-element u T.elements.elements) n.0 n.1 told

  pub tidy-from : tidy_from W s (used_of m) (tables_of R m) ≡ tidy_text W m
  unfolding tidy_from tidy_text tidied
  tidy-from =
      ap written_lines
      (ap₂ (λ (a b : List (List (List ℕ))). a ++ b) vertices elements
      ∙ sym (map-append (printed W) (vertex_lines m.vertices) (elements_lines start.names m.elements)))
