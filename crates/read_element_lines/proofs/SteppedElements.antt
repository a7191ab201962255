-- From what `take_element` answers to the step of its line: laws over plain variables, one for each way out.
use Prim.Native.Nat.{ℕ, ◌≤◌}
use mathlib.Core.Path.{◌≡◌, refl, sym, ◌∙◌, subst}
use mathlib.Core.List.{List}
use mathlib.Core.Bool.{false}
use mathlib.Core.Option.{Option, none, some}
use native.Mathlib.Omega.{arith}
use lib.ListN.{length}
use Rattle.text.specs.Words.{Word}
use Rattle.text.specs.Rest.{rest_at}
use Rattle.statements.specs.Rules.{allowed_by}
use Rattle.statements.specs.Numbered.{free_numbered}
use Rattle.tables.specs.ElementTables.{ElementTables, element_tables}
use Rattle.tables.specs.Tables.{Tables}
use Rattle.model.specs.Model as model
use Rattle.model.specs.Model.{Shape, Model, Open}
use Rattle.model.specs.Parse.{an-element, rules_of}
use Rattle.model.specs.Room.{Rooms}
use Rattle.read_state.specs.declared.State.{State}
use Rattle.read_state.specs.Changed.{state, element_stored}
use Rattle.read_elements.specs.Elements.{rule_of, TakenElement, NoElement, ElementIs}
use Rattle.read_vertices.proofs.Closed.{nothing}
use Rattle.std.specs.Prelude.{Option as Answer, Some, None}
use Rattle.text.specs.declared.Parsed.{Parsed}
use Rattle.read_vertex_lines.specs.Bounds.{InBounds}
use Rattle.read_vertex_lines.specs.Holding.{NextLine}
use Rattle.read_element_lines.specs.Counting.{one_element}
use Rattle.read_vertex_lines.specs.Stepping.{with_used, accepted, rejected, Began, Left, ElementStep}
use Rattle.read_element_lines.proofs.Counts.{element-few, counts-fit, element-keeps}
use Rattle.read_vertex_lines.proofs.Opened.{no_body, before-parse, left-barred}
use Rattle.read_vertex_lines.proofs.Given.{given-in}
use Rattle.read_element_lines.proofs.Elements.{element-next, element-roomless}

module _ (k : Shape) (s : List ℕ) (at : ℕ) (c : State) (l m e f : List ℕ) where
  pub element-inside : allowed_by (rules_of (an-element k)).standing (free_numbered c.«open».kind) false ≡ false → ElementStep k s at c (element_tables l e) (element_tables m f) rejected
  element-inside o t i R p read x w b =
      left-barred R s p at read x c t (element_stored m f t) w (an-element k) b (given-in R s x c t read b.holds) o

  module _ (out : c.«open».kind ≡ 0) where
    gave : NoElement (rule_of k) c.used s at l m e f → (t : Tables) → t.elements ≡ element_tables l e
        → (R : Rooms) (p read : ℕ) (mo : Model) (n : model.Names) (fo : model.Form) (o : Option Open) (w : Word) → Began R s p at read (state mo n fo o) c t w (an-element k)
        → Left R s p at (state mo n fo o) (element_stored m f t) w (an-element k)
    gave v t i R p read mo n fo (some o) w b = nothing (sym (no_body s c.«open» (some o) b.holds.state.open-body out))
    gave v t i R p read mo n fo none w b =
        let v' : NoElement (rule_of k) c.used s at t.elements.corners m t.elements.elements f = subst (λ (a : ElementTables). NoElement (rule_of k) c.used s at a.corners m a.elements f) (sym i) v in
        record {
          given = given-in R s (state mo n fo none) c t read b.holds;
          roomless = λ g y h. element-roomless R s p at mo n fo c t b.holds w k b.begins b.keyword m f v' g y (sym (before-parse (state mo n fo none) w.place (rest_at s at).words (an-element k) refl) ∙ h);
        }

    pub element-gave : (r : Answer (Parsed ℕ)) → ElementIs (rule_of k) 0 c.used c.names s at l m e f r → r ≡ None → ElementStep k s at c (element_tables l e) (element_tables m f) rejected
    element-gave r v g t i R p read x w b =
        gave (subst (ElementIs (rule_of k) 0 c.used c.names s at l m e f) g v) t i R p read x.model x.names x.form x.open-body w b

    module _ (count q : ℕ) where
      took : TakenElement (rule_of k) 0 c.used c.names s at l m e f count q → (t : Tables) → t.elements ≡ element_tables l e
          → (R : Rooms) (p read : ℕ) (mo : Model) (n : model.Names) (fo : model.Form) (o : Option Open) (w : Word) → Began R s p at read (state mo n fo o) c t w (an-element k)
          → NextLine R s p read (state mo n fo o) (with_used (one_element count c.used) c) (element_stored m f t) q × (q ≡ (rest_at s p).next)
      took v t i R p read mo n fo (some o) w b = nothing (sym (no_body s c.«open» (some o) b.holds.state.open-body out))
      took v t i R p read mo n fo none w b =
          let v' : TakenElement (rule_of k) 0 c.used c.names s at t.elements.corners m t.elements.elements f count q = subst (λ (a : ElementTables). TakenElement (rule_of k) 0 c.used c.names s at a.corners m a.elements f count q) (sym i) v in
          element-next R s p at mo n fo c t b.holds w k b.begins b.keyword m f count q v'

      module _ (r : Answer (Parsed ℕ)) (v : ElementIs (rule_of k) 0 c.used c.names s at l m e f r) (g : r ≡ Some (record { value = count; next = q })) where
        taken : TakenElement (rule_of k) 0 c.used c.names s at l m e f count q
        taken = subst (ElementIs (rule_of k) 0 c.used c.names s at l m e f) g v

        found : ((rest_at s at).next ≡ q) × (count ≤ length (rest_at s at).words)
        found =
            let w = element-few (rule_of k) c.used (rest_at s at) taken.found q taken.said in
            let is = taken.counted in
            let few = w.1 in
            (w.0, omega arith)

        pub element-fits : InBounds s at c → (count ≤ 16777216) × (c.used.corners ≤ 50331648) × (c.used.elements ≤ 16777216)
        element-fits b = let h = counts-fit s at q count found.0 found.1 c b in (h.0, h.1, h.2)

        pub element-took : at ≤ length s → (d : State) → d ≡ with_used (one_element count c.used) c → ElementStep k s at c (element_tables l e) (element_tables m f) (accepted d q)
        element-took to d h t i = (
          λ p below b. subst (InBounds s q) (sym h) (element-keeps s at q count found.0 found.1 c to p below b),
          λ R p read x w b.
              subst (λ (a : State). NextLine R s p read x a (element_stored m f t) q × (q ≡ (rest_at s p).next)) (sym h)
              (took taken t i R p read x.model x.names x.form x.open-body w b),
        )
