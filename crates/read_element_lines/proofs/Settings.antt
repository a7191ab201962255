-- A line of cstype, deg, g, s, usemtl, or one that is passed over: it changes what is in force and no table.
use Prim.Native.Nat.{ℕ, ◌+◌, ◌-◌}
use mathlib.Core.Path.{◌≡◌, refl, sym, ap, ◌∙◌, subst}
use mathlib.Core.List.{List, [], ◌∷◌}
use mathlib.Core.Bool.{true}
use mathlib.Core.Option.{Option, none}
use Rattle.text.specs.Words.{Word}
use Rattle.text.specs.Rest.{Rest, rest_at, push}
use Rattle.tables.specs.Tables.{Tables}
use Rattle.keywords.specs.Keywords.{statement_of}
use Rattle.model.specs.Model as model
use Rattle.model.specs.Model.{Model, Open}
use Rattle.model.specs.Statements.{Statement, vertex, element, group, smoothing, material, type, degree, body, parameters, loop, end, passed, apply}
use Rattle.model.specs.Parse.{fine, Keyword, cstype, deg, g, s, usemtl, over, names_of, material_of, parse}
use Rattle.model.specs.Room.{Rooms, fits}
use Rattle.model.specs.Read.{carried_in}
use Rattle.model.proofs.Parsed.{fine-is}
use Rattle.read_state.specs.declared.State.{State}
use Rattle.read_state.specs.declared.Form.{Form}
use Rattle.read_state.specs.declared.Names.{Names}
use Rattle.read_state.specs.State.{StateIs, form_in, names_in}
use Rattle.read_state.specs.Image.{image_of}
use Rattle.read_state.specs.Bounds.{Bounded}
use Rattle.read_state.specs.Changed.{Wide, state}
use Rattle.read_state.proofs.Lines.{line_of}
use Rattle.read_settings.specs.Steps.{type_taken, degree_taken, smoothing_taken, material_taken, group_taken}
use Rattle.read_settings.proofs.Parses.{type-parse, degree-parse, smoothing-parse, material-parse, group-parse, form-taken, names-taken}
use Rattle.std.specs.Prelude.{Some}
use Rattle.read_vertex_lines.specs.Holding.{HoldsOpened, Holds, NextLine}
use Rattle.read_element_lines.specs.InForce.{with_form, with_names}
use Rattle.read_vertex_lines.proofs.Steps.{line-fine, line-bounded, next-is}

-- the statements that change what is in force alone
abbrev pub IsQuiet : Statement → Type 0
IsQuiet (vertex k z) = ⊥
IsQuiet (element k cs) = ⊥
IsQuiet (group ws) = Unit {0}
IsQuiet (smoothing n) = Unit {0}
IsQuiet (material w) = Unit {0}
IsQuiet (type r t) = Unit {0}
IsQuiet (degree m n) = Unit {0}
IsQuiet (body b cs) = ⊥
IsQuiet (parameters d z) = ⊥
IsQuiet (loop l) = ⊥
IsQuiet end = ⊥
IsQuiet passed = Unit {0}

module _ (R : Rooms) (t : List ℕ) (p at : ℕ) (m : Model) (n : model.Names) (f : model.Form) (c : State) (u : Tables) where
  abbrev x : model.State
  x = state m n f none

  -- no table and no count changes
  kept : (y : Statement) → IsQuiet y → (image_of R (apply y x) ≡ image_of R x) × (fits R (apply y x) ≡ fits R x) × ((apply y x).model ≡ m) × ((apply y x).open-body ≡ none)
  unfolding image_of fits
  kept (vertex k z) q = absurd q
  kept (element k cs) q = absurd q
  kept (group ws) q = (refl, refl, refl, refl)
  kept (smoothing i) q = (refl, refl, refl, refl)
  kept (material w) q = (refl, refl, refl, refl)
  kept (type r b) q = (refl, refl, refl, refl)
  kept (degree i j) q = (refl, refl, refl, refl)
  kept (body b cs) q = absurd q
  kept (parameters d z) q = absurd q
  kept (loop l) q = absurd q
  kept end q = absurd q
  kept passed q = (refl, refl, refl, refl)

  closed : (o : Option Open) (form : model.Form) → o ≡ none → HoldsOpened form o
  closed o form e = subst (λ (o : Option Open). HoldsOpened form o) (sym e) tt

  module _ {read : ℕ} (h : Holds R t x c u read) (w : Word) (k : Keyword)
      (begins : rest_at t p ≡ push w (rest_at t at)) (keyword : carried_in (statement_of w.bytes) w.place ≡ fine k) where
    pub quiet_next : (y : Statement) (d : State) (q : ℕ) → IsQuiet y → (rest_at t at).bad ≡ none → parse k x w.place (rest_at t at).words ≡ fine y → q ≡ (rest_at t at).next
        → StateIs t (apply y x) d → NextLine R t p read x d u q × (q ≡ (rest_at t p).next)
    quiet_next y d q still good parsed next after =
        let a = kept y still in
        let room : fits R (apply y x) ≡ true = a.1 ∙ h.room in (
          record {
            after = apply y x;
            said = line-fine R t p at x w k begins keyword y good parsed room;
            holds = record {
              state = after;
              image = h.image ∙ sym a.0;
              wide = subst (λ (z : Model). Wide z.vertices) (sym a.2) h.wide;
              room = room;
              bounded = subst (λ (i : ℕ). Bounded (read + (i - p)) (apply y x)) (sym next) (line-bounded R t p at x w k begins keyword y parsed h.bounded);
              body = closed (apply y x).open-body (apply y x).form a.3;
            };
          },
          next ∙ sym (next-is R t p at x w k begins keyword),
        )

    -- cstype and deg: the form in force after the line; g, s and usemtl: the names
    pub form-after : (y : Statement) → IsQuiet y → (d : Form) → (apply y x).names ≡ n → d ≡ form_in (apply y x).form → StateIs t (apply y x) (with_form d c)
    form-after y still d same e =
        let a = kept y still in
        record {
          used = h.state.used ∙ ap (λ (z : Model). Rattle.read_state.specs.State.used_in (state z n f none)) (sym a.2) ∙ ap (λ (o : Option Open). Rattle.read_state.specs.State.used_in (state (apply y x).model n f o)) (sym a.3);
          curves = h.state.curves ∙ ap (λ (z : Model). model.curves z.elements) (sym a.2);
          names = h.state.names ∙ ap names_in (sym same);
          form = e;
          open-body = subst (λ (o : Option Open). Rattle.read_state.specs.State.OpenIs t o c.«open») (sym a.3) h.state.open-body;
        }

    pub names-after : (y : Statement) → IsQuiet y → (d : Names) → (apply y x).form ≡ f → d ≡ names_in (apply y x).names → StateIs t (apply y x) (with_names d c)
    names-after y still d same e =
        let a = kept y still in
        record {
          used = h.state.used ∙ ap (λ (z : Model). Rattle.read_state.specs.State.used_in (state z n f none)) (sym a.2) ∙ ap (λ (o : Option Open). Rattle.read_state.specs.State.used_in (state (apply y x).model n f o)) (sym a.3);
          curves = h.state.curves ∙ ap (λ (z : Model). model.curves z.elements) (sym a.2);
          names = e;
          form = h.state.form ∙ ap form_in (sym same);
          open-body = subst (λ (o : Option Open). Rattle.read_state.specs.State.OpenIs t o c.«open») (sym a.3) h.state.open-body;
        }

  -- ---- each line by what its taker answers
  module _ {read : ℕ} (h : Holds R t x c u read) (w : Word) (begins : rest_at t p ≡ push w (rest_at t at)) where
    abbrev r : Rest
    r = rest_at t at

    abbrev After : State → ℕ → Type 0
    After d q = NextLine R t p read x d u q × (q ≡ (rest_at t p).next)

    pub type-next : carried_in (statement_of w.bytes) w.place ≡ fine cstype → (d : Form) (q : ℕ) → Some (record { value = d; next = q }) ≡ type_taken c.form r → After (with_form d c) q
    type-next k d q e =
        let v = form-taken x r.bad r.next (parse cstype x w.place r.words) d q (e ∙ ap (λ (a : Form). type_taken a r) h.state.form ∙ type-parse x refl w.place r) in
        let i = fine-is (line_of cstype x w.place r.words v.statement v.parsed).check in
        let still : IsQuiet v.statement = subst IsQuiet i tt in
        let same : (apply v.statement x).names ≡ n = subst (λ (y : Statement). (apply y x).names ≡ n) i refl in
        quiet_next h w cstype begins k v.statement (with_form d c) q still v.allowed v.parsed v.next (form-after h w cstype begins k v.statement still d same v.form)

    pub degree-next : carried_in (statement_of w.bytes) w.place ≡ fine deg → (d : Form) (q : ℕ) → Some (record { value = d; next = q }) ≡ degree_taken c.form r → After (with_form d c) q
    degree-next k d q e =
        let v = form-taken x r.bad r.next (parse deg x w.place r.words) d q (e ∙ ap (λ (a : Form). degree_taken a r) h.state.form ∙ degree-parse x refl w.place r) in
        let i = fine-is (line_of deg x w.place r.words v.statement v.parsed).check in
        let still : IsQuiet v.statement = subst IsQuiet i tt in
        let same : (apply v.statement x).names ≡ n = subst (λ (y : Statement). (apply y x).names ≡ n) i refl in
        quiet_next h w deg begins k v.statement (with_form d c) q still v.allowed v.parsed v.next (form-after h w deg begins k v.statement still d same v.form)

    pub group-next : carried_in (statement_of w.bytes) w.place ≡ fine g → (d : Names) (q : ℕ) → Some (record { value = d; next = q }) ≡ group_taken c.names r → After (with_names d c) q
    group-next k d q e =
        let v = names-taken x r.bad r.next (parse g x w.place r.words) d q (e ∙ ap (λ (a : Names). group_taken a r) h.state.names ∙ group-parse x refl w.place r) in
        let i = fine-is (line_of g x w.place r.words v.statement v.parsed).check in
        let still : IsQuiet v.statement = subst IsQuiet i tt in
        let same : (apply v.statement x).form ≡ f = subst (λ (y : Statement). (apply y x).form ≡ f) i refl in
        quiet_next h w g begins k v.statement (with_names d c) q still v.allowed v.parsed v.next (names-after h w g begins k v.statement still d same v.names)

    pub smoothing-next : carried_in (statement_of w.bytes) w.place ≡ fine s → (d : Names) (q : ℕ) → Some (record { value = d; next = q }) ≡ smoothing_taken c.names r → After (with_names d c) q
    smoothing-next k d q e =
        let v = names-taken x r.bad r.next (parse s x w.place r.words) d q (e ∙ ap (λ (a : Names). smoothing_taken a r) h.state.names ∙ smoothing-parse x refl w.place r) in
        let i = fine-is (line_of s x w.place r.words v.statement v.parsed).check in
        let still : IsQuiet v.statement = subst IsQuiet i tt in
        let same : (apply v.statement x).form ≡ f = subst (λ (y : Statement). (apply y x).form ≡ f) i refl in
        quiet_next h w s begins k v.statement (with_names d c) q still v.allowed v.parsed v.next (names-after h w s begins k v.statement still d same v.names)

    pub material-next : carried_in (statement_of w.bytes) w.place ≡ fine usemtl → (d : Names) (q : ℕ) → Some (record { value = d; next = q }) ≡ material_taken c.names r → After (with_names d c) q
    material-next k d q e =
        let v = names-taken x r.bad r.next (parse usemtl x w.place r.words) d q (e ∙ ap (λ (a : Names). material_taken a r) h.state.names ∙ material-parse x refl w.place r) in
        let l = line_of usemtl x w.place r.words v.statement v.parsed in
        let i = fine-is l.check in
        let a = named (names_of l.values) in
        let still : IsQuiet v.statement = subst IsQuiet i a.0 in
        let same : (apply v.statement x).form ≡ f = subst (λ (y : Statement). (apply y x).form ≡ f) i a.1 in
        quiet_next h w usemtl begins k v.statement (with_names d c) q still v.allowed v.parsed v.next (names-after h w usemtl begins k v.statement still d same v.names)
      where
        named : (ws : List Word) → IsQuiet (material_of ws) × ((apply (material_of ws) x).form ≡ f)
        named [] = (tt, refl)
        named (v ∷ ws) = (tt, refl)

    -- a statement that is passed over
    pub passed-next : carried_in (statement_of w.bytes) w.place ≡ fine over → (q : ℕ) → r.bad ≡ none → parse over x w.place r.words ≡ fine passed → q ≡ r.next → After c q
    passed-next k q good parsed next = quiet_next h w over begins k passed c q tt good parsed next h.state
