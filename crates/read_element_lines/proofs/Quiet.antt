-- A setting's line, and one that is passed over: what the taker answers is the step of the line, by what the parser finds.
use Prim.Native.Nat.{ℕ, suc, ◌≤◌}
use mathlib.Core.Path.{◌≡◌, refl, sym, ap, ◌∙◌, subst}
use mathlib.Core.List.{List, [], ◌∷◌}
use mathlib.Core.Bool.{true, false}
use mathlib.Core.Option.{Option, none, some}
use native.Mathlib.Omega.{arith}
use lib.ListN.{length}
use Rattle.text.specs.Words.{Word}
use Rattle.text.specs.Rest.{Rest, rest_at, scan_of}
use Rattle.text.proofs.Scans.{scan_good, scan-fault}
use Rattle.tables.specs.Tables.{Tables}
use Rattle.statements.specs.Rules.{allowed_by}
use Rattle.statements.specs.Numbered.{free_numbered}
use Rattle.model.specs.Model as model
use Rattle.model.specs.Statements.{Statement, passed}
use Rattle.model.specs.Parse as parse
use Rattle.model.specs.Parse.{fine, Keyword, anything, rules_of, values_of, Value, seen_in}
use Rattle.model.specs.Standing.{outside_body}
use Rattle.model.specs.Room.{Rooms}
use Rattle.read_state.specs.declared.State.{State}
use Rattle.read_state.specs.declared.Form.{Form}
use Rattle.read_state.specs.declared.Names.{Names}
use Rattle.read_state.specs.State.{form_in, names_in}
use Rattle.read_state.specs.Changed.{state}
use Rattle.read_settings.specs.Steps.{form_taken, names_taken, type_taken, degree_taken, smoothing_taken, material_taken, group_taken}
use Rattle.std.specs.Prelude.{Option as Answer, Some, None, Ok, Err}
use Rattle.text.specs.declared.Parsed.{Parsed}
use Rattle.read_settings.proofs.Parses.{type-parse, degree-parse, smoothing-parse, material-parse, group-parse, form-gave-up, names-gave-up}
use Rattle.read_element_lines.specs.declared.setting_lines.Setting.{Setting}
use Rattle.read_element_lines.specs.declared.setting_lines.Setting.TheVariants.{BodyType, Degree, Group, Smoothing, Material, PassedOver}
use Rattle.read_vertex_lines.specs.Bounds.{Keeps}
use Rattle.read_vertex_lines.specs.Holding.{NextLine}
use Rattle.read_vertex_lines.specs.Stepping.{Step, accepted, rejected, Began, QuietStep}
use Rattle.read_element_lines.specs.InForce.{with_form, with_names, form_step, names_step, setting_of}
use Rattle.read_vertex_lines.proofs.Opened.{is_end, outside-none, no_body, before-parse, left-barred}
use Rattle.read_vertex_lines.proofs.Bounds.{quiet_keeps}
use Rattle.read_vertex_lines.proofs.Given.{given-in}
use Rattle.read_element_lines.proofs.SettingEnds.{FormEnds, NamesEnd, type-ends, degree-ends, smoothing-ends, material-ends, group-ends}
use Rattle.read_element_lines.proofs.Settings.{type-next, degree-next, group-next, smoothing-next, material-next, passed-next}

-- no setting is `end`
not_end : (k : Setting) → is_end (setting_of k) ≡ false
not_end BodyType = refl
not_end Degree = refl
not_end Group = refl
not_end Smoothing = refl
not_end Material = refl
not_end PassedOver = refl

-- "Passed over, only their bytes looked at": any words are allowed
any-words : (n : parse.Seen) (i : ℕ) (ws : List Word) → (vs : List Value) × (values_of n (λ i. anything) i ws ≡ fine vs)
any-words n i [] = ([], refl)
any-words n i (w ∷ ws) = let v = any-words n (suc i) ws in (parse.nothing ∷ v.0, rw v.1 refl)

any-passed : (x : model.State) → outside_body x.open-body ≡ true → (key : ℕ) (ws : List Word) → parse.parse parse.over x key ws ≡ fine passed
unfolding parse.parse
any-passed x o key ws = rw (o, (any-words (seen_in x) 0 ws).1) refl

module _ (t : List ℕ) (at : ℕ) (c : State) where
  abbrev r : Rest
  r = rest_at t at

  pub setting-is : {k j : Setting} {a b : Step} → k ≡ j → a ≡ b → QuietStep (setting_of j) t at c b → QuietStep (setting_of k) t at c a
  setting-is {k} {j} {a} {b} e f h = subst (λ (i : Setting). QuietStep (setting_of i) t at c a) (sym e) (subst (λ (z : Step). QuietStep (setting_of j) t at c z) (sym f) h)

  pub setting-inside : (k : Setting) → allowed_by (rules_of (setting_of k)).standing (free_numbered c.«open».kind) false ≡ false → QuietStep (setting_of k) t at c rejected
  setting-inside k f u R p read x w b = left-barred R t p at read x c u u w (setting_of k) b (given-in R t x c u read b.holds) f

  pub setting-outside : (k : Setting) → allowed_by (rules_of (setting_of k)).standing (free_numbered c.«open».kind) false ≡ true → c.«open».kind ≡ 0
  setting-outside BodyType = outside-none c.«open».kind
  setting-outside Degree = outside-none c.«open».kind
  setting-outside Group = outside-none c.«open».kind
  setting-outside Smoothing = outside-none c.«open».kind
  setting-outside Material = outside-none c.«open».kind
  setting-outside PassedOver = outside-none c.«open».kind

  module _ (to : at ≤ length t) (out : c.«open».kind ≡ 0) where
    begun-none : {R : Rooms} {p read : ℕ} {x : model.State} {w : Word} {k : Keyword} {u : Tables} → Began R t p at read x c u w k → x.open-body ≡ none
    begun-none {R} {p} {read} {x} b = no_body t c.«open» x.open-body b.holds.state.open-body out

    -- the laws of Settings.antt are of a state whose body is none
    abbrev Taking : Keyword → State → ℕ → Type 0
    Taking k d q =
        (u : Tables) (R : Rooms) (p read : ℕ) (m : model.Model) (n : model.Names) (f : model.Form) (w : Word)
        → Began R t p at read (state m n f none) c u w k → NextLine R t p read (state m n f none) d u q × (q ≡ (rest_at t p).next)

    taken-quiet : (k : Keyword) (d : State) (q : ℕ) → Keeps t at c d q → Taking k d q → QuietStep k t at c (accepted d q)
    taken-quiet k d q keeps h u = (
      keeps,
      λ R p read x w b.
          let o : x.open-body ≡ none = begun-none b in
          subst (λ (o : Option model.Open). Began R t p at read (state x.model x.names x.form o) c u w k → NextLine R t p read (state x.model x.names x.form o) d u q × (q ≡ (rest_at t p).next))
          (sym o) (λ b. h u R p read x.model x.names x.form w b) b,
    )

    -- a function that rejects: the parser finds no statement there
    given-up : (k : Setting) → ((u : Tables) (R : Rooms) (p read : ℕ) (x : model.State) (w : Word) → Began R t p at read x c u w (setting_of k) → r.bad ≡ none
        → (y : Statement) → parse.parse (setting_of k) x w.place r.words ≡ fine y → ⊥) → QuietStep (setting_of k) t at c rejected
    given-up k f u R p read x w b =
        record { given = given-in R t x c u read b.holds; roomless = λ g y e. absurd (f u R p read x w b g y (sym (before-parse x w.place r.words (setting_of k) (not_end k)) ∙ e)) }

    form-line : (k : Setting) (taken : Form → Rest → Answer (Parsed Form)) → ((f : Form) (r : Rest) → FormEnds r.next (taken f r))
        → ((x : model.State) → outside_body x.open-body ≡ true → (key : ℕ) (r : Rest) → taken (form_in x.form) r ≡ form_taken x r.bad r.next (parse.parse (setting_of k) x key r.words))
        → ((d : Form) (q : ℕ) → Some (record { value = d; next = q }) ≡ taken c.form r → Taking (setting_of k) (with_form d c) q)
        → (a : Answer (Parsed Form)) → a ≡ taken c.form r → QuietStep (setting_of k) t at c (form_step c a)
    form-line k taken ends says next (Some p) e = taken-quiet (setting_of k) (with_form p.value c) p.next (quiet_keeps t at c p.next to (sym (subst (FormEnds r.next) (sym e) (ends c.form r)))) (next p.value p.next e)
    form-line k taken ends says next None e =
        given-up k (λ u R p read x w b g y z.
        form-gave-up x r.next (parse.parse (setting_of k) x w.place r.words) y
        (e ∙ ap (λ (f : Form). taken f r) b.holds.state.form ∙ says x (ap outside_body (begun-none b)) w.place r ∙ ap (λ (o : Option ℕ). form_taken x o r.next (parse.parse (setting_of k) x w.place r.words)) g) z)

    names-line : (k : Setting) (taken : Names → Rest → Answer (Parsed Names)) → ((f : Names) (r : Rest) → NamesEnd r.next (taken f r))
        → ((x : model.State) → outside_body x.open-body ≡ true → (key : ℕ) (r : Rest) → taken (names_in x.names) r ≡ names_taken x r.bad r.next (parse.parse (setting_of k) x key r.words))
        → ((d : Names) (q : ℕ) → Some (record { value = d; next = q }) ≡ taken c.names r → Taking (setting_of k) (with_names d c) q)
        → (a : Answer (Parsed Names)) → a ≡ taken c.names r → QuietStep (setting_of k) t at c (names_step c a)
    names-line k taken ends says next (Some p) e = taken-quiet (setting_of k) (with_names p.value c) p.next (quiet_keeps t at c p.next to (sym (subst (NamesEnd r.next) (sym e) (ends c.names r)))) (next p.value p.next e)
    names-line k taken ends says next None e =
        given-up k (λ u R p read x w b g y z.
        names-gave-up x r.next (parse.parse (setting_of k) x w.place r.words) y
        (e ∙ ap (λ (f : Names). taken f r) b.holds.state.names ∙ says x (ap outside_body (begun-none b)) w.place r ∙ ap (λ (o : Option ℕ). names_taken x o r.next (parse.parse (setting_of k) x w.place r.words)) g) z)

    pub type-line : (a : Answer (Parsed Form)) → a ≡ type_taken c.form r → QuietStep parse.cstype t at c (form_step c a)
    type-line = form-line BodyType type_taken type-ends (λ x o key r. type-parse x o key r) (λ d q e u R p read m n f w b. type-next R t p at m n f c u b.holds w b.begins b.keyword d q e)

    pub degree-line : (a : Answer (Parsed Form)) → a ≡ degree_taken c.form r → QuietStep parse.deg t at c (form_step c a)
    degree-line = form-line Degree degree_taken degree-ends (λ x o key r. degree-parse x o key r) (λ d q e u R p read m n f w b. degree-next R t p at m n f c u b.holds w b.begins b.keyword d q e)

    pub group-line : (a : Answer (Parsed Names)) → a ≡ group_taken c.names r → QuietStep parse.g t at c (names_step c a)
    group-line = names-line Group group_taken group-ends (λ x o key r. group-parse x o key r) (λ d q e u R p read m n f w b. group-next R t p at m n f c u b.holds w b.begins b.keyword d q e)

    pub smoothing-line : (a : Answer (Parsed Names)) → a ≡ smoothing_taken c.names r → QuietStep parse.s t at c (names_step c a)
    smoothing-line = names-line Smoothing smoothing_taken smoothing-ends (λ x o key r. smoothing-parse x o key r) (λ d q e u R p read m n f w b. smoothing-next R t p at m n f c u b.holds w b.begins b.keyword d q e)

    pub material-line : (a : Answer (Parsed Names)) → a ≡ material_taken c.names r → QuietStep parse.usemtl t at c (names_step c a)
    material-line = names-line Material material_taken material-ends (λ x o key r. material-parse x o key r) (λ d q e u R p read m n f w b. material-next R t p at m n f c u b.holds w b.begins b.keyword d q e)

    -- ---- passed over: only its bytes are looked at
    pub passed-line : (i q : ℕ) → Ok (record { value = i; next = q }) ≡ scan_of r → QuietStep parse.over t at c (accepted c q)
    passed-line i q e =
        let g = scan_good r i q e in
        taken-quiet parse.over c q (quiet_keeps t at c q to g.2) (λ u R p read m n f w b. passed-next R t p at m n f c u b.holds w b.begins b.keyword q g.0 (any-passed (state m n f none) refl w.place r.words) (sym g.2))

    pub passed-bad : (q : ℕ) → Err q ≡ scan_of r → QuietStep parse.over t at c rejected
    passed-bad q e = given-up PassedOver (λ u R p read x w b g y z. let z : ◌≡◌ {A = ℕ} 0 1 = none-some (sym g ∙ scan-fault r q e) in omega arith)
      where
        none-some : {i : ℕ} → none ≡ some i → ◌≡◌ {A = ℕ} 0 1
        none-some e = cc
