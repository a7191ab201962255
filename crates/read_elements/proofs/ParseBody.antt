-- A line says a body's element exactly where `parse` reads one: the range's numbers and then the walk's controls are the words' values.
use Prim.Native.Nat.{ℕ, ◌+◌}
use mathlib.Core.Path.{◌≡◌, refl, sym, ap, ap₂, ◌∙◌}
use mathlib.Core.Bool.{Bool, true, cond}
use mathlib.Core.List.{List, ◌++◌, map}
use mathlib.Core.Option.{Option, none, some}
use lib.ListN.{length, drop, length-drop}
use lib.Dec.{leb, ltb}
use lib.IntN.{ℤ}
use borrow.Author.Tests.{leb-true, le-leb, lt-ltb, le-ltb}
use native.Mathlib.Omega.{arith}
use Rattle.std.specs.Prelude.{None}
use Rattle.text.specs.Words.{Word}
use Rattle.text.specs.Rest.{Rest}
use Rattle.digits.specs.Said.{Said, says, wrong}
use Rattle.references.specs.Reference.{reference_of}
use Rattle.references.specs.Corner.{Corner}
use Rattle.tables.specs.declared.Used.{Used}
use Rattle.read_state.specs.declared.Form.{Form}
use Rattle.read_state.specs.State.{used_in, form_in}
use Rattle.read_state.specs.Numbers.{numbers_walk}
use Rattle.model.specs.Model.{Free, curve, curve2, surface, State}
use Rattle.model.specs.Statements.{Statement, body}
use Rattle.model.specs.Parse.{Parsed, fine, then, must, unless, a-body, WordForm, a-number, control_form, range_words, fewest_controls, Value, number, corner, on_said, said_of, values_of, corners_of, numbers_of, unlike, in_force, narrow_in, opened_body, seen_in, parse}
use Rattle.model.specs.Standing.{outside_body}
use Rattle.model.proofs.Pieces.{opened}
use Rattle.read_elements.specs.Corners.{control, corner_said, corners_from, corners_walk}
use Rattle.read_elements.specs.Elements.{element_said}
use Rattle.read_elements.specs.Bodies.{controls_of, rule_for, form_in_force, controls_said, body_said}
use Rattle.read_vertices.proofs.Closed.{at-least, has-least}
use Rattle.read_elements.proofs.Controls.{wide-some, some-wide}
use Rattle.read_elements.proofs.BodyLines.{of-body, to-body}
use Rattle.model.proofs.Parsed.{fine-is, must-fine, unless-fine, then-fine}
use Rattle.read_elements.proofs.Wide.{Given, in-force, wide-narrow, narrow_wide}
use Rattle.read_elements.proofs.Values as W
use Rattle.read_elements.proofs.Ranges as R
use Rattle.model.proofs.Values.{line-numbers, line-corners}

-- ---- the words of the line: a range, then controls
abbrev form_is : Free → ℕ → WordForm
form_is k i = cond (ltb i (range_words k)) a-number (control_form k)

numbers : (k : Free) (x : State) → R.Numbers (seen_in x) (form_is k) 0 (range_words k)
numbers k x = record { reads = λ j l h. ap (λ (t : Bool). cond t a-number (control_form k)) (lt-ltb j (range_words k) (omega arith)) }

control-said : (s : Said ℕ) → on_said (λ k. corner (control k)) s ≡ on_said corner (on_said control s)
control-said (says k) = refl
control-said (wrong n) = refl

said-corner : (k : Free) (x : State) (w : Word) → said_of (seen_in x) (control_form k) w ≡ on_said corner (corner_said (used_in x) (controls_of k) w.bytes)
said-corner curve x w = refl
said-corner curve2 x w = control-said (reference_of (length x.model.vertices.vp) w.bytes)
said-corner surface x w = refl

controls : (k : Free) (x : State) → W.Reads (corner_said (used_in x) (controls_of k)) (seen_in x) (form_is k) (0 + range_words k)
controls k x =
    record {
      reads = λ j l w.
          ap (λ (t : Bool). said_of (seen_in x) (cond t a-number (control_form k)) w) (le-ltb j (range_words k) (omega arith)) ∙ said-corner k x w;
    }

-- ---- a line that says a body's element is parsed as that element
pub record ParsedBody (k : Free) (x : State) (r : Rest) (zs : List ℤ) (cs : List Corner) (q : ℕ) : Type 0 where
  pub bad : r.bad ≡ none
  pub next : r.next ≡ q
  pub parsed : (key : ℕ) → parse (a-body k) x key r.words ≡ fine (body (opened_body k x.form zs) cs)

module _ (k : Free) (x : State) (n : Used) (g : Form) (vp : List ℤ) (u : n ≡ used_in x) (v : g ≡ form_in x.form) (t : Given vp x.model.vertices.vp) (r : Rest) where
  pub taken-parse : (zs : List ℤ) (cs : List Corner) (q : ℕ) → outside_body x.open-body ≡ true → body_said k n g vp r ≡ some (zs, (cs, q)) → ParsedBody k x r zs cs q
  unfolding parse
  taken-parse zs cs q out e =
      let m = range_words k in
      let ws = r.words in
      let after = drop m ws in
      let h = corner_said (used_in x) (controls_of k) in
      let f : body_said k (used_in x) (form_in x.form) vp r ≡ some (zs, (cs, q)) = ap₂ (λ (a : Used) (b : Form). body_said k a b vp r) (sym u) (sym v) ∙ e in
      let o = of-body (form_in_force k (form_in x.form)) (numbers_walk m r) (controls_said k (used_in x) vp) zs cs q f in
      let d = some-wide k vp (element_said (rule_for k) (used_in x) o.rest) cs q o.controls in
      let s = at-least (fewest_controls k) (corners_walk h None o.rest) cs q d.0 in
      let range = R.ranged (seen_in x) (form_is k) m 0 (numbers k x) ws r.bad r.next zs o.rest o.walked in
      let w = W.walked h None after r.bad r.next cs q (ap (corners_walk h None) (sym range.rest) ∙ s.0) in
      let many = s.1 in
      let same = w.counted in
      let all = range.counted in
      let count : leb (m + fewest_controls k) (length ws) ≡ true = le-leb (m + fewest_controls k) (length ws) (omega arith) in
      let values : values_of (seen_in x) (form_is k) 0 ws ≡ fine (map number zs ++ map corner cs) =
      range.values ∙ ap (λ (y : Parsed (List Value)). then y (λ vs. fine (map number zs ++ vs))) (w.values (seen_in x) (form_is k) (0 + m) (controls k x)) in
      let told : (key : ℕ) → opened k x key after cs zs ≡ fine (body (opened_body k x.form zs) cs) = λ key.
      (let alone = w.alone in
      let force = sym (in-force k x.form) ∙ o.set in
      let wide = wide-narrow x.model.vertices vp t after cs k d.1 in
      rw (alone, force, wide) refl) in
      record {
        bad = w.bad;
        next = w.next;
        parsed = λ key.
            rw (out, count, values)
            (ap₂ (λ (a : List Corner) (b : List ℤ). opened k x key after a b) (line-corners zs cs) (line-numbers zs cs) ∙ told key);
      }

  -- ---- and back
  pub record SaidBody (s : Statement) : Type 0 where
    pub range : List ℤ
    pub corners : List Corner
    pub is : s ≡ body (opened_body k x.form range) corners
    pub said : body_said k n g vp r ≡ some (range, (corners, r.next))

  pub parse-said : (key : ℕ) (s : Statement) → r.bad ≡ none → parse (a-body k) x key r.words ≡ fine s → SaidBody s
  unfolding parse
  parse-said key s good e =
      let m = range_words k in
      let ws = r.words in
      let after = drop m ws in
      let h = corner_said (used_in x) (controls_of k) in
      let values = values_of (seen_in x) (form_is k) 0 ws in
      let told : List Value → Parsed Statement = λ xs. opened k x key after (corners_of xs) (numbers_of xs) in
      let a = must-fine (outside_body x.open-body) 10 key (must (leb (m + fewest_controls k) (length ws)) 5 key (then values told)) s e in
      let b = must-fine (leb (m + fewest_controls k) (length ws)) 5 key (then values told) s a.1 in
      let c = then-fine values told s b.1 in
      let many = leb-true (m + fewest_controls k) (length ws) b.0 in
      let range = R.back (seen_in x) (form_is k) m 0 (numbers k x) ws r.bad r.next c.0 (omega arith) c.1 in
      let w = W.valued h (seen_in x) (form_is k) (0 + m) (controls k x) after r.next range.others range.values in
      let cs = w.corners in
      let zs = range.range in
      let all : c.0 ≡ map number zs ++ map corner cs = range.is ∙ ap (λ (l : List Value). map number zs ++ l) w.whole in
      let these : cs ≡ corners_of c.0 = sym (ap corners_of all ∙ line-corners zs cs) in
      let those : zs ≡ numbers_of c.0 = sym (ap numbers_of all ∙ line-numbers zs cs) in
      let begun : opened k x key after cs zs ≡ fine s = ap₂ (λ (p : List Corner) (q : List ℤ). opened k x key after p q) these those ∙ c.2 in
      let last : Parsed Statement = fine (body (opened_body k x.form zs) cs) in
      let wide : Parsed Statement = unless (narrow_in k x.model.vertices after cs) 12 last in
      let d1 = unless-fine (unlike after cs) 9 (must (in_force k x.form x.form.basis) 11 key wide) s begun in
      let d2 = must-fine (in_force k x.form x.form.basis) 11 key wide s d1.1 in
      let d3 = unless-fine (narrow_in k x.model.vertices after cs) 12 last s d2.1 in
      let alone = w.alone d1.0 in
      let walk : corners_walk h None (R.whole after r.bad r.next) ≡ some (cs, r.next) = ap (λ (b : Option ℕ). corners_from h None after b r.next) good ∙ alone in
      let same = w.counted in
      let left = length-drop m ws in
      let there = has-least (fewest_controls k) (corners_walk h None (R.whole after r.bad r.next)) cs r.next walk (omega arith) in
      let wider = narrow_wide x.model.vertices vp t after cs k (used_in x) w.counted w.each d3.0 in
      record {
        range = zs;
        corners = cs;
        is = sym (fine-is d3.1);
        said =
            ap₂ (λ (p : Used) (q : Form). body_said k p q vp r) u v
            ∙ to-body (form_in_force k (form_in x.form)) (numbers_walk m r) (controls_said k (used_in x) vp) zs (R.whole after r.bad r.next) cs r.next
            (in-force k x.form ∙ d2.0) range.walked
            (wide-some k vp (element_said (rule_for k) (used_in x) (R.whole after r.bad r.next)) cs r.next there wider);
      }
