-- A line says an element exactly where `parse` reads one: the walk's corners are the words' values, and both count them alike.
use Prim.Native.Nat.{ℕ}
use mathlib.Core.Path.{◌≡◌, refl, sym, ap, ◌∙◌}
use mathlib.Core.Bool.{true}
use mathlib.Core.List.{List, map}
use mathlib.Core.Option.{none, some}
use lib.ListN.{length}
use lib.Dec.{leb}
use borrow.Author.Tests.{leb-true, le-leb}
use native.Mathlib.Omega.{arith}
use Rattle.std.specs.Prelude.{None}
use Rattle.text.specs.Rest.{Rest}
use Rattle.references.specs.Corner.{Corner}
use Rattle.tables.specs.declared.Used.{Used}
use Rattle.read_state.specs.State.{used_in}
use Rattle.model.specs.Model.{Shape, point, line, face, State}
use Rattle.model.specs.Statements.{Statement, element}
use Rattle.model.specs.Parse.{Parsed, fine, then, must, unless, an-element, a-corner, parts, fewest, Value, corner, values_of, corners_of, unlike, seen_in, parse}
use Rattle.model.specs.Standing.{outside_body}
use Rattle.model.proofs.Parsed.{fine-is, must-fine, unless-fine, then-fine}
use Rattle.read_elements.specs.Corners.{corner_said, corners_walk}
use Rattle.read_elements.specs.Elements.{rule_of, element_said}
use Rattle.read_vertices.proofs.Closed.{at-least, has-least}
use Rattle.read_elements.proofs.Values as W
use Rattle.model.proofs.Values.{corners-of}

-- ---- the words of a p, l or f line are read as its corners
reads : (k : Shape) (x : State) → W.Reads (corner_said (used_in x) (rule_of k).form) (seen_in x) (λ i. a-corner (parts k)) 0
reads point x = record { reads = λ j l w. refl }
reads line x = record { reads = λ j l w. refl }
reads face x = record { reads = λ j l w. refl }

-- ---- a line that says an element is parsed as that element
pub record ParsedElement (k : Shape) (x : State) (r : Rest) (cs : List Corner) (q : ℕ) : Type 0 where
  pub bad : r.bad ≡ none
  pub next : r.next ≡ q
  pub parsed : (key : ℕ) → parse (an-element k) x key r.words ≡ fine (element k cs)

pub taken-parse : (k : Shape) (x : State) (n : Used) (r : Rest) (cs : List Corner) (q : ℕ) → n ≡ used_in x → outside_body x.open-body ≡ true
    → element_said (rule_of k) n r ≡ some (cs, q) → ParsedElement k x r cs q
unfolding parse
taken-parse k x n r cs q u out e =
    let h = corner_said (used_in x) (rule_of k).form in
    let f : element_said (rule_of k) (used_in x) r ≡ some (cs, q) = ap (λ (m : Used). element_said (rule_of k) m r) (sym u) ∙ e in
    let s = at-least (fewest k) (corners_walk h None r) cs q f in
    let w = W.walked h None r.words r.bad r.next cs q s.0 in
    let many = s.1 in
    let same = w.counted in
    let count : leb (fewest k) (length r.words) ≡ true = le-leb (fewest k) (length r.words) (omega arith) in
    let values : values_of (seen_in x) (λ i. a-corner (parts k)) 0 r.words ≡ fine (map corner cs) = w.values (seen_in x) (λ i. a-corner (parts k)) 0 (reads k x) in
    let these = corners-of cs in
    let alone = w.alone in
    record {
      bad = w.bad;
      next = w.next;
      parsed = λ key. rw (out, count, values, these, alone) refl;
    }

-- ---- and back
pub record SaidElement (k : Shape) (n : Used) (r : Rest) (t : Statement) : Type 0 where
  pub corners : List Corner
  pub is : t ≡ element k corners
  pub said : element_said (rule_of k) n r ≡ some (corners, r.next)

pub parse-said : (k : Shape) (x : State) (n : Used) (r : Rest) (key : ℕ) (t : Statement) → n ≡ used_in x → r.bad ≡ none
    → parse (an-element k) x key r.words ≡ fine t → SaidElement k n r t
unfolding parse
parse-said k x n r key t u good e =
    let ws = r.words in
    let h = corner_said (used_in x) (rule_of k).form in
    let values = values_of (seen_in x) (λ i. a-corner (parts k)) 0 ws in
    let told : List Value → Parsed Statement = λ xs. unless (unlike ws (corners_of xs)) 9 (fine (element k (corners_of xs))) in
    let a = must-fine (outside_body x.open-body) 10 key (must (leb (fewest k) (length ws)) 5 key (then values told)) t e in
    let b = must-fine (leb (fewest k) (length ws)) 5 key (then values told) t a.1 in
    let c = then-fine values told t b.1 in
    let v = W.valued h (seen_in x) (λ i. a-corner (parts k)) 0 (reads k x) ws r.next c.0 c.1 in
    let cs = v.corners in
    let these : corners_of c.0 ≡ cs = ap corners_of v.whole ∙ corners-of cs in
    let d = unless-fine (unlike ws (corners_of c.0)) 9 (fine (element k (corners_of c.0))) t c.2 in
    let alone : unlike ws cs ≡ none = ap (unlike ws) (sym these) ∙ d.0 in
    let many = leb-true (fewest k) (length ws) b.0 in
    let same = v.counted in
    let walk : corners_walk h None r ≡ some (cs, r.next) = rw good (v.alone alone) in
    record {
      corners = cs;
      is = sym (fine-is d.1) ∙ ap (element k) these;
      said = ap (λ (m : Used). element_said (rule_of k) m r) u ∙ has-least (fewest k) (corners_walk h None r) cs r.next walk (omega arith);
    }
