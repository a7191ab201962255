-- What every theorem on a sweep starts from: tables that nothing is wrong with, element by element and corner by corner.
use Prim.Native.Nat.{ℕ, ◌≤◌, ◌<◌}
use mathlib.Core.Path.{◌≡◌}
use mathlib.Core.Bool.{true, ◌&&◌}
use borrow.Author.Tests.{eqb-true}
use lib.Dec.{eqb}
use Rattle.lists.proofs.Tests.{and_left}
use Rattle.tables.specs.Tables.{Tables}
use Rattle.tables.specs.Records.{element_at}
use Rattle.tables.specs.declared.Used.{Used}
use Rattle.model.specs.Model.{VertexKind}
use Rattle.record_rules.specs.Rules.{obeys, curves_before}
use Rattle.table_rules.specs.Whole.{follows_at, ends_before, ends_used, whole_obeys}
use Rattle.sweep_marks.specs.Counting.{new_number}
use Rattle.sweep.specs.Named.{used_of_kind, named}
use Rattle.sweep.specs.Swept.{swept_tables}
use Rattle.swept_files.specs.Promises.{reference_in}
use Rattle.table_rules.proofs.Lent.{Lent, lent-facts}
use Rattle.sweep.proofs.Whole.{whole_parts, elements-facts, runs-at, runs-end}
use Rattle.swept_files.proofs.CornersAfter.{named-held, held_after}
use Rattle.swept_files.proofs.ElementParts.{held-within}

pub record Standing (used : Used) (t : Tables) : Type 0 where
  pub lent : Lent used t
  pub obeys : (i : ℕ) → i < used.elements → obeys used t (curves_before t i) i ≡ true
  pub follows : (i : ℕ) → i < used.elements → follows_at t i ≡ true
  pub ends : ends_used used (ends_before t used.elements) ≡ true
  pub corners : (ends_before t used.elements).corners ≡ used.corners

pub standing : (used : Used) (t : Tables) → whole_obeys used t ≡ true → Standing used t
standing used t h =
    let w = whole_parts used t h in
    let n = ends_before t used.elements in
    let e = runs-end used t w.runs in
    let c = eqb n.corners used.corners in
    let b = eqb n.bodies used.bodies in
    let p = eqb n.parameters used.parameters in
    record {
      lent = lent-facts used t w.lent;
      obeys = elements-facts used t w.elements;
      follows = runs-at used t w.runs;
      ends = e;
      corners = eqb-true n.corners used.corners (and_left c b (and_left (c && b) p (and_left (c && b && p) (eqb n.parts used.loops) e)));
    }

-- the reference of a kind in one corner, before and after
pub record Reference (used : Used) (t : Tables) (kind : VertexKind) (i j : ℕ) : Type 0 where
  pub within : reference_in kind t i j ≤ used_of_kind kind used
  pub names : named used t kind (reference_in kind t i j) ≡ true
  pub after : reference_in kind (swept_tables used t) i j ≡ new_number (named used t kind) (reference_in kind t i j)

pub reference-in : (used : Used) (t : Tables) → Standing used t → (kind : VertexKind) (i j : ℕ) → i < used.elements → j < (element_at t i).corners.count → Reference used t kind i j
reference-in used t s kind i j h l =
    record {
      within = held-within used t (curves_before t i) i (s.obeys i h) kind j l;
      names = named-held used t kind i j h l;
      after = held_after used t s.lent i j h l (s.follows i h) kind;
    }
