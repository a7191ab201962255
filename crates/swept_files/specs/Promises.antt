-- Must be believed: a promise reaches every definition of this file.
-- Q-6, the retention sweep: what is promised of every sweep that is not refused, for all used counts and tables.
use Rattle.std.specs.Prelude.{ℕ, zero, suc, ◌+◌, ◌*◌, ◌≤◌, ◌<◌, ◌≡◌, true, false, List, [], length, get_or, take, drop, ℤ, pos}
use Rattle.tables.specs.Tables.{Tables}
use Rattle.tables.specs.Records.{element_at, body_at, corner_at, part_at}
use Rattle.tables.specs.declared.Used.{Used}
use Rattle.model.specs.Model.{VertexKind, geometric, texture, normal, parametric}
use Rattle.sweep_marks.specs.Counting.{reference, dropped_upto}
use Rattle.sweep.specs.Named.{used_of_kind, table_in, width_in, named}
use Rattle.sweep.specs.declared.Dropped.{Dropped}
use Rattle.sweep.specs.Swept.{SweepAnswer, numbers_needed, none_dropped}

-- the numbers of record k of a kind, which counts from 1: none for 0
abbrev pub row_numbered : VertexKind → Tables → ℕ → List ℤ
row_numbered kind t zero = []
row_numbered kind t (suc k) = take (width_in kind) (drop (width_in kind * k) (table_in kind t))

-- the reference of a kind that corner j of element i holds, and the record that it names: its coordinates
abbrev pub reference_in : VertexKind → Tables → (i j : ℕ) → ℕ
reference_in kind t i j = reference kind (element_at t i).kind (corner_at t (element_at t i).corners j)

abbrev pub shown_by : VertexKind → Tables → (i j : ℕ) → List ℤ
shown_by kind t i j = row_numbered kind t (reference_in kind t i j)

-- a corner of an element names record k of a kind
pub record NamedBy (used : Used) (t : Tables) (kind : VertexKind) (k : ℕ) : Type 0 where
  pub element : ℕ
  pub corner : ℕ
  pub used-one : element < used.elements
  pub one-of-its : corner < (element_at t element).corners.count
  pub holds : reference_in kind t element corner ≡ k

-- "removes every v, vt, vn and vp that no corner names": those that are left, a corner names
abbrev pub AllNamed : Used → Tables → Type 0
AllNamed used t = (kind : VertexKind) (k : ℕ) → 1 ≤ k → k ≤ used_of_kind kind used → NamedBy used t kind k

-- "Every element shows the same coordinates, names and loops as before", corner by corner; an element's record holds its names
pub record SameShown (used : Used) (t w : Tables) : Type 0 where
  pub elements : (i : ℕ) → i < used.elements → element_at w i ≡ element_at t i
  pub bodies : (i : ℕ) → i < used.bodies → body_at w i ≡ body_at t i
  pub parameters : (i : ℕ) → i < used.parameters → get_or w.bodies.parameters i (pos 0) ≡ get_or t.bodies.parameters i (pos 0)
  pub parts : (i : ℕ) → i < used.loops → part_at w i ≡ part_at t i
  pub coordinates : (kind : VertexKind) (i j : ℕ) → i < used.elements → j < (element_at t i).corners.count → shown_by kind w i j ≡ shown_by kind t i j

-- no element, corner, body, parameter or loop part is added or left out
pub record SameCounts (used after : Used) : Type 0 where
  pub corners : after.corners ≡ used.corners
  pub elements : after.elements ≡ used.elements
  pub bodies : after.bodies ≡ used.bodies
  pub parameters : after.parameters ≡ used.parameters
  pub loops : after.loops ≡ used.loops

-- how many of a kind were dropped
abbrev pub dropped_as : VertexKind → Dropped → ℕ
dropped_as geometric d = d.v
dropped_as texture d = d.vt
dropped_as normal d = d.vn
dropped_as parametric d = d.vp

-- "For each kind, kept plus dropped is the old count, and dropped is counted from the references alone."
pub record SweepCounted (used : Used) (t : Tables) (a : SweepAnswer) (kind : VertexKind) : Type 0 where
  pub sum : used_of_kind kind a.outcome.used + dropped_as kind a.outcome.dropped ≡ used_of_kind kind used
  pub dropped : dropped_as kind a.outcome.dropped ≡ dropped_upto (named used t kind) (used_of_kind kind used)

-- where the new numbers of a kind begin in the list: "all v, then vt, vn, vp"
abbrev pub listed_from : VertexKind → Used → ℕ
listed_from geometric used = 0
listed_from texture used = used.v
listed_from normal used = used.v + used.vt
listed_from parametric used = used.v + used.vt + used.vn

-- the new number of record k, which counts from 1, as the list says it
abbrev pub number_after : VertexKind → Used → List ℕ → ℕ → ℕ
number_after kind used numbers zero = 0
number_after kind used numbers (suc k) = get_or numbers (listed_from kind used + k) 0

-- "its new number, or 0 if dropped"; "Kept records keep their order": a kept record is the record of its new number, as it was, and a corner that named it
-- holds that number; `new` is the new number of each record
pub record Renumbered (used : Used) (t : Tables) (a : SweepAnswer) (kind : VertexKind) (new : ℕ → ℕ) : Type 0 where
  pub zeros : (k : ℕ) → 1 ≤ k → k ≤ used_of_kind kind used → named used t kind k ≡ false → new k ≡ 0
  pub within : (k : ℕ) → 1 ≤ k → k ≤ used_of_kind kind used → named used t kind k ≡ true → (1 ≤ new k) × (new k ≤ used_of_kind kind a.outcome.used)
  pub order : (j k : ℕ) → 1 ≤ j → j < k → k ≤ used_of_kind kind used → named used t kind j ≡ true → named used t kind k ≡ true → new j < new k
  pub contents : (k : ℕ) → 1 ≤ k → k ≤ used_of_kind kind used → named used t kind k ≡ true → row_numbered kind a.tables (new k) ≡ row_numbered kind t k
  pub references : (i j : ℕ) → i < used.elements → j < (element_at t i).corners.count → reference_in kind a.tables i j ≡ new (reference_in kind t i j)

-- "in a lent list whose rest stays as it was"
pub record RestKept (used : Used) (before after : List ℕ) : Type 0 where
  pub long : length after ≡ length before
  pub rest : (i : ℕ) → numbers_needed used ≤ i → get_or after i 0 ≡ get_or before i 0

-- "A second sweep changes no table", and drops nothing
pub record Unchanged (a b : SweepAnswer) : Type 0 where
  pub given : b.outcome.number ≡ 0
  pub used : b.outcome.used ≡ a.outcome.used
  pub dropped : b.outcome.dropped ≡ none_dropped
  pub tables : b.tables ≡ a.tables
