-- The tables that a sweep leaves but for their rest: elements, bodies with their ranges, parameters, loop parts with their numbers.
use Prim.Native.Nat.{ℕ, ◌+◌, ◌*◌, ◌≤◌, ◌<◌}
use mathlib.Core.Path.{◌≡◌, refl, ap, ◌∙◌}
use mathlib.Core.List.{List}
use native.Mathlib.Omega.{arith}
use lib.Dec.{T, ltb, ltb→lt}
use lib.ListN.{length, get_or, take, drop}
use lib.IntN.{ℤ, pos}
use Rattle.tables.specs.Tables.{Tables}
use Rattle.tables.specs.Records.{element_in, element_at, body_in, body_at, part_at}
use Rattle.tables.specs.declared.Used.{Used}
use Rattle.sweep.specs.Swept.{swept_tables}
use Rattle.swept_files.proofs.Parts.{row_within, front, front_length, front_at, front-part}
use Rattle.table_rules.proofs.Lent.{Lent}

-- ---- records of the same numbers
module _ (l m : List ℕ) (i : ℕ) (same : (k : ℕ) → T (ltb k 9) → get_or l (9 * i + k) 0 ≡ get_or m (9 * i + k) 0) where
  element-is : element_in l i ≡ element_in m i
  element-is = rw (same 0 tt, same 1 tt, same 2 tt, same 3 tt, same 4 tt, same 5 tt, same 6 tt, same 7 tt, same 8 tt) refl

  module _ (r s : List ℤ) (ranges : (k : ℕ) → T (ltb k 4) → get_or r (4 * i + k) (pos 0) ≡ get_or s (4 * i + k) (pos 0)) where
    range-is : body_in m r i ≡ body_in m s i
    range-is = rw (ranges 0 tt, ranges 1 tt, ranges 2 tt, ranges 3 tt) refl

    body_is : body_in l r i ≡ body_in m s i
    body_is = rw (same 0 tt, same 1 tt, same 2 tt, same 3 tt, same 4 tt, same 5 tt, same 6 tt, same 7 tt, same 8 tt) range-is

part-is : (t w : Tables) (i : ℕ) → ((k : ℕ) → T (ltb k 2) → get_or w.bodies.loops (2 * i + k) 0 ≡ get_or t.bodies.loops (2 * i + k) 0)
    → ((k : ℕ) → T (ltb k 2) → get_or w.bodies.spans (2 * i + k) (pos 0) ≡ get_or t.bodies.spans (2 * i + k) (pos 0)) → part_at w i ≡ part_at t i
part-is t w i loops spans = rw (loops 0 tt, loops 1 tt, spans 0 tt, spans 1 tt) refl

-- number k of row i of those that stay
row_at : {A : Type 0} (z : A) (w n : ℕ) (l : List A) → w * n ≤ length l → (i : ℕ) → i < n → (k : ℕ) → T (ltb k w)
    → get_or (front z (w * n) l) (w * i + k) z ≡ get_or l (w * i + k) z
row_at z w n l lent i h k b = front_at z (w * n) l lent (w * i + k) (let q = row_within w i n h in let c = ltb→lt k w b in omega arith)

-- ---- the swept tables
pub record Fronts (used : Used) (t : Tables) : Type 0 where
  pub elements : (swept_tables used t).elements.elements ≡ front 0 (9 * used.elements) t.elements.elements
  pub bodies : (swept_tables used t).bodies.bodies ≡ front 0 (9 * used.bodies) t.bodies.bodies
  pub ranges : (swept_tables used t).bodies.ranges ≡ front (pos 0) (4 * used.bodies) t.bodies.ranges
  pub parameters : (swept_tables used t).bodies.parameters ≡ front (pos 0) used.parameters t.bodies.parameters
  pub loops : (swept_tables used t).bodies.loops ≡ front 0 (2 * used.loops) t.bodies.loops
  pub spans : (swept_tables used t).bodies.spans ≡ front (pos 0) (2 * used.loops) t.bodies.spans

pub fronts : (used : Used) (t : Tables) → Fronts used t
unfolding swept_tables
fronts used t = record { elements = refl; bodies = refl; ranges = refl; parameters = refl; loops = refl; spans = refl }

-- as long as they were
pub record Lengths (t w : Tables) : Type 0 where
  pub elements : length w.elements.elements ≡ length t.elements.elements
  pub bodies : length w.bodies.bodies ≡ length t.bodies.bodies
  pub ranges : length w.bodies.ranges ≡ length t.bodies.ranges
  pub parameters : length w.bodies.parameters ≡ length t.bodies.parameters
  pub loops : length w.bodies.loops ≡ length t.bodies.loops
  pub spans : length w.bodies.spans ≡ length t.bodies.spans

module _ (used : Used) (t : Tables) (lent : Lent used t) where
  abbrev f : Fronts used t
  f = fronts used t

  pub lengths : Lengths t (swept_tables used t)
  lengths =
      record {
        elements = ap length f.elements ∙ front_length 0 (9 * used.elements) t.elements.elements lent.elements.elements;
        bodies = ap length f.bodies ∙ front_length 0 (9 * used.bodies) t.bodies.bodies lent.bodies.bodies;
        ranges = ap length f.ranges ∙ front_length (pos 0) (4 * used.bodies) t.bodies.ranges lent.bodies.ranges;
        parameters = ap length f.parameters ∙ front_length (pos 0) used.parameters t.bodies.parameters lent.bodies.parameters;
        loops = ap length f.loops ∙ front_length 0 (2 * used.loops) t.bodies.loops lent.bodies.loops;
        spans = ap length f.spans ∙ front_length (pos 0) (2 * used.loops) t.bodies.spans lent.bodies.spans;
      }

  pub elements_same : (i : ℕ) → i < used.elements → element_at (swept_tables used t) i ≡ element_at t i
  elements_same i h =
      ap (λ (x : List ℕ). element_in x i) f.elements
      ∙ element-is (front 0 (9 * used.elements) t.elements.elements) t.elements.elements i (row_at 0 9 used.elements t.elements.elements lent.elements.elements i h)

  pub bodies-same : (i : ℕ) → i < used.bodies → body_at (swept_tables used t) i ≡ body_at t i
  bodies-same i h =
      ap (λ (x : List ℕ). body_in x (swept_tables used t).bodies.ranges i) f.bodies
      ∙ ap (λ (x : List ℤ). body_in (front 0 (9 * used.bodies) t.bodies.bodies) x i) f.ranges
      ∙ body_is (front 0 (9 * used.bodies) t.bodies.bodies) t.bodies.bodies i (row_at 0 9 used.bodies t.bodies.bodies lent.bodies.bodies i h)
      (front (pos 0) (4 * used.bodies) t.bodies.ranges) t.bodies.ranges (row_at (pos 0) 4 used.bodies t.bodies.ranges lent.bodies.ranges i h)

  pub parts_same : (i : ℕ) → i < used.loops → part_at (swept_tables used t) i ≡ part_at t i
  parts_same i h =
      part-is t (swept_tables used t) i
      (λ k b. ap (λ (x : List ℕ). get_or x (2 * i + k) 0) f.loops ∙ row_at 0 2 used.loops t.bodies.loops lent.bodies.loops i h k b)
      (λ k b. ap (λ (x : List ℤ). get_or x (2 * i + k) (pos 0)) f.spans ∙ row_at (pos 0) 2 used.loops t.bodies.spans lent.bodies.spans i h k b)

  pub parameters-same : (i : ℕ) → i < used.parameters → get_or (swept_tables used t).bodies.parameters i (pos 0) ≡ get_or t.bodies.parameters i (pos 0)
  parameters-same i h =
      ap (λ (x : List ℤ). get_or x i (pos 0)) f.parameters ∙ front_at (pos 0) used.parameters t.bodies.parameters lent.bodies.parameters i h

  pub parameters-part : (a n : ℕ) → a + n ≤ used.parameters → take n (drop a (swept_tables used t).bodies.parameters) ≡ take n (drop a t.bodies.parameters)
  parameters-part a n h =
      ap (λ (x : List ℤ). take n (drop a x)) f.parameters ∙ front-part (pos 0) used.parameters t.bodies.parameters lent.bodies.parameters a n h
