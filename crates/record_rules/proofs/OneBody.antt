-- A body's parts: the tables that each looks at, the facts that its run of parameters gives, and the curv2 elements counted.
use Prim.Native.Nat.{ℕ, zero, suc, ◌+◌, ◌*◌, ◌-◌, ◌<◌, ◌≤◌}
use native.Mathlib.Nat.{add-zero, add-suc}
use native.Mathlib.Numerals.{add-one}
use native.Mathlib.Omega.{arith}
use mathlib.Core.Path.{◌≡◌, refl, sym}
use mathlib.Core.List.{List, []}
use mathlib.Core.Bool.{Bool, true, false, cond, ◌&&◌}
use borrow.Author.Tests.{leb-true}
use lib.Dec.{leb, eqb}
use lib.ListN.{length, get_or, get_or-eq_default}
use lib.IntN.{ℤ, pos}
use Rattle.lists.proofs.Tests.{and_left, and_right}
use Rattle.tables.specs.Tables.{Tables, tables}
use Rattle.tables.specs.Records.{number_at}
use Rattle.tables.specs.declared.CornerRun.{CornerRun}
use Rattle.tables.specs.declared.Used.{Used}
use Rattle.tables.specs.declared.Body.{Body}
use Rattle.record_rules.specs.Numbers.{in_range, run_in_range}
use Rattle.record_rules.specs.Corners.{corner_obeys, each_corner, corners_obey}
use Rattle.record_rules.specs.Directions.{parameters_obey}
use Rattle.record_rules.specs.Loops.{each_part, loops_obey}
use Rattle.record_rules.specs.Bodies.{surface_obeys, record_obeys}
use Rattle.record_rules.specs.Rules.{curves_among}
use Rattle.record_rules.proofs.Runs.{run_lent, run_small}

-- ---- each part looks at its own tables alone
pub corners-lent : (used : Used) (t : Tables) (kind : ℕ) (run : CornerRun)
    → corners_obey used (tables t.vertices.v t.vertices.vt t.vertices.vn t.vertices.vp t.elements.corners [] [] [] [] [] []) kind run ≡ corners_obey used t kind run
unfolding corners_obey each_corner corner_obeys
corners-lent used t kind run = refl

pub loops-lent : (used : ℕ) (t : Tables) (curves first count : ℕ)
    → loops_obey used (tables [] [] [] [] [] [] [] [] [] t.bodies.loops t.bodies.spans) curves first count ≡ loops_obey used t curves first count
unfolding loops_obey each_part
loops-lent used t curves first count = refl

-- a body without loop parts is the same after however many curv2 elements
pub record-counted : (used : Used) (t : Tables) (curves kind count : ℕ) (b : Body)
    → record_obeys used t (cond (eqb b.loops 0) 0 curves) kind count b ≡ record_obeys used t curves kind count b
unfolding record_obeys surface_obeys loops_obey
record-counted used t curves kind count b = go (eqb b.loops 0) refl
  where
    go : (q : Bool) → eqb b.loops 0 ≡ q → record_obeys used t (cond (eqb b.loops 0) 0 curves) kind count b ≡ record_obeys used t curves kind count b
    go true h = rw h
    go false h = rw h

-- ---- a body's parameters
pub record Run (surface : Bool) (l : List ℤ) (used first p q : ℕ) : Type 0 where
  pub used-ones : first + (p + q) ≤ used
  pub lent-ones : first + (p + q) ≤ length l
  pub small-ones : (k : ℕ) → k < p + q → in_range (get_or l (first + k) (pos 0)) ≡ true
  pub along-u : 2 ≤ p
  pub along-v : cond surface (leb 2 q) (eqb q 0) ≡ true

pub run-facts : (surface : Bool) (l : List ℤ) (used first p q : ℕ) → parameters_obey surface l used first p q ≡ true → Run surface l used first p q
unfolding parameters_obey
run-facts surface l used first p q h =
    let a = leb (first + (p + q)) used in
    let b = run_in_range l first (p + q) in
    let three = and_left (a && b && leb 2 p) (cond surface (leb 2 q) (eqb q 0)) h in
    let two = and_left (a && b) (leb 2 p) three in
    let run = and_right a b two in
    record {
      used-ones = leb-true (first + (p + q)) used (and_left a b two);
      lent-ones = run_lent l first (p + q) run;
      small-ones = run_small l first (p + q) run;
      along-u = leb-true 2 p (and_right (a && b) (leb 2 p) three);
      along-v = and_right (a && b && leb 2 p) (cond surface (leb 2 q) (eqb q 0)) h;
    }

pub run-v : {surface : Bool} {l : List ℤ} {used first p q : ℕ} → Run surface l used first p q → surface ≡ true → 2 ≤ q
run-v {q = q} r e = leb-true 2 q (rw e at r.along-v)

-- ---- the curv2 elements before an index
pub curves-more : (l : List ℕ) (i b r k : ℕ) → b ≡ curves_among l i → k ≡ number_at 9 l i 0 → r ≡ cond (eqb k 5) 1 0 → b + r ≡ curves_among l (i + 1)
curves-more l i b r k e g f = rw (add-one, e, f, g)

past : (l : List ℕ) (i d : ℕ) → length l ≤ i → curves_among l (i + d) ≡ curves_among l i
past l i zero h = rw add-zero
past l i (suc d) h =
    let none : get_or l (9 * (i + d) + 0) 0 ≡ 0 = get_or-eq_default l 0 (omega arith) in
    rw (add-suc, none, add-zero) (past l i d h)

pub curves-past : (l : List ℕ) (i n : ℕ) → length l ≤ i → i ≤ n → curves_among l i ≡ curves_among l n
curves-past l i n h k =
    let e : i + (n - i) ≡ n = omega arith in
    sym (rw e at (past l i (n - i) h))
