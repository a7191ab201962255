-- Wrong answers for the tables of the example, each beside the promise that it breaks: computed.
use Prim.Native.Nat.{ℕ}
use mathlib.Core.Path.{◌≡◌, refl, subst, ap}
use mathlib.Core.Bool.{true}
use mathlib.Core.List.{List, [], ◌∷◌}
use native.Mathlib.Omega.{arith}
use lib.ListN.{length}
use lib.IntN.{ℤ, pos}
use Rattle.lists.proofs.Tests.{never}
use Rattle.tables.specs.declared.Used.{Used}
use Rattle.model.specs.Model.{geometric, texture, parametric}
use Rattle.sweep.specs.Named.{named}
use Rattle.sweep.specs.Swept.{SweepAnswer, sweep_answer}
use Rattle.std.specs.Prelude.{Ok}
use Rattle.swept_files.specs.Promises.{AllNamed, SameShown, SameCounts, SweepCounted, number_after, Renumbered}
use Rattle.swept_files.proofs.CornersAfter.{named-held}
use Rattle.swept_files.proofs.Examples.{m, z, with, counts, before}

abbrev used : Used
used = counts 3 2 3

-- the example's answer but for its v, its corners, the number of v dropped and their new numbers
abbrev answer : Used → ℕ → List ℤ → List ℕ → List ℕ → SweepAnswer
answer u d v corners numbers =
    sweep_answer (Ok (record { used = u; dropped = record { v = d; vt = 0; vn = 1; vp = 1 } }))
    (with 0 v (z ∷ z ∷ pos 2 ∷ z ∷ z ∷ z ∷ z ∷ []) (pos 2 ∷ pos 1 ∷ z ∷ m ∷ pos 2 ∷ pos 3 ∷ z ∷ m ∷ z ∷ z ∷ z ∷ z ∷ z ∷ []) corners) numbers

abbrev rows : (a b : ℕ) → List ℤ
rows a b = pos a ∷ z ∷ z ∷ m ∷ pos b ∷ z ∷ z ∷ m ∷ z ∷ z ∷ z ∷ z ∷ z ∷ []

-- v 3, which a corner names, is dropped
pub drops-a-named-one : SweepCounted used before (answer (counts 1 1 2) 2 (rows 2 0) (1 ∷ 1 ∷ 1 ∷ 0 ∷ 1 ∷ 1 ∷ 1 ∷ 1 ∷ 1 ∷ 1 ∷ 0 ∷ 0 ∷ 2 ∷ 0 ∷ 0 ∷ 0 ∷ [])
    (0 ∷ 1 ∷ 0 ∷ 1 ∷ 0 ∷ 1 ∷ 1 ∷ 0 ∷ 2 ∷ 7 ∷ [])) geometric → ⊥
unfolding named
drops-a-named-one c = let e = c.dropped in omega arith

-- v 1, which no corner names, is kept
abbrev unnamed_kept : SweepAnswer
unnamed_kept =
    answer (counts 3 1 2) 0 (pos 1 ∷ z ∷ z ∷ m ∷ pos 2 ∷ z ∷ z ∷ m ∷ pos 3 ∷ z ∷ z ∷ m ∷ z ∷ []) (2 ∷ 1 ∷ 1 ∷ 3 ∷ 1 ∷ 1 ∷ 2 ∷ 1 ∷ 1 ∷ 1 ∷ 0 ∷ 0 ∷ 2 ∷ 0 ∷ 0 ∷ 0 ∷ [])
    (1 ∷ 2 ∷ 3 ∷ 1 ∷ 0 ∷ 1 ∷ 1 ∷ 0 ∷ 2 ∷ 7 ∷ [])

pub keeps-an-unnamed-one : AllNamed unnamed_kept.outcome.used unnamed_kept.tables → ⊥
unfolding named
keeps-an-unnamed-one a =
    let u = unnamed_kept.outcome.used in
    let t = unnamed_kept.tables in
    let n = a geometric 1 (omega arith) (omega arith) in
    let e : named u t geometric 1 ≡ true = subst (λ (k : ℕ). named u t geometric k ≡ true) n.holds (named-held u t geometric n.element n.corner n.used-one n.one-of-its) in
    never e

-- a vt is renumbered by the numbers of v
pub texture-by-vertices : SameShown used before (answer (counts 2 1 2) 1 (rows 2 3) (1 ∷ 0 ∷ 1 ∷ 2 ∷ 0 ∷ 1 ∷ 1 ∷ 0 ∷ 1 ∷ 1 ∷ 0 ∷ 0 ∷ 2 ∷ 0 ∷ 0 ∷ 0 ∷ [])
    (0 ∷ 1 ∷ 2 ∷ 1 ∷ 0 ∷ 1 ∷ 1 ∷ 0 ∷ 2 ∷ 7 ∷ [])).tables → ⊥
texture-by-vertices s = let e = ap length (s.coordinates texture 0 0 (omega arith) (omega arith)) in omega arith

-- a curv2's control is renumbered by the numbers of v
pub control-by-vertices : SameShown used before (answer (counts 2 1 2) 1 (rows 2 3) (1 ∷ 1 ∷ 1 ∷ 2 ∷ 1 ∷ 1 ∷ 1 ∷ 1 ∷ 1 ∷ 0 ∷ 0 ∷ 0 ∷ 2 ∷ 0 ∷ 0 ∷ 0 ∷ [])
    (0 ∷ 1 ∷ 2 ∷ 1 ∷ 0 ∷ 1 ∷ 1 ∷ 0 ∷ 2 ∷ 7 ∷ [])).tables → ⊥
control-by-vertices s = let e = ap length (s.coordinates parametric 1 0 (omega arith) (omega arith)) in omega arith

-- the two v that are kept change places, in rows, corners and list alike
pub changes-order : (let list : List ℕ = 0 ∷ 2 ∷ 1 ∷ 1 ∷ 0 ∷ 1 ∷ 1 ∷ 0 ∷ 2 ∷ 7 ∷ [] in
    Renumbered used before (answer (counts 2 1 2) 1 (rows 3 2) (2 ∷ 1 ∷ 1 ∷ 1 ∷ 1 ∷ 1 ∷ 2 ∷ 1 ∷ 1 ∷ 1 ∷ 0 ∷ 0 ∷ 2 ∷ 0 ∷ 0 ∷ 0 ∷ []) list) geometric
    (number_after geometric used list)) → ⊥
unfolding named
changes-order r = let e = r.order 2 3 (omega arith) (omega arith) (omega arith) refl refl in omega arith

-- the curv2 is no longer counted
pub loses-an-element : (a : SweepAnswer) → a.outcome.used.elements ≡ 1 → SameCounts used a.outcome.used → ⊥
loses-an-element a e c = let d = c.elements in omega arith
