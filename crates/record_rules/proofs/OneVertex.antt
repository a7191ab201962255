-- A vertex that obeys its rules: what its tests say, one by one.
use Prim.Native.Nat.{ℕ, ◌+◌, ◌*◌, ◌-◌, ◌<◌, ◌≤◌}
use mathlib.Core.Path.{◌≡◌}
use mathlib.Core.List.{List}
use mathlib.Core.Bool.{true, ◌&&◌}
use lib.ListN.{length, get_or}
use lib.Dec.{leb}
use lib.IntN.{ℤ, pos}
use borrow.Author.Tests.{leb-true}
use Rattle.lists.proofs.Tests.{and_left, and_right}
use Rattle.record_rules.specs.Numbers.{in_range, run_in_range}
use Rattle.record_rules.specs.Vertices.{vertex_obeys, parameter_vertex_obeys}
use Rattle.record_rules.proofs.Runs.{run_lent, run_small}

-- record k of w numbers: its number, the entries it takes, its range
pub record Vertex (w : ℕ) (l : List ℤ) (used k : ℕ) : Type 0 where
  pub some : 1 ≤ k
  pub used-one : k ≤ used
  pub lent : w * (k - 1) + w ≤ length l
  pub small : (j : ℕ) → j < w → in_range (get_or l (w * (k - 1) + j) (pos 0)) ≡ true

pub vertex-facts : (w : ℕ) (l : List ℤ) (used k : ℕ) → vertex_obeys w l used k ≡ true → Vertex w l used k
unfolding vertex_obeys
vertex-facts w l used k h =
    let run = and_right (leb 1 k && leb k used) (run_in_range l (w * (k - 1)) w) h in
    let ends = and_left (leb 1 k && leb k used) (run_in_range l (w * (k - 1)) w) h in
    record {
      some = leb-true 1 k (and_left (leb 1 k) (leb k used) ends);
      used-one = leb-true k used (and_right (leb 1 k) (leb k used) ends);
      lent = run_lent l (w * (k - 1)) w run;
      small = run_small l (w * (k - 1)) w run;
    }

pub parameter-facts : (l : List ℤ) (used k : ℕ) → parameter_vertex_obeys l used k ≡ true → Vertex 4 l used k
unfolding parameter_vertex_obeys
parameter-facts l used k h = vertex-facts 4 l used k (and_left (vertex_obeys 4 l used k) _ h)
