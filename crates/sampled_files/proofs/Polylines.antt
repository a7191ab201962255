-- The tables of an accepted text obey the rules, so that the polyline's theorems hold of them, and what they give is the file's own.
use Prim.Native.Nat.{ℕ, ◌+◌, ◌*◌, ◌≤◌}
use mathlib.Core.Path.{sym, ap, ◌∙◌, subst}
use native.Mathlib.Omega.{arith}
use lib.ListN.{length, get_or}
use lib.IntN.{pos}
use Rattle.model.specs.Layout.{tables_of, used_of}
use Rattle.sampler.specs.Points.{axes_of}
use Rattle.sampler.specs.Answers.{element_of}
use Rattle.sampler.specs.Demand3.{OnCurve}
use Rattle.polyline.specs.Answers.{polyline_outcome, parameters_of, polyline_into}
use Rattle.polyline.proofs.Granted.{agreed-polyline}
use Rattle.polyline.proofs.Demanded.{polylines-on-curves}
use Rattle.sampled_files.specs.Accepted.{AcceptedPolylines}
use Rattle.sampled_files.specs.Files.{axes_in}
use Rattle.sampled_files.proofs.Accepted.{its-obeying, is-curve, axes-are, close}

pub accepted-polylines : AcceptedPolylines
accepted-polylines R s m h number b o c k tolerance at points n l =
    let t = tables_of R m in
    let x = parameters_of (used_of m) t number tolerance in
    let w = axes-are R s m h number b o c k in
    let room : at + axes_of (element_of t number) * length x ≤ length points = subst (λ (j : ℕ). at + j * length x ≤ length points) (sym w) l in
    let a = polylines-on-curves (used_of m) t number (its-obeying R s m h number b o c) (is-curve R s m h number b o c k) tolerance at points n room in
    let told = sym (agreed-polyline (used_of m) t number tolerance at points) ∙ ap polyline_outcome a.given in
    record {
      given = ap (λ q. q.number) told;
      count = ap (λ q. q.points) told;
      near = λ j axis d e. close R s m h number b o c k (get_or x j (pos 0)) axis (get_or (polyline_into (used_of m) t number tolerance at points).points (at + (axes_in b.free * j + axis)) (pos 0)) e
          (subst (λ (i : ℕ). OnCurve t number (get_or x j (pos 0)) axis (get_or (polyline_into (used_of m) t number tolerance at points).points (at + (i * j + axis)) (pos 0))) w
          (a.near j axis d (let q = w in omega arith)));
    }
