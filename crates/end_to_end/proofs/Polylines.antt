-- The tables that read_into fills obey the rules, so that the polyline's theorems hold of them; 15 is the sampler's alone.
use Prim.Native.Nat.{◌+◌, ◌*◌, ◌≤◌}
use mathlib.Core.Bool.{false}
use lib.ListN.{length}
use Rattle.tables.specs.Tables.{Tables}
use Rattle.tables.specs.declared.Used.{Used}
use Rattle.reader.specs.Reading.{rooms_of, read_into}
use Rattle.polyline.specs.Answers.{parameters_of, polyline_into}
use Rattle.polyline.proofs.Granted.{samplers-fifteen}
use Rattle.polyline.proofs.Demanded.{polylines-on-curves}
use Rattle.sampled_files.specs.Files.{axes_in}
use Rattle.sampled_files.specs.Polylines.{PointsOfPolyline}
use Rattle.sampled_files.proofs.Polylines.{accepted-polylines}
use Rattle.end_to_end.specs.Polylines.{FilledPolylines, OwnPolylines}
use Rattle.end_to_end.proofs.Third.{shown, never-15, its-obeying}

pub filled-polylines : FilledPolylines
filled-polylines s S u h =
    let t = (read_into s S).tables in
    record {
      given = λ number c. polylines-on-curves u t number (its-obeying s S u h number c);
      never-15 = λ number tolerance at points e. never-15 s S u h false number (samplers-fifteen u t number tolerance at points e);
    }

pub own-polylines : OwnPolylines
own-polylines s S u m h e number b o c k tolerance at points n =
    shown (λ (w : Used) (x : Tables). at + axes_in b.free * length (parameters_of w x number tolerance) ≤ length points
    → PointsOfPolyline m b o.one.corners (parameters_of w x number tolerance) at (polyline_into w x number tolerance at points)) s S u m h e
    (λ l. accepted-polylines (rooms_of S) s m e number b o c k tolerance at points n l)
