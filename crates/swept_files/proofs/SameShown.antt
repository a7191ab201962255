-- "Every element shows the same coordinates, names and loops as before."
use mathlib.Core.Path.{◌≡◌, ap, ◌∙◌}
use mathlib.Core.Bool.{true}
use Rattle.tables.specs.Tables.{Tables}
use Rattle.tables.specs.declared.Used.{Used}
use Rattle.table_rules.specs.Whole.{whole_obeys}
use Rattle.sweep.specs.Swept.{swept_tables}
use Rattle.swept_files.specs.Promises.{row_numbered, reference_in, SameShown}
use Rattle.swept_files.proofs.OneKind.{new-moved}
use Rattle.swept_files.proofs.Others.{elements_same, bodies-same, parameters-same, parts_same}
use Rattle.swept_files.proofs.Standing.{standing, reference-in}

pub same-shown : (used : Used) (t : Tables) → whole_obeys used t ≡ true → SameShown used t (swept_tables used t)
same-shown used t h =
    let s = standing used t h in
    record {
      elements = elements_same used t s.lent;
      bodies = bodies-same used t s.lent;
      parameters = parameters-same used t s.lent;
      parts = parts_same used t s.lent;
      coordinates = λ kind i j l m.
          (let r = reference-in used t s kind i j l m in
          ap (row_numbered kind (swept_tables used t)) r.after ∙ new-moved used t s.lent kind (reference_in kind t i j) r.within r.names);
    }
