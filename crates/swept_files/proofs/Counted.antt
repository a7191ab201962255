-- "For each kind, kept plus dropped is the old count, and dropped is counted from the references alone."
use Prim.Native.Nat.{ℕ, ◌+◌}
use mathlib.Core.Path.{◌≡◌, refl, ap₂, ◌∙◌}
use mathlib.Core.Bool.{true}
use mathlib.Core.List.{List}
use Rattle.tables.specs.Tables.{Tables}
use Rattle.tables.specs.declared.Used.{Used}
use Rattle.model.specs.Model.{VertexKind}
use Rattle.table_rules.specs.Whole.{whole_obeys}
use Rattle.sweep.specs.Named.{used_of_kind, named}
use Rattle.sweep.specs.Swept.{swept_used, swept_answer}
use Rattle.swept_files.specs.Promises.{SweepCounted, SameCounts}
use Rattle.sweep_marks.proofs.Counting.{kept-dropped}
use Rattle.swept_files.proofs.OneKind.{used-in, dropped-in}

pub counted : (used : Used) (t : Tables) → whole_obeys used t ≡ true → (numbers : List ℕ) (kind : VertexKind) → SweepCounted used t (swept_answer used t numbers) kind
counted used t h numbers kind =
    record {
      sum = ap₂ (λ (x y : ℕ). x + y) (used-in used t kind) (dropped-in used t kind) ∙ kept-dropped (named used t kind) (used_of_kind kind used);
      dropped = dropped-in used t kind;
    }

pub same-counts : (used : Used) (t : Tables) → SameCounts used (swept_used used t)
unfolding swept_used
same-counts used t = record { corners = refl; elements = refl; bodies = refl; parameters = refl; loops = refl }
