-- What is promised of every sweep, put together: of one that is not refused, from the samples of tables that obey; and of one that is.
use mathlib.Core.Path.{◌≡◌, sym, subst}
use mathlib.Core.Bool.{true}
use Rattle.tables.specs.Tables.{Tables}
use Rattle.tables.specs.declared.Used.{Used}
use Rattle.table_rules.specs.Whole.{whole_obeys}
use Rattle.sweep.specs.Swept.{swept_used, swept_tables}
use Rattle.swept_files.specs.Samples.{SampledSame, SweepHolds, EverySweep, EveryRefusal}
use Rattle.swept_files.proofs.Given.{sweep-is, sweep-given, refusals}
use Rattle.swept_files.proofs.SameShown.{same-shown}
use Rattle.swept_files.proofs.Counted.{counted, same-counts}
use Rattle.swept_files.proofs.Renumbered.{renumbered, rest-kept}
use Rattle.swept_files.proofs.SweptObeys.{swept-obeys}
use Rattle.swept_files.proofs.SecondSweep.{all_named, second-sweep}

pub every-sweep-from : ((used : Used) (t : Tables) → whole_obeys used t ≡ true → SampledSame used t (swept_used used t) (swept_tables used t)) → EverySweep
every-sweep-from sampled used t numbers n =
    let p = sweep-given used t numbers n in
    let h = p.whole in
    let e = sweep-is used t numbers h p.room in
    subst (SweepHolds used t numbers) (sym e)
    (record {
      shown = same-shown used t h;
      counts = same-counts used t;
      counted = counted used t h numbers;
      renumbered = renumbered used t h numbers p.room;
      rest = rest-kept used t numbers p.room;
      named = all_named used t h;
      obeys = swept-obeys used t h;
      again = second-sweep used t numbers h;
      sampled = sampled used t h;
    })

pub every-refusal : EveryRefusal
every-refusal = refusals
