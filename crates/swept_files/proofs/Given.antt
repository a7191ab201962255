-- A sweep is refused or given: by its two tests.
use Prim.Native.Nat.{ℕ, ◌≤◌}
use mathlib.Core.Path.{◌≡◌, refl, sym, ap, ◌∙◌}
use mathlib.Core.Bool.{Bool, true, false, cond}
use mathlib.Core.List.{List}
use native.Mathlib.Omega.{arith}
use borrow.Author.Tests.{leb-true, le-leb, lt-leb}
use lib.ListN.{length}
use lib.Dec.{leb}
use Rattle.tables.specs.Tables.{Tables}
use Rattle.tables.specs.declared.Used.{Used}
use Rattle.table_rules.specs.Whole.{whole_obeys}
use Rattle.refusals.specs.declared.Reason.TheVariants.{BrokenRecord, NoOutputRoom}
use Rattle.sweep.specs.Swept.{SweepAnswer, numbers_needed, refused_sweep, swept_answer, sweep_into}
use Rattle.swept_files.specs.Samples.{Refusals}

module _ (used : Used) (t : Tables) (numbers : List ℕ) where
  -- the answer, from the two tests
  abbrev chosen : Bool → Bool → SweepAnswer
  chosen whole room = cond whole (cond room (swept_answer used t numbers) (refused_sweep NoOutputRoom t numbers)) (refused_sweep BrokenRecord t numbers)

  sweep-chosen : sweep_into used t numbers ≡ chosen (whole_obeys used t) (leb (numbers_needed used) (length numbers))
  unfolding sweep_into
  sweep-chosen = refl

  pub sweep-is : whole_obeys used t ≡ true → numbers_needed used ≤ length numbers → sweep_into used t numbers ≡ swept_answer used t numbers
  sweep-is h room = sweep-chosen ∙ rw (h, le-leb (numbers_needed used) (length numbers) room) refl

  -- what an answer of number 0 says of the tests
  pub record Passed : Type 0 where
    pub whole : whole_obeys used t ≡ true
    pub room : numbers_needed used ≤ length numbers

  pub sweep-given : (sweep_into used t numbers).outcome.number ≡ 0 → Passed
  sweep-given n = go (whole_obeys used t) (leb (numbers_needed used) (length numbers)) refl refl (sym (ap (λ (a : SweepAnswer). a.outcome.number) sweep-chosen) ∙ n)
    where
      go : (p q : Bool) → whole_obeys used t ≡ p → leb (numbers_needed used) (length numbers) ≡ q → (chosen p q).outcome.number ≡ 0 → Passed
      go true true a b z = record { whole = a; room = leb-true (numbers_needed used) (length numbers) b }
      go true false a b z = absurd (omega arith)
      go false q a b z = absurd (omega arith)

  pub refusals : Refusals used t numbers (sweep_into used t numbers)
  refusals =
      let room = leb (numbers_needed used) (length numbers) in
      let number : (sweep_into used t numbers).outcome.number ≡ (chosen (whole_obeys used t) room).outcome.number = ap (λ (a : SweepAnswer). a.outcome.number) sweep-chosen in
      record {
        fifteen = λ h. number ∙ rw h refl;
        sixteen = λ h l. number ∙ rw (h, lt-leb (numbers_needed used) (length numbers) l) refl;
        given = λ h l. number ∙ rw (h, le-leb (numbers_needed used) (length numbers) l) refl;
        same_tables = λ n. ap (λ (a : SweepAnswer). a.tables) sweep-chosen ∙ (left (whole_obeys used t) room (λ z. n (number ∙ z))).0;
        same_numbers = λ n. ap (λ (a : SweepAnswer). a.numbers) sweep-chosen ∙ (left (whole_obeys used t) room (λ z. n (number ∙ z))).1;
      }
    where
      left : (p q : Bool) → ((chosen p q).outcome.number ≡ 0 → ⊥) → ((chosen p q).tables ≡ t) × ((chosen p q).numbers ≡ numbers)
      left true true z = absurd (z refl)
      left true false z = (refl, refl)
      left false q z = (refl, refl)
