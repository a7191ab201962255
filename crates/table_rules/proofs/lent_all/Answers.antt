-- Each table by its own test, and the tests by group.
use Rattle.table_rules.proofs.Lent.{in_a_row}
use Rattle.table_rules.proofs.lent_all.Goals as goal

pub returns : goal.returns
returns c =
    rw (
      c.is_lent.ensures,
      c.is_lent-2.ensures,
      c.is_lent-3.ensures,
      c.is_lent-4.ensures,
      c.is_lent-5.ensures,
      c.is_lent-6.ensures,
      c.is_lent-7.ensures,
      c.is_lent-8.ensures,
      c.is_lent-9.ensures,
    ) (in_a_row _ _)
