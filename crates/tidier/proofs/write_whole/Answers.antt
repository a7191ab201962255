-- The text is written where there is room for all of it; its length tells where there was not.
use Rattle.std.proofs.Common.{arith}
use Rattle.tables.specs.Lent.{lent}
use Rattle.tidy_writer.specs.TidyFrom.{tidy_from}
use Rattle.tidier.proofs.Answers.{too-long, written-whole}
use Rattle.tidier.proofs.write_whole.Goals as goal

pub returns-then-room_in-length : goal.returns-then-room_in-length
returns-then-room_in-length c =
    let a = c.args in
    too-long (tidy_from a.weights a.text.now a.used (lent a.t.now)) a.out.now _ a.used (lent a.t.now) c.write_tidy-length.result c.write_tidy-length.ensures (omega (arith, c.room_in.ensures, c.if-room_in-length.true))

pub returns : goal.returns
returns c =
    let a = c.args in
    written-whole (tidy_from a.weights a.text.now a.used (lent a.t.now)) a.out.now _ a.used (lent a.t.now) c.write_tidy-length.result c.write_tidy-length.ensures (omega (arith, c.room_in.ensures, c.if-room_in-length.false))
