-- The word copied where it has room.
use native.Mathlib.Omega.{arith}
use lib.ListN.{length, drop}
use Rattle.text.specs.Words.{word_of}
use Rattle.spellings.proofs.Write.{wrote-all, wrote_nothing, no_room}
use Rattle.spellings.proofs.write_row.Goals as goal

pub returns-then-out-word_end : goal.returns-then-out-word_end
returns-then-out-word_end c =
    let a = c.args in
    let w = word_of (drop a.from a.table.now) in
    wrote_nothing a.out.now w (no_room (length a.out.now) w (omega arith))

pub returns : goal.returns
returns c =
    let a = c.args in
    wrote-all a.out.now (word_of (drop a.from a.table.now)) c.copy_word.result _ (omega arith) c.copy_word.ensures.0 c.copy_word.ensures.1
