-- Copied where it ends within the buffer and the longest text; else nothing is.
use Prim.Native.Nat.{◌-◌}
use lib.ListN.{drop}
use native.Mathlib.Omega.{arith}
use Rattle.text.specs.Words.{word_of}
use Rattle.tidy_words.proofs.Emissions.{whole_room, whole-roomless}
use Rattle.tidy_words.proofs.names.emit_word.Goals as goal

pub returns-then-end-room_in : goal.returns-then-end-room_in
returns-then-end-room_in c =
    whole_room c.args.at (word_of (drop c.args.from c.args.text.now)) c.args.out.now (c.args.to - c.args.from) _ (omega arith) c.place_after-end.ensures (omega arith) _ _ c.copy_word.ensures

pub returns-else-end-room_in : goal.returns-else-end-room_in
returns-else-end-room_in c =
    let e = c.place_after-end in
    whole-roomless c.args.at (word_of (drop c.args.from c.args.text.now)) c.args.out.now (c.args.to - c.args.from) c.place_after-end.result (omega arith) c.place_after-end.ensures (omega arith)
