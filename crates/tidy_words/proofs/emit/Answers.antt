-- Written where it ends within the buffer and the longest text; else nothing is.
use Rattle.std.proofs.Common.{arith}
use Rattle.tidy_words.proofs.Emissions.{whole_room, whole-roomless}
use Rattle.tidy_words.proofs.emit.Goals as goal

pub returns-then-end-room_in : goal.returns-then-end-room_in
returns-then-end-room_in g c = whole_room c.args.at (g.W.Written.bytes c.args.word) c.args.out.now _ _ c.length.ensures c.place_after-end.ensures (omega arith) _ _ c.write.ensures

pub returns-else-end-room_in : goal.returns-else-end-room_in
returns-else-end-room_in g c = whole-roomless c.args.at (g.W.Written.bytes c.args.word) c.args.out.now _ _ c.length.ensures c.place_after-end.ensures (omega arith)
