-- A text that is too long needs none; any other is counted line by line.
use Rattle.read_rooms.proofs.Going.{rooms-long}
use Rattle.read_rooms.proofs.rooms_of.Goals as goal

pub returns-then-text-gt16777216 : goal.returns-then-text-gt16777216
returns-then-text-gt16777216 c = rooms-long c.args.text.now _ c.if-text-gt16777216.true c.no_room.ensures
