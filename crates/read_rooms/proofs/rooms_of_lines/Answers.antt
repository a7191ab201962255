-- The loop keeps what was counted with what is left (`Going`); each line takes bytes off what is left.
use Rattle.read_rooms.proofs.Going as G
use Rattle.read_rooms.proofs.rooms_of_lines.Goals as goal

pub loop-at-init : goal.loop-at-init
loop-at-init c =
    G.going_start c.args.text.now _ c.requires c.no_room-rooms.ensures

pub line_at-requires : goal.line_at-requires
line_at-requires c =
    (c.loop-at.invariant.to, c.requires)

pub both-rooms-requires : goal.both-rooms-requires
both-rooms-requires c =
    G.going-fits c.args.text.now c.requires c.loop-at.rooms c.loop-at.at c.loop-at.invariant c.loop-at-test.true c.line_at.result c.line_at.ensures _ _ c.in-Some.is

pub loop-at-smaller : goal.loop-at-smaller
loop-at-smaller c =
    (G.going_on c.args.text.now c.requires c.loop-at.rooms c.loop-at.at c.loop-at.invariant c.loop-at-test.true c.line_at.result c.line_at.ensures _ _ c.in-Some.is _ c.both-rooms.ensures).1

pub loop-at-preserved : goal.loop-at-preserved
loop-at-preserved c =
    (G.going_on c.args.text.now c.requires c.loop-at.rooms c.loop-at.at c.loop-at.invariant c.loop-at-test.true c.line_at.result c.line_at.ensures _ _ c.in-Some.is _ c.both-rooms.ensures).0

pub returns-in_default : goal.returns-in_default
returns-in_default c =
    G.going-stops c.args.text.now c.requires c.loop-at.rooms c.loop-at.at c.loop-at.invariant c.loop-at-test.true c.line_at.result c.line_at.ensures c.in_default.is

pub returns : goal.returns
returns c =
    G.going-ends c.args.text.now c.requires c.loop-at.rooms c.loop-at.at c.loop-at.invariant c.loop-at-test.false
