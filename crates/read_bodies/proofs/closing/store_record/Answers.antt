-- The room was asked for at the element's line.
use Prim.Native.Nat.{◌*◌, ◌-◌}
use Rattle.table_store.proofs.Stores.{put_of}
use Rattle.tables.specs.Rows.{body_numbers}
use Rattle.read_bodies.proofs.Keeping as K
use Rattle.read_bodies.proofs.closing.store_record.Goals as goal

pub returns : goal.returns
returns c =
    let a = c.args in
    let answer = put_of a.bodies.now (9 * (a.used - 1)) c.body_row-row.ensures (c.put.ensures.value, c.put.ensures.entries_after) in
    K.record-put 9 a.used a.bodies.now (body_numbers a.body) c.requires.0 c.requires.1 answer.0 answer.1
