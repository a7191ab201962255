-- The vertex, then what stands after it.
use Rattle.references.specs.Written.{written_whole, written_corner}
use Rattle.word_format.specs.Parts.{written_parts}
use Rattle.word_format.proofs.Stores.{first-room, rest-room, both_stored}
use Rattle.word_format.proofs.Corners.{corner-is}
use Rattle.word_format.proofs.write_corner.Goals as goal

pub write_whole-second-requires : goal.write_whole-second-requires
write_whole-second-requires c =
    let a = c.args in
    first-room a.out.now a.at (written_corner (record { v = a.v; vt = a.vt; vn = a.vn })) (written_whole a.v) (written_parts a.vt a.vn) (corner-is a.v a.vt a.vn) c.requires

pub write_parts-requires : goal.write_parts-requires
write_parts-requires c =
    let a = c.args in
    let w = c.write_whole-second in
    rest-room a.out.now a.at (written_corner (record { v = a.v; vt = a.vt; vn = a.vn })) (written_whole a.v) (written_parts a.vt a.vn) (corner-is a.v a.vt a.vn) c.write_whole-second.result c.write_whole-second.new.out c.write_whole-second.ensures c.requires

pub returns : goal.returns
returns c =
    let a = c.args in
    both_stored a.out.now a.at _ (written_whole a.v) (written_parts a.vt a.vn) (corner-is a.v a.vt a.vn) _ _ _ _ c.write_whole-second.ensures c.write_parts.ensures
