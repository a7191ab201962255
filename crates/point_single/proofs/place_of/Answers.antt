-- Axis by axis.
use Rattle.point_single.proofs.Making.{encode-control, holds_of}
use Rattle.point_single.proofs.place_of.Goals as goal

pub returns : goal.returns
returns c =
    holds_of
    (encode-control c.control.ensures c.encode.ensures)
    (encode-control c.control-2.ensures c.encode-2.ensures)
    (encode-control c.control-3.ensures c.encode-3.ensures)
