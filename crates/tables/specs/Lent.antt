-- Must be believed: a promise reaches every definition of this file.
-- The tables that the lent slices hold.
use Rattle.std.specs.Prelude.{◌≡◌, length}
use Rattle.tables.specs.Tables.{Tables, tables}
use Rattle.tables.specs.declared.lent.Tables.{Tables as Slices}
use Rattle.tables.specs.declared.lent.TablesMut.{TablesMut}

abbrev pub lent : Slices → Tables
lent t =
    tables t.v.now t.vt.now t.vn.now t.vp.now t.corners.now t.elements.now t.bodies.now t.ranges.now t.parameters.now t.loops.now t.spans.now

abbrev pub lent_mut : TablesMut → Tables
lent_mut t =
    tables t.v.now t.vt.now t.vn.now t.vp.now t.corners.now t.elements.now t.bodies.now t.ranges.now t.parameters.now t.loops.now t.spans.now

-- each table is the same slice
abbrev pub SameSlices : TablesMut → TablesMut → Type 0
SameSlices old new =
    record {
      v : new.v.ghost_name ≡ old.v.ghost_name;
      vt : new.vt.ghost_name ≡ old.vt.ghost_name;
      vn : new.vn.ghost_name ≡ old.vn.ghost_name;
      vp : new.vp.ghost_name ≡ old.vp.ghost_name;
      corners : new.corners.ghost_name ≡ old.corners.ghost_name;
      elements : new.elements.ghost_name ≡ old.elements.ghost_name;
      bodies : new.bodies.ghost_name ≡ old.bodies.ghost_name;
      ranges : new.ranges.ghost_name ≡ old.ranges.ghost_name;
      parameters : new.parameters.ghost_name ≡ old.parameters.ghost_name;
      loops : new.loops.ghost_name ≡ old.loops.ghost_name;
      spans : new.spans.ghost_name ≡ old.spans.ghost_name;
    }

-- each table is as long as it was
abbrev pub SameLengths : TablesMut → TablesMut → Type 0
SameLengths old new =
    record {
      v : length new.v.now ≡ length old.v.now;
      vt : length new.vt.now ≡ length old.vt.now;
      vn : length new.vn.now ≡ length old.vn.now;
      vp : length new.vp.now ≡ length old.vp.now;
      corners : length new.corners.now ≡ length old.corners.now;
      elements : length new.elements.now ≡ length old.elements.now;
      bodies : length new.bodies.now ≡ length old.bodies.now;
      ranges : length new.ranges.now ≡ length old.ranges.now;
      parameters : length new.parameters.now ≡ length old.parameters.now;
      loops : length new.loops.now ≡ length old.loops.now;
      spans : length new.spans.now ≡ length old.spans.now;
    }
