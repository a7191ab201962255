-- Must be believed: a promise reaches every definition of this file.
-- An element and a body as the records of numbers that another language gets, field by field.
use Rattle.tables.specs.declared.Element.{Element}
use Rattle.tables.specs.declared.Body.{Body}
use Rattle.c_tables.specs.declared.records.ElementRecord.{ElementRecord}
use Rattle.c_tables.specs.declared.records.BodyRecord.{BodyRecord}

-- "An element holds kind, corners, smoothing, and the place and length of its group run and material in the text."
abbrev pub element_record : Element → ElementRecord
element_record e =
    record {
      kind = e.kind;
      first_corner = e.corners.first;
      corners = e.corners.count;
      body = e.body;
      smoothing = e.smoothing;
      group_place = e.group.place;
      group_length = e.group.length;
      material_place = e.material.place;
      material_length = e.material.length;
    }

-- "A body holds type, rational or not, degrees, ranges, parameters (u, then v), loops; a curve's v entries are 0."
abbrev pub body_record : Body → BodyRecord
body_record b =
    record {
      basis = b.basis;
      rational = b.rational;
      u_degree = b.degree_u;
      v_degree = b.degree_v;
      first_parameter = b.first_parameter;
      u_parameters = b.count_u;
      v_parameters = b.count_v;
      first_loop_part = b.first_loop;
      loop_parts = b.loops;
      u_start = b.start_u;
      u_end = b.end_u;
      v_start = b.start_v;
      v_end = b.end_v;
    }
