-- The counts of a state with an element or a body more.
use Rattle.std.specs.Prelude.{ℕ, ◌+◌, ◌*◌}
use Rattle.tables.specs.declared.Used.{Used}
use Rattle.model.specs.Model.{Free}
use Rattle.model.specs.Layout.{free_number}
use Rattle.read_state.specs.declared.State.{State}

-- one element more, of so many corners
abbrev pub one_element : ℕ → Used → Used
one_element n u = record { v = u.v; vt = u.vt; vn = u.vn; vp = u.vp; corners = u.corners + 3 * n; elements = u.elements + 1; bodies = u.bodies; parameters = u.parameters; loops = u.loops }

-- one body more, of the kind k with so many controls, and its element
abbrev pub one_body : Free → ℕ → State → State
one_body k n c =
    record {
      used = record { v = c.used.v; vt = c.used.vt; vn = c.used.vn; vp = c.used.vp; corners = c.used.corners + 3 * n; elements = c.used.elements + 1; bodies = c.used.bodies + 1; parameters = c.used.parameters; loops = c.used.loops };
      curves = c.curves;
      names = c.names;
      form = c.form;
      «open» = record { kind = free_number k; controls = n; parts = 0; u_at = 0; v_at = 0 };
    }
