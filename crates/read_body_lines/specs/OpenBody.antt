-- The body that has no end yet, in numbers: what its lines and its end make of the state, and the form that it was opened with.
use Rattle.std.specs.Prelude.{ℕ, ◌+◌, ◌*◌, Bool, true, false, cond, ◌&&◌, eqb, leb}
use Rattle.tables.specs.Records.{body_width, range_width}
use Rattle.read_state.specs.declared.Form.{Form}
use Rattle.read_state.specs.declared.State.{State}
use Rattle.read_state.specs.State.{no_open}

-- parm: the numbers of that direction's last parm start at n
abbrev pub keeping : Bool → ℕ → State → State
keeping false n c = record { used = c.used; curves = c.curves; names = c.names; form = c.form; «open» = record { kind = c.«open».kind; controls = c.«open».controls; parts = c.«open».parts; u_at = n; v_at = c.«open».v_at } }
keeping true n c = record { used = c.used; curves = c.curves; names = c.names; form = c.form; «open» = record { kind = c.«open».kind; controls = c.«open».controls; parts = c.«open».parts; u_at = c.«open».u_at; v_at = n } }

-- trim, hole: so many loop parts more
abbrev pub looped : ℕ → State → State
looped k c =
    record {
      used = record { v = c.used.v; vt = c.used.vt; vn = c.used.vn; vp = c.used.vp; corners = c.used.corners; elements = c.used.elements; bodies = c.used.bodies; parameters = c.used.parameters; loops = c.used.loops + k };
      curves = c.curves;
      names = c.names;
      form = c.form;
      «open» = record { kind = c.«open».kind; controls = c.«open».controls; parts = c.«open».parts + k; u_at = c.«open».u_at; v_at = c.«open».v_at };
    }

-- how many curv2s there are after the end of a body of that kind: a trim counts those before it
abbrev pub curves_with : ℕ → ℕ → ℕ
curves_with kind n = cond (eqb kind 5) (n + 1) n

-- end: no body is open, its u and v parameters are used, and a curv2 may be referred to
abbrev pub closed_with : ℕ → ℕ → State → State
closed_with u v c =
    record {
      used = record { v = c.used.v; vt = c.used.vt; vn = c.used.vn; vp = c.used.vp; corners = c.used.corners; elements = c.used.elements; bodies = c.used.bodies; parameters = c.used.parameters + (u + v); loops = c.used.loops };
      curves = curves_with c.«open».kind c.curves;
      names = c.names;
      form = c.form;
      «open» = no_open;
    }

-- "Cardinal needs no deg; its degree is 3, and the deg in force stays for other types"
abbrev pub degree_for : ℕ → ℕ → ℕ
degree_for type n = cond (eqb type 3) 3 n

-- "Type and degree are those in force at the element's line": 0 is none, and without a type no body is opened
abbrev pub type_for : ℕ → ℕ
type_for type = cond (eqb type 0) 1 type

-- `body_of` of model/specs/Parse.antt in numbers: the form of a body of that kind, by what is in force; "a curve's v entries are 0"
abbrev pub form_for : ℕ → Form → Form
form_for kind f =
    record {
      basis = type_for f.basis;
      rational = f.rational;
      degree_u = degree_for f.basis f.degree_u;
      degree_v = cond (eqb kind 6) (degree_for f.basis f.degree_v) 0;
    }

-- the records of the open body, the last of so many, stand in tables of those lengths
abbrev pub body_lent : ℕ → ℕ → ℕ → Bool
body_lent n bodies ranges = leb (body_width * n) bodies && leb (range_width * n) ranges
