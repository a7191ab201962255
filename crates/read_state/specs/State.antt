-- How the numbers of a State stand for what is in force.
use Rattle.std.specs.Prelude.{ℕ, suc, ◌*◌, ◌<◌, ◌≤◌, ◌≡◌, List, [], length, ℤ}
use Rattle.std.proofs.Math.Option.{Option, none, some}
use Rattle.text.specs.Rest.{rest_at}
use Rattle.tables.specs.Bodies.{Basis, basis_number}
use Rattle.tables.specs.Records.{corner_width}
use Rattle.tables.specs.declared.Used.{Used}
use Rattle.model.specs.Model as model
use Rattle.model.specs.Room.{corner_count, element_count, body_count, parameter_count, loop_part_count, part_count}
use Rattle.model.specs.Layout.{run_of, listed, flag, free_number}
use Rattle.read_state.specs.declared.Names.{Names}
use Rattle.read_state.specs.declared.Form.{Form}
use Rattle.read_state.specs.declared.Open.{Open}
use Rattle.read_state.specs.declared.State.{State}
use Rattle.read_state.specs.Numbers.{ended, numbers_walk}

abbrev pub names_in : model.Names → Names
names_in n = record { group = run_of n.group; material = run_of (listed n.material); smoothing = n.smoothing }

abbrev pub basis_number_in : Option Basis → ℕ
basis_number_in none = 0
basis_number_in (some t) = basis_number t

abbrev pub form_in : model.Form → Form
form_in f = record { basis = basis_number_in f.basis; rational = flag f.rational; degree_u = f.degree-u; degree_v = f.degree-v }

-- how many records there are, the element of a body that has no end yet among them
abbrev pub used_in : model.State → Used
used_in x =
    record {
      v = length x.model.vertices.v;
      vt = length x.model.vertices.vt;
      vn = length x.model.vertices.vn;
      vp = length x.model.vertices.vp;
      corners = corner_width * corner_count x;
      elements = element_count x;
      bodies = body_count x;
      parameters = parameter_count x;
      loops = loop_part_count x;
    }

-- the numbers of the last parm of a direction, by where they start in the text s: 0 where there was none
pub record ParmAt (s : List ℕ) (at : ℕ) (zs : List ℤ) : Type 0 where
  pub within : at ≤ length s
  pub none-there : at ≡ 0 → zs ≡ []
  pub some-there : 0 < at → (0 < length zs) × (numbers_walk (suc (length s)) (rest_at s at) ≡ ended zs (rest_at s at).next)

abbrev pub no_open : Open
no_open = record { kind = 0; controls = 0; parts = 0; u_at = 0; v_at = 0 }

pub record OpenBodyIs (s : List ℕ) (o : model.Open) (c : Open) : Type 0 where
  pub kind : c.kind ≡ free_number o.body.free
  pub controls : c.controls ≡ length o.controls
  pub parts : c.parts ≡ part_count o.body
  pub u : ParmAt s c.u_at o.body.us
  pub v : ParmAt s c.v_at o.body.vs

abbrev pub OpenIs : List ℕ → Option model.Open → Open → Type 0
OpenIs s none c = c ≡ no_open
OpenIs s (some o) c = OpenBodyIs s o c

-- the state x of a text s, read up to a place of it, in numbers
pub record StateIs (s : List ℕ) (x : model.State) (c : State) : Type 0 where
  pub used : c.used ≡ used_in x
  pub curves : c.curves ≡ model.curves x.model.elements
  pub names : c.names ≡ names_in x.names
  pub form : c.form ≡ form_in x.form
  pub open-body : OpenIs s x.open-body c.open
