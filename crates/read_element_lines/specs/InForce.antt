-- A line that changes what is in force: what its taker's answer makes of the state.
use Rattle.std.specs.Prelude.{Option, Some, None}
use Rattle.text.specs.declared.Parsed.{Parsed}
use Rattle.model.specs.Parse as parse
use Rattle.model.specs.Parse.{Keyword}
use Rattle.read_state.specs.declared.State.{State}
use Rattle.read_state.specs.declared.Form.{Form}
use Rattle.read_state.specs.declared.Names.{Names}
use Rattle.read_element_lines.specs.declared.setting_lines.Setting.{Setting}
use Rattle.read_element_lines.specs.declared.setting_lines.Setting.TheVariants.{BodyType, Degree, Group, Smoothing, Material, PassedOver}
use Rattle.read_vertex_lines.specs.Stepping.{Step, accepted, rejected}

abbrev pub with_form : Form → State → State
with_form f c = record { used = c.used; curves = c.curves; names = c.names; form = f; «open» = c.«open» }

abbrev pub with_names : Names → State → State
with_names n c = record { used = c.used; curves = c.curves; names = n; form = c.form; «open» = c.«open» }

abbrev pub form_step : State → Option (Parsed Form) → Step
form_step c (Some p) = accepted (with_form p.value c) p.next
form_step c None = rejected

abbrev pub names_step : State → Option (Parsed Names) → Step
names_step c (Some p) = accepted (with_names p.value c) p.next
names_step c None = rejected

abbrev pub setting_of : Setting → Keyword
setting_of BodyType = parse.cstype
setting_of Degree = parse.deg
setting_of Group = parse.g
setting_of Smoothing = parse.s
setting_of Material = parse.usemtl
setting_of PassedOver = parse.over
