-- The lines of curv, curv2, surf: what the rest of a line says as a body's element, and what is stored of it.
use Rattle.std.specs.Prelude.{ℕ, zero, suc, ◌+◌, ◌*◌, ◌-◌, ◌≤◌, ◌<◌, ◌≡◌, ◌⊎◌, Bool, true, false, cond, ◌&&◌, not, List, length, get_or, drop, leb, eqb, ℤ, pos, Option as Answer, Some, None}
use Rattle.std.proofs.Math.Option.{Option, none, some}
use Rattle.std.specs.Int.Signed.{lt_z}
use Rattle.std.proofs.lemmas.List.Edits.{sets}
use Rattle.lists.specs.Lists.{all, flat}
use Rattle.text.specs.Rest.{Rest, rest_at}
use Rattle.text.specs.declared.Parsed.{Parsed}
use Rattle.references.specs.Corner.{Corner}
use Rattle.tables.specs.declared.Used.{Used}
use Rattle.read_state.specs.declared.Names.{Names}
use Rattle.read_state.specs.declared.Form.{Form}
use Rattle.read_state.specs.Numbers.{Walk, ended, full, stuck, numbers_walk}
use Rattle.model.specs.Model as model
use Rattle.statements.specs.declared.rules.WordForm.{WordForm}
use Rattle.statements.specs.declared.rules.WordForm.TheVariants as form
use Rattle.tables.specs.Bodies.{basis_number, cardinal}
use Rattle.model.specs.Parse.{range_words, fewest_controls, control_form}
use Rattle.model.specs.Layout.{corner_row, free_number}
use Rattle.read_elements.specs.Corners.{CornersFound}
use Rattle.tables.specs.Rows.{element_numbers}
use Rattle.read_elements.specs.Elements.{element_said, stored_element}
use Rattle.read_elements.specs.declared.CornerForm.{CornerForm}
use Rattle.read_elements.specs.declared.CornerForm.TheVariants.{Vertex, Parameter}
use Rattle.read_elements.specs.declared.Rule.{Rule}

-- the form of a control, as its statement's row says it
abbrev pub corner_form : WordForm → CornerForm
corner_form form.Number = Parameter
corner_form (form.Corner p) = Vertex p
corner_form form.Control = Parameter
corner_form form.Curve = Parameter
corner_form form.Direction = Parameter
corner_form form.Type = Parameter
corner_form form.Rational = Parameter
corner_form form.Degree = Parameter
corner_form form.Smoothing = Parameter
corner_form form.Name = Parameter
corner_form form.Anything = Parameter

abbrev pub controls_of : model.Free → CornerForm
controls_of k = corner_form (control_form k)

abbrev pub rule_for : model.Free → Rule
rule_for k = record { kind = free_number k; fewest = fewest_controls k; form = controls_of k }

-- ---- 11: "Cardinal needs no deg"; the number of no type is 0
abbrev pub degrees_in : model.Free → Form → Bool
degrees_in model.curve f = leb 1 f.degree_u
degrees_in model.curve2 f = leb 1 f.degree_u
degrees_in model.surface f = leb 1 f.degree_u && leb 1 f.degree_v

abbrev pub form_in_force : model.Free → Form → Bool
form_in_force k f = cond (eqb f.basis 0) false (cond (eqb f.basis (basis_number cardinal)) true (degrees_in k f))

-- ---- 12: "A curv2 control must have at least two coordinates given": the record of a vp, four numbers, begins with how many were given
abbrev pub wide_at : List ℤ → ℕ → Bool
wide_at vp k = cond (eqb k 0) false (not (lt_z (get_or vp (4 * (k - 1)) (pos 0)) (pos 2)))

-- the first n corners of a table
abbrev pub wides : List ℤ → ℕ → List ℕ → Bool
wides vp zero t = true
wides vp (suc n) t = wide_at vp (get_or t 0 0) && wides vp n (drop 3 t)

abbrev pub wides_for : model.Free → List ℤ → ℕ → List ℕ → Bool
wides_for model.curve vp n t = true
wides_for model.curve2 vp n t = wides vp n t
wides_for model.surface vp n t = true

abbrev pub wide_in : model.Free → List ℤ → List Corner → Bool
wide_in model.curve vp cs = true
wide_in model.curve2 vp cs = all (λ c. wide_at vp c.v) cs
wide_in model.surface vp cs = true

abbrev pub wide_only : model.Free → List ℤ → CornersFound → CornersFound
wide_only k vp none = none
wide_only k vp (some p) = cond (wide_in k vp p.0) (some p) none

-- controls that may be a body's
abbrev pub controls_said : model.Free → Used → List ℤ → Rest → CornersFound
controls_said k n vp r = wide_only k vp (element_said (rule_for k) n r)

-- ---- the range, the controls and where the next line starts
abbrev pub BodyLine : Type 0
BodyLine = Option (List ℤ × (List Corner × ℕ))

abbrev pub after_range : List ℤ → CornersFound → BodyLine
after_range zs none = none
after_range zs (some p) = some (zs, p)

abbrev pub on_range : Walk → (Rest → CornersFound) → BodyLine
on_range (ended zs q) k = none
on_range (full zs r) k = after_range zs (k r)
on_range stuck k = none

abbrev pub body_said : model.Free → Used → Form → List ℤ → Rest → BodyLine
body_said k n f vp r = cond (form_in_force k f) (on_range (numbers_walk (range_words k) r) (controls_said k n vp)) none

-- ---- the corner table held l and then holds m; the elements' held e and then holds f
pub record TakenControls (k : model.Free) (n : Used) (a : Names) (vp : List ℤ) (s : List ℕ) (at : ℕ) (l m e f : List ℕ) (count next : ℕ) : Type 0 where
  pub found : List Corner
  pub said : controls_said k n vp (rest_at s at) ≡ some (found, next)
  pub counted : count ≡ length found
  pub corners-room : n.corners + 3 * count ≤ length l
  pub corners-stored : m ≡ sets l n.corners (flat corner_row found)
  pub elements-room : 9 * n.elements + 9 ≤ length e
  pub elements-stored : f ≡ sets e (9 * n.elements) (element_numbers (stored_element (free_number k) n.corners count (n.bodies + 1) a))

pub record NoControls (k : model.Free) (n : Used) (vp : List ℤ) (s : List ℕ) (at : ℕ) (l m e f : List ℕ) : Type 0 where
  pub same-corners : length m ≡ length l
  pub same-elements : length f ≡ length e
  pub short : (cs : List Corner) (q : ℕ) → controls_said k n vp (rest_at s at) ≡ some (cs, q) → (length l < n.corners + 3 * length cs) ⊎ (length e < 9 * n.elements + 9)

abbrev pub ControlsAre : model.Free → Used → Names → List ℤ → List ℕ → ℕ → List ℕ → List ℕ → List ℕ → List ℕ → Answer (Parsed ℕ) → Type 0
ControlsAre k n a vp s at l m e f (Some p) = TakenControls k n a vp s at l m e f p.value p.next
ControlsAre k n a vp s at l m e f None = NoControls k n vp s at l m e f

-- ---- and the ranges' table held y and then holds z; the bodies' has room for `bodies` entries
pub record TakenBody (k : model.Free) (n : Used) (a : Names) (g : Form) (vp : List ℤ) (s : List ℕ) (at : ℕ) (l m e f : List ℕ) (bodies : ℕ) (y z : List ℤ) (count next : ℕ) : Type 0 where
  pub range : List ℤ
  pub found : List Corner
  pub said : body_said k n g vp (rest_at s at) ≡ some (range, (found, next))
  pub counted : count ≡ length found
  pub corners-room : n.corners + 3 * count ≤ length l
  pub corners-stored : m ≡ sets l n.corners (flat corner_row found)
  pub elements-room : 9 * n.elements + 9 ≤ length e
  pub elements-stored : f ≡ sets e (9 * n.elements) (element_numbers (stored_element (free_number k) n.corners count (n.bodies + 1) a))
  pub bodies-room : 9 * n.bodies + 9 ≤ bodies
  pub ranges-room : 4 * n.bodies + 4 ≤ length y
  pub ranges-stored : z ≡ sets y (4 * n.bodies) range

-- whatever body the line begins has no room
pub record NoBody (k : model.Free) (n : Used) (g : Form) (vp : List ℤ) (s : List ℕ) (at : ℕ) (l m e f : List ℕ) (bodies : ℕ) (y z : List ℤ) : Type 0 where
  pub same-corners : length m ≡ length l
  pub same-elements : length f ≡ length e
  pub same-ranges : length z ≡ length y
  pub short : (zs : List ℤ) (cs : List Corner) (q : ℕ) → body_said k n g vp (rest_at s at) ≡ some (zs, (cs, q))
      → ((length l < n.corners + 3 * length cs) ⊎ (length e < 9 * n.elements + 9)) ⊎ ((bodies < 9 * n.bodies + 9) ⊎ (length y < 4 * n.bodies + 4))

abbrev pub BodyIs : model.Free → Used → Names → Form → List ℤ → List ℕ → ℕ → List ℕ → List ℕ → List ℕ → List ℕ → ℕ → List ℤ → List ℤ → Answer (Parsed ℕ) → Type 0
BodyIs k n a g vp s at l m e f bodies y z (Some p) = TakenBody k n a g vp s at l m e f bodies y z p.value p.next
BodyIs k n a g vp s at l m e f bodies y z None = NoBody k n g vp s at l m e f bodies y z
