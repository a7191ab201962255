-- What the code finds in the rest of a cstype, deg, s, usemtl or g line, in its own order; proofs/ say that it is what the parser finds.
use Rattle.std.specs.Prelude.{ℕ, List, [], ◌∷◌, Bool, cond, length, drop, eqb, Option as Answer, Some, None}
use Rattle.std.proofs.Math.Option.{Option, none, some}
use Rattle.text.specs.declared.Parsed as Placed
use Rattle.text.specs.Words.{Word, word_of}
use Rattle.text.specs.Rest.{Rest, end_of}
use Rattle.digits.specs.Said.{Said, says, wrong}
use Rattle.digits.specs.Degree.{degree_of, smoothing_of}
use Rattle.keywords.specs.declared.Argument.{Argument}
use Rattle.keywords.specs.declared.Argument.TheVariants.{Rational}
use Rattle.keywords.specs.Arguments.{is_argument, argument_of}
use Rattle.statements.specs.declared.Carried.{Carried}
use Rattle.statements.specs.declared.Carried.TheVariants.{BodyType, Degree, Group, Smoothing, Material}
use Rattle.statements.specs.Rules.{rules_of, counted_by}
use Rattle.tables.specs.Bodies.{Basis, basis_number}
use Rattle.tables.specs.declared.NameRun.{NameRun}
use Rattle.model.specs.Model as model
use Rattle.model.specs.Statements as statements
use Rattle.model.specs.Parse.{Parsed, fine, fault, type_said}
use Rattle.read_state.specs.State.{form_in, names_in}
use Rattle.read_state.specs.declared.Form.{Form}
use Rattle.read_state.specs.declared.Names.{Names}
use Rattle.read_settings.specs.Words.{on_fine, said_or, names_read, names_counted}
use Rattle.read_settings.specs.declared.words.NamesRead.{NamesRead}

-- what was read, and where the next line starts
abbrev pub taken : {A : Type 0} → A → ℕ → Answer (Placed.Parsed A)
taken a q = Some (record { value = a; next = q })

-- ---- what is asked of each: the line's statement done, and the next line's start; or that the parser refuses the line
abbrev pub form_taken : model.State → Option ℕ → ℕ → Parsed statements.Statement → Answer (Placed.Parsed Form)
form_taken x none q (fine t) = taken (form_in (statements.apply t x).form) q
form_taken x none q (fault n p) = None
form_taken x (some b) q y = None

abbrev pub names_taken : model.State → Option ℕ → ℕ → Parsed statements.Statement → Answer (Placed.Parsed Names)
names_taken x none q (fine t) = taken (names_in (statements.apply t x).names) q
names_taken x none q (fault n p) = None
names_taken x (some b) q y = None

-- ---- a line that its statement's row counts, by its words
abbrev pub by_row : {A : Type 0} → Carried → Rest → (List Word → A) → A → A
by_row k x f a = on_fine x.bad (cond (counted_by (rules_of k).count (length x.words)) (f x.words) a) a

-- ---- cstype
abbrev pub basis_or : Said Basis → Answer ℕ
basis_or (says t) = Some (basis_number t)
basis_or (wrong n) = None

abbrev pub is_rational : Argument → Bool
is_rational a = is_argument a Rational

abbrev pub typed : ℕ → Form → Answer ℕ → ℕ → Answer (Placed.Parsed Form)
typed r f None q = None
typed r f (Some b) q = taken (record { basis = b; rational = r; degree_u = f.degree_u; degree_v = f.degree_v }) q

-- "of two the first is rat; the last is a type"
abbrev pub type_from : Form → List Word → ℕ → Answer (Placed.Parsed Form)
type_from f [] q = None
type_from f (w ∷ []) q = typed 0 f (basis_or (type_said (argument_of w.bytes))) q
type_from f (w ∷ v ∷ ws) q = cond (is_rational (argument_of w.bytes)) (typed 1 f (basis_or (type_said (argument_of v.bytes))) q) None

abbrev pub type_taken : Form → Rest → Answer (Placed.Parsed Form)
type_taken f x = by_row BodyType x (λ ws. type_from f ws x.next) None

-- ---- deg
abbrev pub degreed : Form → ℕ → ℕ → ℕ → Answer (Placed.Parsed Form)
degreed f m n q = taken (record { basis = f.basis; rational = f.rational; degree_u = m; degree_v = n }) q

-- "A deg with one number clears the v degree": the v degree of a line of n words, the second at a place of the text, and where it ends
abbrev pub second_said : List ℕ → ℕ → ℕ → Said ℕ
second_said s place n = cond (eqb n 1) (says 0) (degree_of (word_of (drop place s)))

abbrev pub second_end : List ℕ → ℕ → ℕ → ℕ
second_end s place n = cond (eqb n 1) place (end_of s place)

abbrev pub degrees_from : Form → List Word → ℕ → Answer (Placed.Parsed Form)
degrees_from f [] q = None
degrees_from f (w ∷ []) q = said_or (degree_of w.bytes) (λ m. degreed f m 0 q) None
degrees_from f (w ∷ v ∷ ws) q = said_or (degree_of w.bytes) (λ m. said_or (degree_of v.bytes) (λ n. degreed f m n q) None) None

abbrev pub degree_taken : Form → Rest → Answer (Placed.Parsed Form)
degree_taken f x = by_row Degree x (λ ws. degrees_from f ws x.next) None

-- ---- s
abbrev pub with_smoothing : Names → ℕ → Names
with_smoothing n k = record { group = n.group; material = n.material; smoothing = k }

abbrev pub smoothing_words : Names → List Word → ℕ → Answer (Placed.Parsed Names)
smoothing_words n [] q = None
smoothing_words n (w ∷ ws) q = said_or (smoothing_of w.bytes) (λ k. taken (with_smoothing n k) q) None

abbrev pub smoothing_taken : Names → Rest → Answer (Placed.Parsed Names)
smoothing_taken n x = by_row Smoothing x (λ ws. smoothing_words n ws x.next) None

-- ---- usemtl and g: a run of names that the row counts
abbrev pub renamed : (NameRun → Names) → Answer (Placed.Parsed NameRun) → Answer (Placed.Parsed Names)
renamed f None = None
renamed f (Some p) = taken (f p.value) p.next

abbrev pub named_by : Carried → (NameRun → Names) → Answer NamesRead → Answer (Placed.Parsed Names)
named_by k f r = renamed f (names_counted (rules_of k).count r)

abbrev pub with_material : Names → NameRun → Names
with_material n r = record { group = n.group; material = r; smoothing = n.smoothing }

abbrev pub material_taken : Names → Rest → Answer (Placed.Parsed Names)
material_taken n x = named_by Material (with_material n) (names_read x)

abbrev pub with_group : Names → NameRun → Names
with_group n r = record { group = r; material = n.material; smoothing = n.smoothing }

abbrev pub group_taken : Names → Rest → Answer (Placed.Parsed Names)
group_taken n x = named_by Group (with_group n) (names_read x)
