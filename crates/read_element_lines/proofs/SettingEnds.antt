-- A setting that is accepted ends where its line does, whatever is in force. By the words.
use Prim.Native.Nat.{ℕ}
use mathlib.Core.Path.{◌≡◌, refl}
use mathlib.Core.List.{List, [], ◌∷◌}
use mathlib.Core.Bool.{Bool, true, false, cond}
use mathlib.Core.Option.{Option, none, some}
use lib.ListN.{length}
use Rattle.lists.specs.Lists.{all}
use Rattle.text.specs.Words.{Word}
use Rattle.text.specs.Rest.{Rest}
use Rattle.digits.specs.Said.{Said, says, wrong}
use Rattle.digits.specs.Degree.{degree_of, smoothing_of}
use Rattle.keywords.specs.Arguments.{argument_of}
use Rattle.statements.specs.declared.Carried.{Carried}
use Rattle.statements.specs.declared.Carried.TheVariants.{BodyType, Degree, Group, Smoothing, Material}
use Rattle.statements.specs.Rules.{rules_of, counted_by}
use Rattle.tables.specs.declared.NameRun.{NameRun}
use Rattle.model.specs.Layout.{run_of}
use Rattle.model.specs.Parse.{type_said}
use Rattle.read_state.specs.declared.Form.{Form}
use Rattle.read_state.specs.declared.Names.{Names}
use Rattle.read_settings.specs.Words.{on_fine, said_or, is_name, run-read, names_read}
use Rattle.read_settings.specs.Steps.{by_row, basis_or, is_rational, typed, type_from, type_taken, degrees_from, degree_taken, smoothing_words, smoothing_taken, renamed, named_by, with_material, material_taken, with_group, group_taken}
use Rattle.std.specs.Prelude.{Option as Answer, Some, None}
use Rattle.text.specs.declared.Parsed.{Parsed}

abbrev pub FormEnds : ℕ → Answer (Parsed Form) → Type 0
FormEnds q (Some p) = p.next ≡ q
FormEnds q None = Unit {0}

abbrev pub NamesEnd : ℕ → Answer (Parsed Names) → Type 0
NamesEnd q (Some p) = p.next ≡ q
NamesEnd q None = Unit {0}

-- ---- what both answers of a choice have, the choice has
module _ {A : Type 0} (P : A → Type 0) where
  on_test : (t : Bool) {a b : A} → P a → P b → P (cond t a b)
  on_test true x y = x
  on_test false x y = y

  on_fine-both : (o : Option ℕ) {a b : A} → P a → P b → P (on_fine o a b)
  on_fine-both none x y = x
  on_fine-both (some p) x y = y

  on-said : {C : Type 0} (v : Said C) {f : C → A} {a : A} → ((c : C) → P (f c)) → P a → P (said_or v f a)
  on-said (says c) h x = h c
  on-said (wrong n) h x = x

  by_row-both : (k : Carried) (x : Rest) (f : List Word → A) (a : A) → ((ws : List Word) → P (f ws)) → P a → P (by_row k x f a)
  by_row-both k x f a h y = on_fine-both x.bad (on_test (counted_by (rules_of k).count (length x.words)) (h x.words) y) y

-- ---- cstype
typed-ends : (r : ℕ) (f : Form) (b : Answer ℕ) (q : ℕ) → FormEnds q (typed r f b q)
typed-ends r f None q = tt
typed-ends r f (Some b) q = refl

type-words : (f : Form) (ws : List Word) (q : ℕ) → FormEnds q (type_from f ws q)
type-words f [] q = tt
type-words f (w ∷ []) q = typed-ends 0 f (basis_or (type_said (argument_of w.bytes))) q
type-words f (w ∷ v ∷ ws) q = on_test (FormEnds q) (is_rational (argument_of w.bytes)) (typed-ends 1 f (basis_or (type_said (argument_of v.bytes))) q) tt

pub type-ends : (f : Form) (x : Rest) → FormEnds x.next (type_taken f x)
type-ends f x = by_row-both (FormEnds x.next) BodyType x (λ ws. type_from f ws x.next) None (λ ws. type-words f ws x.next) tt

-- ---- deg
degree-words : (f : Form) (ws : List Word) (q : ℕ) → FormEnds q (degrees_from f ws q)
degree-words f [] q = tt
degree-words f (w ∷ []) q = on-said (FormEnds q) (degree_of w.bytes) (λ m. refl) tt
degree-words f (w ∷ v ∷ ws) q = on-said (FormEnds q) (degree_of w.bytes) (λ m. on-said (FormEnds q) (degree_of v.bytes) (λ n. refl) tt) tt

pub degree-ends : (f : Form) (x : Rest) → FormEnds x.next (degree_taken f x)
degree-ends f x = by_row-both (FormEnds x.next) Degree x (λ ws. degrees_from f ws x.next) None (λ ws. degree-words f ws x.next) tt

-- ---- s, usemtl, g
smoothing-words : (n : Names) (ws : List Word) (q : ℕ) → NamesEnd q (smoothing_words n ws q)
smoothing-words n [] q = tt
smoothing-words n (w ∷ ws) q = on-said (NamesEnd q) (smoothing_of w.bytes) (λ k. refl) tt

pub smoothing-ends : (n : Names) (x : Rest) → NamesEnd x.next (smoothing_taken n x)
smoothing-ends n x = by_row-both (NamesEnd x.next) Smoothing x (λ ws. smoothing_words n ws x.next) None (λ ws. smoothing-words n ws x.next) tt

named-ends : (k : Carried) (f : NameRun → Names) (x : Rest) → NamesEnd x.next (named_by k f (names_read x))
named-ends k f x = go (all is_name x.words) x.bad
  where
    counted : (t : Bool) → NamesEnd x.next (renamed f (cond t (Some (record { value = run_of x.words; next = x.next })) None))
    counted true = refl
    counted false = tt

    go : (t : Bool) (b : Option ℕ) → NamesEnd x.next (named_by k f (cond t (on_fine b (run-read (run_of x.words) (length x.words) x.next) None) None))
    go true none = counted (counted_by (rules_of k).count (length x.words))
    go true (some p) = tt
    go false b = tt

pub material-ends : (n : Names) (x : Rest) → NamesEnd x.next (material_taken n x)
material-ends n x = named-ends Material (with_material n) x

pub group-ends : (n : Names) (x : Rest) → NamesEnd x.next (group_taken n x)
group-ends n x = named-ends Group (with_group n) x
