-- What the code finds in a line is what the parser finds, both ways: by how many words there are, and by what each says.
use Prim.Native.Nat.{ℕ, suc}
use mathlib.Core.Path.{◌≡◌, refl, sym, ap, ◌∙◌}
use mathlib.Core.List.{List, [], ◌∷◌}
use mathlib.Core.Bool.{Bool, true, false, cond, ◌&&◌}
use mathlib.Core.Option.{Option, none, some}
use lib.ListN.{length}
use lib.Dec.{leb, eqb}
use native.Mathlib.Omega.{arith}
use borrow.Author.Tests.{lt-leb, ne_eqb}
use Rattle.lists.specs.Lists.{all}
use Rattle.lists.proofs.Tests.{and_left, and_right, test, never}
use mathlib.Core.Logic.{⊎_elim}
use Rattle.std.specs.Prelude.{None}
use Rattle.text.specs.declared.Parsed as Placed
use Rattle.text.specs.Words.{Word}
use Rattle.text.specs.Rest.{Rest}
use Rattle.digits.specs.Said.{Said, says, wrong}
use Rattle.digits.specs.Degree.{degree_of, smoothing_of, name_of}
use Rattle.keywords.specs.Arguments.{argument_of}
use Rattle.keywords.specs.declared.Argument.{Argument}
use Rattle.keywords.specs.declared.Argument.TheVariants.{Rational, BasisMatrix, Bezier, Bspline, Cardinal, Taylor, DirectionU, DirectionV, Off, Other}
use Rattle.tables.specs.declared.NameRun.{NameRun}
use Rattle.model.specs.Layout.{run_of}
use Rattle.model.specs.Model as model
use Rattle.model.specs.Statements as statements
use Rattle.model.specs.Parse as parse
use Rattle.model.specs.Parse.{Parsed, fine, fault, then, cstype, deg, g, s, usemtl, values_of, Value, Seen, a-name, placed, names_of, parse, seen_in}
use Rattle.model.specs.Standing.{outside_body}
use Rattle.statements.specs.declared.rules.Count.TheVariants.{Within}
use Rattle.statements.specs.Rules.{counted_by, rules_of}
use Rattle.read_state.specs.State.{form_in, names_in}
use Rattle.read_state.specs.declared.Form.{Form}
use Rattle.read_state.specs.declared.Names.{Names}
use Rattle.read_settings.specs.Words.{on_fine, said_or, is_name, run-read}
use Rattle.read_settings.specs.Steps.{taken, form_taken, names_taken, type_taken, degree_taken, smoothing_taken, named_by, with_material, material_taken, group_taken}

and-false : (b : Bool) → (b && false) ≡ false
and-false true = refl
and-false false = refl

two-most : (n : ℕ) → counted_by (Within 1 2) (suc (suc (suc n))) ≡ false
two-most n = rw (lt-leb (suc (suc (suc n))) 2 (omega arith)) (and-false (leb 1 (suc (suc (suc n)))))

one_only : (n : ℕ) → eqb (suc (suc n)) 1 ≡ false
one_only n = ne_eqb (suc (suc n)) 1 (λ e. omega arith)

names-given-up : (x : model.State) (b : Option ℕ) (q n p : ℕ) → None ≡ names_taken x b q (fault n p)
names-given-up x none q n p = refl
names-given-up x (some c) q n p = refl

-- ---- the values of names
abbrev name_values : List Word → List Value
name_values [] = []
name_values (w ∷ ws) = parse.name w ∷ name_values ws

names-back : (ws : List Word) → names_of (name_values ws) ≡ ws
names-back [] = refl
names-back (w ∷ ws) = ap (λ (vs : List Word). w ∷ vs) (names-back ws)

record Fault (v : Parsed (List Value)) : Type 0 where
  pub number : ℕ
  pub place : ℕ
  pub is : v ≡ fault number place

module _ (n : Seen) where
  cons-fine : (y : Said (List ℕ)) (w : Word) (v : Parsed (List Value)) (xs : List Value) → said_or y (λ b. true) false ≡ true → v ≡ fine xs
      → then (placed (parse.on_said (λ b. parse.name w) y) w.place) (λ x. then v (λ xs. fine (x ∷ xs))) ≡ fine (parse.name w ∷ xs)
  cons-fine (says c) w v xs h e = rw e refl
  cons-fine (wrong m) w v xs h e = never h

  names-fine : (i : ℕ) (ws : List Word) → all is_name ws ≡ true → values_of n (λ i. a-name) i ws ≡ fine (name_values ws)
  names-fine i [] h = refl
  names-fine i (w ∷ ws) h =
      cons-fine (name_of w.bytes) w (values_of n (λ i. a-name) (suc i) ws) (name_values ws) (and_left (is_name w) (all is_name ws) h) (names-fine (suc i) ws (and_right (is_name w) (all is_name ws) h))

  cons-fault : (y : Said (List ℕ)) (w : Word) (v : Parsed (List Value)) (r : Bool) → (said_or y (λ b. true) false && r) ≡ false → (r ≡ false → Fault v)
      → Fault (then (placed (parse.on_said (λ b. parse.name w) y) w.place) (λ x. then v (λ xs. fine (x ∷ xs))))
  cons-fault (says c) w v r h k = let f = k h in record { number = f.number; place = f.place; is = rw f.is refl }
  cons-fault (wrong m) w v r h k = record { number = m; place = w.place; is = refl }

  names-fault : (i : ℕ) (ws : List Word) → all is_name ws ≡ false → Fault (values_of n (λ i. a-name) i ws)
  names-fault i [] h = never (sym h)
  names-fault i (w ∷ ws) h = cons-fault (name_of w.bytes) w (values_of n (λ i. a-name) (suc i) ws) (all is_name ws) h (λ e. names-fault (suc i) ws e)

module _ (x : model.State) (h : outside_body x.open-body ≡ true) (key : ℕ) where
  -- ---- deg
  degree-one : (q : ℕ) (w : Word) (y : Said ℕ) → degree_of w.bytes ≡ y → degree_taken (form_in x.form) (record { words = w ∷ []; bad = none; next = q }) ≡ form_taken x none q (parse deg x key (w ∷ []))
  unfolding parse
  degree-one q w (says n) e = rw (h, e) refl
  degree-one q w (wrong n) e = rw (h, e) refl

  degree-two : (q : ℕ) (w v : Word) (y z : Said ℕ) → degree_of w.bytes ≡ y → degree_of v.bytes ≡ z → degree_taken (form_in x.form) (record { words = w ∷ v ∷ []; bad = none; next = q }) ≡ form_taken x none q (parse deg x key (w ∷ v ∷ []))
  unfolding parse
  degree-two q w v (says n) (says m) e k = rw (h, e, k) refl
  degree-two q w v (says n) (wrong m) e k = rw (h, e, k) refl
  degree-two q w v (wrong n) z e k = rw (h, e) refl

  degree-words : (b : Option ℕ) (q : ℕ) (ws : List Word) → degree_taken (form_in x.form) (record { words = ws; bad = b; next = q }) ≡ form_taken x b q (parse deg x key ws)
  unfolding parse
  degree-words none q [] = rw h refl
  degree-words none q (w ∷ []) = degree-one q w (degree_of w.bytes) refl
  degree-words none q (w ∷ v ∷ []) = degree-two q w v (degree_of w.bytes) (degree_of v.bytes) refl refl
  degree-words none q (w ∷ v ∷ u ∷ ws) = rw (h, two-most (length ws)) refl
  degree-words (some c) q ws = refl

  pub degree-parse : (r : Rest) → degree_taken (form_in x.form) r ≡ form_taken x r.bad r.next (parse deg x key r.words)
  degree-parse r = degree-words r.bad r.next r.words

  -- ---- s
  smoothing-one : (q : ℕ) (w : Word) (y : Said ℕ) → smoothing_of w.bytes ≡ y → smoothing_taken (names_in x.names) (record { words = w ∷ []; bad = none; next = q }) ≡ names_taken x none q (parse s x key (w ∷ []))
  unfolding parse
  smoothing-one q w (says n) e = rw (h, e) refl
  smoothing-one q w (wrong n) e = rw (h, e) refl

  smoothing-words : (b : Option ℕ) (q : ℕ) (ws : List Word) → smoothing_taken (names_in x.names) (record { words = ws; bad = b; next = q }) ≡ names_taken x b q (parse s x key ws)
  unfolding parse
  smoothing-words none q [] = rw h refl
  smoothing-words none q (w ∷ []) = smoothing-one q w (smoothing_of w.bytes) refl
  smoothing-words none q (w ∷ v ∷ ws) = rw (h, one_only (length ws)) refl
  smoothing-words (some c) q ws = refl

  pub smoothing-parse : (r : Rest) → smoothing_taken (names_in x.names) r ≡ names_taken x r.bad r.next (parse s x key r.words)
  smoothing-parse r = smoothing-words r.bad r.next r.words

  -- ---- cstype
  type-one : (q : ℕ) (w : Word) (a : Argument) → argument_of w.bytes ≡ a → type_taken (form_in x.form) (record { words = w ∷ []; bad = none; next = q }) ≡ form_taken x none q (parse cstype x key (w ∷ []))
  unfolding parse
  type-one q w Rational e = rw (h, e) refl
  type-one q w BasisMatrix e = rw (h, e) refl
  type-one q w Bezier e = rw (h, e) refl
  type-one q w Bspline e = rw (h, e) refl
  type-one q w Cardinal e = rw (h, e) refl
  type-one q w Taylor e = rw (h, e) refl
  type-one q w DirectionU e = rw (h, e) refl
  type-one q w DirectionV e = rw (h, e) refl
  type-one q w Off e = rw (h, e) refl
  type-one q w Other e = rw (h, e) refl

  type-rational : (q : ℕ) (w v : Word) (a : Argument) → argument_of w.bytes ≡ Rational → argument_of v.bytes ≡ a → type_taken (form_in x.form) (record { words = w ∷ v ∷ []; bad = none; next = q }) ≡ form_taken x none q (parse cstype x key (w ∷ v ∷ []))
  unfolding parse
  type-rational q w v Rational e k = rw (h, e, k) refl
  type-rational q w v BasisMatrix e k = rw (h, e, k) refl
  type-rational q w v Bezier e k = rw (h, e, k) refl
  type-rational q w v Bspline e k = rw (h, e, k) refl
  type-rational q w v Cardinal e k = rw (h, e, k) refl
  type-rational q w v Taylor e k = rw (h, e, k) refl
  type-rational q w v DirectionU e k = rw (h, e, k) refl
  type-rational q w v DirectionV e k = rw (h, e, k) refl
  type-rational q w v Off e k = rw (h, e, k) refl
  type-rational q w v Other e k = rw (h, e, k) refl

  type-two : (q : ℕ) (w v : Word) (a : Argument) → argument_of w.bytes ≡ a → type_taken (form_in x.form) (record { words = w ∷ v ∷ []; bad = none; next = q }) ≡ form_taken x none q (parse cstype x key (w ∷ v ∷ []))
  unfolding parse
  type-two q w v Rational e = type-rational q w v (argument_of v.bytes) e refl
  type-two q w v BasisMatrix e = rw (h, e) refl
  type-two q w v Bezier e = rw (h, e) refl
  type-two q w v Bspline e = rw (h, e) refl
  type-two q w v Cardinal e = rw (h, e) refl
  type-two q w v Taylor e = rw (h, e) refl
  type-two q w v DirectionU e = rw (h, e) refl
  type-two q w v DirectionV e = rw (h, e) refl
  type-two q w v Off e = rw (h, e) refl
  type-two q w v Other e = rw (h, e) refl

  type-words : (b : Option ℕ) (q : ℕ) (ws : List Word) → type_taken (form_in x.form) (record { words = ws; bad = b; next = q }) ≡ form_taken x b q (parse cstype x key ws)
  unfolding parse
  type-words none q [] = rw h refl
  type-words none q (w ∷ []) = type-one q w (argument_of w.bytes) refl
  type-words none q (w ∷ v ∷ []) = type-two q w v (argument_of w.bytes) refl
  type-words none q (w ∷ v ∷ u ∷ ws) = rw (h, two-most (length ws)) refl
  type-words (some c) q ws = refl

  pub type-parse : (r : Rest) → type_taken (form_in x.form) r ≡ form_taken x r.bad r.next (parse cstype x key r.words)
  type-parse r = type-words r.bad r.next r.words

  -- ---- usemtl and g
  material-one : (b : Option ℕ) (q : ℕ) (w : Word) (y : Said (List ℕ)) → name_of w.bytes ≡ y → material_taken (names_in x.names) (record { words = w ∷ []; bad = b; next = q }) ≡ names_taken x b q (parse usemtl x key (w ∷ []))
  unfolding parse
  material-one none q w (says n) e = rw (h, e) refl
  material-one none q w (wrong n) e = rw (h, e) refl
  material-one (some c) q w (says n) e = rw e refl
  material-one (some c) q w (wrong n) e = rw e refl

  -- names of a number that the row does not let in
  unlisted : (t : Bool) (b : Option ℕ) (r : NameRun) (n q : ℕ) (f : NameRun → Names) → counted_by (rules_of usemtl).count n ≡ false
      → None ≡ named_by usemtl f (cond t (on_fine b (run-read r n q) None) None)
  unlisted true none r n q f e = rw e refl
  unlisted true (some c) r n q f e = refl
  unlisted false b r n q f e = refl

  material-words : (b : Option ℕ) (q : ℕ) (ws : List Word) → material_taken (names_in x.names) (record { words = ws; bad = b; next = q }) ≡ names_taken x b q (parse usemtl x key ws)
  unfolding parse
  material-words none q [] = rw h refl
  material-words (some c) q [] = refl
  material-words b q (w ∷ []) = material-one b q w (name_of w.bytes) refl
  material-words b q (w ∷ v ∷ ws) =
      rw (h, one_only (length ws))
      (sym (unlisted (all is_name (w ∷ v ∷ ws)) b (run_of (w ∷ v ∷ ws)) (suc (suc (length ws))) q (with_material (names_in x.names)) (one_only (length ws))) ∙ names-given-up x b q 5 key)

  pub material-parse : (r : Rest) → material_taken (names_in x.names) r ≡ names_taken x r.bad r.next (parse usemtl x key r.words)
  material-parse r = material-words r.bad r.next r.words

  group-named : (b : Option ℕ) (q : ℕ) (ws : List Word) → all is_name ws ≡ true → group_taken (names_in x.names) (record { words = ws; bad = b; next = q }) ≡ names_taken x b q (parse g x key ws)
  unfolding parse
  group-named none q ws e = rw (h, e, names-fine (seen_in x) 0 ws e, names-back ws) refl
  group-named (some c) q ws e = rw e refl

  group-unnamed : (b : Option ℕ) (q : ℕ) (ws : List Word) → all is_name ws ≡ false → group_taken (names_in x.names) (record { words = ws; bad = b; next = q }) ≡ names_taken x b q (parse g x key ws)
  unfolding parse
  group-unnamed b q ws e =
      let k = names-fault (seen_in x) 0 ws e in
      rw (h, e, k.is) (names-given-up x b q k.number k.place)

  pub group-parse : (r : Rest) → group_taken (names_in x.names) r ≡ names_taken x r.bad r.next (parse g x key r.words)
  group-parse r =
      ⊎_elim (λ e. group-named r.bad r.next r.words e) (λ e. group-unnamed r.bad r.next r.words e) (test (all is_name r.words))

-- ---- read back: what was taken is the statement done; where the code rejects, the parser gives no statement
pub record FormTaken (x : model.State) (b : Option ℕ) (q : ℕ) (y : Parsed statements.Statement) (f : Form) (n : ℕ) : Type 0 where
  pub statement : statements.Statement
  pub parsed : y ≡ fine statement
  pub allowed : b ≡ none
  pub next : n ≡ q
  pub form : f ≡ form_in (statements.apply statement x).form

pub form-taken : (x : model.State) (b : Option ℕ) (q : ℕ) (y : Parsed statements.Statement) (f : Form) (n : ℕ) → taken f n ≡ form_taken x b q y → FormTaken x b q y f n
form-taken x none q (fine t) f n e =
    let p : ◌≡◌ {A = Placed.Parsed Form} (record { value = f; next = n }) (record { value = form_in (statements.apply t x).form; next = q }) = cc in
    record { statement = t; parsed = refl; allowed = refl; next = ap (λ (y : Placed.Parsed Form). y.next) p; form = ap (λ (y : Placed.Parsed Form). y.value) p }
form-taken x none q (fault m p) f n e = absurd (let z : ◌≡◌ {A = ℕ} 0 1 = cc in omega arith)
form-taken x (some c) q y f n e = absurd (let z : ◌≡◌ {A = ℕ} 0 1 = cc in omega arith)

pub form-gave-up : (x : model.State) (q : ℕ) (y : Parsed statements.Statement) (t : statements.Statement) → None ≡ form_taken x none q y → y ≡ fine t → ⊥
form-gave-up x q (fine u) t e k = let z : ◌≡◌ {A = ℕ} 0 1 = cc in omega arith
form-gave-up x q (fault n p) t e k = let z : ◌≡◌ {A = ℕ} 0 1 = cc in omega arith

pub record NamesTaken (x : model.State) (b : Option ℕ) (q : ℕ) (y : Parsed statements.Statement) (f : Names) (n : ℕ) : Type 0 where
  pub statement : statements.Statement
  pub parsed : y ≡ fine statement
  pub allowed : b ≡ none
  pub next : n ≡ q
  pub names : f ≡ names_in (statements.apply statement x).names

pub names-taken : (x : model.State) (b : Option ℕ) (q : ℕ) (y : Parsed statements.Statement) (f : Names) (n : ℕ) → taken f n ≡ names_taken x b q y → NamesTaken x b q y f n
names-taken x none q (fine t) f n e =
    let p : ◌≡◌ {A = Placed.Parsed Names} (record { value = f; next = n }) (record { value = names_in (statements.apply t x).names; next = q }) = cc in
    record { statement = t; parsed = refl; allowed = refl; next = ap (λ (y : Placed.Parsed Names). y.next) p; names = ap (λ (y : Placed.Parsed Names). y.value) p }
names-taken x none q (fault m p) f n e = absurd (let z : ◌≡◌ {A = ℕ} 0 1 = cc in omega arith)
names-taken x (some c) q y f n e = absurd (let z : ◌≡◌ {A = ℕ} 0 1 = cc in omega arith)

pub names-gave-up : (x : model.State) (q : ℕ) (y : Parsed statements.Statement) (t : statements.Statement) → None ≡ names_taken x none q y → y ≡ fine t → ⊥
names-gave-up x q (fine u) t e k = let z : ◌≡◌ {A = ℕ} 0 1 = cc in omega arith
names-gave-up x q (fault n p) t e k = let z : ◌≡◌ {A = ℕ} 0 1 = cc in omega arith
