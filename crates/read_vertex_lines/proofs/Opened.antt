-- What every line that is rejected shares: whether a body is open, that a statement which may not stand there has nothing to show, and that the vp stay.
use Prim.Native.Nat.{ℕ, ◌*◌, ◌<◌}
use mathlib.Core.Path.{◌≡◌, refl, sym, ap, ◌∙◌}
use mathlib.Core.List.{List}
use mathlib.Core.Bool.{Bool, true, false, cond}
use mathlib.Core.Option.{Option, none, some}
use native.Mathlib.Omega.{arith}
use lib.ListN.{length, get_or}
use lib.IntN.{ℤ, pos}
use lib.Dec.{eqb}
use borrow.Author.Tests.{eqb-true}
use Rattle.lists.proofs.Tests.{never}
use Rattle.statements.specs.Rules.{allowed_by, in_body, outside}
use Rattle.statements.specs.Numbered.{free_numbered}
use Rattle.statements.specs.declared.rules.Rules.{Rules}
use Rattle.statements.specs.declared.rules.Standing.{Standing}
use Rattle.statements.specs.declared.rules.Standing.TheVariants as standing
use Rattle.text.specs.Words.{Word}
use Rattle.text.specs.Rest.{rest_at}
use Rattle.tables.specs.Tables.{Tables}
use Rattle.model.specs.Model as model
use Rattle.model.specs.Statements.{Statement}
use Rattle.model.specs.Parse.{fine, then, must, Keyword, a-vertex, an-element, a-body, parm, trim, hole, ends, cstype, deg, g, s, usemtl, over, rules_of, open_free, says_v, allowed, counted, form_of, values_of, seen_in, parse}
use Rattle.model.specs.Room.{Rooms}
use Rattle.model.specs.Layout.{free_number}
use Rattle.model.proofs.Parsed.{must-fine}
use Rattle.read_state.specs.declared.State.{State}
use Rattle.read_state.specs.declared.Open.{Open}
use Rattle.read_state.specs.State.{OpenIs}
use Rattle.read_diagnosis.specs.Diagnosis.{parse_before, checked_before, GivenIn}
use Rattle.read_diagnosis.proofs.Parses.{open-kind}
use Rattle.read_vertex_lines.specs.Stepping.{Began, Left}

-- ---- a body that has no end yet, by the number of its kind
never-none : (k : model.Free) → free_number k ≡ 0 → ⊥
never-none model.curve z = omega arith
never-none model.curve2 z = omega arith
never-none model.surface z = omega arith

module _ (text : List ℕ) (c : Open) where
  pub no_body : (o : Option model.Open) → OpenIs text o c → c.kind ≡ 0 → o ≡ none
  no_body none e z = refl
  no_body (some o) e z = absurd (never-none o.body.free (sym e.kind ∙ z))

  pub some-body : (o : Option model.Open) → OpenIs text o c → (c.kind ≡ 0 → ⊥) → (b : model.Open) × (o ≡ some b)
  some-body none e f = absurd (f (ap (λ (a : Open). a.kind) e))
  some-body (some o) e f = (o, refl)

-- ---- where a statement may stand, by its row and the number of the open body's kind
pub row-says : (k : Keyword) (n : ℕ) (v : Bool) {r : Rules} {a : Bool} → r ≡ rules_of k → a ≡ allowed_by r.standing (free_numbered n) v → allowed_by (rules_of k).standing (free_numbered n) v ≡ a
row-says k n v e f = ap (λ (r : Rules). allowed_by r.standing (free_numbered n) v) (sym e) ∙ sym f

-- what bars a line whose first word is not v bars every line
barred : (a : Standing) (o : Option model.Free) (v : Bool) → allowed_by a o false ≡ false → allowed_by a o v ≡ false
barred standing.Outside o v h = h
barred standing.Body o v h = h
barred standing.Surface o v h = h
barred standing.Parameters none v h = refl
barred standing.Parameters (some model.curve) v h = never (sym h)
barred standing.Parameters (some model.curve2) v h = never (sym h)
barred standing.Parameters (some model.surface) v h = never (sym h)

pub outside-none : (n : ℕ) → allowed_by standing.Outside (free_numbered n) false ≡ true → n ≡ 0
outside-none n h = go (eqb n 0) refl h
  where
    go : (t : Bool) → eqb n 0 ≡ t → outside (cond t none (some (cond (eqb n 6) model.surface (cond (eqb n 5) model.curve2 model.curve)))) ≡ true → n ≡ 0
    go true e h = eqb-true n 0 e
    go false e h = never h

pub inside-some : (f : model.Free → Bool) (n : ℕ) → in_body (free_numbered n) f ≡ true → n ≡ 0 → ⊥
inside-some f n h e = never (sym (ap (λ (i : ℕ). in_body (free_numbered i) f) e) ∙ h)

-- ---- the parser without what `end` finds
abbrev pub is_end : Keyword → Bool
is_end (a-vertex k) = false
is_end (an-element k) = false
is_end (a-body k) = false
is_end parm = false
is_end trim = false
is_end hole = false
is_end ends = true
is_end cstype = false
is_end deg = false
is_end g = false
is_end s = false
is_end usemtl = false
is_end over = false

module _ (x : model.State) (key : ℕ) (ws : List Word) where
  -- is the parser, but for `end`
  pub before-parse : (k : Keyword) → is_end k ≡ false → parse_before k x key ws ≡ parse k x key ws
  unfolding parse parse_before
  before-parse (a-vertex k) e = refl
  before-parse (an-element k) e = refl
  before-parse (a-body k) e = refl
  before-parse parm e = refl
  before-parse trim e = refl
  before-parse hole e = refl
  before-parse ends e = never (sym e)
  before-parse cstype e = refl
  before-parse deg e = refl
  before-parse g e = refl
  before-parse s e = refl
  before-parse usemtl e = refl
  before-parse over e = refl

  -- 10 comes before the rest
  pub before-allowed : (k : Keyword) (y : Statement) → parse_before k x key ws ≡ fine y → allowed k x.open-body ws ≡ true
  unfolding parse_before
  before-allowed k y e =
      (must-fine (allowed k x.open-body ws) 10 key
      (must (counted k (length ws)) 5 key (then (values_of (seen_in x) (form_of k (length ws)) 0 ws) (λ xs. checked_before k x key ws xs))) y e).0

-- ---- a line that was rejected
-- the vp that were there are there where only what is past them was stored to
pub given-kept : (vps : List (List ℤ)) (l m : List ℤ) → GivenIn vps l → ((i : ℕ) → i < 4 * length vps → get_or m i (pos 0) ≡ get_or l i (pos 0)) → GivenIn vps m
given-kept vps l m h e k b = e (4 * k) (omega arith) ∙ h k b

module _ (R : Rooms) (text : List ℕ) (p at n : ℕ) (x : model.State) (c : State) (t u : Tables) (w : Word) (k : Keyword)
    (began : Began R text p at n x c t w k) (kept : GivenIn x.model.vertices.vp u.vertices.vp) where
  -- a statement that may not stand there is refused before there is a question of room
  pub left-refused : allowed k x.open-body (rest_at text at).words ≡ false → Left R text p at x u w k
  left-refused f =
      record { given = kept; roomless = λ b y e. never (sym f ∙ before-allowed x w.place (rest_at text at).words k y e) }

  -- one that its row bars from the open body
  pub left-barred : allowed_by (rules_of k).standing (free_numbered c.«open».kind) false ≡ false → Left R text p at x u w k
  left-barred f =
      left-refused
      (barred (rules_of k).standing (open_free x.open-body) (says_v (rest_at text at).words)
      (ap (λ (o : Option model.Free). allowed_by (rules_of k).standing o false) (sym (open-kind text x.open-body c.«open» began.holds.state.open-body)) ∙ f))
