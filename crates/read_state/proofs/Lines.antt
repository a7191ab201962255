-- What a line adds, from its words alone: a statement that was parsed is no larger than its line, and stands where it may.
use Prim.Native.Nat.{ℕ, ◌≤◌}
use mathlib.Core.Path.{◌≡◌, refl, subst}
use mathlib.Core.List.{List, [], ◌∷◌}
use mathlib.Core.Bool.{Bool, true}
use mathlib.Core.Option.{Option, none, some}
use native.Mathlib.Omega.{arith}
use lib.ListN.{length, drop}
use lib.IntN.{ℤ}
use Rattle.text.specs.Words.{Word}
use Rattle.references.specs.Corner.{Corner}
use Rattle.model.specs.Model.{Free, curve, curve2, surface, Form, Open, State}
use Rattle.model.specs.Statements.{Statement}
use Rattle.model.specs.Parse.{fine, Keyword, a-vertex, an-element, a-body, parm, trim, hole, ends, cstype, deg, g, s, usemtl, over, allowed, counted, form_of, Value, numbers_of, corners_of, wholes_of, names_of, parts_of, seen_in, values_of, unlike, in_force, narrow_in, complete, counts_agree, range_within, opened_body, material_of, range_words, checked, parse}
use Rattle.model.specs.Standing.{inside_body, outside_body}
use Rattle.model.proofs.Pieces.{finished}
use Rattle.model.proofs.Parsed.{fine-fault, fine-is, must-fine, unless-fine, then-fine}
use Rattle.model.proofs.Values.{values_length, numbers-few, corners-few, wholes-few, parts-length}
use Rattle.read_state.proofs.Bounds.{FewEnough, stands}

-- a line that parses: its values, and what is said of them
pub record Line (k : Keyword) (x : State) (key : ℕ) (ws : List Word) (t : Statement) : Type 0 where
  pub allowed-here : allowed k x.open-body ws ≡ true
  pub count : counted k (length ws) ≡ true
  pub values : List Value
  pub said : values_of (seen_in x) (form_of k (length ws)) 0 ws ≡ fine values
  pub check : checked k x key ws values ≡ fine t
  pub as_many : length values ≡ length ws

pub line_of : (k : Keyword) (x : State) (key : ℕ) (ws : List Word) (t : Statement) → parse k x key ws ≡ fine t → Line k x key ws t
unfolding parse
line_of k x key ws t h =
    let a = must-fine (allowed k x.open-body ws) 10 key _ t h in
    let c = must-fine (counted k (length ws)) 5 key _ t a.1 in
    let v = then-fine (values_of (seen_in x) (form_of k (length ws)) 0 ws) _ t c.1 in
    record { allowed-here = a.0; count = c.0; values = v.0; said = v.1; check = v.2; as_many = values_length (seen_in x) (form_of k (length ws)) 0 ws v.0 v.1 }

in_body : (o : Option Open) (f : Free → Bool) → inside_body o f ≡ true → inside_body o (λ k. true) ≡ true
in_body none f h = h
in_body (some o) f h = refl

-- by the statement that it is
module _ (n : ℕ) (o : Option Open) where
  abbrev Small : Statement → Type 0
  Small t = FewEnough t n × (stands t o ≡ true)

  is : {u t : Statement} → fine u ≡ fine t → Small u → Small t
  is e h = subst Small (fine-is e) h

material-small : (n : ℕ) (o : Option Open) (ws : List Word) → outside_body o ≡ true → Small n o (material_of ws)
material-small n o [] h = (tt, h)
material-small n o (w ∷ ws) h = (tt, h)

body-plain : (k : Free) (f : Form) (z : List ℤ) → ((opened_body k f z).us ≡ []) × ((opened_body k f z).vs ≡ []) × ((opened_body k f z).loops ≡ [])
body-plain curve f z = (refl, refl, refl)
body-plain curve2 f z = (refl, refl, refl)
body-plain surface f z = (refl, refl, refl)

pub line_small : (k : Keyword) (x : State) (key : ℕ) (ws : List Word) (t : Statement) → Line k x key ws t → FewEnough t (length ws) × (stands t x.open-body ≡ true)
line_small (a-vertex k) x key ws t l = is (length ws) x.open-body l.check (tt, l.allowed-here)
line_small (an-element k) x key ws t l =
    let u = unless-fine (unlike ws (corners_of l.values)) 9 _ t l.check in
    let c = corners-few l.values in
    let m = l.as_many in
    is (length ws) x.open-body u.1 ((let h : length (corners_of l.values) ≤ length ws = omega arith in h), l.allowed-here)
line_small (a-body k) x key ws t l =
    let cs : List Corner = corners_of l.values in
    let vs : List Word = drop (range_words k) ws in
    let u = unless-fine (unlike vs cs) 9 _ t l.check in
    let f = must-fine (in_force k x.form x.form.basis) 11 key _ t u.1 in
    let w = unless-fine (narrow_in k x.model.vertices vs cs) 12 _ t f.1 in
    let c = corners-few l.values in
    let m = l.as_many in
    let p = body-plain k x.form (numbers_of l.values) in
    is (length ws) x.open-body w.1 (((let h : length cs ≤ length ws = omega arith in h), p.0, p.1, p.2), l.allowed-here)
line_small parm x key ws t l =
    let c = numbers-few l.values in
    let m = l.as_many in
    is (length ws) x.open-body l.check ((let h : length (numbers_of l.values) ≤ length ws = omega arith in h), in_body x.open-body _ l.allowed-here)
line_small trim x key ws t l =
    let c = wholes-few l.values in
    let d = parts-length (numbers_of l.values) (wholes_of l.values) in
    let m = l.as_many in
    is (length ws) x.open-body l.check ((let h : length (parts_of (numbers_of l.values) (wholes_of l.values)) ≤ length ws = omega arith in h), in_body x.open-body _ l.allowed-here)
line_small hole x key ws t l =
    let c = wholes-few l.values in
    let d = parts-length (numbers_of l.values) (wholes_of l.values) in
    let m = l.as_many in
    is (length ws) x.open-body l.check ((let h : length (parts_of (numbers_of l.values) (wholes_of l.values)) ≤ length ws = omega arith in h), in_body x.open-body _ l.allowed-here)
line_small ends x key ws t l = ends-small x.open-body l.allowed-here l.check
  where
    ends-small : (o : Option Open) → inside_body o (λ k. true) ≡ true → finished o key ≡ fine t → FewEnough t (length ws) × (stands t o ≡ true)
    ends-small none h c = fine-fault c
    ends-small (some o) h c =
        let a = must-fine (complete o.body.free o.body) 11 key _ t c in
        let b = must-fine (counts_agree o.body.free o.body (length o.controls)) 12 key _ t a.1 in
        let d = must-fine (range_within o.body.free o.body) 13 key _ t b.1 in
        is (length ws) (some o) d.1 (tt, refl)
line_small cstype x key ws t l = is (length ws) x.open-body l.check (tt, l.allowed-here)
line_small deg x key ws t l = is (length ws) x.open-body l.check (tt, l.allowed-here)
line_small g x key ws t l = is (length ws) x.open-body l.check (tt, l.allowed-here)
line_small s x key ws t l = is (length ws) x.open-body l.check (tt, l.allowed-here)
line_small usemtl x key ws t l = is (length ws) x.open-body l.check (material-small (length ws) x.open-body (names_of l.values) l.allowed-here)
line_small over x key ws t l = is (length ws) x.open-body l.check (tt, l.allowed-here)
