-- A body stays good to its end: what parm and the loops add, what the end settles. By cases on its kind.
use Prim.Native.Nat.{ℕ}
use mathlib.Core.Path.{◌≡◌, refl, sym, ap, ◌∙◌, subst}
use mathlib.Core.List.{List, [], ◌∷◌, ◌++◌}
use mathlib.Core.Bool.{true, ◌||◌, not}
use mathlib.Core.Option.{some}
use lib.ListN.{length}
use lib.IntN.{ℤ}
use Rattle.lists.proofs.Tests.{and_left, and_right, never}
use Rattle.model.specs.Model.{Vertices, Names, Free, curve, curve2, surface, ParmDirection, along-u, along-v, Loop, Body, Form, Open}
use Rattle.model.specs.Statements.{degree, body, parameters, loop, settled, with_body, with_parameters, with_loop}
use Rattle.model.specs.Parse.{is_surface, some?, complete}
use Rattle.model.specs.Standing.{is_v}
use Rattle.tidy_form.specs.Tidied.{unsettled, unfilled, at_line}
use Rattle.tidy_form.proofs.Standing.{Fine, Sound, Opens}
use Rattle.tidy_form.proofs.Good.{Always, form_in, GoodLoops, LoopsIn, SecondIn, GoodBody, Given, GivenIn, GoodOpen}

-- ---- the kind stays that of the line
pub unsettled-free : (k : Free) (b : Body) → (unsettled k b).free ≡ b.free
unsettled-free curve b = refl
unsettled-free curve2 b = refl
unsettled-free surface b = refl

-- ---- parm and loops
given : (d : ParmDirection) (z : List ℤ) → Always (parameters d z) → Given d z
given d [] h = tt
given d (a ∷ z) h = h

given-second : (k : Free) (z : List ℤ) → (is_surface k || not (is_v (some along-v))) ≡ true → Always (parameters along-v z) → GivenIn k z
given-second curve z s h = never s
given-second curve2 z s h = never s
given-second surface z s h = given along-v z h

unset-u : (k : Free) (z : List ℤ) (b : Body) → unsettled k b ≡ b → unsettled k (with_parameters along-u z b) ≡ with_parameters along-u z b
unset-u curve z b e = refl
unset-u curve2 z b e = ap (with_parameters along-u z) e
unset-u surface z b e = refl

unset-v : (k : Free) (z : List ℤ) (b : Body) → unsettled k b ≡ b → unsettled k (with_parameters along-v z b) ≡ with_parameters along-v z b
unset-v curve z b e = refl
unset-v curve2 z b e = ap (with_parameters along-v z) e
unset-v surface z b e = refl

unset-loop : (k : Free) (l : Loop) (b : Body) → unsettled k b ≡ b → unsettled k (with_loop l b) ≡ with_loop l b
unset-loop curve l b e = refl
unset-loop curve2 l b e = ap (with_loop l) e
unset-loop surface l b e = refl

pub parameters-good : (x : Vertices) (n : ℕ) (names : Names) (o : Open) (d : ParmDirection) (z : List ℤ) → (is_surface o.body.free || not (is_v (some d))) ≡ true → Always (parameters d z)
    → GoodOpen x n names o → GoodOpen x n names (with_body (with_parameters d z) o)
parameters-good x n names o along-u z s h g =
    record {
      named = g.named;
      degrees = g.degrees;
      line = g.line;
      opens = g.opens;
      us = given along-u z h;
      vs = g.vs;
      loops = g.loops;
      unset = unset-u o.body.free z o.body g.unset;
    }
parameters-good x n names o along-v z s h g =
    record {
      named = g.named;
      degrees = g.degrees;
      line = g.line;
      opens = g.opens;
      us = g.us;
      vs = given-second o.body.free z s h;
      loops = g.loops;
      unset = unset-v o.body.free z o.body g.unset;
    }

loops-add : (x : Vertices) (n : ℕ) (ls : List Loop) (l : Loop) → GoodLoops x n ls → Fine x n (loop l) → GoodLoops x n (ls ++ l ∷ [])
loops-add x n [] l g f = (f, tt)
loops-add x n (k ∷ ls) l g f = (g.0, loops-add x n ls l g.1 f)

loops-in : (x : Vertices) (n : ℕ) (k : Free) (ls : List Loop) (l : Loop) → is_surface k ≡ true → LoopsIn x n k ls → Fine x n (loop l) → LoopsIn x n k (ls ++ l ∷ [])
loops-in x n curve ls l s g f = never s
loops-in x n curve2 ls l s g f = never s
loops-in x n surface ls l s g f = loops-add x n ls l g f

pub loop-good : (x : Vertices) (n : ℕ) (names : Names) (o : Open) (l : Loop) → is_surface o.body.free ≡ true → Fine x n (loop l)
    → GoodOpen x n names o → GoodOpen x n names (with_body (with_loop l) o)
loop-good x n names o l s f g =
    record {
      named = g.named;
      degrees = g.degrees;
      line = g.line;
      opens = g.opens;
      us = g.us;
      vs = g.vs;
      loops = loops-in x n o.body.free o.body.loops l s g.loops f;
      unset = unset-loop o.body.free l o.body g.unset;
    }

-- ---- the end
record Settled (k : Free) (b : Body) : Type 0 where
  free : (settled k b).free ≡ b.free
  form : form_in (settled k b) ≡ form_in b
  us : (settled k b).us ≡ b.us
  vs : (settled k b).vs ≡ b.vs
  loops : (settled k b).loops ≡ b.loops
  back : unsettled k b ≡ b → unsettled k (settled k b) ≡ b
  settles : settled k (unsettled k (settled k b)) ≡ settled k b

settled_is : (k : Free) (b : Body) → Settled k b
settled_is curve b = record { free = refl; form = refl; us = refl; vs = refl; loops = refl; back = λ e. e; settles = refl }
settled_is curve2 b = record { free = refl; form = refl; us = refl; vs = refl; loops = refl; back = λ e. e; settles = refl }
settled_is surface b = record { free = refl; form = refl; us = refl; vs = refl; loops = refl; back = λ e. e; settles = refl }

complete-u : (k : Free) (b : Body) → complete k b ≡ true → some? b.us ≡ true
complete-u curve b h = h
complete-u curve2 b h = h
complete-u surface b h = and_left (some? b.us) (some? b.vs) h

all-given : (d : ParmDirection) (z : List ℤ) → some? z ≡ true → Given d z → Always (parameters d z)
all-given d [] s h = never s
all-given d (a ∷ z) s h = h

second-in : (k : Free) (b : Body) → complete k b ≡ true → GivenIn k b.vs → SecondIn k b.vs
second-in curve b c h = h
second-in curve2 b c h = h
second-in surface b c h = all-given along-v b.vs (and_right (some? b.us) (some? b.vs) c) h

pub closed-good : (x : Vertices) (n : ℕ) (names : Names) (o : Open) → GoodOpen x n names o → Sound o.body (length o.controls)
    → GoodBody x n (settled o.body.free o.body) o.controls
closed-good x n names o g q =
    let b = o.body in
    let k = b.free in
    let B = settled k b in
    let e = settled_is k b in
    let u : unsettled B.free B ≡ b = ap (λ (j : Free). unsettled j B) e.free ∙ e.back g.unset in
    let a : at_line B ≡ unfilled b = ap unfilled u in
    record {
      degrees = subst (λ (f : Form). Always (degree f.degree-u f.degree-v)) (sym e.form) g.degrees;
      line = subst (λ (c : Body). Fine x n (body c o.controls)) (sym a) g.line;
      opens = subst (λ (f : Form). Opens f (at_line B)) (sym e.form) (subst (Opens (form_in b)) (sym a) g.opens);
      us = subst (λ (z : List ℤ). Always (parameters along-u z)) (sym e.us) (all-given along-u b.us (complete-u k b q.complete) g.us);
      vs = subst (λ (j : Free). SecondIn j B.vs) (sym e.free) (subst (SecondIn k) (sym e.vs) (second-in k b q.complete g.vs));
      loops = subst (λ (j : Free). LoopsIn x n j B.loops) (sym e.free) (subst (LoopsIn x n k) (sym e.loops) g.loops);
      sound = subst (λ (c : Body). Sound c (length o.controls)) (sym u) q;
      settles = ap (λ (j : Free). settled j (unsettled j B)) e.free ∙ e.settles;
    }
