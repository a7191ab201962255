-- The body that a line opens is good: the type and degrees in force, printed, give it again. By cases on its kind and type.
use Prim.Native.Nat.{ℕ, zero, suc}
use mathlib.Core.Path.{◌≡◌, refl, sym, ap, ap₂, subst}
use mathlib.Core.List.{List, []}
use mathlib.Core.Bool.{Bool, true}
use mathlib.Core.Option.{Option, none, some}
use lib.ListN.{get_or}
use lib.Dec.{leb}
use lib.IntN.{ℤ, pos}
use Rattle.lists.proofs.Tests.{and_left, and_right, and_both, never}
use Rattle.references.specs.Corner.{Corner}
use Rattle.tables.specs.Bodies.{Basis, bezier, bspline, cardinal, taylor}
use Rattle.model.specs.Model.{Vertices, Names, Free, curve, curve2, surface, along-u, Body, Form}
use Rattle.model.specs.Statements.{degree, body}
use Rattle.model.specs.Parse.{opened_body, degree_in, basis_in, in_force, degrees_needed}
use Rattle.statements.specs.declared.rules.Count.TheVariants.{Within}
use Rattle.statements.specs.Rules.{counted_by}
use Rattle.tidy_form.specs.Tidied.{unsettled, unfilled}
use Rattle.tidy_form.specs.Printed.{range_of}
use Rattle.tidy_form.proofs.Standing.{Fine, Opens}
use Rattle.tidy_form.proofs.Good.{Always, form_in, LoopsIn, Given, GivenIn, GoodOpen, GoodForm}

-- ---- a degree in force can be printed
degree-in : (o : Option Basis) (n : ℕ) → degree_in (some (basis_in o)) (degree_in o n) ≡ degree_in o n
degree-in none n = refl
degree-in (some bezier) n = refl
degree-in (some bspline) n = refl
degree-in (some cardinal) n = refl
degree-in (some taylor) n = refl

one-degree : (m : ℕ) → counted_by (Within 1 20) m ≡ true → Always (degree m 0)
one-degree m h x n = record { many = λ c. refl; fits = λ c. ((m, refl, h), tt); whole = tt }

two-degrees : (m k : ℕ) → counted_by (Within 1 20) m ≡ true → counted_by (Within 1 20) k ≡ true → Always (degree m k)
two-degrees m zero h i x n = never i
two-degrees m (suc k) h i x n = record { many = λ c. refl; fits = λ c. ((m, refl, h), ((suc k, refl, i), tt)); whole = tt }

-- ---- the body that a line opens
record Reopens (b : Body) : Type 0 where
  degrees : Always (degree b.degree-u b.degree-v)
  opens : Opens (form_in b) b
  unset : unsettled b.free b ≡ b

module _ (r : Bool) (m n : ℕ) (lm : leb m 20 ≡ true) (ln : leb n 20 ≡ true) where
  abbrev formed : Option Basis → Form
  formed o = record { basis = o; rational = r; degree-u = m; degree-v = n }

  needs-u : (k : Free) (o : Option Basis) → degrees_needed k (formed o) ≡ true → leb 1 m ≡ true
  needs-u curve o h = h
  needs-u curve2 o h = h
  needs-u surface o h = and_left (leb 1 m) (leb 1 n) h

  force-u : (k : Free) (o : Option Basis) → in_force k (formed o) o ≡ true → counted_by (Within 1 20) (degree_in o m) ≡ true
  force-u k none h = never h
  force-u k (some bezier) h = and_both (needs-u k (some bezier) h) lm
  force-u k (some bspline) h = and_both (needs-u k (some bspline) h) lm
  force-u k (some cardinal) h = refl
  force-u k (some taylor) h = and_both (needs-u k (some taylor) h) lm

  force-v : (o : Option Basis) → in_force surface (formed o) o ≡ true → counted_by (Within 1 20) (degree_in o n) ≡ true
  force-v none h = never h
  force-v (some bezier) h = and_both (and_right (leb 1 m) (leb 1 n) h) ln
  force-v (some bspline) h = and_both (and_right (leb 1 m) (leb 1 n) h) ln
  force-v (some cardinal) h = refl
  force-v (some taylor) h = and_both (and_right (leb 1 m) (leb 1 n) h) ln

  again : (k : Free) (o : Option Basis) (z : List ℤ) → in_force k (formed o) o ≡ true
      → in_force (opened_body k (formed o) z).free (form_in (opened_body k (formed o) z)) (some (opened_body k (formed o) z).basis) ≡ true
  again curve none z h = never h
  again curve (some bezier) z h = h
  again curve (some bspline) z h = h
  again curve (some cardinal) z h = refl
  again curve (some taylor) z h = h
  again curve2 none z h = never h
  again curve2 (some bezier) z h = h
  again curve2 (some bspline) z h = h
  again curve2 (some cardinal) z h = refl
  again curve2 (some taylor) z h = h
  again surface none z h = never h
  again surface (some bezier) z h = h
  again surface (some bspline) z h = h
  again surface (some cardinal) z h = refl
  again surface (some taylor) z h = h

  reopen : (k : Free) (o : Option Basis) (z : List ℤ) → in_force k (formed o) o ≡ true → Reopens (opened_body k (formed o) z)
  reopen curve o z h =
      record {
        degrees = one-degree (degree_in o m) (force-u curve o h);
        opens = record {
          force = again curve o z h;
          gives = ap (λ (d : ℕ). record {
            free = curve;
            basis = basis_in o;
            rational = r;
            degree-u = d;
            degree-v = 0;
            start-u = get_or z 0 (pos 0);
            end-u = get_or z 1 (pos 0);
            start-v = pos 0;
            end-v = pos 0;
            us = [];
            vs = [];
            loops = [];
          }) (degree-in o m);
        };
        unset = refl;
      }
  reopen curve2 o z h =
      record {
        degrees = one-degree (degree_in o m) (force-u curve2 o h);
        opens = record {
          force = again curve2 o z h;
          gives = ap (λ (d : ℕ). record {
            free = curve2;
            basis = basis_in o;
            rational = r;
            degree-u = d;
            degree-v = 0;
            start-u = pos 0;
            end-u = pos 0;
            start-v = pos 0;
            end-v = pos 0;
            us = [];
            vs = [];
            loops = [];
          }) (degree-in o m);
        };
        unset = refl;
      }
  reopen surface o z h =
      record {
        degrees = two-degrees (degree_in o m) (degree_in o n) (force-u surface o h) (force-v o h);
        opens = record {
          force = again surface o z h;
          gives = ap₂ (λ (d e : ℕ). record {
            free = surface;
            basis = basis_in o;
            rational = r;
            degree-u = d;
            degree-v = e;
            start-u = get_or z 0 (pos 0);
            end-u = get_or z 1 (pos 0);
            start-v = get_or z 2 (pos 0);
            end-v = get_or z 3 (pos 0);
            us = [];
            vs = [];
            loops = [];
          }) (degree-in o m) (degree-in o n);
        };
        unset = refl;
      }

reopens : (f : Form) (b : Body) → Opens f b → GoodForm f → Reopens b
reopens f b o g =
    subst Reopens o.gives (reopen f.rational f.degree-u f.degree-v g.u g.v b.free f.basis (range_of b.free b) o.force)

-- a line's body has no parameters and no loops
line-empty : (k : Free) (f : Form) (z : List ℤ) → unfilled (opened_body k f z) ≡ opened_body k f z
line-empty curve f z = refl
line-empty curve2 f z = refl
line-empty surface f z = refl

unfilled-is : (f : Form) (b : Body) → Opens f b → unfilled b ≡ b
unfilled-is f b o = subst (λ (c : Body). unfilled c ≡ c) o.gives (line-empty b.free f (range_of b.free b))

no-loops : (x : Vertices) (n : ℕ) (k : Free) → LoopsIn x n k []
no-loops x n curve = refl
no-loops x n curve2 = refl
no-loops x n surface = tt

no_second : (k : Free) → GivenIn k []
no_second curve = refl
no_second curve2 = refl
no_second surface = tt

pub opened-good : (x : Vertices) (n : ℕ) (names : Names) (f : Form) (b : Body) (cs : List Corner) → Opens f b → GoodForm f → Fine x n (body b cs)
    → GoodOpen x n names (record { body = b; controls = cs; names = names })
opened-good x n names f b cs o g l =
    let r = reopens f b o g in
    let e = unfilled-is f b o in
    record {
      named = refl;
      degrees = r.degrees;
      line = subst (λ (c : Body). Fine x n (body c cs)) (sym e) l;
      opens = subst (Opens (form_in b)) (sym e) r.opens;
      us = subst (Given along-u) (ap (λ (c : Body). c.us) e) tt;
      vs = subst (GivenIn b.free) (ap (λ (c : Body). c.vs) e) (no_second b.free);
      loops = subst (LoopsIn x n b.free) (ap (λ (c : Body). c.loops) e) (no-loops x n b.free);
      unset = r.unset;
    }
