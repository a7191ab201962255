-- A line's fault in the code's numbers is the parser's refusal: by the statement, each row of the rules held against the parser's own words.
use Prim.Native.Nat.{ℕ, suc, ◌+◌, ◌-◌, ◌≤◌, ◌<◌}
use mathlib.Core.Path.{◌≡◌, refl, sym, ap, ◌∙◌}
use mathlib.Core.List.{List, [], ◌∷◌}
use mathlib.Core.Bool.{Bool, true, false, cond, ◌&&◌}
use mathlib.Core.Option.{Option, none, some}
use lib.ListN.{length}
use lib.Dec.{leb}
use lib.IntN.{ℤ, nat_abs}
use native.Mathlib.Omega.{arith}
use borrow.Author.Tests.{ne_eqb, leb-true}
use Rattle.lists.proofs.Tests.{and_left, and_right}
use Rattle.text.specs.Words.{Word}
use Rattle.digits.specs.Said.{Said, says, wrong}
use Rattle.digits.specs.Said as said
use Rattle.digits.specs.Digits.{nat_of, negative, unminus}
use Rattle.references.specs.Reference.{is_reference, item, refer, reference_of}
use Rattle.tables.specs.Bodies.{Basis, bezier, bspline, cardinal, taylor}
use Rattle.model.specs.Model as model
use Rattle.model.specs.Model.{Free, curve, curve2, surface}
use Rattle.model.specs.Statements as statements
use Rattle.model.specs.Parse as parse
use Rattle.model.specs.Parse.{Parsed, fine, fault, then, must, unless, values_of, Value}
use Rattle.read_state.specs.State.{form_in, OpenIs}
use Rattle.read_state.specs.declared.Open.{Open}
use Rattle.statements.specs.declared.rules.Forms.{Forms}
use Rattle.statements.specs.Rules.{form_by}
use Rattle.statements.specs.Numbered.{free_numbered}
use Rattle.read_word_checks.specs.declared.tests.Tests.TheVariants.{Each}
use Rattle.read_word_checks.specs.Faults.{Refusal, check_of, on_check, given_by, fault_in, in_force_by, owed, or_else}
use Rattle.read_diagnosis.specs.Diagnosis.{diagnosis_of, GivenIn}
use Rattle.read_diagnosis.proofs.Values.{diagnosis_at}

-- ---- the parser's steps, each as a refusal
pub must-diagnosis : (b : Bool) (n p : ℕ) {q : Refusal} (r : Parsed statements.Statement) → q ≡ diagnosis_of r → owed b n p q ≡ diagnosis_of (must b n p r)
must-diagnosis true n p r h = h
must-diagnosis false n p r h = refl

pub then-diagnosis : (v : Parsed (List Value)) (u : List Value → Parsed statements.Statement) (h : Refusal) → ((xs : List Value) → v ≡ fine xs → h ≡ diagnosis_of (u xs)) → or_else (diagnosis_of v) h ≡ diagnosis_of (then v u)
then-diagnosis (fine xs) u h k = k xs refl
then-diagnosis (fault n p) u h k = refl

pub unless-diagnosis : (o : Option ℕ) (n : ℕ) {q : Refusal} (r : Parsed statements.Statement) → q ≡ diagnosis_of r → or_else (diagnosis_at n o) q ≡ diagnosis_of (unless o n r)
unless-diagnosis none n r h = h
unless-diagnosis (some p) n r h = refl

pub last-diagnosis : (o : Option ℕ) (n : ℕ) (t : statements.Statement) → diagnosis_at n o ≡ diagnosis_of (unless o n (fine t))
last-diagnosis none n t = refl
last-diagnosis (some p) n t = refl

-- ---- the words
module _ (n : parse.Seen) (t : List ℤ) where
  cons-diagnosis : (y : Said Value) (v : Parsed (List Value)) (p : ℕ) → on_check (check_of y) p (diagnosis_of v) ≡ diagnosis_of (then (parse.placed y p) (λ x. then v (λ xs. fine (x ∷ xs))))
  cons-diagnosis (says x) (fine xs) p = refl
  cons-diagnosis (says x) (fault m q) p = refl
  cons-diagnosis (wrong m) v p = refl

  pub words-diagnosis : (f : Forms) (m i : ℕ) (ws : List Word) → fault_in n t (Each f) m i ws ≡ diagnosis_of (values_of n (form_by f m) i ws)
  words-diagnosis f m i [] = refl
  words-diagnosis f m i (w ∷ ws) =
      ap (on_check (check_of (parse.said_of n (form_by f m i) w)) w.place) (words-diagnosis f m (suc i) ws)
      ∙ cons-diagnosis (parse.said_of n (form_by f m i) w) (values_of n (form_by f m) (suc i) ws) w.place

-- ---- where a statement may stand: the number of the open body's element is its kind's
free-kind : (k : Free) → free_numbered (Rattle.model.specs.Layout.free_number k) ≡ some k
free-kind curve = refl
free-kind curve2 = refl
free-kind surface = refl

pub open-kind : (text : List ℕ) (o : Option model.Open) (c : Open) → OpenIs text o c → free_numbered c.kind ≡ parse.open_free o
open-kind text none c h = rw h refl
open-kind text (some o) c h = rw h.kind (free-kind o.body.free)

-- ---- 11
pub curve-force : (f : model.Form) (o : Option Basis) → o ≡ f.basis → in_force_by false (form_in f) ≡ parse.in_force curve f f.basis
curve-force f none e = rw (← e) refl
curve-force f (some bezier) e = rw (← e) refl
curve-force f (some bspline) e = rw (← e) refl
curve-force f (some cardinal) e = rw (← e) refl
curve-force f (some taylor) e = rw (← e) refl

pub curve2-force : (f : model.Form) (o : Option Basis) → o ≡ f.basis → in_force_by false (form_in f) ≡ parse.in_force curve2 f f.basis
curve2-force f none e = rw (← e) refl
curve2-force f (some bezier) e = rw (← e) refl
curve2-force f (some bspline) e = rw (← e) refl
curve2-force f (some cardinal) e = rw (← e) refl
curve2-force f (some taylor) e = rw (← e) refl

pub surface-force : (f : model.Form) (o : Option Basis) → o ≡ f.basis → in_force_by true (form_in f) ≡ parse.in_force surface f f.basis
surface-force f none e = rw (← e) refl
surface-force f (some bezier) e = rw (← e) refl
surface-force f (some bspline) e = rw (← e) refl
surface-force f (some cardinal) e = rw (← e) refl
surface-force f (some taylor) e = rw (← e) refl

-- ---- 12: a reference is one of what there are
item-within : (back : Bool) (count k : ℕ) → item back count k ≤ count
item-within back count k = by (leb 1 k && leb k count) refl back
  where
    by : (b : Bool) → b ≡ (leb 1 k && leb k count) → (r : Bool) → cond b (cond r (count + 1 - k) k) 0 ≤ count
    by true e true = let l = leb-true 1 k (and_left (leb 1 k) (leb k count) (sym e)) in omega arith
    by true e false = leb-true k count (and_right (leb 1 k) (leb k count) (sym e))
    by false e r = omega arith

must-says : (a b : Bool) (r k : ℕ) → said.must a 6 (said.must b 8 (says r)) ≡ says k → (b ≡ true) × (r ≡ k)
must-says true true r k e = (refl, cc)
must-says true false r k e = absurd (let z : ◌≡◌ {A = ℕ} 0 1 = cc in omega arith)
must-says false b r k e = absurd (let z : ◌≡◌ {A = ℕ} 0 1 = cc in omega arith)

reference-within : (count : ℕ) (w : List ℕ) (k : ℕ) → reference_of count w ≡ says k → (1 ≤ k) × (k ≤ count)
unfolding reference_of refer
reference-within count w k e =
    let r = item (negative w) count (nat_of 0 (unminus w)) in
    let h = must-says (is_reference w) (leb 1 r) r k e in
    let a = leb-true 1 r h.0 in
    let b = item-within (negative w) count (nat_of 0 (unminus w)) in
    let d : r ≡ k = h.1 in
    (omega arith, omega arith)

pub given-same : (t : List ℤ) (vps : List (List ℤ)) (count : ℕ) → count ≡ length vps → GivenIn vps t → (k : ℕ) (w : List ℕ) → reference_of count w ≡ says k → given_by t k ≡ leb 2 (parse.given vps k)
given-same t vps count c h k w e =
    let b = reference-within count w k e in
    let x = b.0 in
    let y = b.1 in
    let z : k ≡ 0 → ⊥ = λ q. omega arith in
    let l : k - 1 < length vps = omega arith in
    rw (ne_eqb k 0 z) (ap (λ (q : ℤ). leb 2 (nat_abs q)) (h (k - 1) l))
