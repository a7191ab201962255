-- The type, degrees, parameters and controls of a body of an accepted text obey the rules: from its lines. By the kind and the type.
use Prim.Native.Nat.{ℕ, suc, ◌+◌, ◌≤◌}
use mathlib.Core.Path.{◌≡◌, refl, ◌∙◌, subst}
use mathlib.Core.List.{List, [], ◌∷◌, ◌++◌, map}
use mathlib.Core.Bool.{Bool, true, false, cond, not, ◌&&◌, ◌||◌}
use mathlib.Core.Option.{some}
use native.Mathlib.Omega.{arith}
use borrow.Author.Tests.{leb-true, le-leb, le-ltb, ne_eqb}
use lib.ListN.{length, length-append, length-map}
use lib.Dec.{leb, eqb}
use lib.IntN.{ℤ}
use Rattle.lists.specs.Lists.{all}
use Rattle.lists.proofs.Tests.{and_left, and_right, and_both}
use Rattle.lists.proofs.Laws.{all_append}
use Rattle.references.specs.Corner.{Corner}
use Rattle.references.specs.Fits.{number_fits}
use Rattle.tables.specs.Bodies.{Basis, bezier, bspline, cardinal, taylor, basis_number}
use Rattle.model.specs.Model.{Vertices, Free, curve, curve2, surface, ParmDirection, Body, Form, start}
use Rattle.model.specs.Statements.{body, parameters}
use Rattle.model.specs.Parse.{WordForm, a-number, control_form, form_of, a-body, parm, Value, number, corner, Seen, degrees_needed, in_force, degree_in, range_words, fewest_controls}
use Rattle.model.specs.Layout.{flag}
use Rattle.tidy_form.specs.declared.Weights.TheVariants as weights
use Rattle.tidy_form.specs.Printed.{range_of}
use Rattle.tidy_form.proofs.Words.{Fitting}
use Rattle.tidy_form.proofs.Shapes.{fitting-is}
use Rattle.tidy_form.proofs.Standing.{seen_of, Fine}
use Rattle.tidy_form.proofs.Good.{Always}
use Rattle.record_rules.specs.Directions.{degree_obeys, type_obeys, parameters_obey}
use Rattle.model.proofs.Stands.{Stands}
use Rattle.sampled_files.proofs.Vertices.{numbers-all, small-run}

-- ---- degrees
abbrev pub Needed : Basis → ℕ → Type 0
Needed bezier n = leb 1 n ≡ true
Needed bspline n = leb 1 n ≡ true
Needed cardinal n = 3 ≡ n
Needed taylor n = leb 1 n ≡ true

pub degree-obeys : (t : Basis) (n : ℕ) → leb n 20 ≡ true → Needed t n → degree_obeys (basis_number t) n ≡ true
unfolding degree_obeys
degree-obeys bezier n l h = and_both (and_both h l) refl
degree-obeys bspline n l h = and_both (and_both h l) refl
degree-obeys cardinal n l h = subst (λ (k : ℕ). (leb 1 k && leb k 20 && (not (eqb 3 3) || eqb k 3)) ≡ true) h refl
degree-obeys taylor n l h = and_both (and_both h l) refl

force-u : (k : Free) (f : Form) → degrees_needed k f ≡ true → leb 1 f.degree-u ≡ true
force-u curve f h = h
force-u curve2 f h = h
force-u surface f h = and_left (leb 1 f.degree-u) (leb 1 f.degree-v) h

pub needed-u : (k : Free) (f : Form) (t : Basis) → in_force k f (some t) ≡ true → degree_in (some t) f.degree-u ≡ f.degree-u → Needed t f.degree-u
needed-u k f bezier h e = force-u k f h
needed-u k f bspline h e = force-u k f h
needed-u k f cardinal h e = e
needed-u k f taylor h e = force-u k f h

pub needed-v : (f : Form) (t : Basis) → in_force surface f (some t) ≡ true → degree_in (some t) f.degree-v ≡ f.degree-v → Needed t f.degree-v
needed-v f bezier h e = and_right (leb 1 f.degree-u) (leb 1 f.degree-v) h
needed-v f bspline h e = and_right (leb 1 f.degree-u) (leb 1 f.degree-v) h
needed-v f cardinal h e = e
needed-v f taylor h e = and_right (leb 1 f.degree-u) (leb 1 f.degree-v) h

-- ---- type and rational flag
pub type-obeys : (surf : Bool) (t : Basis) (r : Bool) (m n : ℕ) → degree_obeys (basis_number t) m ≡ true → cond surf (degree_obeys (basis_number t) n) (eqb n 0) ≡ true
    → type_obeys surf (basis_number t) (flag r) m n ≡ true
unfolding type_obeys
type-obeys surf t r m n h k = and_both (and_both (and_both (and_both (some-type t) (few-types t)) (flagged r)) h) k
  where
    some-type : (t : Basis) → leb 1 (basis_number t) ≡ true
    some-type bezier = refl
    some-type bspline = refl
    some-type cardinal = refl
    some-type taylor = refl

    few-types : (t : Basis) → leb (basis_number t) 4 ≡ true
    few-types bezier = refl
    few-types bspline = refl
    few-types cardinal = refl
    few-types taylor = refl

    flagged : (r : Bool) → leb (flag r) 1 ≡ true
    flagged true = refl
    flagged false = refl

-- ---- parameters: "parm u or v, then 2 or more"
pub record Parameters (z : List ℤ) : Type 0 where
  pub two : 2 ≤ length z
  pub small : all number_fits z ≡ true

pub parameters-of : (d : ParmDirection) (z : List ℤ) → Always (parameters d z) → Parameters z
parameters-of d z a =
    let x = start.model.vertices in
    let f = a x 0 in
    let n = suc (length (map number z)) in
    record {
      two = (let k = leb-true 3 n (f.many weights.Always) in let l = length-map z number in omega arith);
      small = numbers-all (seen_of x 0) 1 z (fitting-is (seen_of x 0) (form_of parm n) (λ j. a-number) 1 (map number z) (λ j l. rw (ne_eqb j 0 (λ e. omega arith)) refl) (f.fits weights.Always).1);
    }

pub parameters-obey : (surf : Bool) (l : List ℤ) (used first : ℕ) (us vs : List ℤ) → first + (length us + length vs) ≤ used → Stands l first (us ++ vs)
    → Parameters us → all number_fits vs ≡ true → cond surf (leb 2 (length vs)) (eqb (length vs) 0) ≡ true → parameters_obey surf l used first (length us) (length vs) ≡ true
unfolding parameters_obey
parameters-obey surf l used first us vs a s p q h =
    and_both
    (and_both
    (and_both (le-leb (first + (length us + length vs)) used a)
    (small-run l first (us ++ vs) (length us + length vs) (length-append us vs) s (all_append number_fits us vs p.small q)))
    (le-leb 2 (length us) p.two))
    h

-- ---- the controls on a body's line, after its range
fitting-after : (n : Seen) (f : ℕ → WordForm) (i : ℕ) (xs ys : List Value) → Fitting n f i (xs ++ ys) → Fitting n f (i + length xs) ys
fitting-after n f i [] ys q = subst (λ (j : ℕ). Fitting n f j ys) (let e : i ≡ i + 0 = omega arith in e) q
fitting-after n f i (x ∷ xs) ys q = subst (λ (j : ℕ). Fitting n f j ys) (let e : suc i + length xs ≡ i + suc (length xs) = omega arith in e) (fitting-after n f (suc i) xs ys q.1)

range_length : (k : Free) (b : Body) → length (range_of k b) ≡ range_words k
range_length curve b = refl
range_length curve2 b = refl
range_length surface b = refl

pub record Controls (n : Seen) (k : Free) (cs : List Corner) : Type 0 where
  pub least : fewest_controls k ≤ length cs
  pub fits : Fitting n (λ j. control_form k) (range_words k) (map corner cs)

pub controls-of : (x : Vertices) (n : ℕ) (b : Body) (cs : List Corner) → Fine x n (body b cs) → Controls (seen_of x n) b.free cs
controls-of x n b cs f =
    let k = b.free in
    let r = map number (range_of k b) in
    let c = map corner cs in
    let l : length r ≡ range_words k = length-map (range_of k b) number ∙ range_length k b in
    let q = fitting-after (seen_of x n) (form_of (a-body k) (length (r ++ c))) 0 r c (f.fits weights.Always) in
    record {
      least = (let i = leb-true (range_words k + fewest_controls k) (length (r ++ c)) (f.many weights.Always) in let j = length-append r c in let h = length-map cs corner in omega arith);
      fits = fitting-is (seen_of x n) (form_of (a-body k) (length (r ++ c))) (λ j. control_form k) (range_words k) c (λ j h. rw (le-ltb j (range_words k) h) refl)
          (subst (λ (i : ℕ). Fitting (seen_of x n) (form_of (a-body k) (length (r ++ c))) i c) (let e : 0 + length r ≡ range_words k = omega arith in e) q);
    }
