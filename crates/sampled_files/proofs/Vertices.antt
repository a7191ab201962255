-- The vertices of an accepted text obey the rules: each record has its width, its numbers are in range, a vp's count is that of its coordinates. By the record.
use Prim.Native.Nat.{ℕ, zero, suc, ◌+◌, ◌*◌, ◌-◌, ◌≤◌, ◌<◌}
use mathlib.Core.Path.{◌≡◌, refl, sym, ap, ap₂, ◌∙◌, subst}
use mathlib.Core.List.{List, [], ◌∷◌, ◌++◌, map}
use mathlib.Core.Bool.{Bool, true}
use native.Mathlib.Omega.{arith}
use borrow.Author.Tests.{leb-true, le-leb}
use lib.ListN.{length, get_or, length-map}
use lib.Dec.{leb}
use lib.IntN.{ℤ, pos, nat_abs}
use lib.Signed.{le_z}
use Rattle.lists.specs.Lists.{all, flat}
use Rattle.lists.proofs.Tests.{and_left, and_right, and_both, never}
use Rattle.references.specs.Fits.{number_fits}
use Rattle.tables.specs.Records.{value_at, vp_width}
use Rattle.model.specs.Model.{VertexKind, geometric, texture, normal, parametric, start}
use Rattle.model.specs.Statements.{vertex}
use Rattle.model.specs.Parse.{number, numbers_of, a-number, Seen, vertex_record, given}
use Rattle.model.proofs.Pieces.{counted_vertex}
use Rattle.model.specs.Layout.{itself}
use Rattle.tidy_form.specs.declared.Weights.TheVariants as weights
use Rattle.tidy_form.specs.Printed.{coordinates}
use Rattle.tidy_form.proofs.Words.{Fitting}
use Rattle.tidy_form.proofs.Standing.{seen_of}
use Rattle.model.proofs.Values.{numbers_of-map}
use Rattle.tidy_form.proofs.Shapes.{numbers_fit}
use Rattle.tidy_form.proofs.Coordinates.{completed-numbers}
use Rattle.tidy_form.proofs.Good.{Always, GoodVertices}
use Rattle.model.proofs.Placed.{wide-stands}
use Rattle.tidy_form.proofs.Placed.{record-length, vertices-wide}
use Rattle.record_rules.specs.Numbers.{in_range, run_in_range}
use Rattle.record_rules.specs.Vertices.{vertex_obeys, given_obeys, parameter_vertex_obeys, control_obeys}
use Rattle.record_rules.proofs.Below.{below_all}
use Rattle.model.proofs.Stands.{Stands, stands_at, Among, among, among-at}

-- ---- numbers in range
pub all-at : {A : Type 0} (f : A → Bool) (xs : List A) (i : ℕ) (z : A) → all f xs ≡ true → i < length xs → f (get_or xs i z) ≡ true
all-at f [] i z h l = absurd (omega arith)
all-at f (x ∷ xs) zero z h l = and_left (f x) (all f xs) h
all-at f (x ∷ xs) (suc i) z h l = all-at f xs i z (and_right (f x) (all f xs) h) (omega arith)

pub numbers-all : (n : Seen) (i : ℕ) (z : List ℤ) → Fitting n (λ j. a-number) i (map number z) → all number_fits z ≡ true
numbers-all n i z f =
    let q = numbers_fit n i (map number z) f in
    let e : z ≡ q.0 = sym (numbers_of-map z) ∙ ap numbers_of q.1 ∙ numbers_of-map q.0 in
    ap (all number_fits) e ∙ q.2

-- numbers that stand in a table and are in range
pub small-run : (l : List ℤ) (first : ℕ) (z : List ℤ) (n : ℕ) → length z ≡ n → Stands l first z → all number_fits z ≡ true → run_in_range l first n ≡ true
unfolding run_in_range in_range
small-run l first z n e s h =
    and_both (le-leb (first + n) (length l) (let k = s.lent in omega arith))
    (below_all (λ k. leb (nat_abs (get_or l (first + k) (pos 0))) 2000000000) n
    (λ k b. ap (λ (q : ℤ). leb (nat_abs q) 2000000000) (stands_at l first z k (pos 0) s (omega arith)) ∙ all-at number_fits z k (pos 0) h (omega arith)))

-- ---- one record
pub record VertexKept (k : VertexKind) (z : List ℤ) : Type 0 where
  pub some : counted_vertex k (length (coordinates weights.Always k z)) ≡ true
  pub wide : length z ≡ length (vertex_record k [])
  pub small : all number_fits z ≡ true
  pub whole : vertex_record k (coordinates weights.Always k z) ≡ z

three-small : (n : ℕ) → n ≤ 3 → number_fits (pos n) ≡ true
three-small n h = le-leb n 2000000000 (omega arith)

record-small : (k : VertexKind) (z : List ℤ) → counted_vertex k (length z) ≡ true → all number_fits z ≡ true → all number_fits (vertex_record k z) ≡ true
record-small geometric z c h = completed-numbers geometric z c h
record-small texture z c h = completed-numbers texture z c h
record-small normal z c h = completed-numbers normal z c h
record-small parametric z c h = and_both (three-small (length z) (leb-true (length z) 3 (and_right (leb 1 (length z)) (leb (length z) 3) c))) (completed-numbers parametric z c h)

pub vertex-kept : (k : VertexKind) (z : List ℤ) → Always (vertex k z) → VertexKept k z
vertex-kept k z a =
    let f = a start.model.vertices 0 in
    let c : counted_vertex k (length (coordinates weights.Always k z)) ≡ true = ap (counted_vertex k) (sym (length-map (coordinates weights.Always k z) number)) ∙ f.many weights.Always in
    let s = numbers-all (seen_of start.model.vertices 0) 0 (coordinates weights.Always k z) (f.fits weights.Always) in
    record {
      some = c;
      wide = ap length (sym (f.whole weights.Always)) ∙ record-length k (coordinates weights.Always k z) c;
      small = ap (all number_fits) (sym (f.whole weights.Always)) ∙ record-small k (coordinates weights.Always k z) c s;
      whole = f.whole weights.Always;
    }

-- ---- record i of a table
abbrev pub width : VertexKind → ℕ
width k = length (vertex_record k [])

good-among : (k : VertexKind) (zs : List (List ℤ)) (i : ℕ) → GoodVertices k zs → (a : Among zs i) → Always (vertex k a.one)
good-among k zs i g a = go a.before (subst (GoodVertices k) a.is g)
  where
    go : (xs : List (List ℤ)) → GoodVertices k (xs ++ a.one ∷ a.after) → Always (vertex k a.one)
    go [] h = h.0
    go (x ∷ xs) h = go xs h.1

pub record Vertex (k : VertexKind) (l : List ℤ) (zs : List (List ℤ)) (i : ℕ) : Type 0 where
  pub one : List ℤ
  pub kept : VertexKept k one
  pub stands : Stands l (width k * i) one
  pub is : get_or zs i [] ≡ one

pub vertex-at : (k : VertexKind) (l : List ℤ) (zs : List (List ℤ)) (i : ℕ) → GoodVertices k zs → Stands l 0 (flat itself zs) → i < length zs → Vertex k l zs i
vertex-at k l zs i g s h =
    let a = among zs i h in
    record {
      one = a.one;
      kept = vertex-kept k a.one (good-among k zs i g a);
      stands = wide-stands (width k) l zs i a (vertices-wide k zs g) s;
      is = among-at zs i a [];
    }

module _ (k : VertexKind) (l : List ℤ) (zs : List (List ℤ)) (g : GoodVertices k zs) (s : Stands l 0 (flat itself zs)) where
  -- record n of its table
  pub vertex-obeys : (w used n : ℕ) → width k ≡ w → used ≡ length zs → 1 ≤ n → n ≤ length zs → vertex_obeys w l used n ≡ true
  unfolding vertex_obeys
  vertex-obeys w used n e u a b =
      let v = vertex-at k l zs (n - 1) g s (omega arith) in
      and_both (and_both (le-leb 1 n a) (le-leb n used (omega arith)))
      (small-run l (w * (n - 1)) v.one w (v.kept.wide ∙ e) (subst (λ (q : ℕ). Stands l (q * (n - 1)) v.one) e v.stands) v.kept.small)

-- ---- a vp: the count given, and what is filled in
record Given (z : List ℤ) : Type 0 where
  obeys : given_obeys (get_or z 0 (pos 0)) (get_or z 2 (pos 0)) (get_or z 3 (pos 0)) ≡ true
  two : leb 2 (nat_abs (get_or z 0 (pos 0))) ≡ true → le_z (pos 2) (get_or z 0 (pos 0)) ≡ true

given-of : (q : List ℤ) → counted_vertex parametric (length q) ≡ true → Given (vertex_record parametric q)
unfolding given_obeys
given-of [] c = never c
given-of (a ∷ []) c = record { obeys = refl; two = λ h. h }
given-of (a ∷ b ∷ []) c = record { obeys = refl; two = λ h. h }
given-of (a ∷ b ∷ d ∷ []) c = record { obeys = refl; two = λ h. h }
given-of (a ∷ b ∷ d ∷ e ∷ q) c = absurd (let l = leb-true (suc (suc (suc (suc (length q))))) 3 (and_right (leb 1 (suc (suc (suc (suc (length q)))))) _ c) in omega arith)

module _ (l : List ℤ) (zs : List (List ℤ)) (g : GoodVertices parametric zs) (s : Stands l 0 (flat itself zs)) where
  -- record n of its table
  module _ (n : ℕ) (a : 1 ≤ n) (b : n ≤ length zs) where
    abbrev here : Vertex parametric l zs (n - 1)
    here = vertex-at parametric l zs (n - 1) g s (omega arith)

    its-given : Given here.one
    its-given = subst Given here.kept.whole (given-of (coordinates weights.Always parametric here.one) here.kept.some)

    number-at : (k : ℕ) → k < vp_width → value_at vp_width l (n - 1) k ≡ get_or here.one k (pos 0)
    number-at k r = stands_at l (vp_width * (n - 1)) here.one k (pos 0) here.stands (let w = here.kept.wide in omega arith)

  pub parameter-obeys : (used n : ℕ) → used ≡ length zs → 1 ≤ n → n ≤ length zs → parameter_vertex_obeys l used n ≡ true
  unfolding parameter_vertex_obeys
  parameter-obeys used n u a b =
      let z = (here n a b).one in
      let e₀ = number-at n a b 0 (omega arith) in
      let e₂ = number-at n a b 2 (omega arith) in
      let e₃ = number-at n a b 3 (omega arith) in
      and_both (vertex-obeys parametric l zs g s 4 used n refl u a b)
      (ap₂ (λ (x y : ℤ). given_obeys x y (value_at vp_width l (n - 1) 3)) e₀ e₂ ∙ ap (given_obeys (get_or z 0 (pos 0)) (get_or z 2 (pos 0))) e₃ ∙ (its-given n a b).obeys)

  pub control-obeys : (used n : ℕ) → used ≡ length zs → 1 ≤ n → n ≤ length zs → leb 2 (given zs n) ≡ true → control_obeys l used n ≡ true
  unfolding control_obeys
  control-obeys used n u a b h =
      and_both (parameter-obeys used n u a b)
      (ap (le_z (pos 2)) (number-at n a b 0 (omega arith))
      ∙ (its-given n a b).two (ap (λ (y : List ℤ). leb 2 (nat_abs (get_or y 0 (pos 0)))) (sym (here n a b).is) ∙ h))
