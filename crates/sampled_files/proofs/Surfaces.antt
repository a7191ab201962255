-- surf of an accepted text obeys the rules: what its lines and its end leave of the body, and its loops.
use Prim.Native.Nat.{ℕ}
use mathlib.Core.Path.{◌≡◌, refl, ap, ap₂, ◌∙◌}
use mathlib.Core.List.{List}
use mathlib.Core.Bool.{true}
use borrow.Author.Tests.{le-leb}
use lib.ListN.{length}
use lib.Dec.{leb}
use lib.IntN.{ℤ}
use Rattle.lists.proofs.Tests.{and_left, and_right, and_both}
use Rattle.references.specs.Corner.{Corner}
use Rattle.tables.specs.Tables.{Tables}
use Rattle.tables.specs.Bodies.{Basis, in_order, surface_count}
use Rattle.tables.specs.Records.{parameters_u, parameters_v}
use Rattle.tables.specs.declared.Used.{Used}
use Rattle.model.specs.Model.{Vertices, surface, along-v, Body}
use Rattle.model.specs.Room.{part_count}
use Rattle.tidy_form.proofs.Good.{form_in, GoodLoops, GoodBody}
use Rattle.tidy_form.proofs.Placed.{loops-parted}
use Rattle.record_rules.specs.Bodies.{directions_obey, surface_obeys, record_obeys}
use Rattle.model.proofs.BodyRows.{laid_body, BodyRow, us-are, vs-are}
use Rattle.tables.proofs.Types.{basis-back}
use Rattle.sampled_files.proofs.Directions.{Needed, degree-obeys, needed-u, needed-v, type-obeys, Parameters, parameters-of, parameters-obey}
use Rattle.sampled_files.proofs.Curves.{forced, gives, counts, ranged, seconds, loops-in}
use Rattle.sampled_files.proofs.Loops.{begun_ok-laid, loops-obey}

pub record SurfaceKept (x : Vertices) (n : ℕ) (b : Body) (count : ℕ) : Type 0 where
  pub needed-u : Needed b.basis b.degree-u
  pub needed-v : Needed b.basis b.degree-v
  pub vs : Parameters b.vs
  pub loops : GoodLoops x n b.loops
  pub counts : surface_count b.basis b.degree-u (length b.us) b.degree-v (length b.vs) count ≡ true
  pub order-u : in_order b.basis b.degree-u b.us b.start-u b.end-u ≡ true
  pub order-v : in_order b.basis b.degree-v b.vs b.start-v b.end-v ≡ true

pub surface-kept : (x : Vertices) (n : ℕ) (b : Body) (cs : List Corner) → GoodBody x n b cs → b.free ≡ surface → SurfaceKept x n b (length cs)
surface-kept x n b cs g q =
    let e = gives x n b cs g surface q in
    let f = forced x n b cs g surface q in
    let r = ranged x n b cs g surface q in
    let o = in_order b.basis b.degree-u b.us b.start-u b.end-u in
    record {
      needed-u = needed-u surface (form_in b) b.basis f (ap (λ (y : Body). y.degree-u) e);
      needed-v = needed-v (form_in b) b.basis f (ap (λ (y : Body). y.degree-v) e);
      vs = parameters-of along-v b.vs (seconds x n b cs g surface q);
      loops = loops-in x n b cs g surface q;
      counts = counts x n b cs g surface q;
      order-u = and_left o _ r;
      order-v = and_right o _ r;
    }

module _ (u : Used) (t : Tables) (j p l : ℕ) (b : Body) (r : BodyRow u t j p l b) (x : Vertices) (n count : ℕ) (k : SurfaceKept x n b count) where
  directions-obey : directions_obey (parameters_u t (laid_body p l b)) (parameters_v t (laid_body p l b)) (laid_body p l b) count ≡ true
  unfolding directions_obey
  directions-obey =
      let e = basis-back b.basis in
      and_both
      (and_both (ap (λ (y : Basis). surface_count y b.degree-u (length b.us) b.degree-v (length b.vs) count) e ∙ k.counts)
      (ap₂ (λ (y : Basis) (z : List ℤ). in_order y b.degree-u z b.start-u b.end-u) e (us-are u t j p l b r) ∙ k.order-u))
      (ap₂ (λ (y : Basis) (z : List ℤ). in_order y b.degree-v z b.start-v b.end-v) e (vs-are u t j p l b r) ∙ k.order-v)

  surface-obeys : surface_obeys u.loops t n count (laid_body p l b) ≡ true
  unfolding surface_obeys
  surface-obeys =
      and_both directions-obey
      (loops-obey u.loops t n l b.loops r.used-loops r.loops r.spans (begun_ok-laid x n b.loops k.loops) (loops-parted x n b.loops k.loops) (part_count b) refl)

  pub surface-record : leb b.degree-u 20 ≡ true → leb b.degree-v 20 ≡ true → Parameters b.us → record_obeys u t n 6 count (laid_body p l b) ≡ true
  unfolding record_obeys
  surface-record c d ps =
      and_both
      (and_both
      (type-obeys true b.basis b.rational b.degree-u b.degree-v (degree-obeys b.basis b.degree-u c k.needed-u) (degree-obeys b.basis b.degree-v d k.needed-v))
      (parameters-obey true t.bodies.parameters u.parameters p b.us b.vs r.used-parameters r.parameters ps k.vs.small (le-leb 2 (length b.vs) k.vs.two)))
      surface-obeys
