-- curv and curv2 of an accepted text obey the rules: what their lines and their end leave of the body. By the kind.
use Prim.Native.Nat.{ℕ}
use mathlib.Core.Path.{◌≡◌, refl, sym, ap, ap₂, ◌∙◌, subst}
use mathlib.Core.List.{List, []}
use mathlib.Core.Bool.{Bool, true, false}
use mathlib.Core.Option.{some}
use borrow.Author.Tests.{eq-eqb}
use lib.ListN.{length}
use lib.Dec.{leb, eqb}
use lib.IntN.{ℤ, pos}
use lib.Signed.{◌≤ℤ◌, le_z, ≤ℤ_refl}
use Rattle.lists.specs.Lists.{all}
use Rattle.lists.proofs.Tests.{and_both}
use Rattle.references.specs.Corner.{Corner}
use Rattle.rounding.proofs.Order.{le_yes}
use Rattle.references.specs.Fits.{number_fits}
use Rattle.tables.specs.Tables.{Tables}
use Rattle.tables.specs.Bodies.{Basis, low, high, in_order, curve_count}
use Rattle.tables.specs.Records.{parameters_u}
use Rattle.tables.specs.declared.Used.{Used}
use Rattle.model.specs.Model.{Vertices, Free, curve, curve2, Loop, Body}
use Rattle.model.specs.Statements.{settled}
use Rattle.model.specs.Parse.{in_force, counts_agree, range_within, opened_body}
use Rattle.model.specs.Room.{summed, part_count}
use Rattle.model.specs.Layout.{first_part}
use Rattle.tidy_form.specs.Printed.{range_of}
use Rattle.tidy_form.specs.Tidied.{unsettled, unfilled}
use Rattle.tidy_form.proofs.Standing.{Sound, Opens}
use Rattle.tidy_form.proofs.Good.{form_in, LoopsIn, SecondIn, GoodBody}
use Rattle.record_rules.specs.Numbers.{eq_z}
use Rattle.basis.specs.Widest.{widest}
use Rattle.record_rules.specs.Bodies.{flat_obeys, curve_obeys, record_obeys}
use Rattle.tidy_form.proofs.Bodies.{unsettled-free}
use Rattle.model.proofs.BodyRows.{laid_body, BodyRow, us-are}
use Rattle.tables.proofs.Types.{basis-back}
use Rattle.sampled_files.proofs.Directions.{Needed, degree-obeys, needed-u, type-obeys, Parameters, parameters-obey}

module _ (x : Vertices) (n : ℕ) (b : Body) (cs : List Corner) (g : GoodBody x n b cs) (k : Free) (q : b.free ≡ k) where
  pub forced : in_force k (form_in b) (some b.basis) ≡ true
  forced = subst (λ (j : Free). in_force j (form_in b) (some b.basis) ≡ true) (unsettled-free b.free b ∙ q) g.opens.force

  pub gives : opened_body k (form_in b) (range_of k (unfilled (unsettled k b))) ≡ unfilled (unsettled k b)
  gives =
      let o = subst (λ (j : Free). Opens (form_in b) (unfilled (unsettled j b))) q g.opens in
      subst (λ (j : Free). opened_body j (form_in b) (range_of j (unfilled (unsettled k b))) ≡ unfilled (unsettled k b)) (unsettled-free k b ∙ q) o.gives

  sound : Sound (unsettled k b) (length cs)
  sound = subst (λ (j : Free). Sound (unsettled j b) (length cs)) q g.sound

  pub counts : counts_agree k (unsettled k b) (length cs) ≡ true
  counts = subst (λ (j : Free). counts_agree j (unsettled k b) (length cs) ≡ true) (unsettled-free k b ∙ q) sound.counts

  pub ranged : range_within k (unsettled k b) ≡ true
  ranged = subst (λ (j : Free). range_within j (unsettled k b) ≡ true) (unsettled-free k b ∙ q) sound.range

  pub settles : settled k (unsettled k b) ≡ b
  settles = subst (λ (j : Free). settled j (unsettled j b) ≡ b) q g.settles

  pub seconds : SecondIn k b.vs
  seconds = subst (λ (j : Free). SecondIn j b.vs) q g.vs

  pub loops-in : LoopsIn x n k b.loops
  loops-in = subst (λ (j : Free). LoopsIn x n j b.loops) q g.loops

-- ---- what is left of a curve
pub record CurveKept (curv2 : Bool) (b : Body) (count : ℕ) : Type 0 where
  pub needed : Needed b.basis b.degree-u
  pub degree-v : 0 ≡ b.degree-v
  pub start-v : pos 0 ≡ b.start-v
  pub end-v : pos 0 ≡ b.end-v
  pub vs : b.vs ≡ []
  pub loops : b.loops ≡ []
  pub counts : curve_count b.basis b.degree-u (length b.us) count ≡ true
  pub order : in_order b.basis b.degree-u b.us b.start-u b.end-u ≡ true
  pub range : widest curv2 b.basis b.degree-u b.us b.start-u b.end-u ≡ true

le_z_same : (a c : ℤ) → a ≡ c → le_z a c ≡ true
le_z_same a c e = le_yes a c (subst (λ (z : ℤ). a ≤ℤ z) e (≤ℤ_refl a))

module _ (x : Vertices) (n : ℕ) (b : Body) (cs : List Corner) (g : GoodBody x n b cs) where
  pub curve-kept : b.free ≡ curve → CurveKept false b (length cs)
  unfolding widest
  curve-kept q =
      let e = gives x n b cs g curve q in
      record {
        needed = needed-u curve (form_in b) b.basis (forced x n b cs g curve q) (ap (λ (y : Body). y.degree-u) e);
        degree-v = ap (λ (y : Body). y.degree-v) e;
        start-v = ap (λ (y : Body). y.start-v) e;
        end-v = ap (λ (y : Body). y.end-v) e;
        vs = seconds x n b cs g curve q;
        loops = loops-in x n b cs g curve q;
        counts = counts x n b cs g curve q;
        order = ranged x n b cs g curve q;
        range = refl;
      }

  pub curve2-kept : b.free ≡ curve2 → CurveKept true b (length cs)
  unfolding widest
  curve2-kept q =
      let e = gives x n b cs g curve2 q in
      let s = settles x n b cs g curve2 q in
      let d = low b.basis b.degree-u b.us in
      let h = high b.basis b.degree-u b.us in
      let e₁ : d ≡ b.start-u = ap (λ (y : Body). y.start-u) s in
      let e₂ : h ≡ b.end-u = ap (λ (y : Body). y.end-u) s in
      record {
        needed = needed-u curve2 (form_in b) b.basis (forced x n b cs g curve2 q) (ap (λ (y : Body). y.degree-u) e);
        degree-v = ap (λ (y : Body). y.degree-v) e;
        start-v = ap (λ (y : Body). y.start-v) e;
        end-v = ap (λ (y : Body). y.end-v) e;
        vs = seconds x n b cs g curve2 q;
        loops = loops-in x n b cs g curve2 q;
        counts = counts x n b cs g curve2 q;
        order = ap₂ (λ (y z : ℤ). in_order b.basis b.degree-u b.us y z) (sym e₁) (sym e₂) ∙ ranged x n b cs g curve2 q;
        range = and_both (le_z_same b.start-u d (sym e₁)) (le_z_same h b.end-u e₂);
      }

-- ---- its record, read back
eq_z-zero : (a : ℤ) → pos 0 ≡ a → eq_z a (pos 0) ≡ true
eq_z-zero a e = subst (λ (z : ℤ). eq_z z (pos 0) ≡ true) e refl

module _ (u : Used) (t : Tables) (j p l : ℕ) (b : Body) (r : BodyRow u t j p l b) (curv2 : Bool) (count : ℕ) (k : CurveKept curv2 b count) where
  no-parts : part_count b ≡ 0
  no-parts = ap (λ (ls : List Loop). summed (λ (y : Loop). length y.parts) ls) k.loops

  flat-obeys : flat_obeys (laid_body p l b) ≡ true
  unfolding flat_obeys
  flat-obeys =
      and_both (and_both (and_both (eq_z-zero b.start-v k.start-v) (eq_z-zero b.end-v k.end-v)) (ap (λ (c : ℕ). eqb (first_part l c) 0) no-parts)) (ap (λ (c : ℕ). eqb c 0) no-parts)

  curve-obeys : curve_obeys curv2 (parameters_u t (laid_body p l b)) (laid_body p l b) count ≡ true
  unfolding curve_obeys
  curve-obeys =
      let e = basis-back b.basis in
      let w = us-are u t j p l b r in
      and_both
      (and_both
      (and_both (ap (λ (y : Basis). curve_count y b.degree-u (length b.us) count) e ∙ k.counts)
      (ap₂ (λ (y : Basis) (z : List ℤ). in_order y b.degree-u z b.start-u b.end-u) e w ∙ k.order))
      (ap₂ (λ (y : Basis) (z : List ℤ). widest curv2 y b.degree-u z b.start-u b.end-u) e w ∙ k.range))
      flat-obeys

  pub curve-record : (n kind : ℕ) → eqb kind 6 ≡ false → eqb kind 5 ≡ curv2 → leb b.degree-u 20 ≡ true → Parameters b.us → record_obeys u t n kind count (laid_body p l b) ≡ true
  unfolding record_obeys
  curve-record n kind e f d ps =
      let no-vs : length b.vs ≡ 0 = ap length k.vs in
      rw (e, f)
      (and_both
      (and_both
      (type-obeys false b.basis b.rational b.degree-u b.degree-v (degree-obeys b.basis b.degree-u d k.needed) (eq-eqb b.degree-v 0 (sym k.degree-v)))
      (parameters-obey false t.bodies.parameters u.parameters p b.us b.vs r.used-parameters r.parameters ps (ap (all number_fits) k.vs)
      (eq-eqb (length b.vs) 0 no-vs)))
      curve-obeys)
