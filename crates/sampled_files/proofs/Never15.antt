-- What reading accepts, sampling never refuses with 15: the tests before 18 all pass or lead to 17.
use Prim.Native.Nat.{ℕ, ◌*◌, ◌-◌, ◌≤◌}
use mathlib.Core.Path.{◌≡◌, refl}
use mathlib.Core.Bool.{Bool, true, false, cond, ◌&&◌}
use mathlib.Core.List.{List}
use native.Mathlib.Omega.{arith}
use borrow.Author.Tests.{leb-true, le-leb}
use lib.ListN.{length}
use lib.Dec.{leb}
use Rattle.lists.proofs.Tests.{and_left, and_right, never}
use Rattle.tables.specs.Records.{element_width}
use Rattle.tables.specs.Tables.{Tables}
use Rattle.model.specs.Model.{Model}
use Rattle.model.specs.Room.{Rooms}
use Rattle.model.specs.Read.{read, read_of}
use Rattle.model.specs.Layout.{tables_of, used_of}
use Rattle.record_rules.specs.Rules.{obeys, curves_before}
use Rattle.record_rules.proofs.Element.{obeys-facts}
use Rattle.std.specs.Prelude.{Option, Some, None}
use Rattle.refusals.specs.declared.Reason.{Reason}
use Rattle.refusals.specs.declared.Reason.TheVariants.{BrokenRecord, NoSuchElement, NotSampled}
use Rattle.sampler.specs.Answers.{wanted, carried, element_of, body_of, refusal_of}
use Rattle.sampled_files.specs.Accepted.{SamplingNever15}
use Rattle.sampled_files.proofs.Obeyed.{every-element-obeys}

pub used-elements : (m : Model) → (used_of m).elements ≡ length m.elements
unfolding used_of
used-elements m = refl

module _ (R : Rooms) (s : List ℕ) (m : Model) (h : read_of R s ≡ read m) (number : ℕ) where
  abbrev t : Tables
  t = tables_of R m

  pub obeyed : 1 ≤ number → number ≤ length m.elements → obeys (used_of m) t (curves_before t (number - 1)) (number - 1) ≡ true
  obeyed a b = every-element-obeys R s m h (number - 1) (omega arith)

  lent : 1 ≤ number → number ≤ length m.elements → element_width * number ≤ length t.elements.elements
  lent a b = let o = obeys-facts (used_of m) t (curves_before t (number - 1)) (number - 1) (obeyed a b) in omega (arith, o.lent_one)

-- ---- 15
passes : (a b w o c : Bool) → (a ≡ true → b ≡ true) → (a ≡ true → o ≡ true) → ◌≡◌ {A = Option Reason}
    (cond a (cond b (cond w (cond o (cond c None (Some NotSampled)) (Some BrokenRecord)) (Some NoSuchElement)) (Some BrokenRecord)) (Some NoSuchElement)) (Some BrokenRecord) → ⊥
passes false b w o c f g e = cc
passes true false w o c f g e = never (f refl)
passes true true false o c f g e = cc
passes true true true false c f g e = never (g refl)
passes true true true true false f g e = cc
passes true true true true true f g e = cc

pub sampling-never-15 : SamplingNever15
unfolding refusal_of
sampling-never-15 R s m h asked number e =
    let t = tables_of R m in
    let u = used_of m in
    let in_use : (leb 1 number && leb number u.elements) ≡ true → (1 ≤ number) × (number ≤ length m.elements) =
    λ a. (leb-true 1 number (and_left (leb 1 number) _ a), (let k = leb-true number u.elements (and_right (leb 1 number) _ a) in let q = used-elements m in omega arith)) in
    passes (leb 1 number && leb number u.elements) (leb (element_width * number) (length t.elements.elements)) (wanted asked (element_of t number).kind)
    (obeys u t (curves_before t (number - 1)) (number - 1)) (carried (body_of t number).rational (body_of t number).basis)
    (λ a. le-leb (element_width * number) (length t.elements.elements) (lent R s m h number (in_use a).0 (in_use a).1))
    (λ a. obeyed R s m h number (in_use a).0 (in_use a).1) e
