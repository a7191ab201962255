-- What an interval comes to, from the function's own numbers.
use mathlib.Core.Path.{◌≡◌, sym}
use mathlib.Core.List.{List, [], ◌∷◌}
use Prim.Native.Nat.{ℕ}
use lib.IntN.{ℤ}
use mir.Syntax.{w32}
use mir.Val.{SFits, to_z, of_z}
use mir.Facts.{to_z-of_z}
use Rattle.tables.specs.Tables.{Tables}
use Rattle.tables.specs.declared.Element.{Element}
use Rattle.tables.specs.declared.Body.{Body}
use Rattle.sampler.specs.Sampling.{answer_on_curve}
use Rattle.point_chords.specs.Chords.{ends}
use Rattle.polyline.specs.Inner.{coordinates_of, split_of}
use Rattle.std.specs.Prelude.{Some, None, Result}
use Rattle.refusals.specs.declared.Reason.{Reason}
use Rattle.sampler.specs.declared.Point.{Point}
use Rattle.point_chords.proofs.Middle.{middle-fits}
use Rattle.polyline.specs.declared.Halved.{Halved}
use Rattle.polyline.proofs.Halves.{Parted, one-chord, two-halves}
use Rattle.polyline.proofs.Granted.{agreed}

module _ (lent : Tables) (element : Element) (body : Body) (depth : ℕ) {tolerance a b : ℤ} (ft : SFits w32 tolerance) (fa : SFits w32 a) (fb : SFits w32 b) where
  pub whole : None ≡ split_of (answer_on_curve lent element body) (to_z w32 (of_z w32 tolerance)) depth (to_z w32 (of_z w32 a)) (to_z w32 (of_z w32 b)) → ends (coordinates_of lent element body) tolerance depth a b ≡ b ∷ []
  whole e = one-chord (answer_on_curve lent element body) (agreed lent element body) tolerance a b depth (sym (rw (to_z-of_z ft, to_z-of_z fa, to_z-of_z fb) at e))

  pub halved : {h : Halved} → Some h ≡ split_of (answer_on_curve lent element body) (to_z w32 (of_z w32 tolerance)) depth (to_z w32 (of_z w32 a)) (to_z w32 (of_z w32 b)) → Parted (coordinates_of lent element body) tolerance depth a b h.middle h.point
  halved e = two-halves (answer_on_curve lent element body) (agreed lent element body) tolerance a b depth (sym (rw (to_z-of_z ft, to_z-of_z fa, to_z-of_z fb) at e))

-- the middle that was found is read back from its bits
pub middle-read : {point : ℤ → List ℤ} {tolerance : ℤ} {depth : ℕ} {a b m : ℤ} {s : Result Point Reason} → SFits w32 a → SFits w32 b → Parted point tolerance depth a b m s → to_z w32 (of_z w32 m) ≡ m
middle-read {a = a} {b = b} f g h = rw h.middle-is (to_z-of_z {w = w32} (record { sfits = middle-fits a b f.sfits g.sfits }))
