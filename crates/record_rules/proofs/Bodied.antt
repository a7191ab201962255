-- The body of an element as it is asked for: one that is not held is all zeros, and no type is 0. And the tests of an element but for its body.
use Prim.Native.Nat.{ℕ, ◌-◌}
use mathlib.Core.Path.{◌≡◌, refl}
use mathlib.Core.Bool.{Bool, true, false, ◌&&◌}
use lib.Dec.{leb}
use Rattle.lists.proofs.Tests.{never}
use Rattle.tables.specs.Tables.{Tables}
use Rattle.tables.specs.Records.{body_at}
use Rattle.tables.specs.Asking.{body_held, asked_body}
use Rattle.tables.specs.declared.Used.{Used}
use Rattle.tables.specs.declared.Element.{Element}
use Rattle.record_rules.specs.Corners.{corners_obey}
use Rattle.record_rules.specs.Directions.{type_obeys}
use Rattle.record_rules.specs.Bodies.{record_obeys, body_obeys}

abbrev pub outline : Used → Tables → Element → Bool
outline used t e = leb 1 e.kind && leb e.kind 6 && leb e.smoothing 65535 && corners_obey used t e.kind e.corners

module _ (used : Used) (t : Tables) (curves : ℕ) where
  pub body_is : (kind count k : ℕ) → body_obeys used t curves kind count k ≡ record_obeys used t curves kind count (asked_body used t.bodies.bodies t.bodies.ranges k)
  unfolding body_obeys record_obeys type_obeys asked_body
  body_is kind count k = go (body_held used t.bodies.bodies t.bodies.ranges k) refl
    where
      go : (q : Bool) → body_held used t.bodies.bodies t.bodies.ranges k ≡ q → body_obeys used t curves kind count k ≡ record_obeys used t curves kind count (asked_body used t.bodies.bodies t.bodies.ranges k)
      go true h = rw h
      go false h = rw h

  -- a body that obeys is held
  pub body-there : (kind count k : ℕ) → record_obeys used t curves kind count (asked_body used t.bodies.bodies t.bodies.ranges k) ≡ true → asked_body used t.bodies.bodies t.bodies.ranges k ≡ body_at t (k - 1)
  unfolding record_obeys type_obeys asked_body
  body-there kind count k = go (body_held used t.bodies.bodies t.bodies.ranges k) refl
    where
      go : (q : Bool) → body_held used t.bodies.bodies t.bodies.ranges k ≡ q → record_obeys used t curves kind count (asked_body used t.bodies.bodies t.bodies.ranges k) ≡ true → asked_body used t.bodies.bodies t.bodies.ranges k ≡ body_at t (k - 1)
      go true h r = rw h
      go false h r = never (rw h at r)
