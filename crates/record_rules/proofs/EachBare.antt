-- A v within reach is one that obeys, by the tests in turn; and where the first corner names a v alone, each corner does that obeys.
use Prim.Native.Nat.{ℕ, ◌+◌, ◌*◌, ◌-◌, ◌<◌, ◌≤◌}
use native.Mathlib.Omega.{arith}
use mathlib.Core.Path.{◌≡◌, refl, ◌∙◌}
use mathlib.Core.List.{List}
use mathlib.Core.Bool.{Bool, true, false, cond, not, ◌&&◌}
use borrow.Author.Tests.{leb-true, leb-false, le-leb, lt-leb, not-true}
use lib.Dec.{leb, eqb}
use lib.ListN.{length}
use lib.IntN.{ℤ}
use Rattle.lists.proofs.Tests.{and_left, and_right}
use Rattle.tables.specs.Tables.{Tables}
use Rattle.tables.specs.Records.{corner_at, corner_in, corner_place}
use Rattle.tables.specs.declared.CornerRun.{CornerRun}
use Rattle.tables.specs.declared.Used.{Used}
use Rattle.record_rules.specs.Numbers.{run_in_range, all_below}
use Rattle.record_rules.specs.Vertices.{vertex_obeys}
use Rattle.record_rules.specs.Corners.{attribute_obeys, point_obeys, corner_obeys, each_corner}
use Rattle.record_rules.specs.Bare.{Reach, reached_obeys, bare_obeys, each_bare}
use Rattle.record_rules.proofs.Below.{below_fails, below-ends, below-same}

module _ (v : List ℤ) (used r : ℕ) (h : Reach (length v) used r) (k : ℕ) where
  reached-is : reached_obeys v r k ≡ vertex_obeys 4 v used k
  unfolding reached_obeys vertex_obeys run_in_range
  reached-is = go (leb 1 k) (leb k r) (leb k used) refl refl refl
    where
      go : (a b c : Bool) → leb 1 k ≡ a → leb k r ≡ b → leb k used ≡ c → reached_obeys v r k ≡ vertex_obeys 4 v used k
      go false b c p q s = rw p
      go true true true p q s =
          let l : leb (4 * (k - 1) + 4) (length v) ≡ true = le-leb (4 * (k - 1) + 4) (length v) (omega (arith, leb-true 1 k p, leb-true k r q, h.lent-ones)) in
          rw (p, q, s, l)
      go true true false p q s = absurd (omega (arith, leb-true k r q, leb-false k used s, h.used-ones))
      go true false true p q s =
          let l : leb (4 * (k - 1) + 4) (length v) ≡ false = lt-leb (4 * (k - 1) + 4) (length v) (omega (arith, leb-true 1 k p, h.most k (leb-false k r q) (leb-true k used s))) in
          rw (p, q, s, l)
      go true false false p q s = rw (p, q, s)

-- the corners' loop, by the first that breaks a rule, or by their number
module _ (v : List ℤ) (used : ℕ) (corners : List ℕ) (run : CornerRun) where
  abbrev pub at_bare : ℕ → Bool
  at_bare k = bare_obeys v used (corner_in corners (corner_place run k))

  pub bare-here : (r : ℕ) → Reach (length v) used r → (k : ℕ) {b : Bool} →
      let c = corner_in corners (corner_place run k) in b ≡ (reached_obeys v r c.v && eqb c.vt 0 && eqb c.vn 0) → b ≡ at_bare k
  unfolding bare_obeys
  bare-here r h k e = e ∙ rw (reached-is v used r h (corner_in corners (corner_place run k)).v)

  pub bare-fails : (k : ℕ) → k < run.count → at_bare k ≡ false → each_bare v used corners run ≡ false
  unfolding each_bare
  bare-fails k h e = below_fails at_bare run.count k h e

  pub bare-holds : (k : ℕ) → all_below k at_bare ≡ true → k ≤ run.count → run.count ≤ k → each_bare v used corners run ≡ true
  unfolding each_bare
  bare-holds k h a b = below-ends at_bare h a b

-- a number beside none at the first corner
none-given : (allowed : Bool) (l : List ℤ) (used first k : ℕ) → eqb first 0 ≡ true → attribute_obeys allowed l used first k ≡ eqb k 0
unfolding attribute_obeys
none-given allowed l used first k h = rw h (go allowed (eqb k 0) (vertex_obeys 3 l used k))
  where
    go : (a b w : Bool) → cond b true (a && false && w) ≡ b
    go a true w = refl
    go true false w = refl
    go false false w = refl

module _ (used : Used) (t : Tables) (kind : ℕ) (run : CornerRun)
    (h : (not (eqb kind 5) && eqb (corner_at t run 0).vt 0 && eqb (corner_at t run 0).vn 0) ≡ true) where
  no-curve : eqb kind 5 ≡ false
  no-curve = not-true (eqb kind 5) (and_left (not (eqb kind 5)) (eqb (corner_at t run 0).vt 0) (and_left (not (eqb kind 5) && eqb (corner_at t run 0).vt 0) (eqb (corner_at t run 0).vn 0) h))

  no-texture : eqb (corner_at t run 0).vt 0 ≡ true
  no-texture = and_right (not (eqb kind 5)) (eqb (corner_at t run 0).vt 0) (and_left (not (eqb kind 5) && eqb (corner_at t run 0).vt 0) (eqb (corner_at t run 0).vn 0) h)

  no-normal : eqb (corner_at t run 0).vn 0 ≡ true
  no-normal = and_right (not (eqb kind 5) && eqb (corner_at t run 0).vt 0) (eqb (corner_at t run 0).vn 0) h

  bare-is : (k : ℕ) → bare_obeys t.vertices.v used.v (corner_at t run k) ≡ corner_obeys used t kind (corner_at t run 0) (corner_at t run k)
  unfolding bare_obeys corner_obeys point_obeys
  bare-is k =
      rw (
        no-curve,
        none-given _ t.vertices.vt used.vt (corner_at t run 0).vt (corner_at t run k).vt no-texture,
        none-given _ t.vertices.vn used.vn (corner_at t run 0).vn (corner_at t run k).vn no-normal,
      )

  pub each_bare-corners : each_bare t.vertices.v used.v t.elements.corners run ≡ each_corner used t kind run
  unfolding each_bare each_corner
  each_bare-corners = below-same _ _ bare-is run.count
