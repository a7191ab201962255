-- A body's controls: those that an element's line has, where each is wide.
use Prim.Native.Nat.{ℕ, ◌+◌, ◌*◌, ◌≤◌}
use mathlib.Core.Path.{◌≡◌, refl, sym, ap, ap₂, subst, ◌∙◌}
use mathlib.Core.Bool.{Bool, true, false, cond}
use mathlib.Core.List.{List}
use mathlib.Core.Option.{none, some}
use lib.ListN.{length, drop}
use lib.Seq.{length-sets}
use lib.IntN.{ℤ}
use native.Mathlib.Omega.{arith}
use Rattle.lists.specs.Lists.{flat}
use Rattle.std.specs.Prelude.{None}
use Rattle.text.specs.Rest.{rest_at}
use Rattle.references.specs.Corner.{Corner}
use Rattle.model.specs.Model as model
use Rattle.model.specs.Parse.{fewest_controls}
use Rattle.model.specs.Layout.{corner_row, free_number}
use Rattle.tables.specs.declared.Used.{Used}
use Rattle.read_state.specs.declared.Names.{Names}
use Rattle.read_vertices.proofs.Closed.{nothing, at-least}
use Rattle.read_elements.specs.Corners.{CornersFound, corner_said, corners_walk}
use Rattle.tables.specs.Rows.{element_numbers}
use Rattle.read_elements.specs.Elements.{element_said, stored_element, TakenElement, NoElement}
use Rattle.read_elements.specs.Bodies.{controls_of, rule_for, wides_for, wide_in, wide_only, TakenControls, NoControls}
use Rattle.read_elements.proofs.Bodies.{wides-for}

pub wide-some : (k : model.Free) (vp : List ℤ) (o : CornersFound) (cs : List Corner) (q : ℕ) → o ≡ some (cs, q) → wide_in k vp cs ≡ true → wide_only k vp o ≡ some (cs, q)
wide-some k vp o cs q e h = ap (wide_only k vp) e ∙ ap (λ (t : Bool). cond t (some (cs, q)) none) h

pub some-wide : (k : model.Free) (vp : List ℤ) (o : CornersFound) (cs : List Corner) (q : ℕ) → wide_only k vp o ≡ some (cs, q) → (o ≡ some (cs, q)) × (wide_in k vp cs ≡ true)
some-wide k vp none cs q e = nothing e
some-wide k vp (some p) cs q e = go (wide_in k vp p.0) refl e
  where
    go : (t : Bool) → wide_in k vp p.0 ≡ t → cond t (some p) none ≡ some (cs, q) → (◌≡◌ {A = CornersFound} (some p) (some (cs, q))) × (wide_in k vp cs ≡ true)
    go false h f = nothing f
    go true h f = let g : p ≡ (cs, q) = cc in (f, subst (λ (y : List Corner × ℕ). wide_in k vp y.0 ≡ true) g h)

few : (k : model.Free) → 1 ≤ fewest_controls k
few model.curve = omega arith
few model.curve2 = omega arith
few model.surface = omega arith

module _ (k : model.Free) (n : Used) (a : Names) (vp : List ℤ) (s : List ℕ) (at : ℕ) (l m e f : List ℕ) where
  pub none-taken : NoElement (rule_for k) n s at l m e f → NoControls k n vp s at l m e f
  none-taken w =
      record {
        same-corners = w.same-corners;
        same-elements = w.same-elements;
        short = λ cs q j. w.short cs q (some-wide k vp (element_said (rule_for k) n (rest_at s at)) cs q j).0;
      }

  module _ {c q : ℕ} (w : TakenElement (rule_for k) (n.bodies + 1) n a s at l m e f c q) where
    room : n.corners + 3 * c ≤ length l
    room =
        let z = at-least (fewest_controls k) (corners_walk (corner_said n (controls_of k)) None (rest_at s at)) w.found q w.said in
        let y = few k in
        let x = w.counted in
        let v = z.1 in
        w.corners-room (omega arith)

    same : length m ≡ length l
    same = ap length w.corners-stored ∙ length-sets l n.corners (flat corner_row w.found)

    pub room_after : n.corners + 3 * c ≤ length m
    room_after = let a = room in let b = same in omega arith

    wide_is : wides_for k vp c (drop n.corners m) ≡ wide_in k vp w.found
    wide_is =
        let x = w.counted in
        let r = room in
        ap₂ (λ (j : ℕ) (t : List ℕ). wides_for k vp j (drop n.corners t)) x w.corners-stored
        ∙ wides-for k vp l n.corners w.found (omega arith)

    pub wide-taken : wides_for k vp c (drop n.corners m) ≡ true → TakenControls k n a vp s at l m e f c q
    wide-taken h =
        record {
          found = w.found;
          said = wide-some k vp (element_said (rule_for k) n (rest_at s at)) w.found q w.said (sym wide_is ∙ h);
          counted = w.counted;
          corners-room = room;
          corners-stored = w.corners-stored;
          elements-room = w.elements-room;
          elements-stored = w.elements-stored;
        }

    pub narrow : wides_for k vp c (drop n.corners m) ≡ false → NoControls k n vp s at l m e f
    narrow h =
        record {
          same-corners = same;
          same-elements = ap length w.elements-stored ∙ length-sets e (9 * n.elements) (element_numbers (stored_element (free_number k) n.corners c (n.bodies + 1) a));
          short = λ cs p j.
              let z = some-wide k vp (element_said (rule_for k) n (rest_at s at)) cs p j in
              let y : ◌≡◌ {A = CornersFound} (some (w.found, q)) (some (cs, p)) = sym w.said ∙ z.0 in
              let x : ◌≡◌ {A = List Corner × ℕ} (w.found, q) (cs, p) = cc in
              let v : wide_in k vp w.found ≡ wide_in k vp cs = ap (λ (t : List Corner × ℕ). wide_in k vp t.0) x in
              let u : false ≡ true = sym h ∙ wide_is ∙ v ∙ z.1 in
              absurd (let t : ◌≡◌ {A = ℕ} 0 1 = cc in omega arith);
        }
