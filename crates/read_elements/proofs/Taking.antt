-- An element's corners and then its record: by what storing each of them answered.
use Prim.Native.Nat.{ℕ, ◌+◌, ◌*◌, ◌<◌, ◌≤◌}
use mathlib.Core.Path.{◌≡◌, refl, sym, ap, ◌∙◌}
use mathlib.Core.Logic.{inl, inr}
use mathlib.Core.Bool.{Bool, true, false, cond}
use mathlib.Core.List.{List}
use mathlib.Core.Option.{some}
use lib.ListN.{length}
use lib.Seq.{sets, length-sets}
use lib.Dec.{leb}
use borrow.Author.Tests.{leb-true, leb-false}
use native.Mathlib.Omega.{arith}
use Rattle.lists.specs.Lists.{flat}
use Rattle.std.specs.Prelude.{None}
use Rattle.text.specs.Rest.{rest_at}
use Rattle.references.specs.Corner.{Corner}
use Rattle.model.specs.Layout.{corner_row}
use Rattle.tables.specs.declared.Used.{Used}
use Rattle.read_state.specs.declared.Names.{Names}
use Rattle.read_vertices.proofs.Closed.{at-least, has-least}
use Rattle.read_elements.specs.Corners.{CornersFound, corner_said, corners_walk, TookCorners, StoppedCorners}
use Rattle.tables.specs.Rows.{element_numbers}
use Rattle.read_elements.specs.Elements.{stored_element, TakenElement, NoElement}
use Rattle.read_elements.specs.declared.Rule.{Rule}

-- two answers for one line have as many corners
one-count : (o : CornersFound) (cs ds : List Corner) (p q : ℕ) → o ≡ some (cs, p) → o ≡ some (ds, q) → length cs ≡ length ds
one-count o cs ds p q e f = let z : ◌≡◌ {A = List Corner × ℕ} (cs, p) (ds, q) = cc in ap (λ (x : List Corner × ℕ). length x.0) z

pub no-corners : (u : Rule) (n : Used) (s : List ℕ) (at : ℕ) (l m : List ℕ) → StoppedCorners (corner_said n u.form) s at n.corners l m → (e : List ℕ) → NoElement u n s at l m e e
no-corners u n s at l m w e =
    record {
      same-corners = w.same;
      same-elements = refl;
      short = λ cs q j. inl (w.short cs q (at-least u.fewest (corners_walk (corner_said n u.form) None (rest_at s at)) cs q j).0);
    }

module _ (u : Rule) (n : Used) (s : List ℕ) (at : ℕ) (l m : List ℕ) {q c : ℕ} (w : TookCorners (corner_said n u.form) s at n.corners l m q c) where
  same : length m ≡ length l
  same = ap length w.stored ∙ length-sets l n.corners (flat corner_row w.found)

  pub fits-number : length s ≤ 16777216 → c ≤ 16777216
  fits-number h = let a = w.small in omega arith

  pub too_few : c < u.fewest → (e : List ℕ) → NoElement u n s at l m e e
  too_few h e =
      record {
        same-corners = same;
        same-elements = refl;
        short = λ cs p j.
            let z = at-least u.fewest (corners_walk (corner_said n u.form) None (rest_at s at)) cs p j in
            let y = one-count (corners_walk (corner_said n u.form) None (rest_at s at)) cs w.found p q z.0 w.walked in
            let x = w.counted in
            let v = z.1 in
            absurd (omega arith);
      }

  -- by what storing the record answered
  module _ (body : ℕ) (a : Names) (e f : List ℕ) {t : Bool} (k : t ≡ leb (9 * n.elements + 9) (length e))
      (z : f ≡ cond t (sets e (9 * n.elements) (element_numbers (stored_element u.kind n.corners c body a))) e) where
    pub no_record : t ≡ false → NoElement u n s at l m e f
    no_record h =
        let x : f ≡ e = z ∙ ap (λ (b : Bool). cond b (sets e (9 * n.elements) (element_numbers (stored_element u.kind n.corners c body a))) e) h in
        let y = leb-false (9 * n.elements + 9) (length e) (sym k ∙ h) in
        record { same-corners = same; same-elements = ap length x; short = λ cs p j. inr y }

    pub stored : u.fewest ≤ c → t ≡ true → TakenElement u body n a s at l m e f c q
    stored g h =
        let x = w.counted in
        record {
          found = w.found;
          said = has-least u.fewest (corners_walk (corner_said n u.form) None (rest_at s at)) w.found q w.walked (omega arith);
          counted = w.counted;
          corners-room = w.room;
          corners-stored = w.stored;
          elements-room = leb-true (9 * n.elements + 9) (length e) (sym k ∙ h);
          elements-stored = z ∙ ap (λ (b : Bool). cond b (sets e (9 * n.elements) (element_numbers (stored_element u.kind n.corners c body a))) e) h;
        }
