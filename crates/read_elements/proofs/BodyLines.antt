-- A body's line: the type and degrees in force, room for its records, then the range and the controls.
use Prim.Native.Nat.{ℕ, zero, suc, ◌+◌, ◌*◌, ◌≤◌}
use mathlib.Core.Path.{◌≡◌, refl, sym, ap, ◌∙◌}
use mathlib.Core.Logic.{◌⊎◌, inl, inr, ⊎_elim}
use mathlib.Core.Bool.{Bool, true, false, cond, ◌&&◌}
use mathlib.Core.List.{List, [], ◌∷◌}
use mathlib.Core.Option.{Option, none, some}
use lib.ListN.{length}
use lib.Seq.{length-sets}
use lib.Dec.{leb}
use lib.IntN.{ℤ}
use borrow.Author.Tests.{leb-true, leb-false}
use native.Mathlib.Omega.{arith}
use Rattle.lists.proofs.Tests.{and_left, and_right}
use Rattle.text.specs.Words.{Word}
use Rattle.std.specs.Prelude.{Option as Answer, Some, None}
use Rattle.text.specs.declared.Parsed.{Parsed}
use Rattle.text.specs.Rest.{Rest, rest_at}
use Rattle.digits.specs.Said.{Said, says, wrong}
use Rattle.decimals.specs.Number.{number_of}
use Rattle.references.specs.Corner.{Corner}
use Rattle.model.specs.Model as model
use Rattle.model.specs.Parse.{range_words}
use Rattle.tables.specs.declared.Used.{Used}
use Rattle.read_state.specs.declared.Names.{Names}
use Rattle.read_state.specs.declared.Form.{Form}
use Rattle.read_state.specs.Numbers.{Walk, ended, full, stuck, on_number, numbers_from, numbers_walk}
use Rattle.read_vertices.specs.Into.{EndedAfter, FullAfter, StoppedAfter, NumbersIs}
use Rattle.read_vertices.specs.declared.Numbers.{Numbers}
use Rattle.read_vertices.specs.declared.Numbers.TheVariants.{Ended, Full}
use Rattle.read_vertices.proofs.Closed.{nothing}
use Rattle.read_elements.specs.Corners.{CornersFound}
use Rattle.read_elements.specs.Bodies.{form_in_force, controls_said, on_range, after_range, body_said, ControlsAre, NoBody, BodyIs}

-- ---- as many numbers as were asked for
module _ (n : ℕ) (zs : List ℤ) (r : Rest) where
  one_more : (w : ℕ) (v : Said ℤ) (k : Walk) → ((ys : List ℤ) (t : Rest) → k ≡ full ys t → length ys ≡ n) → on_number v k ≡ full zs r → length zs ≡ suc n
  one_more w (wrong m) k ih e = absurd (let z : ◌≡◌ {A = ℕ} 0 1 = cc in omega arith)
  one_more w (says z) (ended ys q) ih e = absurd (let y : ◌≡◌ {A = ℕ} 0 1 = cc in omega arith)
  one_more w (says z) stuck ih e = absurd (let y : ◌≡◌ {A = ℕ} 0 1 = cc in omega arith)
  one_more w (says z) (full ys t) ih e = let g : z ∷ ys ≡ zs = cc in ap length (sym g) ∙ ap suc (ih ys t refl)

pub full-count : (n : ℕ) (ws : List Word) (b : Option ℕ) (q : ℕ) (zs : List ℤ) (r : Rest) → numbers_from n ws b q ≡ full zs r → length zs ≡ n
full-count zero ws b q zs r e = let z : [] ≡ zs = cc in ap length (sym z)
full-count (suc n) [] none q zs r e = absurd (let z : ◌≡◌ {A = ℕ} 0 1 = cc in omega arith)
full-count (suc n) [] (some p) q zs r e = absurd (let z : ◌≡◌ {A = ℕ} 0 1 = cc in omega arith)
full-count (suc n) (w ∷ ws) b q zs r e = one_more n zs r 0 (number_of w.bytes) (numbers_from n ws b q) (λ ys t h. full-count n ws b q ys t h) e

four : (k : model.Free) → range_words k ≤ 4
four model.curve = omega arith
four model.curve2 = omega arith
four model.surface = omega arith

-- ---- what a line that says a body's element says
pub record OfBody (t : Bool) (w : Walk) (h : Rest → CornersFound) (zs : List ℤ) (cs : List Corner) (q : ℕ) : Type 0 where
  pub set : t ≡ true
  pub rest : Rest
  pub walked : w ≡ full zs rest
  pub controls : h rest ≡ some (cs, q)

pub of-body : (t : Bool) (w : Walk) (h : Rest → CornersFound) (zs : List ℤ) (cs : List Corner) (q : ℕ) → cond t (on_range w h) none ≡ some (zs, (cs, q)) → OfBody t w h zs cs q
of-body false w h zs cs q e = nothing e
of-body true (ended ys p) h zs cs q e = nothing e
of-body true stuck h zs cs q e = nothing e
of-body true (full ys r) h zs cs q e = go (h r) refl e
  where
    go : (o : CornersFound) → h r ≡ o → after_range ys o ≡ some (zs, (cs, q)) → OfBody true (full ys r) h zs cs q
    go none f g = nothing g
    go (some p) f g =
        let a : ◌≡◌ {A = List ℤ × (List Corner × ℕ)} (ys, p) (zs, (cs, q)) = cc in
        record {
          set = refl;
          rest = r;
          walked = ap (λ (x : List ℤ × (List Corner × ℕ)). full x.0 r) a;
          controls = f ∙ ap (λ (x : List ℤ × (List Corner × ℕ)). some x.1) a;
        }

pub to-body : (t : Bool) (w : Walk) (h : Rest → CornersFound) (zs : List ℤ) (r : Rest) (cs : List Corner) (q : ℕ) → t ≡ true → w ≡ full zs r → h r ≡ some (cs, q)
    → cond t (on_range w h) none ≡ some (zs, (cs, q))
to-body t w h zs r cs q a b c =
    ap (λ (x : Bool). cond x (on_range w h) none) a ∙ ap (λ (x : Walk). on_range x h) b ∙ ap (after_range zs) c

one-rest : (w : Walk) (ys zs : List ℤ) (r t : Rest) → w ≡ full ys r → w ≡ full zs t → r ≡ t
one-rest w ys zs r t e f = let g : full ys r ≡ full zs t = sym e ∙ f in cc

either : (a b : Bool) → (a && b) ≡ false → (a ≡ false) ⊎ (b ≡ false)
either false b e = inl refl
either true b e = inr e

-- ---- what storing the range answered, where so many numbers were asked for
module _ (k : model.Free) (s : List ℕ) (at first : ℕ) (y z : List ℤ) {m : ℕ} (g : m ≡ range_words k) where
  pub full-found : {v : Numbers} {e : ℕ} → NumbersIs m s at first y z (Some v) → v ≡ Full e → FullAfter (range_words k) s at first y z e
  full-found {v} {e} i h = let w : FullAfter m s at first y z e = rw h at i in rw g at w

  pub end-found : {v : Numbers} {c q : ℕ} → NumbersIs m s at first y z (Some v) → v ≡ Ended c q → EndedAfter (range_words k) s at first y z c q
  end-found {v} {c} {q} i h = let w : EndedAfter m s at first y z c q = rw h at i in rw g at w

  pub stop-found : StoppedAfter m s at first y z → StoppedAfter (range_words k) s at first y z
  stop-found w = rw g at w

module _ (k : model.Free) (n : Used) (a : Names) (g : Form) (vp : List ℤ) (s : List ℕ) (at : ℕ) (l e : List ℕ) (bodies : ℕ) (y : List ℤ) where
  abbrev SaysBody : List ℤ → List Corner → ℕ → Type 0
  SaysBody zs cs q = body_said k n g vp (rest_at s at) ≡ some (zs, (cs, q))

  opened : (zs : List ℤ) (cs : List Corner) (q : ℕ) → SaysBody zs cs q → OfBody (form_in_force k g) (numbers_walk (range_words k) (rest_at s at)) (controls_said k n vp) zs cs q
  opened zs cs q j = of-body (form_in_force k g) (numbers_walk (range_words k) (rest_at s at)) (controls_said k n vp) zs cs q j

  pub not_set : form_in_force k g ≡ false → NoBody k n g vp s at l l e e bodies y y
  not_set h =
      record {
        same-corners = refl;
        same-elements = refl;
        same-ranges = refl;
        short = λ zs cs q j.
            let o = opened zs cs q j in
            let u : false ≡ true = sym h ∙ o.set in
            absurd (let t : ◌≡◌ {A = ℕ} 0 1 = cc in omega arith);
      }

  pub no_room : (leb (9 * n.bodies + 9) bodies && leb (4 * n.bodies + 4) (length y)) ≡ false → NoBody k n g vp s at l l e e bodies y y
  no_room h =
      record {
        same-corners = refl;
        same-elements = refl;
        same-ranges = refl;
        short = λ zs cs q j.
            inr (⊎_elim
            (λ (t : leb (9 * n.bodies + 9) bodies ≡ false). inl (leb-false (9 * n.bodies + 9) bodies t))
            (λ (t : leb (4 * n.bodies + 4) (length y) ≡ false). inr (leb-false (4 * n.bodies + 4) (length y) t))
            (either (leb (9 * n.bodies + 9) bodies) (leb (4 * n.bodies + 4) (length y)) h));
      }

  module _ (z : List ℤ) where
    pub line-ended : {c q : ℕ} → EndedAfter (range_words k) s at (4 * n.bodies) y z c q → NoBody k n g vp s at l l e e bodies y z
    line-ended w =
        record {
          same-corners = refl;
          same-elements = refl;
          same-ranges = ap length w.stored ∙ length-sets y (4 * n.bodies) w.found;
          short = λ zs cs p j.
              let o = opened zs cs p j in
              let u : ended w.found _ ≡ full zs o.rest = sym w.walked ∙ o.walked in
              absurd (let t : ◌≡◌ {A = ℕ} 0 1 = cc in omega arith);
        }

    pub line-stopped : StoppedAfter (range_words k) s at (4 * n.bodies) y z → NoBody k n g vp s at l l e e bodies y z
    line-stopped w =
        record {
          same-corners = refl;
          same-elements = refl;
          same-ranges = w.same;
          short = λ zs cs p j.
              let o = opened zs cs p j in
              let r = rest_at s at in
              let a = full-count (range_words k) r.words r.bad r.next zs o.rest o.walked in
              let b = four k in
              let c = w.full-short zs o.rest o.walked in
              inr (inr (omega arith));
        }

    module _ {end : ℕ} (w : FullAfter (range_words k) s at (4 * n.bodies) y z end) (set : form_in_force k g ≡ true)
        (fits : (leb (9 * n.bodies + 9) bodies && leb (4 * n.bodies + 4) (length y)) ≡ true) where
      same : length z ≡ length y
      same = ap length w.stored ∙ length-sets y (4 * n.bodies) w.found

      pub line_taken : (m f : List ℕ) (r : Answer (Parsed ℕ)) → ControlsAre k n a vp s end l m e f r → BodyIs k n a g vp s at l m e f bodies y z r
      line_taken m f (Some p) t =
          record {
            range = w.found;
            found = t.found;
            said = to-body (form_in_force k g) (numbers_walk (range_words k) (rest_at s at)) (controls_said k n vp) w.found (rest_at s end) t.found p.next set w.walked t.said;
            counted = t.counted;
            corners-room = t.corners-room;
            corners-stored = t.corners-stored;
            elements-room = t.elements-room;
            elements-stored = t.elements-stored;
            bodies-room = leb-true (9 * n.bodies + 9) bodies (and_left (leb (9 * n.bodies + 9) bodies) (leb (4 * n.bodies + 4) (length y)) fits);
            ranges-room = leb-true (4 * n.bodies + 4) (length y) (and_right (leb (9 * n.bodies + 9) bodies) (leb (4 * n.bodies + 4) (length y)) fits);
            ranges-stored = w.stored;
          }
      line_taken m f None t =
          record {
            same-corners = t.same-corners;
            same-elements = t.same-elements;
            same-ranges = same;
            short = λ zs cs p j.
                let o = opened zs cs p j in
                let i = one-rest (numbers_walk (range_words k) (rest_at s at)) w.found zs (rest_at s end) o.rest w.walked o.walked in
                inl (t.short cs p (ap (controls_said k n vp) i ∙ o.controls));
          }
