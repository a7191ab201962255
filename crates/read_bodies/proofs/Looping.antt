-- The loop that stores a line's parts keeps those done, and what is left of the line.
use Prim.Native.Nat.{ℕ, zero, suc, ◌+◌, ◌*◌, ◌%◌, ◌≤◌, ◌<◌}
use native.Mathlib.Omega.{arith}
use mathlib.Core.Path.{◌≡◌, refl, sym, ap, ap₂, ◌∙◌}
use mathlib.Core.List.{List, [], ◌∷◌, ◌++◌, append-nil, append_assoc}
use mathlib.Core.Bool.{Bool, true, false, cond}
use mathlib.Core.Logic.{inl, inr}
use borrow.Author.Tests.{leb-true, leb-false, ltb-true, lt-ltb, eq-eqb}
use Rattle.lists.proofs.Tests.{and_left, and_both, never}
use Rattle.statements.specs.declared.Carried.TheVariants.{Trim}
use Rattle.statements.specs.Rules.{rules_of, counted_by}
use lib.ListN.{length, length-append}
use lib.Seq.{sets, length-sets}
use lib.Dec.{leb, ltb, eqb, eqb-suc-zero}
use lib.IntN.{ℤ}
use Rattle.lists.specs.Lists.{flat}
use Rattle.text.specs.Rest.{Rest, rest_at, EndMet}
use Rattle.tables.proofs.Flat.{flat_append}
use Rattle.model.specs.Model.{Part}
use Rattle.model.specs.Layout.{beginning, part_row, part_rows, span_row}
use Rattle.read_bodies.specs.Loops.{loop_parts, parts_at, PartFound, NoPart, beginning_of, LoopLine, LoopTaken, LoopLeft}
use Rattle.lists.proofs.Laws.{sets-append}
use Rattle.model.proofs.Rows.{part_rows-length, spans-length}

-- ---- parts of three words held against the row of trim and hole
three-parts : (n : ℕ) → 0 < n → counted_by (rules_of Trim).count (3 * n) ≡ true
three-parts n l =
    let d : (3 * n) % 3 ≡ 0 = omega arith in
    and_both (lt-ltb 0 (3 * n) (omega arith)) (eq-eqb ((3 * n) % 3) 0 d)

pub no-parts : (n : ℕ) → false ≡ counted_by (rules_of Trim).count (3 * n) → n ≡ 0
no-parts zero h = refl
no-parts (suc n) h = never (h ∙ three-parts (suc n) (omega arith))

pub some-parts : (n : ℕ) → true ≡ counted_by (rules_of Trim).count (3 * n) → n ≡ 0 → ⊥
some-parts n h e =
    let a = ltb-true 0 (3 * n) (and_left (ltb 0 (3 * n)) (eqb ((3 * n) % 3) 0) (sym h)) in
    omega arith

-- ---- rows laid one after the other
rows_more : (hole : Bool) (ps : List Part) (p : Part) → part_rows (beginning hole) (ps ++ p ∷ []) ≡ part_rows (beginning hole) ps ++ beginning_of hole (length ps) ∷ p.curve ∷ []
rows_more hole [] p = refl
rows_more hole (q ∷ ps) p =
    ap (λ (l : List ℕ). part_row (beginning hole) q ++ l) (flat_append (part_row 0) ps (p ∷ []))
    ∙ ap (λ (b : Bool). part_row (beginning hole) q ++ (flat (part_row 0) ps ++ cond b (beginning hole) 0 ∷ p.curve ∷ [])) (sym (eqb-suc-zero (length ps)))

spans-more : (ps : List Part) (p : Part) → flat span_row (ps ++ p ∷ []) ≡ flat span_row ps ++ p.from ∷ p.to ∷ []
spans-more ps p = flat_append span_row ps (p ∷ [])

-- ---- `take_loop`
pub record Looping (s : List ℕ) (at : ℕ) (hole : Bool) (curves used : ℕ) (l : List ℕ) (z : List ℤ) (m : List ℕ) (y : List ℤ) (i place count : ℕ) : Type 0 where
  pub to : i ≤ length s
  pub done : List Part
  pub counted : count ≡ length done
  pub place_is : place ≡ 2 * used + 2 * length done
  pub ahead : 3 * length done ≤ i
  pub room : 0 < length done → place ≤ length l
  pub room-spans : 0 < length done → place ≤ length z
  pub parts : parts_at curves s at ≡ done ++ parts_at curves s i
  pub words : length (rest_at s at).words ≡ 3 * length done + length (rest_at s i).words
  pub bad : (rest_at s at).bad ≡ (rest_at s i).bad
  pub next : (rest_at s at).next ≡ (rest_at s i).next
  pub stored : m ≡ sets l (2 * used) (part_rows (beginning hole) done)
  pub stored-spans : y ≡ sets z (2 * used) (flat span_row done)
  pub same : length m ≡ length l
  pub same-spans : length y ≡ length z

module _ (s : List ℕ) (at : ℕ) (hole : Bool) (curves used : ℕ) (l : List ℕ) (z : List ℤ) where
  pub looping-none : at ≤ length s → Looping s at hole curves used l z l z at (2 * used) 0
  looping-none h =
      record {
        to = h;
        done = [];
        counted = refl;
        place_is = omega arith;
        ahead = omega arith;
        room = λ e. absurd (omega arith);
        room-spans = λ e. absurd (omega arith);
        parts = refl;
        words = omega arith;
        bad = refl;
        next = refl;
        stored = refl;
        stored-spans = refl;
        same = refl;
        same-spans = refl;
      }

  module _ (m : List ℕ) (y : List ℤ) (i place count : ℕ) (w : Looping s at hole curves used l z m y i place count) where
    -- a line of parts that is only these has no word left
    pub looping-stops : NoPart curves s i → LoopLeft s at curves used l m z y
    unfolding parts_at
    looping-stops n =
        record {
          same = w.same;
          same-spans = w.same-spans;
          short = λ ps h.
              let e : ps ≡ w.done ++ [] = sym h.parts ∙ w.parts ∙ ap (λ (x : List Part). w.done ++ x) n.none_here in
              let a = ap length (e ∙ append-nil w.done) in
              let b = h.all in
              let c = w.words in
              let d = n.word-left (sym w.bad ∙ h.good) in
              absurd (omega arith);
        }

    over : {q : ℕ} → EndMet s i q → parts_at curves s at ≡ w.done
    unfolding parts_at
    over n = w.parts ∙ ap (λ (r : Rest). w.done ++ loop_parts curves r.words) n.rest ∙ append-nil w.done

    pub looping-empty : {q : ℕ} → EndMet s i q → count ≡ 0 → LoopLeft s at curves used l m z y
    unfolding parts_at
    looping-empty n h =
        record {
          same = w.same;
          same-spans = w.same-spans;
          short = λ ps k.
              let a = ap length (sym k.parts ∙ over n) in
              let b = w.counted in
              let c = k.some in
              absurd (omega arith);
        }

    pub looping-over : {q : ℕ} → EndMet s i q → (count ≡ 0 → ⊥) → LoopTaken s at hole curves used l m z y count q
    unfolding parts_at
    looping-over {q} n h =
        let o = over n in
        let a = ap length o in
        let b = w.counted in
        let c = w.words in
        let d = ap (λ (r : Rest). length r.words) n.rest in
        let e = w.place_is in
        let f : 0 < length w.done = omega arith in
        let r₁ = w.room f in
        let r₂ = w.room-spans f in
        record {
          line = record { parts = refl; all = omega arith; some = omega arith; good = w.bad ∙ ap (λ (r : Rest). r.bad) n.rest };
          count = omega arith;
          next = sym (w.next ∙ ap (λ (r : Rest). r.next) n.rest);
          to = n.to;
          room = omega arith;
          room-spans = omega arith;
          stored = w.stored ∙ ap (λ (ps : List Part). sets l (2 * used) (part_rows (beginning hole) ps)) (sym o);
          stored-spans = w.stored-spans ∙ ap (λ (ps : List Part). sets z (2 * used) (flat span_row ps)) (sym o);
        }

    module _ (p : Part) (e : ℕ) (f : PartFound curves s i p e) where
      on : parts_at curves s at ≡ (w.done ++ p ∷ []) ++ parts_at curves s e
      on = w.parts ∙ ap (λ (x : List Part). w.done ++ x) f.parts ∙ sym (append_assoc w.done (p ∷ []) (parts_at curves s e))

      more : length (w.done ++ p ∷ []) ≡ length w.done + 1
      more = length-append w.done (p ∷ [])

      -- parts that are stored past the lent entries
      long : (ps : List Part) → LoopLine curves (rest_at s at) ps → place + 2 ≤ 2 * (used + length ps)
      unfolding parts_at
      long ps h =
          let a = ap length (sym h.parts ∙ on) in
          let b = length-append (w.done ++ p ∷ []) (parts_at curves s e) in
          let c = more in
          let d = w.place_is in
          omega arith

      pub no_room : {m₂ : List ℕ} {r : Bool} (row : List ℕ) → r ≡ leb (place + 2) (length m) → m₂ ≡ cond r (sets m place row) m → r ≡ false → LoopLeft s at curves used l m₂ z y
      no_room {m₂} {r} row g k h =
          let a = leb-false (place + 2) (length m) (sym g ∙ h) in
          let b = w.same in
          record {
            same = ap length (k ∙ ap (λ (t : Bool). cond t (sets m place row) m) h) ∙ w.same;
            same-spans = w.same-spans;
            short = λ ps j. let d = long ps j in inl (omega arith);
          }

      module _ {m₂ : List ℕ} {r : Bool} (b c : ℕ) (g : r ≡ leb (place + 2) (length m)) (k : m₂ ≡ cond r (sets m place (b ∷ c ∷ [])) m) (h : r ≡ true) where
        put : m₂ ≡ sets m place (b ∷ c ∷ [])
        put = k ∙ ap (λ (t : Bool). cond t (sets m place (b ∷ c ∷ [])) m) h

        same₂ : length m₂ ≡ length l
        same₂ = ap length put ∙ length-sets m place (b ∷ c ∷ []) ∙ w.same

        fits : place + 2 ≤ length l
        fits = let a = leb-true (place + 2) (length m) (sym g ∙ h) in let b = w.same in omega arith

        pub no-room-spans : {y₂ : List ℤ} {q : Bool} (row : List ℤ) → q ≡ leb (place + 2) (length y) → y₂ ≡ cond q (sets y place row) y → q ≡ false → LoopLeft s at curves used l m₂ z y₂
        no-room-spans {y₂} {q} row g₂ k₂ h₂ =
            let a = leb-false (place + 2) (length y) (sym g₂ ∙ h₂) in
            let b = w.same-spans in
            record {
              same = same₂;
              same-spans = ap length (k₂ ∙ ap (λ (t : Bool). cond t (sets y place row) y) h₂) ∙ w.same-spans;
              short = λ ps j. let d = long ps j in inr (omega arith);
            }

        pub fits-spans : {q : Bool} → q ≡ leb (place + 2) (length y) → q ≡ true → (place + 2 ≤ length l) × (place + 2 ≤ length z)
        fits-spans g₂ h₂ = let a = leb-true (place + 2) (length y) (sym g₂ ∙ h₂) in let b = w.same-spans in (fits, omega arith)

        pub looping-more :
            {y₂ : List ℤ} {q : Bool} (u v : ℤ) → q ≡ leb (place + 2) (length y) → y₂ ≡ cond q (sets y place (u ∷ v ∷ [])) y → q ≡ true →
            b ≡ beginning_of hole count → c ≡ p.curve → u ≡ p.from → v ≡ p.to →
            Looping s at hole curves used l z m₂ y₂ e (place + 2) (count + 1)
        looping-more {y₂} {q} u v g₂ k₂ h₂ e₁ e₂ e₃ e₄ =
            let both = fits-spans g₂ h₂ in
            let a₁ = both.0 in
            let a₂ = both.1 in
            let n = more in
            let pl = w.place_is in
            let ct = w.counted in
            let ah = f.ahead in
            let wa = w.ahead in
            let wd = w.words in
            let fw = f.words in
            let lr = part_rows-length (beginning hole) w.done in
            let ls = spans-length w.done in
            let here : 2 * used + length (part_rows (beginning hole) w.done) ≡ place = omega arith in
            let there : 2 * used + length (flat span_row w.done) ≡ place = omega arith in
            let row : ◌≡◌ {A = List ℕ} (b ∷ c ∷ []) (beginning_of hole (length w.done) ∷ p.curve ∷ []) = rw (e₁, e₂, ct) refl in
            let span : ◌≡◌ {A = List ℤ} (u ∷ v ∷ []) (p.from ∷ p.to ∷ []) = rw (e₃, e₄) refl in
            record {
              to = f.to;
              done = w.done ++ p ∷ [];
              counted = omega arith;
              place_is = omega arith;
              ahead = omega arith;
              room = λ x. a₁;
              room-spans = λ x. a₂;
              parts = on;
              words = omega arith;
              bad = w.bad ∙ f.bad;
              next = w.next ∙ f.next;
              stored =
                  put ∙ ap₂ (λ (x : List ℕ) (r : List ℕ). sets x place r) w.stored row
                  ∙ ap (λ (j : ℕ). sets (sets l (2 * used) (part_rows (beginning hole) w.done)) j (beginning_of hole (length w.done) ∷ p.curve ∷ [])) (sym here)
                  ∙ sym (sets-append l (2 * used) (part_rows (beginning hole) w.done) (beginning_of hole (length w.done) ∷ p.curve ∷ []))
                  ∙ ap (sets l (2 * used)) (sym (rows_more hole w.done p));
              stored-spans =
                  k₂ ∙ ap (λ (t : Bool). cond t (sets y place (u ∷ v ∷ [])) y) h₂
                  ∙ ap₂ (λ (x : List ℤ) (r : List ℤ). sets x place r) w.stored-spans span
                  ∙ ap (λ (j : ℕ). sets (sets z (2 * used) (flat span_row w.done)) j (p.from ∷ p.to ∷ [])) (sym there)
                  ∙ sym (sets-append z (2 * used) (flat span_row w.done) (p.from ∷ p.to ∷ []))
                  ∙ ap (sets z (2 * used)) (sym (spans-more w.done p));
              same = same₂;
              same-spans = ap length (k₂ ∙ ap (λ (t : Bool). cond t (sets y place (u ∷ v ∷ [])) y) h₂) ∙ length-sets y place (u ∷ v ∷ []) ∙ w.same-spans;
            }
