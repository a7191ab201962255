-- The loop over a line's corners: what is left of the line, after the corners stored, comes to what all of it comes to.
use Prim.Native.Nat.{ℕ, ◌+◌, ◌*◌, ◌<◌, ◌≤◌}
use mathlib.Core.Path.{◌≡◌, refl, sym, ap, ◌∙◌}
use mathlib.Core.Bool.{Bool, true, false, cond}
use mathlib.Core.List.{List, [], ◌∷◌, ◌++◌, append_assoc, append-nil}
use mathlib.Core.Option.{none, some}
use lib.ListN.{length, drop, length-append}
use lib.Seq.{sets, length-sets}
use lib.Dec.{leb}
use borrow.Author.Tests.{leb-true, leb-false}
use native.Mathlib.Omega.{arith}
use Rattle.lists.specs.Lists.{flat}
use Rattle.std.specs.Prelude.{Option as Answer, Some, None}
use Rattle.text.specs.Words.{word_of}
use Rattle.text.specs.Rest.{Rest, rest_at, end_of, WordMet, EndMet, BadMet}
use Rattle.digits.specs.Said.{Said, says, wrong}
use Rattle.digits.specs.Answers.{ends_at}
use Rattle.references.specs.Corner.{Corner, Parts}
use Rattle.model.specs.Parse.{on_said}
use Rattle.digits.proofs.Saids.{ended-says, ended-wrong}
use Rattle.tables.proofs.Flat.{flat_append}
use Rattle.model.specs.Layout.{corner_row}
use Rattle.lists.proofs.Laws.{sets-append}
use Rattle.read_elements.specs.Corners.{control, pattern_of, follows, CornersFound, ahead, corners_walk, TookCorners, StoppedCorners}
use Rattle.model.proofs.Rows.{corners-length}

-- corners already stored, before those to come
abbrev pub after : List Corner → CornersFound → CornersFound
after cs none = none
after cs (some p) = some (cs ++ p.0, p.1)

after_none : (o : CornersFound) → after [] o ≡ o
after_none none = refl
after_none (some p) = refl

after-ahead : (cs : List Corner) (c : Corner) (o : CornersFound) → after cs (ahead c o) ≡ after (cs ++ c ∷ []) o
after-ahead cs c none = refl
after-ahead cs c (some p) = ap (λ (l : List Corner). some (l, p.1)) (sym (append_assoc cs (c ∷ []) p.0))

after-long : (ds cs : List Corner) (q : ℕ) (o : CornersFound) → after ds o ≡ some (cs, q) → length ds ≤ length cs
after-long ds cs q none e = let z : ◌≡◌ {A = ℕ} 0 1 = cc in absurd (omega arith)
after-long ds cs q (some p) e =
    let z : ◌≡◌ {A = List Corner × ℕ} (ds ++ p.0, p.1) (cs, q) = cc in
    let y : length (ds ++ p.0) ≡ length cs = ap (λ (x : List Corner × ℕ). length x.0) z in
    let x = length-append ds p.0 in
    omega arith

-- a curv2's control is a reference, in the first place
pub control-ended : (x : Said ℕ) (at : ℕ) {v e : ℕ} → says (v, e) ≡ ends_at x at → says (control v, e) ≡ ends_at (on_said control x) at
control-ended x at {v} {e} h = let o = ended-says x v at e h in rw (o.0, o.1) refl

pub control-wrong : (x : Said ℕ) (at : ℕ) {n : ℕ} → wrong n ≡ ends_at x at → wrong n ≡ ends_at (on_said control x) at
control-wrong x at {n} h = rw (ended-wrong x n at h) refl

pub record Walking (h : List ℕ → Said Corner) (s : List ℕ) (at first : ℕ) (l : List ℕ) (i n count : ℕ) (before : Answer Parts) (t : List ℕ) : Type 0 where
  pub to : i ≤ length s
  pub small : count ≤ i
  pub done : List Corner
  pub place : n ≡ first + 3 * length done
  pub counted : count ≡ length done
  pub rest : corners_walk h None (rest_at s at) ≡ after done (corners_walk h before (rest_at s i))
  pub room : 0 < length done → first + 3 * length done ≤ length l
  pub stored : t ≡ sets l first (flat corner_row done)
  pub same : length t ≡ length l

pub begin : (h : List ℕ → Said Corner) (s : List ℕ) (at first : ℕ) (l : List ℕ) → at ≤ length s → Walking h s at first l at first 0 None l
begin h s at first l k =
    record {
      to = k;
      small = omega arith;
      done = [];
      place = omega arith;
      counted = refl;
      rest = sym (after_none (corners_walk h None (rest_at s at)));
      room = λ z. absurd (omega arith);
      stored = refl;
      same = refl;
    }

module _ (h : List ℕ → Said Corner) (s : List ℕ) (at first : ℕ) (l : List ℕ) {i n count : ℕ} {before : Answer Parts} {t : List ℕ} (w : Walking h s at first l i n count before t) where
  stop : corners_walk h before (rest_at s i) ≡ none → StoppedCorners h s at first l t
  stop e =
      record {
        same = w.same;
        short = λ cs q f. let z : ◌≡◌ {A = CornersFound} none (some (cs, q)) = sym (w.rest ∙ ap (after w.done) e) ∙ f in let y : ◌≡◌ {A = ℕ} 0 1 = cc in absurd (omega arith);
      }

  pub stop-bad : {p : ℕ} → BadMet s i p → StoppedCorners h s at first l t
  stop-bad m = stop (rw (m.no_words, m.bad-at) refl)

  pub close : {q : ℕ} → EndMet s i q → TookCorners h s at first l t q count
  close {q} m =
      let a = w.counted in
      let b = w.small in
      let d = w.to in
      record {
        found = w.done;
        walked = w.rest ∙ ap (λ (r : Rest). after w.done (corners_walk h before r)) m.rest ∙ ap (λ (cs : List Corner). some (cs, q)) (append-nil w.done);
        counted = w.counted;
        small = omega arith;
        room = λ z. let b = w.room (omega arith) in omega arith;
        stored = w.stored;
      }

  module _ {p : ℕ} (m : WordMet s i p) where
    pub stop-wrong : (k : ℕ) → h (word_of (drop p s)) ≡ wrong k → StoppedCorners h s at first l t
    stop-wrong k e = stop (ap (corners_walk h before) m.rest ∙ rw e refl)

    module _ (c : Corner) {e : ℕ} (r : (h (word_of (drop p s)) ≡ says c) × (e ≡ end_of s p)) {g : Parts} (ge : g ≡ pattern_of c) where
      here : corners_walk h before (rest_at s i) ≡ cond (follows before g) (ahead c (corners_walk h (Some g) (rest_at s e))) none
      here =
          ap (corners_walk h before) m.rest ∙ rw r.0 refl
          ∙ ap (λ (j : Parts). cond (follows before j) (ahead c (corners_walk h (Some j) (rest_at s (end_of s p)))) none) (sym ge)
          ∙ ap (λ (j : ℕ). cond (follows before g) (ahead c (corners_walk h (Some g) (rest_at s j))) none) (sym r.1)

      pub further : (i < e) × (e ≤ length s)
      further = let a = m.from in let b = m.more in let d = m.to in let f = r.1 in (omega arith, omega arith)

      pub stop-pattern : follows before g ≡ false → StoppedCorners h s at first l t
      stop-pattern f = stop (here ∙ ap (λ (z : Bool). cond z (ahead c (corners_walk h (Some g) (rest_at s e))) none) f)

      module _ (f : follows before g ≡ true) where
        on : corners_walk h None (rest_at s at) ≡ after (w.done ++ c ∷ []) (corners_walk h (Some g) (rest_at s e))
        on =
            w.rest ∙ ap (after w.done) (here ∙ ap (λ (z : Bool). cond z (ahead c (corners_walk h (Some g) (rest_at s e))) none) f)
            ∙ after-ahead w.done c (corners_walk h (Some g) (rest_at s e))

        longer : length (w.done ++ c ∷ []) ≡ length w.done + 1
        longer = length-append w.done (c ∷ [])

        -- by what storing the corner answered
        pub stop-room : (u : List ℕ) → u ≡ cond (leb (n + 3) (length t)) (sets t n (corner_row c)) t → leb (n + 3) (length t) ≡ false → StoppedCorners h s at first l u
        stop-room u z k =
            let b = leb-false (n + 3) (length t) k in
            let d = w.same in
            let o : u ≡ t = z ∙ rw k refl in
            record {
              same = ap length o ∙ w.same;
              short = λ cs q j.
                  let y = after-long (w.done ++ c ∷ []) cs q (corners_walk h (Some g) (rest_at s e)) (sym on ∙ j) in
                  let x = longer in
                  let v = w.place in
                  omega arith;
            }

        pub turn : (u : List ℕ) → u ≡ cond (leb (n + 3) (length t)) (sets t n (corner_row c)) t → leb (n + 3) (length t) ≡ true → Walking h s at first l e (n + 3) (count + 1) (Some g) u
        turn u y k =
            let a = leb-true (n + 3) (length t) k in
            let d = w.same in
            let z : u ≡ sets t n (corner_row c) = y ∙ rw k refl in
            let x = longer in
            let v = w.place in
            let o = w.counted in
            let b = w.small in
            let fu = further in
            let lf = corners-length w.done in
            let pl : first + length (flat corner_row w.done) ≡ n = omega arith in
            record {
              to = fu.1;
              small = omega arith;
              done = w.done ++ c ∷ [];
              place = omega arith;
              counted = omega arith;
              rest = on;
              room = λ q. omega arith;
              stored =
                  z ∙ ap (λ (x : List ℕ). sets x n (corner_row c)) w.stored
                  ∙ ap (λ (j : ℕ). sets (sets l first (flat corner_row w.done)) j (corner_row c)) (sym pl)
                  ∙ sym (sets-append l first (flat corner_row w.done) (corner_row c))
                  ∙ ap (sets l first) (sym (flat_append corner_row w.done (c ∷ [])));
              same = ap length z ∙ length-sets t n (corner_row c) ∙ w.same;
            }
