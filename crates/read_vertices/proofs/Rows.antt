-- What `row_into` answers from what `numbers_into` found: a row that is closed and long enough, or none.
use Prim.Native.Nat.{ℕ, ◌+◌, ◌<◌, ◌≤◌}
use mathlib.Core.Path.{◌≡◌, refl, sym, ap, subst, ◌∙◌}
use mathlib.Core.List.{List}
use mathlib.Core.Option.{Option, none, some}
use lib.ListN.{length}
use lib.Seq.{length-sets}
use lib.IntN.{ℤ}
use native.Mathlib.Omega.{arith}
use Rattle.std.specs.Prelude.{Some}
use Rattle.text.specs.Rest.{Rest, rest_at, WordMet, EndMet, BadMet}
use Rattle.read_state.specs.Numbers.{Walk, ended, full, stuck, numbers_walk}
use Rattle.read_vertices.specs.Into.{EndedAfter, FullAfter, StoppedAfter, NumbersIs, line_ended, WholeRow, NoRow}
use Rattle.read_vertices.specs.declared.Numbers.{Numbers}
use Rattle.read_vertices.specs.declared.Numbers.TheVariants.{Ended, Full}
use Rattle.read_vertices.proofs.Walking.{before-stored}
use Rattle.read_vertices.proofs.Closed.{nothing, closing-some, row-some, some-row}

stopped-short : (n first : ℕ) (w : Walk) → ((zs : List ℤ) (q : ℕ) → w ≡ ended zs q → n < first + length zs)
    → ((zs : List ℤ) (r : Rest) → w ≡ full zs r → n < first + length zs) → (zs : List ℤ) (q : ℕ) → line_ended w ≡ some (zs, q) → n < first + length zs
stopped-short n first (ended ys p) f g zs q e =
    let h : ◌≡◌ {A = List ℤ × ℕ} (ys, p) (zs, q) = cc in
    subst (λ (x : List ℤ × ℕ). n < first + length x.0) h (f ys p refl)
stopped-short n first (full ys r) f g zs q e =
    let h = closing-some ys r.words r.bad r.next zs q e in
    subst (λ (x : List ℤ). n < first + length x) h.found (g ys r refl)
stopped-short n first stuck f g zs q e = nothing e

module _ (least most : ℕ) (s : List ℕ) (at first : ℕ) (l m : List ℤ) where
  module _ {v : Numbers} (is : NumbersIs most s at first l m (Some v)) where
    pub is-ended : {n q : ℕ} → v ≡ Ended n q → EndedAfter most s at first l m n q
    is-ended e = rw e at is

    pub is-full : {n : ℕ} → v ≡ Full n → FullAfter most s at first l m n
    is-full e = rw e at is

  pub no_row : StoppedAfter most s at first l m → NoRow least most s at first l m
  no_row h =
      record {
        same = h.same;
        before = h.before;
        short = λ zs q e.
            stopped-short (length l) first (numbers_walk most (rest_at s at)) h.ended-short h.full-short zs q
            (row-some least most (rest_at s at) zs q e).closes;
      }

  module _ {n q : ℕ} (h : EndedAfter most s at first l m n q) where
    pub row-ended : least ≤ n → WholeRow least most s at first l m n q
    row-ended k =
        let c = h.counted in
        record { found = h.found; said = some-row least most (rest_at s at) h.found q (ap line_ended h.walked) (omega arith); counted = c; room = h.room; stored = h.stored }

    pub row-few : n < least → NoRow least most s at first l m
    row-few k =
        record {
          same = ap length h.stored ∙ length-sets l first h.found;
          before = before-stored l m first h.found h.stored;
          short = λ zs p e.
              let f = row-some least most (rest_at s at) zs p e in
              let g : ◌≡◌ {A = Option (List ℤ × ℕ)} (some (h.found, q)) (some (zs, p)) = sym (ap line_ended h.walked) ∙ f.closes in
              let i : ◌≡◌ {A = List ℤ × ℕ} (h.found, q) (zs, p) = cc in
              let j : length h.found ≡ length zs = ap (λ (x : List ℤ × ℕ). length x.0) i in
              let c = h.counted in
              let d = f.many in
              absurd (omega arith);
        }

  module _ {e : ℕ} (h : FullAfter most s at first l m e) where
    here : line_ended (numbers_walk most (rest_at s at)) ≡ line_ended (full h.found (rest_at s e))
    here = ap line_ended h.walked

    unclosed : line_ended (full h.found (rest_at s e)) ≡ none → NoRow least most s at first l m
    unclosed k =
        record {
          same = ap length h.stored ∙ length-sets l first h.found;
          before = before-stored l m first h.found h.stored;
          short = λ zs p f. nothing (sym (here ∙ k) ∙ (row-some least most (rest_at s at) zs p f).closes);
        }

    pub full-few : most < least → NoRow least most s at first l m
    full-few k =
        record {
          same = ap length h.stored ∙ length-sets l first h.found;
          before = before-stored l m first h.found h.stored;
          short = λ zs p f.
              let g = row-some least most (rest_at s at) zs p f in
              let i = closing-some h.found (rest_at s e).words (rest_at s e).bad (rest_at s e).next zs p (sym here ∙ g.closes) in
              let j : length h.found ≡ length zs = ap length i.found in
              let c = h.counted in
              let d = g.many in
              absurd (omega arith);
        }

    pub full-word : {p : ℕ} → WordMet s e p → NoRow least most s at first l m
    full-word {p} w = unclosed (ap (λ (r : Rest). line_ended (full h.found r)) w.rest)

    pub full-bad : {p : ℕ} → BadMet s e p → NoRow least most s at first l m
    full-bad {p} b = let x = b.no_words in let y = b.bad-at in unclosed (rw (x, y) refl)

    pub full-end : {q : ℕ} → EndMet s e q → least ≤ most → WholeRow least most s at first l m most q
    full-end {q} g k =
        let c = h.counted in
        record {
          found = h.found;
          said = some-row least most (rest_at s at) h.found q (here ∙ ap (λ (r : Rest). line_ended (full h.found r)) g.rest) (omega arith);
          counted = sym c;
          room = h.room;
          stored = h.stored;
        }
