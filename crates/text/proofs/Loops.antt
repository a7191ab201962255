-- A turn of each loop, on lists: what is left comes to what all of it came to.
use Prim.Native.Nat.{ℕ, ◌+◌, ◌≤◌, ◌<◌}
use mathlib.Core.Path.{◌≡◌, refl, sym, ap, ◌∙◌}
use mathlib.Core.List.{List, [], ◌∷◌}
use mathlib.Core.Bool.{Bool, true, false}
use mathlib.Core.Option.{none}
use lib.ListN.{length, drop, get_or, drop_of_length-le}
use native.Mathlib.Omega.{arith}
use native.Mathlib.Numerals.{add-one}
use Rattle.text.specs.Bytes.{is_word, is_blank}
use Rattle.text.specs.Lines.{comment, gap}
use Rattle.text.specs.Words.{word_of}
use Rattle.text.specs.Rest.{Rest, rest_at, end_of, WordMet, EndMet, BadMet, JoinMet}
use Rattle.text.specs.Rest.{TurnIs}
use Rattle.text.specs.declared.Turn.{Turn}
use Rattle.text.specs.declared.Turn.TheVariants.{On, End, Refused}
use Rattle.text.proofs.Walk as W
use Rattle.text.proofs.Places as P

-- ---- `word_end`
pub record InWord (s : List ℕ) (at i : ℕ) : Type 0 where
  pub to : i ≤ length s
  pub ends : end_of s i ≡ end_of s at

module _ {s : List ℕ} {at i : ℕ} (w : InWord s at i) where
  pub word-done : length s ≤ i → (length s ≡ end_of s at) × (length s ≤ length s)
  word-done h =
      let z : word_of (drop i s) ≡ [] = rw (drop_of_length-le s h) refl in
      let y = ap length z in
      let x = w.ends in
      let t = w.to in
      (omega arith, omega arith)

  module _ (h : i < length s) (t : Bool) (e : t ≡ is_word (get_or s i 0)) where
    pub word-turn : t ≡ true → InWord s at (i + 1)
    word-turn u =
        let v : is_word (get_or s i 0) ≡ true = sym e ∙ u in
        let z : word_of (drop i s) ≡ get_or s i 0 ∷ word_of (drop (i + 1) s) = rw (P.here s i h, v) refl in
        let y = ap length z in
        let x = w.ends in
        record { to = omega arith; ends = omega arith }

    pub word-stop : t ≡ false → (i ≡ end_of s at) × (i ≤ length s)
    word-stop u =
        let v : is_word (get_or s i 0) ≡ false = sym e ∙ u in
        let z : word_of (drop i s) ≡ [] = rw (P.here s i h, v) refl in
        let y = ap length z in
        let x = w.ends in
        (omega arith, w.to)

-- ---- `comment_end`
pub record InComment (s : List ℕ) (at i : ℕ) : Type 0 where
  pub from : at < i
  pub to : i ≤ length s
  pub rest : rest_at s at ≡ W.rest_in comment i (drop i s)

pub comment-holds : (s : List ℕ) (at : ℕ) → at < length s → get_or s at 0 ≡ 35 → InComment s at (at + 1)
comment-holds s at h e =
    record {
      from = omega arith;
      to = omega arith;
      rest = P.rest-here s at h ∙ W.rest_goes gap at (get_or s at 0) (drop (at + 1) s) comment (rw e refl) refl
          ∙ ap (λ (q : ℕ). W.rest_in comment q (drop (at + 1) s)) (sym (add-one at));
    }

module _ {s : List ℕ} {at i : ℕ} (w : InComment s at i) where
  pub comment-done : length s ≤ i → EndMet s at (length s)
  comment-done h =
      let x = w.from in
      let t = w.to in
      let e : i ≡ length s = omega arith in
      record {
        from = omega arith;
        ahead = λ l. omega arith;
        to = omega arith;
        rest = w.rest ∙ ap (W.rest_in comment i) (drop_of_length-le s h) ∙ W.rest-none comment i
            ∙ ap (λ (q : ℕ). record { words = []; bad = none; next = q }) e;
      }

  module _ (h : i < length s) where
    pub comment-stop : get_or s i 0 ≡ 10 → EndMet s at (i + 1)
    comment-stop e =
        let x = w.from in
        record {
          from = omega arith;
          ahead = λ l. omega arith;
          to = omega arith;
          rest = w.rest ∙ ap (W.rest_in comment i) (P.here s i h) ∙ W.noted-end i (get_or s i 0) (drop (i + 1) s) e;
        }

    pub comment-turn : (get_or s i 0 ≡ 10 → ⊥) → InComment s at (i + 1)
    comment-turn n =
        let x = w.from in
        record {
          from = omega arith;
          to = omega arith;
          rest = w.rest ∙ ap (W.rest_in comment i) (P.here s i h) ∙ W.noted i (get_or s i 0) (drop (i + 1) s) n
              ∙ ap (λ (q : ℕ). W.rest_in comment q (drop (i + 1) s)) (sym (add-one i));
        }

-- ---- `skip_blanks`: blanks and joins up to p, and then what stands there
pub record InBlanks (s : List ℕ) (at i : ℕ) : Type 0 where
  pub from : at ≤ i
  pub to : i ≤ length s
  pub rest : rest_at s at ≡ rest_at s i

module _ {s : List ℕ} {at p : ℕ} (w : InBlanks s at p) where
  pub gap-blank : p < length s → (t : Bool) → t ≡ is_blank (get_or s p 0) → t ≡ true → InBlanks s at (p + 1)
  gap-blank h t e u = let x = w.from in record { from = omega arith; to = omega arith; rest = w.rest ∙ P.rest-blank s p h (sym e ∙ u) }

  pub gap-done : length s ≤ p → EndMet s at p
  gap-done h = let x = w.from in record { from = w.from; ahead = λ l. omega arith; to = w.to; rest = w.rest ∙ P.rest-past s p h }

  pub gap_word : {q : ℕ} → WordMet s p q → WordMet s at q
  gap_word m = let x = m.from in let y = w.from in record { from = omega arith; more = m.more; to = m.to; rest = w.rest ∙ m.rest }

  module _ (h : p < length s) (r : Turn) (m : TurnIs s p r) where
    pub gap-join : {q : ℕ} → r ≡ On q → (InBlanks s at q) × (p < q)
    gap-join {q} e =
        let j : JoinMet s p q = rw e at m in
        let x = j.ahead in
        let y = w.from in
        (record { from = omega arith; to = j.to; rest = w.rest ∙ j.rest }, j.ahead)

    pub gap-end : {q : ℕ} → r ≡ End q → EndMet s at q
    gap-end {q} e =
        let j : EndMet s p q = rw e at m in
        let x = j.ahead h in
        let y = w.from in
        record { from = omega arith; ahead = λ l. omega arith; to = j.to; rest = w.rest ∙ j.rest }

    pub gap-bad : r ≡ Refused → BadMet s at p
    gap-bad e =
        let j : BadMet s p p = rw e at m in
        record {
          from = w.from;
          to = h;
          no_words = ap (λ (r : Rest). r.words) w.rest ∙ j.no_words;
          bad-at = ap (λ (r : Rest). r.bad) w.rest ∙ j.bad-at;
        }
