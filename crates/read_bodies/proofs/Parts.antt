-- The parts of a loop's line, step by step.
use Prim.Native.Nat.{ℕ, suc, ◌<◌}
use native.Mathlib.Omega.{arith}
use mathlib.Core.Path.{◌≡◌, refl, sym, ap, subst, ◌∙◌}
use mathlib.Core.List.{List, [], ◌∷◌}
use mathlib.Core.Option.{none}
use lib.ListN.{length, drop}
use lib.IntN.{ℤ}
use Rattle.std.specs.Prelude.{Some, None, Result, Ok, Err}
use Rattle.std.specs.Result.{result_ok}
use Rattle.refusals.specs.declared.Reason.{Reason}
use Rattle.text.specs.declared.Parsed.{Parsed}
use Rattle.text.specs.Words.{Word, word_of}
use Rattle.text.specs.Rest.{Rest, rest_at, push, word_at, end_of, WordMet, EndMet}
use Rattle.digits.specs.Said.{Said, says, wrong}
use Rattle.digits.specs.Answers.{said, ends_at}
use Rattle.decimals.specs.Number.{number_of}
use Rattle.references.specs.Reference.{reference_of}
use Rattle.model.specs.Model.{Part}
use Rattle.read_bodies.specs.Numbers.{number_before, leading, numbers_at, NumberMet, NoNumber}
use Rattle.read_bodies.specs.Loops.{on_part, loop_parts, parts_at, CurveMet, NotCurve, CurveIs, PartFound, NoPart, PartIs}
use Rattle.read_bodies.specs.declared.loops.PartMet.{PartMet}
use Rattle.read_bodies.specs.declared.loops.PartMet.TheVariants as part
use Rattle.read_bodies.proofs.Steps.{said-one}

-- ---- `next_curve`
module _ (curves : ℕ) (s : List ℕ) (at : ℕ) where
  pub no-curve : (rest_at s at).words ≡ [] → CurveIs curves s at None
  no-curve h = subst (NotCurve curves) (sym h) tt

  module _ (p : ℕ) (w : WordMet s at p) where
    pub curve-met : {k e : ℕ} → says (k, e) ≡ ends_at (reference_of curves (word_of (drop p s))) (end_of s p) → CurveMet curves s at k e
    curve-met {k} {e} h =
        let o = said-one (reference_of curves (word_of (drop p s))) (end_of s p) e k h in
        let t = w.to in
        let f = w.from in
        let m = w.more in
        let d = o.1 in
        record {
          ahead = omega arith;
          to = omega arith;
          word = word_at s p;
          rest = w.rest ∙ ap (λ (i : ℕ). push (word_at s p) (rest_at s i)) (sym d);
          reference = o.0;
        }

    pub curve-not : {n : ℕ} → wrong n ≡ ends_at (reference_of curves (word_of (drop p s))) (end_of s p) → CurveIs curves s at None
    curve-not {n} h =
        subst (NotCurve curves) (sym (ap (λ (r : Rest). r.words) w.rest)) (λ k e. go k (h ∙ ap (λ (x : Said ℕ). ends_at x (end_of s p)) e))
      where
        go : (k : ℕ) → ◌≡◌ {A = Said (ℕ × ℕ)} (wrong n) (says (k, end_of s p)) → ⊥
        go k z = let y : ◌≡◌ {A = ℕ} 0 1 = cc in omega arith

    pub curve-read : (r : Result (Parsed ℕ) Reason) → said r ≡ ends_at (reference_of curves (word_of (drop p s))) (end_of s p) → CurveIs curves s at (result_ok r)
    curve-read (Ok v) h = curve-met h
    curve-read (Err n) h = curve-not h

-- ---- `next_part`
no_number : {A : Type 0} {z : ℤ} {zs : List ℤ} → z ∷ zs ≡ [] → A
no_number {z = z} {zs} h = absurd (let e : suc (length zs) ≡ 0 = ap length h in omega arith)

first-none : (curves : ℕ) (ws : List Word) → leading ws ≡ [] → loop_parts curves ws ≡ []
first-none curves [] h = refl
first-none curves (a ∷ []) h = refl
first-none curves (a ∷ b ∷ []) h = refl
first-none curves (a ∷ b ∷ k ∷ ws) h = go (number_of a.bytes) h
  where
    go : (x : Said ℤ) → number_before x (leading (b ∷ k ∷ ws)) ≡ [] → on_part x (number_of b.bytes) (reference_of curves k.bytes) (loop_parts curves ws) ≡ []
    go (says z) e = no_number e
    go (wrong n) e = refl

second_none : (curves : ℕ) (a : Word) (ws : List Word) → leading ws ≡ [] → loop_parts curves (a ∷ ws) ≡ []
second_none curves a [] h = refl
second_none curves a (b ∷ []) h = refl
second_none curves a (b ∷ k ∷ ws) h = go (number_of a.bytes) (number_of b.bytes) h
  where
    go : (x y : Said ℤ) → number_before y (leading (k ∷ ws)) ≡ [] → on_part x y (reference_of curves k.bytes) (loop_parts curves ws) ≡ []
    go x (says z) e = no_number e
    go (says z) (wrong n) e = refl
    go (wrong m) (wrong n) e = refl

third-none : (curves : ℕ) (a b : Word) (ws : List Word) → NotCurve curves ws → loop_parts curves (a ∷ b ∷ ws) ≡ []
third-none curves a b [] h = refl
third-none curves a b (k ∷ ws) h = go (number_of a.bytes) (number_of b.bytes) (reference_of curves k.bytes) h
  where
    go : (x y : Said ℤ) (z : Said ℕ) → ((n : ℕ) → z ≡ says n → ⊥) → on_part x y z (loop_parts curves ws) ≡ []
    go x y (says n) e = absurd (e n refl)
    go (says u) (says v) (wrong n) e = refl
    go (says u) (wrong m) (wrong n) e = refl
    go (wrong m) y (wrong n) e = refl

module _ (curves : ℕ) (s : List ℕ) (at : ℕ) where
  pub none_first : NoNumber s at → NoPart curves s at
  unfolding numbers_at parts_at
  none_first n = record { none_here = first-none curves (rest_at s at).words n.none_here; word-left = n.word-left }

  module _ {z : ℤ} {e : ℕ} (m : NumberMet s at z e) where
    one : (rest_at s at).words ≡ m.word ∷ (rest_at s e).words
    one = ap (λ (r : Rest). r.words) m.rest

    some_left : (rest_at s at).bad ≡ none → 0 < length (rest_at s at).words
    some_left b = let l = ap length one in omega arith

    pub none-second : NoNumber s e → NoPart curves s at
    unfolding numbers_at parts_at
    none-second n = record { none_here = ap (loop_parts curves) one ∙ second_none curves m.word (rest_at s e).words n.none_here; word-left = some_left }

    pub over-second : {q : ℕ} → EndMet s e q → NoPart curves s at
    unfolding numbers_at parts_at
    over-second n =
        record { none_here = ap (loop_parts curves) one ∙ second_none curves m.word (rest_at s e).words (ap (λ (r : Rest). leading r.words) n.rest); word-left = some_left }

    module _ {y : ℤ} {f : ℕ} (k : NumberMet s e y f) where
      two : (rest_at s at).words ≡ m.word ∷ k.word ∷ (rest_at s f).words
      two = one ∙ ap (λ (l : List Word). m.word ∷ l) (ap (λ (r : Rest). r.words) k.rest)

      pub none-third : NotCurve curves (rest_at s f).words → NoPart curves s at
      unfolding parts_at
      none-third n = record { none_here = ap (loop_parts curves) two ∙ third-none curves m.word k.word (rest_at s f).words n; word-left = some_left }

      -- x and x₂ are z and y as they are handed on
      pub found : {x x₂ : ℤ} {c g : ℕ} → CurveMet curves s f c g → x ≡ z → x₂ ≡ y → PartFound curves s at (record { from = x; to = x₂; curve = c }) g
      unfolding parts_at
      found {x} {x₂} {c} {g} j p₁ p₂ =
          let a₁ = m.ahead in
          let a₂ = k.ahead in
          let a₃ = j.ahead in
          let w : (rest_at s at).words ≡ m.word ∷ k.word ∷ j.word ∷ (rest_at s g).words
          = two ∙ ap (λ (l : List Word). m.word ∷ k.word ∷ l) (ap (λ (r : Rest). r.words) j.rest) in
          record {
            ahead = omega arith;
            to = j.to;
            parts = ap (loop_parts curves) w ∙ go (number_of m.word.bytes) (number_of k.word.bytes) (reference_of curves j.word.bytes) m.number k.number j.reference (loop_parts curves (rest_at s g).words);
            words = ap length w ∙ omega arith;
            bad = ap (λ (r : Rest). r.bad) m.rest ∙ ap (λ (r : Rest). r.bad) k.rest ∙ ap (λ (r : Rest). r.bad) j.rest;
            next = ap (λ (r : Rest). r.next) m.rest ∙ ap (λ (r : Rest). r.next) k.rest ∙ ap (λ (r : Rest). r.next) j.rest;
          }
        where
          go :
              (u v : Said ℤ) (w : Said ℕ) → u ≡ says z → v ≡ says y → w ≡ says c → (ps : List Part) →
              on_part u v w ps ≡ record { from = x; to = x₂; curve = c } ∷ ps
          go u v w e₁ e₂ e₃ ps = rw (e₁, e₂, e₃, p₁, p₂) refl

  module _ {v : PartMet} (g : PartIs curves s at (Some v)) where
    pub part-found : {a b : ℤ} {k e : ℕ} → v ≡ part.Part a b k e → PartFound curves s at (record { from = a; to = b; curve = k }) e
    part-found e = rw e at g

    pub part_end : {q : ℕ} → v ≡ part.End q → EndMet s at q
    part_end e = rw e at g
