-- One step along a line's numbers, and what the loops over them keep: what is left comes, with what was passed, to what all of it comes to.
use Prim.Native.Nat.{ℕ, ◌+◌, ◌≤◌}
use mathlib.Core.Path.{◌≡◌, refl, sym, ap, ◌∙◌}
use mathlib.Core.List.{List, [], ◌∷◌}
use native.Mathlib.Omega.{arith}
use lib.ListN.{length, drop}
use lib.IntN.{ℤ}
use Rattle.std.specs.Prelude.{Some}
use Rattle.text.specs.declared.Parsed.{Parsed}
use Rattle.text.specs.Words.{word_of}
use Rattle.text.specs.Rest.{Rest, rest_at, push, word_at, end_of, WordMet, EndMet, BadMet}
use Rattle.text.proofs.LineByLine.{next-to}
pub use Rattle.text.proofs.LineByLine.{words-within}
use Rattle.digits.specs.Said.{Said, says, wrong}
use Rattle.digits.specs.Answers.{ends_at}
use Rattle.decimals.specs.Number.{number_of}
use Rattle.read_bodies.specs.Numbers.{number_before, leading, numbers_at, NumberMet, NoNumber, NumberStepIs, AllNumbers, NotAll}
use Rattle.read_bodies.specs.declared.numbers.NextNumber.{NextNumber}
use Rattle.read_bodies.specs.declared.numbers.NextNumber.TheVariants.{Number, End}

-- ---- `next_number`
pub said-one : {A : Type 0} (x : Said A) (e k : ℕ) (z : A) → says (z, k) ≡ ends_at x e → (x ≡ says z) × (k ≡ e)
said-one {A} (says y) e k z h = let a : ◌≡◌ {A = A × ℕ} (z, k) (y, e) = cc in (ap says (sym (ap (λ (x : A × ℕ). x.0) a)), ap (λ (x : A × ℕ). x.1) a)
said-one (wrong n) e k z h = let y : ◌≡◌ {A = ℕ} 0 1 = cc in absurd (omega arith)

module _ (s : List ℕ) (at : ℕ) where
  pub bad-stops : {p : ℕ} → BadMet s at p → NoNumber s at
  unfolding numbers_at
  bad-stops b =
      record {
        none_here = ap leading b.no_words;
        word-left = λ e. let z : ◌≡◌ {A = ℕ} 0 1 = let y = sym e ∙ b.bad-at in cc in absurd (omega arith);
      }

  module _ (p : ℕ) (w : WordMet s at p) where
    pub number-steps : {z : ℤ} {e : ℕ} → number_of (word_of (drop p s)) ≡ says z → e ≡ end_of s p → NumberMet s at z e
    number-steps {z} {e} o d =
        let t = w.to in
        let f = w.from in
        let m = w.more in
        record {
          ahead = omega arith;
          to = omega arith;
          word = word_at s p;
          rest = w.rest ∙ ap (λ (i : ℕ). push (word_at s p) (rest_at s i)) (sym d);
          number = o;
        }

    pub other-stops : {n : ℕ} → number_of (word_of (drop p s)) ≡ wrong n → NoNumber s at
    unfolding numbers_at
    other-stops {n} k =
        record {
          none_here =
              ap (λ (r : Rest). leading r.words) w.rest ∙ ap (λ (x : Said ℤ). number_before x (leading (rest_at s (end_of s p)).words)) k;
          word-left = λ e. let z = ap (λ (r : Rest). length r.words) w.rest in omega arith;
        }

-- ---- a step's answer
module _ (s : List ℕ) (at : ℕ) {v : NextNumber} (g : NumberStepIs s at (Some v)) where
  pub step-number : {p : Parsed ℤ} → v ≡ Number p → NumberMet s at p.value p.next
  step-number {p} e = rw e at g

  pub step_end : {q : ℕ} → v ≡ End q → EndMet s at q
  step_end e = rw e at g

-- ---- the numbers of a line, step by step
module _ (s : List ℕ) (at : ℕ) where
  pub numbers_more : {z : ℤ} {e : ℕ} → NumberMet s at z e → numbers_at s at ≡ z ∷ numbers_at s e
  unfolding numbers_at
  numbers_more {z} {e} m =
      ap (λ (r : Rest). leading r.words) m.rest ∙ ap (λ (x : Said ℤ). number_before x (leading (rest_at s e).words)) m.number

  pub numbers-over : {q : ℕ} → EndMet s at q → numbers_at s at ≡ []
  unfolding numbers_at
  numbers-over m = ap (λ (r : Rest). leading r.words) m.rest

-- ---- `count_each`
pub record Counting (s : List ℕ) (at i count : ℕ) : Type 0 where
  pub to : i ≤ length s
  pub numbers : count + length (numbers_at s i) ≡ length (numbers_at s at)
  pub words : count + length (rest_at s i).words ≡ length (rest_at s at).words
  pub bad : (rest_at s i).bad ≡ (rest_at s at).bad
  pub next : (rest_at s i).next ≡ (rest_at s at).next

pub counting-none : (s : List ℕ) (at : ℕ) → at ≤ length s → Counting s at at 0
counting-none s at h = record { to = h; numbers = omega arith; words = omega arith; bad = refl; next = refl }

module _ (s : List ℕ) (at i count : ℕ) (w : Counting s at i count) where
  pub counting-small : count + length (rest_at s i).words ≤ length s
  counting-small =
      let a = words-within s at in
      let b = (next-to s i w.to).1 in
      let n = w.next in
      let y = w.words in
      omega arith

  pub counting_more : {z : ℤ} {e : ℕ} → NumberMet s i z e → Counting s at e (count + 1)
  counting_more {z} {e} m =
      let n = ap length (numbers_more s i m) in
      let k = ap (λ (r : Rest). length r.words) m.rest in
      let x = w.numbers in
      let y = w.words in
      record {
        to = m.to;
        numbers = omega arith;
        words = omega arith;
        bad = sym (ap (λ (r : Rest). r.bad) m.rest) ∙ w.bad;
        next = sym (ap (λ (r : Rest). r.next) m.rest) ∙ w.next;
      }

  pub counting-over : {q : ℕ} → EndMet s i q → AllNumbers s at count q
  counting-over {q} m =
      let n = ap length (numbers-over s i m) in
      let k = ap (λ (r : Rest). length r.words) m.rest in
      let x = w.numbers in
      let y = w.words in
      record {
        count = omega arith;
        all = omega arith;
        good = sym w.bad ∙ ap (λ (r : Rest). r.bad) m.rest;
        next = sym (ap (λ (r : Rest). r.next) m.rest) ∙ w.next;
        to = m.to;
        small = let a = counting-small in omega arith;
      }

  pub counting-stops : NoNumber s i → NotAll s at count
  counting-stops m =
      let n = ap length m.none_here in
      let x = w.numbers in
      let y = w.words in
      record {
        count = omega arith;
        fewer = λ e. let l = m.word-left (w.bad ∙ e) in omega arith;
        small = let a = counting-small in omega arith;
      }
