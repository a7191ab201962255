-- The ways out of `scaled`: by the byte where the digits of the mantissa stop, and what stands after it.
use Prim.Native.Nat.{ℕ, suc, ◌+◌, ◌-◌, ◌*◌, ◌/◌, ◌^◌, ◌≤◌, ◌<◌}
use mathlib.Core.Path.{◌≡◌, refl, sym, ap, ap₂, ◌∙◌}
use mathlib.Core.List.{List, [], ◌∷◌, ◌++◌, append-nil}
use mathlib.Core.Bool.{Bool, true, false, cond, ◌&&◌}
use mathlib.Core.Logic.{◌⊎◌, inl, inr, ⊎_elim}
use lib.ListN.{length, length-drop, drop, length-append}
use lib.Dec.{leb, eqb}
use borrow.Author.Tests.{ne_eqb, eq-eqb, le-leb, lt-leb, eqb-true}
use native.Mathlib.Omega.{arith}
use Rattle.lists.proofs.Tests.{and_first, and_second, and_both, test}
use Rattle.lists.proofs.Laws.{all_append}
use Rattle.text.specs.Words.{word_of}
use Rattle.text.specs.Rest.{end_of}
use Rattle.digits.specs.Said.{says, wrong}
use Rattle.digits.specs.Answers.{ends_at}
use Rattle.digits.specs.Digits.{is_digit, digits, nat_of, is_whole, negative}
use Rattle.digits.specs.Straight.{first, is_empty, run, past, cap}
use Rattle.digits.proofs.Rows.{run_short, run-digits}
use Rattle.digits.proofs.Fronts.{past-at, next-at, past-digit, past_word, word-run, on_word, byte_word, byte-in, run-nil, nothing_left}
use Rattle.digits.proofs.Saids.{says-ends, ended-says, ended-wrong}
use Rattle.decimals.specs.Number.{is_e, mantissa, exponent, before, after, decimal, numerator, denominator, raised, lowered, unsigned}
use Rattle.decimals.specs.declared.exponent.Exponent.{Exponent}
use Rattle.decimals.specs.Straight.{magnitude_of, exponent_of, has_exponent, shifted, scaled_of, places_of, taken_of, MantissaRead}
use Rattle.decimals.proofs.Mantissas.{e-word, decimal-plain, mantissa-digits, exponent-digits}
use Rattle.decimals.proofs.Shifts.{shift-digits}
use Rattle.decimals.proofs.Points.{before-point, after-point, before-none, after_none, before-other}
use Rattle.decimals.proofs.Exponents.{exponent-true, exponent-false}

-- ---- what stops the digits
digits-other : (d : List ℕ) (c : ℕ) (t : List ℕ) → is_digit c ≡ false → digits (d ++ c ∷ t) ≡ false
digits-other [] c t h = and_first (digits t) h
digits-other (b ∷ bs) c t h = and_second (is_digit b) (digits-other bs c t h)

not-decimal : (u : List ℕ) → (digits (before u) && digits (after u)) ≡ false → decimal u ≡ false
unfolding decimal
not-decimal u h = and_first (leb 1 (length (before u) + length (after u))) h

-- ---- a mantissa of digits b, and a after a point
module _ (b a : List ℕ) (hb : digits b ≡ true) (ha : digits a ≡ true) (u : List ℕ) (k : before u ≡ b) (l : after u ≡ a) where
  pub parts-decimal : decimal u ≡ leb 1 (length b + length a)
  unfolding decimal
  parts-decimal = rw (k, l, hb, ha) refl

  pub parts-numerator : numerator u ≡ nat_of 0 (b ++ a)
  unfolding numerator
  parts-numerator = rw (k, l) refl

  pub parts-denominator : denominator u ≡ 10 ^ length a
  unfolding denominator
  parts-denominator = rw l refl

run-within : (s : List ℕ) (i : ℕ) → i ≤ length s → i + length (run (drop i s)) ≤ length s
run-within s i h = let x = run_short (drop i s) in let y = length-drop i s in omega arith

-- ---- mantissa_at
pub point-in : (s : List ℕ) (point b : ℕ) → b ≡ first (drop point s) → b ≡ 46 → point < length s
point-in s point b e p = byte-in s point (ap (λ (n : ℕ). eqb n 10) (sym e ∙ p))

module _ (s : List ℕ) (at : ℕ) where
  pub with-a-point : (point : ℕ) → point ≡ at + length (run (drop at s)) → (b : ℕ) → b ≡ first (drop point s) → b ≡ 46
      → (end : ℕ) → end ≡ point + 1 + length (run (drop (point + 1) s)) → MantissaRead s at point (point + 1) end
  with-a-point point d b e p end f =
      record {
        point-is = d;
        from_is = rw (eq-eqb (first (drop point s)) 46 (sym e ∙ p)) refl;
        end_is = f;
        to = let x = run-within s (point + 1) (let y = point-in s point b e p in omega arith) in omega arith;
      }

  pub without-a-point : at ≤ length s → (point : ℕ) → point ≡ at + length (run (drop at s)) → (b : ℕ) → b ≡ first (drop point s) → (b ≡ 46 → ⊥)
      → MantissaRead s at point point point
  without-a-point h point d b e p =
      record {
        point-is = d;
        from_is = rw (ne_eqb (first (drop point s)) 46 (λ (x : first (drop point s) ≡ 46). p (e ∙ x))) (omega arith);
        end_is = let x = ap length (ap run (past-at s at point d) ∙ run-nil (past (drop at s)) (past-digit (drop at s))) in omega arith;
        to = let x = run-within s at h in omega arith;
      }

-- ---- the word at a place
module _ {s : List ℕ} {at point from end : ℕ} (m : MantissaRead s at point from end) where
  abbrev b : List ℕ
  b = run (drop at s)

  abbrev a : List ℕ
  a = run (drop from s)

  abbrev u : List ℕ
  u = word_of (drop at s)

  abbrev rest : List ℕ
  rest = word_of (drop end s)

  here : drop point s ≡ past (drop at s)
  here = past-at s at point m.point-is

  stop : drop end s ≡ past (drop from s)
  stop = past-at s from end m.end_is

  stop-digit : is_digit (first (drop end s)) ≡ false
  stop-digit = ap (λ (l : List ℕ). is_digit (first l)) stop ∙ past-digit (drop from s)

  with-point : eqb (first (drop point s)) 46 ≡ true → u ≡ b ++ 46 ∷ (a ++ rest)
  with-point t =
      let f : from ≡ point + 1 = m.from_is ∙ (rw t refl) in
      let p : first (past (drop at s)) ≡ 46 = ap first (sym here) ∙ eqb-true (first (drop point s)) 46 t in
      let n : drop from s ≡ drop 1 (past (drop at s)) = ap (λ (i : ℕ). drop i s) f ∙ next-at s point ∙ ap (λ (l : List ℕ). drop 1 l) here in
      let w : word_of (drop from s) ≡ a ++ rest = word-run (drop from s) ∙ ap (λ (l : List ℕ). a ++ word_of l) (sym stop) in
      word-run (drop at s)
      ∙ ap (λ (l : List ℕ). b ++ l) (past_word (drop at s) 46 p refl refl)
      ∙ ap (λ (l : List ℕ). b ++ 46 ∷ l) (ap word_of (sym n) ∙ w)

  module _ (t : eqb (first (drop point s)) 46 ≡ false) where
    at-point : from ≡ point
    at-point = m.from_is ∙ (let y : point + cond (eqb (first (drop point s)) 46) 1 0 ≡ point = rw t (omega arith) in y)

    none_after : a ≡ []
    none_after = ap run (ap (λ (i : ℕ). drop i s) at-point ∙ here) ∙ run-nil (past (drop at s)) (past-digit (drop at s))

    end-point : end ≡ point
    end-point = let x = m.end_is in let y = ap length none_after in let z = at-point in omega arith

    no-point : u ≡ b ++ rest
    no-point = word-run (drop at s) ∙ ap (λ (l : List ℕ). b ++ word_of l) (sym here ∙ ap (λ (i : ℕ). drop i s) (sym end-point))

    stop-point : eqb (first (drop end s)) 46 ≡ false
    stop-point = ap (λ (i : ℕ). eqb (first (drop i s)) 46) end-point ∙ t

  -- the bytes of the mantissa, and its digits
  pub mantissa-length : length u ≡ end - at + length rest
  mantissa-length =
      ⊎_elim
      (λ (t : eqb (first (drop point s)) 46 ≡ true).
      let f : from ≡ point + 1 = m.from_is ∙ (rw t refl) in
      let p = m.point-is in
      let q = m.end_is in
      ap length (with-point t) ∙ length-append b (46 ∷ (a ++ rest)) ∙ ap (λ (n : ℕ). length b + suc n) (length-append a rest) ∙ (omega arith))
      (λ (t : eqb (first (drop point s)) 46 ≡ false).
      let p = m.point-is in
      let q = end-point t in
      ap length (no-point t) ∙ length-append b rest ∙ (omega arith))
      (test (eqb (first (drop point s)) 46))

  pub mantissa-order : (at ≤ point) × (point ≤ from) × (from ≤ end)
  mantissa-order =
      let p = m.point-is in
      let q = m.end_is in
      ⊎_elim
      (λ (t : eqb (first (drop point s)) 46 ≡ true). let f : from ≡ point + 1 = m.from_is ∙ (rw t refl) in (omega arith, omega arith, omega arith))
      (λ (t : eqb (first (drop point s)) 46 ≡ false). let f = at-point t in (omega arith, omega arith, omega arith))
      (test (eqb (first (drop point s)) 46))

  -- a word without an exponent
  scaled-wrong : (decimal (mantissa u) && has_exponent (exponent u)) ≡ false → wrong 6 ≡ ends_at (scaled_of u) (end_of s at)
  unfolding scaled_of
  scaled-wrong h = rw h refl

  exponent-rest : exponent u ≡ exponent rest
  exponent-rest =
      ⊎_elim
      (λ (t : eqb (first (drop point s)) 46 ≡ true).
      ap exponent (with-point t) ∙ exponent-digits b (46 ∷ (a ++ rest)) (run-digits (drop at s)) ∙ exponent-digits a rest (run-digits (drop from s)))
      (λ (t : eqb (first (drop point s)) 46 ≡ false). ap exponent (no-point t) ∙ exponent-digits b rest (run-digits (drop at s)))
      (test (eqb (first (drop point s)) 46))

  -- the mantissa, by what stands before e or E where its digits stop
  mantissa-rest : (z : List ℕ) → mantissa rest ≡ z
      → ((eqb (first (drop point s)) 46 ≡ true) × (mantissa u ≡ b ++ 46 ∷ (a ++ z))) ⊎ ((eqb (first (drop point s)) 46 ≡ false) × (mantissa u ≡ b ++ z))
  mantissa-rest z h =
      ⊎_elim
      (λ (t : eqb (first (drop point s)) 46 ≡ true).
      inl (
        t,
        ap mantissa (with-point t) ∙ mantissa-digits b (46 ∷ (a ++ rest)) (run-digits (drop at s))
            ∙ ap (λ (l : List ℕ). b ++ 46 ∷ l) (mantissa-digits a rest (run-digits (drop from s)) ∙ ap (λ (l : List ℕ). a ++ l) h),
      ))
      (λ (t : eqb (first (drop point s)) 46 ≡ false).
      inr (t, ap mantissa (no-point t) ∙ mantissa-digits b rest (run-digits (drop at s)) ∙ ap (λ (l : List ℕ). b ++ l) h))
      (test (eqb (first (drop point s)) 46))

  stop-decimal : is_e (first (drop end s)) ≡ false → is_empty rest ≡ false → decimal (mantissa u) ≡ false
  stop-decimal n o =
      let c : ℕ = first (drop end s) in
      let y : List ℕ = word_of (drop 1 (drop end s)) in
      let z : mantissa rest ≡ c ∷ mantissa y = ap mantissa (on_word (drop end s) o) ∙ (rw n refl) in
      ⊎_elim
      (λ q. let w : List ℕ = a ++ c ∷ mantissa y in
      let k : after (mantissa u) ≡ w = ap after q.1 ∙ after-point b w (run-digits (drop at s)) in
      not-decimal (mantissa u) (and_second (digits (before (mantissa u))) (ap digits k ∙ digits-other a c (mantissa y) stop-digit)))
      (λ q. let k : digits (before (mantissa u)) ≡ false = ap (λ (l : List ℕ). digits (before l)) q.1 ∙ before-other b c (mantissa y) (run-digits (drop at s)) stop-digit (stop-point q.0) in
      not-decimal (mantissa u) (and_first (digits (after (mantissa u))) k))
      (mantissa-rest (c ∷ mantissa y) z)

  pub scaled-not : is_e (first (drop end s)) ≡ false → wrong 6 ≡ ends_at (scaled_of u) (end_of s at)
  scaled-not n =
      ⊎_elim
      (λ (o : is_empty rest ≡ true). scaled-wrong (and_second (decimal (mantissa u)) (ap has_exponent (exponent-rest ∙ ap exponent (nothing_left rest o)))))
      (λ (o : is_empty rest ≡ false). scaled-wrong (and_first (has_exponent (exponent u)) (stop-decimal n o)))
      (test (is_empty rest))

  module _ (x : List ℕ) (e : ℕ) (ee : is_e e ≡ true) (r : rest ≡ e ∷ x) where
    exponent-is : exponent u ≡ e ∷ x
    exponent-is = exponent-rest ∙ ap exponent r ∙ (rw ee refl)

    mantissa-is : (before (mantissa u) ≡ b) × (after (mantissa u) ≡ a)
    mantissa-is =
        ⊎_elim
        (λ q. let z : mantissa u ≡ b ++ 46 ∷ a = q.1 ∙ ap (λ (l : List ℕ). b ++ 46 ∷ l) (append-nil a) in
        (ap before z ∙ before-point b a (run-digits (drop at s)), ap after z ∙ after-point b a (run-digits (drop at s))))
        (λ q. let z : mantissa u ≡ b = q.1 ∙ append-nil b in
        (ap before z ∙ before-none b (run-digits (drop at s)), ap after z ∙ after_none b (run-digits (drop at s)) ∙ sym (none_after q.0)))
        (mantissa-rest [] (ap mantissa r ∙ (rw ee refl)))

    is-decimal : decimal (mantissa u) ≡ leb 1 (length b + length a)
    is-decimal = parts-decimal b a (run-digits (drop at s)) (run-digits (drop from s)) (mantissa u) mantissa-is.0 mantissa-is.1

    scaled-none : length b + length a ≡ 0 → wrong 6 ≡ ends_at (scaled_of u) (end_of s at)
    scaled-none z = scaled-wrong (and_first (has_exponent (exponent u)) (is-decimal ∙ lt-leb 1 (length b + length a) (omega arith)))

    scaled-bad : is_whole 3 (unsigned x) ≡ false → wrong 6 ≡ ends_at (scaled_of u) (end_of s at)
    scaled-bad h = scaled-wrong (and_second (decimal (mantissa u)) (ap has_exponent exponent-is ∙ h))

    pub shifted-is : shifted u ≡ 10000000 * cond (negative x) (nat_of 0 (b ++ a)) (nat_of 0 (b ++ a) * 10 ^ nat_of 0 (unsigned x)) / cond (negative x) (10 ^ length a * 10 ^ nat_of 0 (unsigned x)) (10 ^ length a)
    unfolding shifted
    shifted-is =
        ap₂ (λ (n d : ℕ). 10000000 * raised (exponent u) n / lowered (exponent u) d)
        (parts-numerator b a (run-digits (drop at s)) (run-digits (drop from s)) (mantissa u) mantissa-is.0 mantissa-is.1)
        (parts-denominator b a (run-digits (drop at s)) (run-digits (drop from s)) (mantissa u) mantissa-is.0 mantissa-is.1)
        ∙ ap (λ (y : List ℕ). 10000000 * raised y (nat_of 0 (b ++ a)) / lowered y (10 ^ length a)) exponent-is

    pub scaled-of : 1 ≤ length b + length a → is_whole 3 (unsigned x) ≡ true → scaled_of u ≡ says (cap (shifted u))
    unfolding scaled_of
    scaled-of n h = rw (and_both (is-decimal ∙ le-leb 1 (length b + length a) n) (ap has_exponent exponent-is ∙ h)) refl

    pub shifted-taken : shifted u ≡ taken_of (places_of (negative x) (length b) (nat_of 0 (unsigned x))) (b ++ a)
    shifted-taken =
        shifted-is
        ∙ shift-digits (b ++ a) (length b) (length a) (all_append is_digit b a (run-digits (drop at s)) (run-digits (drop from s))) (length-append b a) (negative x) (nat_of 0 (unsigned x))

  -- ---- at e or E
  module _ (c : ℕ) (q : c ≡ first (drop end s)) (ee : is_e c ≡ true) where
    abbrev x : List ℕ
    x = word_of (drop (end + 1) s)

    rest-is : rest ≡ c ∷ x
    rest-is = byte_word (drop end s) c (sym q) (e-word c ee).0 (e-word c ee).1 ∙ ap (λ (l : List ℕ). c ∷ word_of l) (sym (next-at s end))

    pub end-in : end < length s
    end-in = byte-in s end (ap (λ (n : ℕ). eqb n 10) (sym q) ∙ (e-word c ee).1)

    pub counts : point - at + (end - from) ≡ length b + length a
    counts = let p = m.point-is in let r = m.end_is in omega arith

    -- it is no number without it
    pub no-decimal : wrong 6 ≡ ends_at (magnitude_of u) (end_of s at)
    unfolding magnitude_of
    no-decimal =
        ⊎_elim
        (λ (t : decimal u ≡ true). absurd (let y = ap length (sym (decimal-plain u t).1 ∙ exponent-is x c ee rest-is) in omega arith))
        (λ (t : decimal u ≡ false). rw t refl)
        (test (decimal u))

    pub scaled-nothing : point - at + (end - from) ≡ 0 → wrong 6 ≡ ends_at (scaled_of u) (end_of s at)
    scaled-nothing z = scaled-none x c ee rest-is (sym counts ∙ z)

    pub scaled-malformed : (n : ℕ) → wrong n ≡ ends_at (exponent_of x) (end_of s (end + 1)) → wrong n ≡ ends_at (scaled_of u) (end_of s at)
    scaled-malformed n h =
        let q = exponent-false x n (ended-wrong (exponent_of x) n (end_of s (end + 1)) h) in
        rw q.1 (scaled-bad x c ee rest-is q.0)

    module _ (z : 1 ≤ length b + length a) (p : Exponent) (last : ℕ) (h : says (p, last) ≡ ends_at (exponent_of x) (end_of s (end + 1))) where
      told : (is_whole 3 (unsigned x) ≡ true) × (negative x ≡ p.minus) × (nat_of 0 (unsigned x) ≡ p.power)
      told = exponent-true x p (ended-says (exponent_of x) p (end_of s (end + 1)) last h).0

      -- a value that is right, with where the word ends
      scaled_value : (v : ℕ) → v ≡ cap (shifted u) → says (v, last) ≡ ends_at (scaled_of u) (end_of s at)
      scaled_value v e =
          let o = mantissa-order in
          let l = mantissa-length in
          let g = ap length rest-is in
          let y = (ended-says (exponent_of x) p (end_of s (end + 1)) last h).1 in
          says-ends (scaled_of u) v (end_of s at) last (scaled-of x c ee rest-is z told.0 ∙ ap says (sym e)) (omega arith)

      shifted-told : shifted u ≡ 10000000 * cond p.minus (nat_of 0 (b ++ a)) (nat_of 0 (b ++ a) * 10 ^ p.power) / cond p.minus (10 ^ length a * 10 ^ p.power) (10 ^ length a)
      shifted-told =
          shifted-is x c ee rest-is
          ∙ ap₂ (λ (y : Bool) (i : ℕ). 10000000 * cond y (nat_of 0 (b ++ a)) (nat_of 0 (b ++ a) * 10 ^ i) / cond y (10 ^ length a * 10 ^ i) (10 ^ length a)) told.1 told.2

      pub scaled-moved : (v : ℕ) → v ≡ cap (10000000 * cond p.minus (nat_of 0 (b ++ a)) (nat_of 0 (b ++ a) * 10 ^ p.power) / cond p.minus (10 ^ length a * 10 ^ p.power) (10 ^ length a))
          → says (v, last) ≡ ends_at (scaled_of u) (end_of s at)
      scaled-moved v e = scaled_value v (e ∙ sym (ap cap shifted-told))

      pub scaled_read : (v : ℕ) → v ≡ cap (taken_of (places_of p.minus (point - at) p.power) (b ++ a)) → says (v, last) ≡ ends_at (scaled_of u) (end_of s at)
      scaled_read v e =
          let n : point - at ≡ length b = (let y = m.point-is in omega arith) in
          scaled_value v
          (e
          ∙ ap (λ (i : ℕ). cap (taken_of (places_of p.minus i p.power) (b ++ a))) n
          ∙ sym (ap cap (shifted-taken x c ee rest-is ∙ ap₂ (λ (y : Bool) (i : ℕ). taken_of (places_of y (length b) i) (b ++ a)) told.1 told.2)))
