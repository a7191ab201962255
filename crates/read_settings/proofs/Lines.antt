-- What the code finds in a line, on lists: by what the line goes on with, by how many words it has, and by what a word says.
use Prim.Native.Nat.{ℕ, ◌+◌, ◌≤◌, ◌<◌}
use mathlib.Core.Path.{◌≡◌, refl, sym, ap, ◌∙◌}
use mathlib.Core.List.{List, [], ◌∷◌}
use mathlib.Core.Bool.{Bool, true, false, cond}
use mathlib.Core.Option.{Option, none, some}
use lib.ListN.{length, drop}
use lib.Dec.{leb, eqb}
use native.Mathlib.Omega.{arith}
use borrow.Author.Tests.{eqb-true, eqb-false, leb-true}
use Rattle.lists.proofs.Tests.{and_left, and_right}
use Rattle.std.specs.Prelude.{Option as Answer, Some, None, Result, Ok, Err}
use Rattle.std.specs.Result.{result_ok}
use Rattle.text.specs.declared.Parsed.{Parsed}
use Rattle.text.specs.Words.{Word, word_of}
use Rattle.text.specs.Rest.{Rest, rest_at, push, word_at, end_of, WordMet, EndMet, scan_of}
use Rattle.text.proofs.Scans.{scan_good, scan-fault}
use Rattle.text.proofs.LineByLine.{next-to, words-within}
use Rattle.digits.specs.Said.{Said, says, wrong}
use Rattle.digits.specs.Degree.{degree_of, smoothing_of}
use Rattle.keywords.specs.Arguments.{argument_of}
use Rattle.keywords.specs.Lookup.{argument_at}
use Rattle.keywords.specs.declared.Argument.{Argument}
use Rattle.statements.specs.declared.Carried.{Carried}
use Rattle.statements.specs.declared.Carried.TheVariants.{BodyType, Degree, Smoothing}
use Rattle.statements.specs.declared.rules.Count.TheVariants.{Within}
use Rattle.statements.specs.declared.rules.Rules.{Rules}
use Rattle.statements.specs.Rules.{rules_of, counted_by}
use Rattle.model.specs.Parse.{type_said}
use Rattle.read_state.specs.declared.Form.{Form}
use Rattle.read_state.specs.declared.Names.{Names}
use Rattle.read_settings.specs.Words.{on_fine, said_or, BeginsAt, LineAt}
use Rattle.read_settings.specs.Steps.{taken, by_row, basis_or, is_rational, typed, type_taken, degreed, second_said, degree_taken, with_smoothing, smoothing_taken}

-- ---- the words of a line
pub bad-line : (b : Option ℕ) {p : ℕ} → b ≡ some p → b ≡ none → ⊥
bad-line b e h = let z : ◌≡◌ {A = ℕ} 0 1 = cc in omega arith

module _ (s : List ℕ) (x : Rest) {q : ℕ} where
  pub no_words : (at : ℕ) → at ≤ length s → x ≡ record { words = []; bad = none; next = q } → LineAt s x at at 0 q
  no_words at l e = rw e (record { begins = tt; counted = refl; fine = refl; next = refl; first-in = l; second-in = l })

  pub one_word : (p : ℕ) → p ≤ length s → x ≡ record { words = word_at s p ∷ []; bad = none; next = q } → LineAt s x p p 1 q
  one_word p l e = rw e (record { begins = refl; counted = refl; fine = refl; next = refl; first-in = l; second-in = l })

  pub two-words : (p v : ℕ) (y : Rest) {n : ℕ} → p ≤ length s → v ≤ length s → x ≡ push (word_at s p) (push (word_at s v) y)
      → (y.bad ≡ none) × (length y.words ≡ n) × (y.next ≡ q) → LineAt s x p v (n + 2) q
  two-words p v y {n} l k e h =
      let c = h.1 in
      rw e (record { begins = (refl, refl); counted = omega arith; fine = h.0; next = h.2; first-in = l; second-in = k })

-- a line whose first word stands at p and ends at `at`
module _ (s : List ℕ) (p at : ℕ) (l : p < at) (m : at ≤ length s) where
  pub line-one : {q : ℕ} → EndMet s at q → LineAt s (push (word_at s p) (rest_at s at)) p p 1 q
  line-one {q} e = one_word s _ p (omega arith) (ap (push (word_at s p)) e.rest)

  module _ {v e n q : ℕ} (w : WordMet s at v) (d : e ≡ end_of s v) (g : Ok (record { value = n; next = q }) ≡ scan_of (rest_at s e)) where
    scanned : ((rest_at s e).bad ≡ none) × (length (rest_at s e).words ≡ n) × ((rest_at s e).next ≡ q)
    scanned = scan_good (rest_at s e) n q g

    pub line_small : n + 2 ≤ length s
    line_small =
        let a = w.from in
        let b = w.more in
        let c = w.to in
        let k = scanned.1 in
        let i = words-within s e in
        let j = (next-to s e (omega arith)).1 in
        omega arith

    pub line-more : LineAt s (push (word_at s p) (rest_at s at)) p v (n + 2) q
    line-more =
        let b = w.more in
        let c = w.to in
        two-words s _ p v (rest_at s e) (omega arith) (omega arith)
        (ap (push (word_at s p)) (w.rest ∙ ap (λ (i : ℕ). push (word_at s v) (rest_at s i)) (sym d)))
        scanned

  pub line-spoilt : {v e b : ℕ} → WordMet s at v → e ≡ end_of s v → Err b ≡ scan_of (rest_at s e) → (rest_at s at).bad ≡ none → ⊥
  line-spoilt {v} {e} {b} w d g =
      bad-line (rest_at s at).bad
      (ap (λ (r : Rest). r.bad) (w.rest ∙ ap (λ (i : ℕ). push (word_at s v) (rest_at s i)) (sym d)) ∙ scan-fault (rest_at s e) b g)

-- what was scanned, by what was kept of it
pub scanned-ok : {x : Result (Parsed ℕ) ℕ} (r : Result (Parsed ℕ) ℕ) {v : Parsed ℕ} → r ≡ x → Some v ≡ result_ok r → Ok v ≡ x
scanned-ok {x} (Ok p) {v} e h = let k : v ≡ p = cc in ap (λ (w : Parsed ℕ). Ok w) k ∙ e
scanned-ok (Err b) e h = absurd (let z : ◌≡◌ {A = ℕ} 0 1 = cc in omega arith)

pub scanned-err : {x : Result (Parsed ℕ) ℕ} (r : Result (Parsed ℕ) ℕ) → r ≡ x → None ≡ result_ok r → (b : ℕ) × (Err b ≡ x)
scanned-err (Ok p) e h = absurd (let z : ◌≡◌ {A = ℕ} 0 1 = cc in omega arith)
scanned-err (Err b) e h = (b, e)

-- ---- what the words come to
rest-is : (x : Rest) {ws : List Word} {b : Option ℕ} {q : ℕ} → x.words ≡ ws → x.bad ≡ b → x.next ≡ q → x ≡ record { words = ws; bad = b; next = q }
rest-is x e h k = rw (← e, ← h, ← k) refl

-- a byte that is not allowed, or a number of words that the row r does not let in
pub row-refused : {A : Type 0} (k : Carried) (x : Rest) (f : List Word → A) (a : A) {r : Rules} → r ≡ rules_of k → (x.bad ≡ none → counted_by r.count (length x.words) ≡ false) → a ≡ by_row k x f a
row-refused k x f a {r} e h = go x.bad h
  where
    go : (b : Option ℕ) → (b ≡ none → counted_by r.count (length x.words) ≡ false) → a ≡ on_fine b (cond (counted_by (rules_of k).count (length x.words)) (f x.words) a) a
    go none h = sym (ap (λ (t : Bool). cond t (f x.words) a) (ap (λ (y : Rules). counted_by y.count (length x.words)) (sym e) ∙ h refl))
    go (some p) h = refl

one_of : (s : List ℕ) (ws : List Word) (p v : ℕ) → BeginsAt s p v ws → 1 ≡ length ws → ws ≡ word_at s p ∷ []
one_of s [] p v b e = absurd (omega arith)
one_of s (w ∷ []) p v b e = rw b refl
one_of s (w ∷ u ∷ ws) p v b e = absurd (omega arith)

two-of : (s : List ℕ) (ws : List Word) (p v : ℕ) → BeginsAt s p v ws → 2 ≡ length ws → ws ≡ word_at s p ∷ word_at s v ∷ []
two-of s [] p v b e = absurd (omega arith)
two-of s (w ∷ []) p v b e = absurd (omega arith)
two-of s (w ∷ u ∷ []) p v b e = rw (b.0, b.1) refl
two-of s (w ∷ u ∷ t ∷ ws) p v b e = absurd (omega arith)

-- a count that the row of cstype, and that of deg, lets in
within : (n : ℕ) → counted_by (Within 1 2) n ≡ true → (n ≡ 1 → ⊥) → n ≡ 2
within n h d =
    let a = leb-true 1 n (and_left (leb 1 n) (leb n 2) h) in
    let b = leb-true n 2 (and_right (leb 1 n) (leb n 2) h) in
    omega arith

module _ (s : List ℕ) (x : Rest) (p v n q : ℕ) (a : LineAt s x p v n q) where
  alone : n ≡ 1 → x ≡ record { words = word_at s p ∷ []; bad = none; next = q }
  alone e = rest-is x (one_of s x.words p v a.begins (sym e ∙ a.counted)) a.fine a.next

  both : n ≡ 2 → x ≡ record { words = word_at s p ∷ word_at s v ∷ []; bad = none; next = q }
  both e = rest-is x (two-of s x.words p v a.begins (sym e ∙ a.counted)) a.fine a.next

  -- ---- s
  module _ (c : Names) (h : true ≡ counted_by (rules_of Smoothing).count n) where
    one : n ≡ 1
    one = eqb-true n 1 (sym h)

    pub smoothing-is : (k : ℕ) → smoothing_of (word_of (drop p s)) ≡ says k → taken (with_smoothing c k) q ≡ smoothing_taken c x
    smoothing-is k e = rw (alone one, e) refl

    pub smoothing-not : {k : ℕ} → smoothing_of (word_of (drop p s)) ≡ wrong k → None ≡ smoothing_taken c x
    smoothing-not e = rw (alone one, e) refl

  -- ---- deg
  module _ (f : Form) (h : true ≡ counted_by (rules_of Degree).count n) where
    second : (m : ℕ) (b : Bool) → eqb n 1 ≡ b → degree_of (word_of (drop p s)) ≡ says m
        → said_or (cond b (says 0) (degree_of (word_of (drop v s)))) (λ k. degreed f m k q) None ≡ degree_taken f x
    second m true t e = rw (alone (eqb-true n 1 t), e) refl
    second m false t e = rw (both (within n (sym h) (eqb-false n 1 t)), e) refl

    pub degree-second : (m : ℕ) {y : Said ℕ} → degree_of (word_of (drop p s)) ≡ says m → second_said s v n ≡ y → said_or y (λ k. degreed f m k q) None ≡ degree_taken f x
    degree-second m e d = sym (ap (λ (z : Said ℕ). said_or z (λ k. degreed f m k q) None) d) ∙ second m (eqb n 1) refl e

    first-wrong : {k : ℕ} (b : Bool) → eqb n 1 ≡ b → degree_of (word_of (drop p s)) ≡ wrong k → None ≡ degree_taken f x
    first-wrong true t e = rw (alone (eqb-true n 1 t), e) refl
    first-wrong false t e = rw (both (within n (sym h) (eqb-false n 1 t)), e) refl

    pub degree-wrong : {k : ℕ} → degree_of (word_of (drop p s)) ≡ wrong k → None ≡ degree_taken f x
    degree-wrong e = first-wrong (eqb n 1) refl e

  -- ---- cstype
  module _ (f : Form) (h : true ≡ counted_by (rules_of BodyType).count n) where
    pub type-one : {t : Answer (Parsed Form)} {y : Argument} → n ≡ 1 → y ≡ argument_at s p → t ≡ typed 0 f (basis_or (type_said y)) q → t ≡ type_taken f x
    unfolding argument_at
    type-one e k t = t ∙ rw (alone e, k) refl

    module _ {y : Argument} {b : Bool} (d : n ≡ 1 → ⊥) (k : y ≡ argument_at s p) (i : b ≡ is_rational y) where
      two : x ≡ record { words = word_at s p ∷ word_at s v ∷ []; bad = none; next = q }
      two = both (within n (sym h) d)

      pub type-two : {t : Answer (Parsed Form)} {z : Argument} → b ≡ true → z ≡ argument_at s v → t ≡ typed 1 f (basis_or (type_said z)) q → t ≡ type_taken f x
      unfolding argument_at
      type-two e j t = let g : is_rational (argument_of (word_of (drop p s))) ≡ true = sym (ap is_rational k) ∙ sym i ∙ e in t ∙ rw (two, g, j) refl

      pub type-plain : b ≡ false → None ≡ type_taken f x
      unfolding argument_at
      type-plain e = let g : is_rational (argument_of (word_of (drop p s))) ≡ false = sym (ap is_rational k) ∙ sym i ∙ e in rw (two, g) refl
