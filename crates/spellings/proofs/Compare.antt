-- Two words compared byte by byte: what is left of them is the same exactly when they are.
use Prim.Native.Nat.{ℕ, suc, ◌+◌, ◌≤◌, ◌<◌}
use mathlib.Core.Path.{◌≡◌, refl, sym, ap, ◌∙◌}
use mathlib.Core.Logic.{⊎_elim}
use mathlib.Core.List.{List, [], ◌∷◌}
use mathlib.Core.Bool.{true, false, cond}
use native.Mathlib.Omega.{arith}
use borrow.Author.Tests.{ltb-true, ltb-false, eq-eqb, ne_eqb}
use Rattle.std.specs.Prelude.{Option, Some, None}
use lib.Dec.{ltb}
use lib.ListN.{length, drop, get_or, drop_of_length-le}
use lib.Seq.{drop-cons}
use Rattle.lists.specs.Lists.{same}
use Rattle.lists.proofs.Tests.{test, never}
use Rattle.text.specs.Bytes.{is_word}
use Rattle.text.specs.Words.{word_of}
use Rattle.text.specs.Rest.{end_of}
use Rattle.text.proofs.Places as T
use Rattle.spellings.specs.Lookup.{word_ahead}

word_more : (x : ℕ) (a : List ℕ) → is_word x ≡ true → word_of (x ∷ a) ≡ x ∷ word_of a
word_more x a h = rw h refl

pub word_none : (a : List ℕ) → word_ahead a ≡ false → word_of a ≡ []
word_none [] h = refl
word_none (x ∷ a) h = rw h refl

-- at the front of two lists
both-same : (x : ℕ) (a b : List ℕ) → is_word x ≡ true → same (word_of (x ∷ a)) (word_of (x ∷ b)) ≡ same (word_of a) (word_of b)
both-same x a b h = rw (word_more x a h, word_more x b h, eq-eqb x x refl) refl

both-differ : (x y : ℕ) (a b : List ℕ) → is_word x ≡ true → (x ≡ y → ⊥) → same (word_of (x ∷ a)) (word_of (y ∷ b)) ≡ false
both-differ x y a b h n =
    ⊎_elim (λ w. rw (word_more x a h, word_more y b w, ne_eqb x y n) refl)
    (λ w. rw (word_more x a h, word_none (y ∷ b) w) refl)
    (test (is_word y))

other-ends : (a b : List ℕ) → word_ahead a ≡ true → word_ahead b ≡ false → same (word_of a) (word_of b) ≡ false
other-ends [] b h k = never h
other-ends (x ∷ a) b h k = rw (word_more x a h, word_none b k) refl

other-goes-on : (a b : List ℕ) → word_ahead a ≡ false → word_ahead b ≡ true → same (word_of a) (word_of b) ≡ false
other-goes-on a [] h k = never k
other-goes-on a (y ∷ b) h k = rw (word_none a h, word_more y b k) refl

-- at a place of a text
pub past : (s : List ℕ) (i : ℕ) → length s ≤ i → word_ahead (drop i s) ≡ false
past s i h = rw (drop_of_length-le s h) refl

pub here : (s : List ℕ) (i : ℕ) → i < length s → word_ahead (drop i s) ≡ is_word (get_or s i 0)
here s i h = rw (drop-cons s i 0 h) refl

pub ahead_within : (s : List ℕ) (i : ℕ) → word_ahead (drop i s) ≡ true → i < length s
ahead_within s i h =
    ⊎_elim (λ l. ltb-true i (length s) l)
    (λ l. never (sym (past s i (ltb-false i (length s) l)) ∙ h))
    (test (ltb i (length s)))

pub ahead-is : (s : List ℕ) (i : ℕ) → word_ahead (drop i s) ≡ true → is_word (get_or s i 0) ≡ true
ahead-is s i h = sym (here s i (ahead_within s i h)) ∙ h

-- a word is its first byte and the rest of it
pub word_at : (s : List ℕ) (i : ℕ) → word_ahead (drop i s) ≡ true → word_of (drop i s) ≡ get_or s i 0 ∷ word_of (drop (i + 1) s)
word_at s i h = rw (T.here s i (ahead_within s i h)) (word_more (get_or s i 0) (drop (i + 1) s) (ahead-is s i h))

pub first-differs :
    (s t : List ℕ) (i j : ℕ) → word_ahead (drop i s) ≡ true → j < length t → (get_or s i 0 ≡ get_or t j 0 → ⊥) → same (word_of (drop i s)) (word_of (drop j t)) ≡ false
first-differs s t i j h k n =
    rw (drop-cons s i 0 (ahead_within s i h), drop-cons t j 0 k)
    (both-differ (get_or s i 0) (get_or t j 0) (drop (suc i) s) (drop (suc j) t) (ahead-is s i h) n)

pub front-differs :
    (s t : List ℕ) (i j : ℕ) → i < length s → word_ahead (drop j t) ≡ true → (get_or s i 0 ≡ get_or t j 0 → ⊥) → same (word_of (drop i s)) (word_of (drop j t)) ≡ false
front-differs s t i j h k n =
    ⊎_elim
    (λ w. first-differs s t i j (here s i h ∙ w) (ahead_within t j k) n)
    (λ w. other-goes-on (drop i s) (drop j t) (here s i h ∙ w) k)
    (test (is_word (get_or s i 0)))

-- the words at at and from have been the same up to i and j
pub record Compared (s : List ℕ) (at : ℕ) (t : List ℕ) (from i j : ℕ) : Type 0 where
  pub rest : same (word_of (drop at s)) (word_of (drop from t)) ≡ same (word_of (drop i s)) (word_of (drop j t))
  pub end : end_of s at ≡ end_of s i

abbrev pub compare_of : List ℕ → ℕ → List ℕ → ℕ → Option ℕ
compare_of s at t from = cond (same (word_of (drop at s)) (word_of (drop from t))) (Some (end_of s at)) None

module _ {s : List ℕ} {at : ℕ} {t : List ℕ} {from i j : ℕ} (c : Compared s at t from i j) where
  pub turn : word_ahead (drop i s) ≡ true → j < length t → get_or s i 0 ≡ get_or t j 0 → Compared s at t from (i + 1) (j + 1)
  turn h k e =
      let w = ahead-is s i h in
      let d = T.here s i (ahead_within s i h) in
      let f : drop j t ≡ get_or s i 0 ∷ drop (j + 1) t = rw e (T.here t j k) in
      let b : same (word_of (drop i s)) (word_of (drop j t)) ≡ same (word_of (drop (i + 1) s)) (word_of (drop (j + 1) t)) =
      rw (d, f) (both-same (get_or s i 0) (drop (i + 1) s) (drop (j + 1) t) w) in
      let n = ap length (word_at s i h) in
      record { rest = c.rest ∙ b; end = c.end ∙ omega arith }

  no : same (word_of (drop i s)) (word_of (drop j t)) ≡ false → None ≡ compare_of s at t from
  no f = rw (c.rest ∙ f) refl

  pub short : word_ahead (drop i s) ≡ true → length t ≤ j → None ≡ compare_of s at t from
  short h k = no (other-ends (drop i s) (drop j t) h (past t j k))

  pub differ : word_ahead (drop i s) ≡ true → j < length t → (get_or s i 0 ≡ get_or t j 0 → ⊥) → None ≡ compare_of s at t from
  differ h k n = no (first-differs s t i j h k n)

  pub longer : word_ahead (drop i s) ≡ false → word_ahead (drop j t) ≡ true → None ≡ compare_of s at t from
  longer h k = no (other-goes-on (drop i s) (drop j t) h k)

  pub done : word_ahead (drop i s) ≡ false → word_ahead (drop j t) ≡ false → Some i ≡ compare_of s at t from
  done h k =
      let e : same (word_of (drop at s)) (word_of (drop from t)) ≡ true = c.rest ∙ rw (word_none (drop i s) h, word_none (drop j t) k) refl in
      let l : length (word_of (drop i s)) ≡ 0 = rw (word_none (drop i s) h) refl in
      let k : i ≡ end_of s at = omega (arith, c.end) in
      rw e (ap Some k)

pub word_some : (s : List ℕ) (i : ℕ) → word_ahead (drop i s) ≡ true → i < end_of s i
word_some s i h = let n = ap length (word_at s i h) in omega arith
