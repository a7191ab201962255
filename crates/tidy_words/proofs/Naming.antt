-- The words of a part do not depend on where it stands, by the bytes; two parts walked from word to word: what is left is the same exactly when all of it is.
use Prim.Native.Nat.{ℕ, suc, ◌≤◌, ◌<◌}
use mathlib.Core.Path.{◌≡◌, refl, sym, ap, ap₂, ◌∙◌}
use mathlib.Core.List.{List, [], ◌∷◌}
use mathlib.Core.Bool.{Bool, true, false, cond, ◌&&◌}
use lib.ListN.{length, drop}
use mathlib.Core.Logic.{⊎_elim}
use native.Mathlib.Omega.{arith}
use Rattle.std.proofs.Common.{Option, Some, None}
use Rattle.std.specs.Prelude.{is_some, not}
use Rattle.lists.specs.Lists.{same}
use Rattle.lists.proofs.Tests.{test}
use Rattle.lists.proofs.Laws.{same_refl}
use Rattle.text.specs.Lines.{Mode, gap, Look, goes, ends, refused, look}
use Rattle.text.specs.Words.{Word, word_of, opens_word, words}
use Rattle.text.specs.Rest.{Rest, rest_at, end_of, WordMet}
use Rattle.text.specs.Written.{bytes_of}
use Rattle.text.proofs.Cut.{words-cut}
use Rattle.tables.specs.Asking.{part_of}
use Rattle.tables.specs.declared.NameRun.{NameRun}
use Rattle.model.specs.Layout.{run_of}
use Rattle.tidy_form.specs.Tidied.{same_words}
use Rattle.tidy_form.specs.Agree.{words_at}
use Rattle.model.proofs.Placed.{WordsStand}
use Rattle.tidy_words.specs.Naming.{same_bytes, part_names, NextIs}

-- ---- names compared as words
pub bytes-refl : (b : List (List ℕ)) → same_bytes b b ≡ true
bytes-refl [] = refl
bytes-refl (b ∷ bs) = rw (same_refl b) (bytes-refl bs)

pub words-bytes : (v w : List Word) → same_words v w ≡ same_bytes (bytes_of v) (bytes_of w)
words-bytes [] [] = refl
words-bytes [] (w ∷ ws) = refl
words-bytes (v ∷ vs) [] = refl
words-bytes (v ∷ vs) (w ∷ ws) = ap (λ (t : Bool). same v.bytes w.bytes && t) (words-bytes vs ws)

-- ---- a part's words, wherever it stands
moved-first : (t : Bool) (p q b : ℕ) (bs : List ℕ) (vs ws : List Word) → bytes_of vs ≡ bytes_of ws
    → bytes_of (cond t (record { place = p; bytes = word_of (b ∷ bs) } ∷ vs) vs) ≡ bytes_of (cond t (record { place = q; bytes = word_of (b ∷ bs) } ∷ ws) ws)
moved-first true p q b bs vs ws e = ap (λ (r : List (List ℕ)). word_of (b ∷ bs) ∷ r) e
moved-first false p q b bs vs ws e = e

moved-step : (m : Mode) (p q b : ℕ) (bs : List ℕ) → ((n : Mode) → bytes_of (words n (suc p) bs) ≡ bytes_of (words n (suc q) bs))
    → (k : Look) → look m b bs ≡ k → bytes_of (words m p (b ∷ bs)) ≡ bytes_of (words m q (b ∷ bs))
moved-step m p q b bs ih (goes n) e = rw e (moved-first (opens_word m n) p q b bs (words n (suc p) bs) (words n (suc q) bs) (ih n))
moved-step m p q b bs ih ends e = rw e refl
moved-step m p q b bs ih refused e = rw e refl

moved : (m : Mode) (p q : ℕ) (l : List ℕ) → bytes_of (words m p l) ≡ bytes_of (words m q l)
moved m p q [] = refl
moved m p q (b ∷ bs) = moved-step m p q b bs (λ n. moved n (suc p) (suc q) bs) (look m b bs) refl

pub part-names : (s : List ℕ) (run : NameRun) → part_names (part_of s run) ≡ words_at s run
part-names s run = moved gap 0 run.place (part_of s run)

-- the names from a place on, which is between words
abbrev pub names_from : List ℕ → ℕ → List (List ℕ)
names_from s i = bytes_of (rest_at s i).words

pub names-all : (s : List ℕ) → names_from s 0 ≡ part_names s
unfolding rest_at
names-all s = ap bytes_of (words-cut gap 0 s)

module _ (s : List ℕ) (at : ℕ) where
  -- a word's names are its own and those after it
  pub names-word : {p : ℕ} → WordMet s at p → names_from s at ≡ word_of (drop p s) ∷ names_from s (end_of s p)
  names-word m = ap (λ (r : Rest). bytes_of r.words) m.rest

  pub names-none : (rest_at s at).words ≡ [] → names_from s at ≡ []
  names-none e = ap bytes_of e

-- ---- `same_words`
pub record Comparing (s t : List ℕ) (i j : ℕ) : Type 0 where
  pub to : i ≤ length s
  pub other-to : j ≤ length t
  pub rest : same_bytes (names_from s i) (names_from t j) ≡ same_bytes (part_names s) (part_names t)

pub comparing : (s t : List ℕ) → Comparing s t 0 0
comparing s t = record { to = omega arith; other-to = omega arith; rest = ap₂ same_bytes (names-all s) (names-all t) }

module _ {s t : List ℕ} {i j : ℕ} (c : Comparing s t i j) where
  -- one part has no word more: the same exactly where the other has none
  pub compared-end : (rest_at s i).words ≡ [] → (r : Option ℕ) → NextIs t j r → not (is_some r) ≡ same_bytes (part_names s) (part_names t)
  compared-end m (Some q) n = sym (ap₂ same_bytes (names-none s i m) (names-word t j n)) ∙ c.rest
  compared-end m None n = sym (ap₂ same_bytes (names-none s i m) (names-none t j n)) ∙ c.rest

  pub compared-longer : {p : ℕ} → WordMet s i p → (rest_at t j).words ≡ [] → false ≡ same_bytes (part_names s) (part_names t)
  compared-longer m n = sym (ap₂ same_bytes (names-word s i m) (names-none t j n)) ∙ c.rest

  module _ {p q : ℕ} (m : WordMet s i p) (n : WordMet t j q) where
    both : (same (word_of (drop p s)) (word_of (drop q t)) && same_bytes (names_from s (end_of s p)) (names_from t (end_of t q))) ≡ same_bytes (part_names s) (part_names t)
    both = sym (ap₂ same_bytes (names-word s i m) (names-word t j n)) ∙ c.rest

    pub compared-differ : None ≡ cond (same (word_of (drop p s)) (word_of (drop q t))) (Some (end_of s p)) None → false ≡ same_bytes (part_names s) (part_names t)
    compared-differ d =
        ⊎_elim
        (λ (u : same (word_of (drop p s)) (word_of (drop q t)) ≡ true). let z : None ≡ Some (end_of s p) = rw u at d in cc)
        (λ (u : same (word_of (drop p s)) (word_of (drop q t)) ≡ false). (rw u at both))
        (test (same (word_of (drop p s)) (word_of (drop q t))))

    pub compared-turn : {e f : ℕ} → Some e ≡ cond (same (word_of (drop p s)) (word_of (drop q t))) (Some (end_of s p)) None → f ≡ end_of t q → Comparing s t e f × (i < e)
    compared-turn {e} {f} d g =
        ⊎_elim
        (λ (u : same (word_of (drop p s)) (word_of (drop q t)) ≡ true).
        let z : Some e ≡ Some (end_of s p) = rw u at d in
        let y : e ≡ end_of s p = cc in
        (record { to = omega (arith, m.to); other-to = omega (arith, n.to); rest = rw (y, g) (rw u at both) }, omega (arith, m.from, m.more)))
        (λ (u : same (word_of (drop p s)) (word_of (drop q t)) ≡ false). let z : Some e ≡ None = rw u at d in cc)
        (test (same (word_of (drop p s)) (word_of (drop q t))))

-- ---- `same_names`
pub names_same : (s : List ℕ) (run other : NameRun) {l m : List ℕ} {r : Bool} → l ≡ part_of s run → m ≡ part_of s other
    → r ≡ same_bytes (part_names l) (part_names m) → r ≡ same_bytes (words_at s run) (words_at s other)
names_same s run other p q e =
    e ∙ ap₂ (λ (x y : List ℕ). same_bytes (part_names x) (part_names y)) p q ∙ ap₂ same_bytes (part-names s run) (part-names s other)

-- names that stand in the text are compared as the words of their parts
pub named-same : (s : List ℕ) (v w : List Word) → WordsStand s v → WordsStand s w
    → same_words v w ≡ same_bytes (words_at s (run_of v)) (words_at s (run_of w))
named-same s v w p q = words-bytes v w ∙ sym (ap₂ same_bytes (ap bytes_of p) (ap bytes_of q))
