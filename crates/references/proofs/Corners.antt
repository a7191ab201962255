-- A corner's word cut at its slashes: the part read at the front is the first of them, and what follows the slash is the rest.
use Prim.Native.Nat.{ℕ, zero, suc, ◌+◌, ◌≤◌}
use mathlib.Core.Path.{◌≡◌, refl, sym, ap, ◌∙◌}
use mathlib.Core.List.{List, [], ◌∷◌}
use mathlib.Core.Bool.{Bool, true, false, cond, ◌&&◌, not}
use mathlib.Core.Logic.{⊎_elim}
use lib.ListN.{length, drop}
use lib.Dec.{leb, eqb}
use borrow.Author.Tests.{le-leb, ne_eqb, eqb-true}
use native.Mathlib.Omega.{arith}
use Rattle.lists.proofs.Tests.{and_left, and_first, and_both, test, never}
use Rattle.text.specs.Bytes.{is_word}
use Rattle.text.specs.Words.{word_of}
use Rattle.text.specs.Rest.{end_of}
use Rattle.digits.specs.Digits.{is_digit, unminus}
use Rattle.references.specs.Reference.{is_reference, refer}
use Rattle.references.specs.Corner.{Corner, Counts, onto, split}
use Rattle.digits.specs.Straight.{first, is_empty, past}
use Rattle.references.specs.Straight.{is_piece, piece, places, PartRead}
use Rattle.digits.proofs.Fronts.{digit-word, next-at, byte-in}
use Rattle.references.proofs.Pieces.{refer-yes, refer-not, refer-bad, refer-is, refer-length}
use Rattle.references.proofs.References.{stops}

pub some_number : (n : ℕ) → not (eqb n 0) ≡ leb 1 n
some_number zero = refl
some_number (suc n) = rw (ne_eqb (suc n) 0 (omega arith), le-leb 1 (suc n) (omega arith)) refl

digit-piece : (b : ℕ) → is_digit b ≡ true → is_piece b ≡ true
digit-piece b h =
    and_both (digit-word b h)
    (⊎_elim
    (λ (t : eqb b 47 ≡ true). let z : is_digit 47 ≡ true = ap is_digit (sym (eqb-true b 47 t)) ∙ h in never z)
    (λ (t : eqb b 47 ≡ false). rw t refl)
    (test (eqb b 47)))

-- ---- the parts of a word
abbrev rest : List ℕ → List (List ℕ)
rest t = cond (eqb (first t) 47) (split (word_of (drop 1 t))) []

abbrev pub others : List ℕ → List (List ℕ)
others l = rest (drop (length (piece l)) l)

pub split-word : (l : List ℕ) → split (word_of l) ≡ piece l ∷ others l
split-word [] = refl
split-word (b ∷ bs) =
    ⊎_elim
    (λ (t : is_word b ≡ true).
    ⊎_elim
    (λ (u : eqb b 47 ≡ true). rw (t, u) (rw u refl))
    (λ (u : eqb b 47 ≡ false). rw (t, u) (ap (onto b) (split-word bs)))
    (test (eqb b 47)))
    (λ (t : is_word b ≡ false).
    ⊎_elim
    (λ (u : eqb b 47 ≡ true). never (sym t ∙ ap is_word (eqb-true b 47 u)))
    (λ (u : eqb b 47 ≡ false). rw t (rw u refl))
    (test (eqb b 47)))
    (test (is_word b))

piece-word : (l : List ℕ) → length (word_of l) ≡ length (piece l) + length (word_of (drop (length (piece l)) l))
piece-word [] = refl
piece-word (b ∷ bs) =
    ⊎_elim
    (λ (t : is_piece b ≡ true).
    let w : is_word b ≡ true = and_left (is_word b) (not (eqb b 47)) t in rw (t, w) (let h = piece-word bs in omega arith))
    (λ (t : is_piece b ≡ false). rw t (omega arith))
    (test (is_piece b))

-- ---- a part read at a place
pub record Slashed (count : ℕ) (s : List ℕ) (at number end : ℕ) : Type 0 where
  pub form : is_reference (piece (drop at s)) ≡ true
  pub is : refer count (piece (drop at s)) ≡ number
  pub parts : split (word_of (drop at s)) ≡ piece (drop at s) ∷ split (word_of (drop (end + 1) s))
  pub ends : end_of s (end + 1) ≡ end_of s at
  pub fits : end + 1 ≤ length s

pub record Ended (count : ℕ) (s : List ℕ) (at number end : ℕ) : Type 0 where
  pub form : is_reference (piece (drop at s)) ≡ true
  pub is : refer count (piece (drop at s)) ≡ number
  pub parts : split (word_of (drop at s)) ≡ piece (drop at s) ∷ []
  pub ends : end ≡ end_of s at

no-piece : (l : List ℕ) → is_piece (first l) ≡ false → is_empty (piece l) ≡ true
no-piece [] h = refl
no-piece (b ∷ bs) h = rw h refl

a_piece : (l : List ℕ) → is_piece (first l) ≡ true → is_empty (piece l) ≡ false
a_piece [] h = never h
a_piece (b ∷ bs) h = rw h refl

no_word : (l : List ℕ) → is_word (first l) ≡ false → length (word_of l) ≡ 0
no_word [] h = refl
no_word (b ∷ bs) h = rw h refl

slash-word : (l : List ℕ) → first l ≡ 47 → length (word_of l) ≡ 1 + length (word_of (drop 1 l))
slash-word [] h = absurd (omega arith)
slash-word (b ∷ bs) h = rw h (omega arith)

module _ {count : ℕ} {s : List ℕ} {at number end : ℕ} (p : PartRead count s at number end) where
  same : (f : List ℕ → Bool) (b : Bool) → f (drop end s) ≡ b → f (past (unminus (drop at s))) ≡ b
  same f b h = ap f (sym (stops count s at number end p)) ∙ h

  module _ (o : is_empty (piece (past (unminus (drop at s)))) ≡ true) where
    form : is_reference (piece (drop at s)) ≡ true
    form = refer-yes is_piece digit-piece refl (drop at s) o p.some p.few

    is : refer count (piece (drop at s)) ≡ number
    is = refer-is is_piece digit-piece refl count (drop at s) o ∙ sym p.number_is

    to : end ≡ at + length (piece (drop at s))
    to = p.end_is ∙ ap (λ (n : ℕ). at + n) (sym (refer-length is_piece digit-piece refl (drop at s) o))

    tail : drop (length (piece (drop at s))) (drop at s) ≡ drop end s
    tail = lib.Seq.drop-drop (length (piece (drop at s))) at s ∙ ap (λ (n : ℕ). drop n s) (sym to)

    parts : split (word_of (drop at s)) ≡ piece (drop at s) ∷ rest (drop end s)
    parts = split-word (drop at s) ∙ ap (λ (t : List ℕ). piece (drop at s) ∷ rest t) tail

    size : length (word_of (drop at s)) ≡ length (piece (drop at s)) + length (word_of (drop end s))
    size = piece-word (drop at s) ∙ ap (λ (t : List ℕ). length (piece (drop at s)) + length (word_of t)) tail

  pub slashed : first (drop end s) ≡ 47 → Slashed count s at number end
  slashed h =
      let o = same (λ l. is_empty (piece l)) true (no-piece (drop end s) (ap is_piece h)) in
      let e = next-at s end in
      let q = size o in
      let t = to o in
      let z = slash-word (drop end s) h in
      let y = ap (λ (l : List ℕ). length (word_of l)) e in
      let i = byte-in s end (ap (λ (n : ℕ). eqb n 10) h) in
      record {
        form = form o;
        is = is o;
        parts = parts o ∙ rw (h, e) refl;
        ends = omega arith;
        fits = omega arith;
      }

  pub done : is_word (first (drop end s)) ≡ false → Ended count s at number end
  done h =
      let o = same (λ l. is_empty (piece l)) true (no-piece (drop end s) (and_first (not (eqb (first (drop end s)) 47)) h)) in
      let n : eqb (first (drop end s)) 47 ≡ false = ne_eqb (first (drop end s)) 47 (λ e. never (sym h ∙ ap is_word e)) in
      let q = size o in
      let t = to o in
      let z = no_word (drop end s) h in
      record { form = form o; is = is o; parts = parts o ∙ rw n refl; ends = omega arith }

  pub other : is_word (first (drop end s)) ≡ true → (first (drop end s) ≡ 47 → ⊥) → is_reference (piece (drop at s)) ≡ false
  other h n =
      refer-not is_piece digit-piece refl (drop at s)
      (same (λ l. is_empty (piece l)) false (a_piece (drop end s) (and_both h (rw (ne_eqb (first (drop end s)) 47 n) refl))))

pub no_part : (s : List ℕ) (at : ℕ) → (leb 1 (length (places (drop at s))) && leb (length (places (drop at s))) 10) ≡ false → is_reference (piece (drop at s)) ≡ false
no_part s at h = refer-bad is_piece digit-piece refl (drop at s) h

-- how many there are of each kind, as the code holds them
abbrev pub counts : Corner → Counts
counts c = record { v = c.v; vt = c.vt; vn = c.vn }
