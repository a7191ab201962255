-- The code's table and the definition's rows: a row of the one has the spelling and the kind of the other's row of that number.
use Prim.Native.Nat.{ℕ, zero, suc, ◌+◌, ◌*◌, ◌≤◌, ◌<◌}
use mathlib.Core.Path.{◌≡◌, refl, sym, ap, subst, ◌∙◌}
use mathlib.Core.Logic.{⊎_elim}
use mathlib.Core.List.{List, [], ◌∷◌}
use mathlib.Core.Bool.{Bool, true, false, cond, not}
use native.Mathlib.Omega.{arith}
use borrow.Author.Tests.{not-true, ltb-true, ltb-false, le-ltb}
use lib.ListN.{length, drop, get_or}
use lib.Seq.{get_or-drop, drop-drop}
use lib.Dec.{eqb, ltb}
use Rattle.lists.specs.Lists.{all}
use Rattle.lists.proofs.Tests.{test, and_left, and_right}
use Rattle.text.specs.Words.{word_of}
use Rattle.spellings.specs.Rows.{Row, bytes, row_of, spelling_at, kind_at, Finds, found_by}
use Rattle.spellings.specs.Lookup.{row_in, found_in, ahead_in}
use Rattle.spellings.specs.declared.Found.{Found}
use Rattle.spellings.proofs.Compare.{word_none, past}
use Rattle.spellings.proofs.Spellings.{distinct, finds-exactly}

-- no row's letter is a blank
abbrev pub marked : {K : Type 0} → (K → ℕ) → List (Row K) → Bool
marked letter rs = all (λ r. not (eqb (letter r.kind) 32)) rs

-- the letters of n rows of the bytes t, and those of the rows' kinds
abbrev pub letters_in : ℕ → List ℕ → List ℕ
letters_in zero t = []
letters_in (suc n) t = get_or t 11 0 ∷ letters_in n (drop 12 t)

abbrev pub letters_of : {K : Type 0} → (K → ℕ) → List (Row K) → List ℕ
letters_of letter [] = []
letters_of letter (r ∷ rs) = letter r.kind ∷ letters_of letter rs

pub letter-in : (n : ℕ) (t : List ℕ) (i : ℕ) → i < n → get_or (letters_in n t) i 0 ≡ get_or t (12 * i + 11) 0
letter-in zero t i h = absurd (omega arith)
letter-in (suc n) t zero h = refl
letter-in (suc n) t (suc i) h =
    let e : 12 + (12 * i + 11) ≡ 12 * suc i + 11 = omega arith in
    letter-in n (drop 12 t) i (omega arith) ∙ (get_or-drop 12 t (12 * i + 11) 0 ∙ rw e refl)

-- the words of n rows of the bytes t, and the rows' spellings
abbrev pub words_in : ℕ → List ℕ → List (List ℕ)
words_in zero t = []
words_in (suc n) t = word_of t ∷ words_in n (drop 12 t)

abbrev pub spellings : {K : Type 0} → List (Row K) → List (List ℕ)
spellings [] = []
spellings (r ∷ rs) = bytes r.spelling ∷ spellings rs

pub word_in : (n : ℕ) (t : List ℕ) (i : ℕ) → i < n → get_or (words_in n t) i [] ≡ word_of (drop (12 * i) t)
word_in zero t i h = absurd (omega arith)
word_in (suc n) t zero h = refl
word_in (suc n) t (suc i) h =
    let e : 12 + 12 * i ≡ 12 * suc i = omega arith in
    word_in n (drop 12 t) i (omega arith) ∙ rw (drop-drop (12 * i) 12 t, e) refl

pub spelling-at : {K : Type 0} (rs : List (Row K)) (i : ℕ) → get_or (spellings rs) i [] ≡ spelling_at rs i
spelling-at [] i = refl
spelling-at (r ∷ rs) zero = refl
spelling-at (r ∷ rs) (suc i) = spelling-at rs i

pub spelling-past : {K : Type 0} (rs : List (Row K)) (i : ℕ) → length rs ≤ i → spelling_at rs i ≡ []
spelling-past [] i h = refl
spelling-past (r ∷ rs) zero h = absurd (omega arith)
spelling-past (r ∷ rs) (suc i) h = spelling-past rs i (omega arith)

module _ {K : Type 0} (letter : K → ℕ) (other : K) where
  pub letter-of : (rs : List (Row K)) (i : ℕ) → i < length rs → get_or (letters_of letter rs) i 0 ≡ letter (kind_at other rs i)
  letter-of [] i h = absurd (omega arith)
  letter-of (r ∷ rs) zero h = refl
  letter-of (r ∷ rs) (suc i) h = letter-of rs i (omega arith)

  pub kind-past : (rs : List (Row K)) (i : ℕ) → length rs ≤ i → kind_at other rs i ≡ other
  kind-past [] i h = refl
  kind-past (r ∷ rs) zero h = absurd (omega arith)
  kind-past (r ∷ rs) (suc i) h = kind-past rs i (omega arith)

  marked-at : (rs : List (Row K)) (i : ℕ) → marked letter rs ≡ true → i < length rs → eqb (letter (kind_at other rs i)) 32 ≡ false
  marked-at [] i m h = absurd (omega arith)
  marked-at (r ∷ rs) zero m h = not-true (eqb (letter r.kind) 32) (and_left (not (eqb (letter r.kind) 32)) (marked letter rs) m)
  marked-at (r ∷ rs) (suc i) m h = marked-at rs i (and_right (not (eqb (letter r.kind) 32)) (marked letter rs) m) (omega arith)

  -- a word that finds no row is told by its kind's letter
  pub found-end :
      (rs : List (Row K)) (i at end : ℕ) → letter other ≡ 32 → marked letter rs ≡ true → cond (ltb i (length rs)) end at ≡ cond (eqb (letter (kind_at other rs i)) 32) at end
  found-end rs i at end b m =
      ⊎_elim
      (λ l.
      ap (λ t. cond t end at) l ∙ sym (ap (λ t. cond t at end) (marked-at rs i m (ltb-true i (length rs) l))))
      (λ l.
      let k : eqb (letter (kind_at other rs i)) 32 ≡ true = rw (kind-past rs i (ltb-false i (length rs) l), b) refl in
      ap (λ t. cond t end at) l ∙ sym (ap (λ t. cond t at end) k))
      (test (ltb i (length rs)))

-- the code's table t has the n rows rs: each claim is one computed test of the table
pub record Laid {K : Type 0} (letter : K → ℕ) (back : ℕ → K) (other : K) (rs : List (Row K)) (t : List ℕ) (n : ℕ) : Type 0 where
  pub many : length rs ≡ n
  pub walked : (w : List ℕ) → row_in n t w ≡ row_of rs w
  pub no_word : row_of rs [] ≡ n
  pub ahead : ahead_in n t ≡ true
  pub words : words_in n t ≡ spellings rs
  pub letters : letters_in n t ≡ letters_of letter rs
  pub told : (k : K) → back (letter k) ≡ k
  pub apart : distinct rs ≡ true

module _ {K : Type 0} {letter : K → ℕ} {back : ℕ → K} {other : K} {rs : List (Row K)} {t : List ℕ} {n : ℕ} (l : Laid letter back other rs t n) where
  -- what the walk of the table finds, and what a place with no word does
  pub row-found :
      (s u : List ℕ) (at : ℕ) (f : Found) →
      u ≡ t → f ≡ found_in n u (word_of (drop at s)) at → (f ≡ found_by rs (word_of (drop at s)) at) × Finds rs (word_of (drop at s)) f.row
  row-found s u at f e g =
      let h : f ≡ found_by rs (word_of (drop at s)) at = g ∙ rw (e, l.walked (word_of (drop at s)), l.many) refl in
      (h, rw h (finds-exactly rs l.apart (word_of (drop at s))))

  pub row-none :
      (s : List ℕ) (at : ℕ) → length s ≤ at → (record { row = n; end = at } ≡ found_by rs (word_of (drop at s)) at) × Finds rs (word_of (drop at s)) n
  row-none s at h =
      let e = word_none (drop at s) (past s at h) in
      let f : record { row = n; end = at } ≡ found_by rs [] at = rw (l.no_word, l.many, le-ltb n n (omega arith)) refl in
      (rw e f, rw e (subst (λ (i : ℕ). Finds rs [] i) l.no_word (finds-exactly rs l.apart [])))

  -- the kind in a row, by its letter
  pub kind-in : (u : List ℕ) (i : ℕ) → u ≡ t → i < n → back (get_or u (12 * i + 11) 0) ≡ kind_at other rs i
  kind-in u i e h =
      let a : get_or u (12 * i + 11) 0 ≡ letter (kind_at other rs i) =
      rw e (sym (letter-in n t i h) ∙ (ap (λ (ls : List ℕ). get_or ls i 0) l.letters ∙ letter-of letter other rs i (omega (arith, l.many)))) in
      rw a (l.told (kind_at other rs i))

  pub rows-ahead : (u : List ℕ) → u ≡ t → ahead_in n u ≡ true
  rows-ahead u e = rw e l.ahead

  pub kind-none : (i : ℕ) → n ≤ i → other ≡ kind_at other rs i
  kind-none i h = sym (kind-past letter other rs i (omega (arith, l.many)))

  -- the word in a row is its spelling
  pub spelled-in : (u : List ℕ) (i : ℕ) → u ≡ t → i < n → word_of (drop (12 * i) u) ≡ spelling_at rs i
  spelled-in u i e h =
      rw e (sym (word_in n t i h) ∙ (ap (λ (ws : List (List ℕ)). get_or ws i []) l.words ∙ spelling-at rs i))

  pub spelled_none : (i : ℕ) → n ≤ i → spelling_at rs i ≡ []
  spelled_none i h = spelling-past rs i (omega (arith, l.many))
