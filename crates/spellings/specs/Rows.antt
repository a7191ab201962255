-- Must be believed: a promise reaches every definition of this file.
-- Tables of spellings: what a word finds in one, and how the code lays one out.
use Rattle.std.specs.Prelude.{ℕ, zero, suc, ◌+◌, ◌≤◌, ◌<◌, ◌≡◌, ◌↔◌, List, [], ◌∷◌, cond, length, eqb, leb, ltb}
use Prim.Native.Char.{code}
use Prim.Native.String.{String, [] as empty, ◌∷◌ as ◌then◌}
use Rattle.lists.specs.Lists.{same}
use Rattle.spellings.specs.declared.Found.{Found}

-- a spelling's bytes
abbrev pub bytes : String → List ℕ
bytes empty = []
bytes (c then cs) = code c ∷ bytes cs

pub record Row (K : Type 0) : Type 0 where
  pub spelling : String
  pub kind : K

abbrev pub spells : {K : Type 0} → String → K → Row K
spells s k = record { spelling = s; kind = k }

-- the number of the row that the word w finds, from 0: the first that is spelled so, byte by byte; where none is, how many rows there are
abbrev pub row_of : {K : Type 0} → List (Row K) → List ℕ → ℕ
row_of [] w = 0
row_of (r ∷ rs) w = cond (same w (bytes r.spelling)) 0 (suc (row_of rs w))

-- the spelling of row i
abbrev pub spelling_at : {K : Type 0} → List (Row K) → ℕ → List ℕ
spelling_at [] i = []
spelling_at (r ∷ rs) zero = bytes r.spelling
spelling_at (r ∷ rs) (suc i) = spelling_at rs i

-- what is written of w into n bytes: all of it, or nothing
abbrev pub fitting : ℕ → List ℕ → List ℕ
fitting n w = cond (leb (length w) n) w []

-- the kind of row i; other where there is none
abbrev pub kind_at : {K : Type 0} → K → List (Row K) → ℕ → K
kind_at other [] i = other
kind_at other (r ∷ rs) zero = r.kind
kind_at other (r ∷ rs) (suc i) = kind_at other rs i

-- 02, Q-4, of the number n that a lookup answers for the word w: it finds "a row exactly when it is that row's spelling", and none exactly when it is no
-- row's; that "no two rows share one" follows, since n is one number
pub record Finds {K : Type 0} (rs : List (Row K)) (w : List ℕ) (n : ℕ) : Type 0 where
  pub within : n ≤ length rs
  pub exactly : (i : ℕ) → i < length rs → (n ≡ i) ↔ (w ≡ spelling_at rs i)
  pub nothing : (n ≡ length rs) ↔ ((i : ℕ) → i < length rs → w ≡ spelling_at rs i → ⊥)

-- what the word w at the place at finds: its row, and where the word ends; where it finds none, its place stands for its end
abbrev pub found_by : {K : Type 0} → List (Row K) → List ℕ → ℕ → Found
found_by rs w at = record { row = row_of rs w; end = cond (ltb (row_of rs w) (length rs)) (at + length w) at }

-- the bytes of the first row of the kind whose letter is k
abbrev pub spelling_of : {K : Type 0} → (K → ℕ) → List (Row K) → ℕ → List ℕ
spelling_of letter [] k = []
spelling_of letter (r ∷ rs) k = cond (eqb k (letter r.kind)) (bytes r.spelling) (spelling_of letter rs k)
