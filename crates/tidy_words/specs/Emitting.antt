-- What a writer of some part of the tidy text does with the lent buffer. "16 at place 0 .. if its text passes the lent buffer or 16,777,216 bytes" (01, "Numbers of refusal").
use Rattle.std.specs.Prelude.{ℕ, ◌+◌, ◌≤◌, min, ◌≡◌, List, [], ◌∷◌, cond, leb, length}
use Rattle.std.proofs.lemmas.List.Edits.{sets}
use Rattle.lists.specs.Lists.{flat}

-- what a writer answers, the place after what it wrote, with the buffer's final contents
pub record Emission : Type 0 where
  pub next : ℕ
  pub out : List ℕ

abbrev pub emission : ℕ → List ℕ → Emission
emission r m = record { next = r; out = m }

-- one word w from the place `at` on, in the buffer l: 16,777,217 for every place past the longest text; the buffer holds w where all of it ends within
-- the buffer and within the longest text, and else is as it was
unfoldable pub emitted_whole : ℕ → List ℕ → List ℕ → Emission
emitted_whole at w l =
    emission (min (at + length w) 16777217) (cond (leb (at + length w) (min (length l) 16777216)) (sets l at w) l)

-- a space, and then the word
abbrev after_space : List ℕ → Emission → Emission
after_space w e = emitted_whole e.next w e.out

unfoldable pub emitted_spaced : ℕ → List ℕ → List ℕ → Emission
emitted_spaced at w l = after_space w (emitted_whole at (32 ∷ []) l)

-- More than one word: w is emitted from the place `at` on, into the buffer l, which holds m after it: r is the place after w, 16,777,217 for every place past the longest
-- text. Where w ends within the buffer and within the longest text the buffer holds it; else only its length is kept, since the words before the first that
-- has no room stand in it then.
pub record Emitted (at : ℕ) (w l m : List ℕ) (r : ℕ) : Type 0 where
  pub ends : r ≡ min (at + length w) 16777217
  pub same : length m ≡ length l
  pub stored : at + length w ≤ length l → at + length w ≤ 16777216 → m ≡ sets l at w

-- "One space between words": each of these with a space before it
abbrev pub spaced : List (List ℕ) → List ℕ
spaced ws = flat (λ (w : List ℕ). 32 ∷ w) ws
