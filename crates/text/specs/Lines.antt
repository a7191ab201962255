-- Must be believed: a promise reaches every definition of this file.
-- 01, "Bytes, lines, words": where the joined lines of a text begin and end. A byte that is not allowed plays no part in it.
use Rattle.std.specs.Prelude.{ℕ, zero, suc, ◌+◌, List, [], ◌∷◌, cond, length, take, drop, eqb}
use Rattle.text.specs.Bytes.{is_blank, is_word, line_end}

-- where a byte stands: between words, in a word, in a comment, in the line end after a backslash
pub data Mode : Type 0 where
  gap word comment join : Mode

-- what the byte does: its line goes on, or its line's ending begins with it, or it is not allowed
pub data Look : Type 0 where
  goes : Mode → Look
  ends : Look
  refused : Look

-- the byte b between words or in a word, with the bytes bs after it: "A backslash right before LF or CR LF joins the next line and counts as a blank.
-- Other backslashes and other CRs are refused"
abbrev pub plain_byte : ℕ → List ℕ → Look
plain_byte b bs =
    cond (is_word b) (goes word)
    (cond (is_blank b) (goes gap)
    (cond (line_end (b ∷ bs)) ends
    (cond (eqb b 92) (cond (line_end bs) (goes join) refused)
    refused)))

-- "A # at the start of a word opens a comment to the end of the physical line; in a comment every byte but LF is allowed and a backslash joins nothing."
abbrev pub look : Mode → ℕ → List ℕ → Look
look gap b bs = cond (eqb b 35) (goes comment) (plain_byte b bs)
look word b bs = plain_byte b bs
look comment b bs = cond (line_end (b ∷ bs)) ends (goes comment)
look join b bs = cond (eqb b 10) (goes gap) (goes join)

abbrev pub onward : {A : Type 0} → Look → (Mode → A) → A → A → A
onward (goes n) f e r = f n
onward ends f e r = e
onward refused f e r = r

-- how many bytes the joined line has that l begins with, its ending not counted; a byte that is not allowed continues the word it stands in
abbrev pub extent : Mode → List ℕ → ℕ
extent m [] = 0
extent m (b ∷ bs) = onward (look m b bs) (λ n. suc (extent n bs)) 0 (suc (extent word bs))

-- "A line ends at LF or CR LF, or with the text": how many bytes the ending has that l begins with
abbrev pub ending : List ℕ → ℕ
ending [] = 0
ending (b ∷ bs) = cond (eqb b 10) 1 2

-- the line that l begins with, and how far it is from there to the next
abbrev pub line_of : List ℕ → List ℕ
line_of l = take (extent gap l) l

abbrev pub stride_of : List ℕ → ℕ
stride_of l = extent gap l + ending (drop (extent gap l) l)

pub record Line : Type 0 where
  pub place : ℕ
  pub bytes : List ℕ

-- the lines of l, which stands at place p: at most n of them
abbrev pub lines_from : ℕ → ℕ → List ℕ → List Line
lines_from zero p l = []
lines_from (suc n) p [] = []
lines_from (suc n) p (b ∷ bs) =
    record { place = p; bytes = line_of (b ∷ bs) } ∷ lines_from n (p + stride_of (b ∷ bs)) (drop (stride_of (b ∷ bs)) (b ∷ bs))

-- the joined lines of a text; each takes a byte or more
unfoldable pub lines_of : List ℕ → List Line
lines_of t = lines_from (length t) 0 t
