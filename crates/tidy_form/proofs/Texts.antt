-- A text of written lines is read as those lines; the words of a line are tokens; a text has no more lines than bytes.
use Prim.Native.Nat.{ℕ, zero, suc, ◌+◌, ◌≤◌}
use mathlib.Core.Path.{◌≡◌, refl, sym, ap, ◌∙◌}
use mathlib.Core.List.{List, [], ◌∷◌, ◌++◌, map}
use mathlib.Core.Bool.{true, false}
use mathlib.Core.Option.{none}
use lib.ListN.{length, drop, replicate, length-replicate}
use lib.Seq.{drop_at}
use native.Mathlib.Omega.{arith}
use Rattle.lists.specs.Lists.{all}
use Rattle.lists.proofs.Tests.{and_left, and_right, and_both}
use Rattle.text.specs.Lines.{Line, gap, line_of, stride_of, lines_from, lines_of}
use Rattle.text.specs.Words.{Word, words, words_of, bad_of}
use Rattle.text.specs.Rest.{rest_at}
use Rattle.text.specs.Written.{written_lines, bytes_of}
use Rattle.text.specs.Tokens.{is_token, are_lines, WrittenStatement, said_by, saying_of}
use Rattle.text.proofs.Cut.{words-cut}
use Rattle.text.proofs.Tokens.{stands, words-stand, word-token}
use Rattle.text.proofs.ReadBack.{written_back}

all-tokens : (s : List ℕ) (ws : List Word) → all (stands s) ws ≡ true → all is_token (bytes_of ws) ≡ true
all-tokens s [] h = refl
all-tokens s (w ∷ ws) h = and_both (word-token s w (and_left (stands s w) (all (stands s) ws) h)) (all-tokens s ws (and_right (stands s w) (all (stands s) ws) h))

-- a line is the rest of a text, where it stands
pub words-tokens : (l : Line) → all is_token (bytes_of (words_of l)) ≡ true
unfolding rest_at
words-tokens l =
    let s = replicate l.place 0 ++ l.bytes in
    let d : drop l.place s ≡ l.bytes = drop_at (replicate l.place 0) l.bytes l.place (length-replicate l.place 0) in
    let e : words gap l.place (line_of (drop l.place s)) ≡ words_of l = words-cut gap l.place (drop l.place s) ∙ ap (words gap l.place) d in
    all-tokens s (words_of l) (ap (all (stands s)) (sym e) ∙ words-stand s l.place)

few-lines : (n p : ℕ) (l : List ℕ) → length (lines_from n p l) ≤ n
few-lines zero p l = omega arith
few-lines (suc n) p [] = omega arith
few-lines (suc n) p (b ∷ bs) = let i = few-lines n (p + stride_of (b ∷ bs)) (drop (stride_of (b ∷ bs)) (b ∷ bs)) in omega arith

pub lines-length : (t : List ℕ) → length (lines_of t) ≤ length t
unfolding lines_of
lines-length t = few-lines (length t) 0 t

-- the lines ls say the words wss
abbrev pub Say : List Line → List (List (List ℕ)) → Type 0
Say [] [] = Unit {0}
Say [] (ws ∷ wss) = false ≡ true
Say (l ∷ ls) [] = false ≡ true
Say (l ∷ ls) (ws ∷ wss) = (bad_of l ≡ none) × (bytes_of (words_of l) ≡ ws) × Say ls wss

say : (ls : List Line) (wss : List (List (List ℕ))) → map said_by ls ≡ map saying_of wss → Say ls wss
say [] [] h = tt
say [] (ws ∷ wss) h = absurd (let z : ◌≡◌ {A = ℕ} 0 1 = cc in omega arith)
say (l ∷ ls) [] h = absurd (let z : ◌≡◌ {A = ℕ} 0 1 = cc in omega arith)
say (l ∷ ls) (ws ∷ wss) h =
    let a : said_by l ≡ saying_of ws = cc in
    let b : map said_by ls ≡ map saying_of wss = cc in
    (ap (λ (s : WrittenStatement). s.bad) a, ap (λ (s : WrittenStatement). s.texts) a, say ls wss b)

pub text-back : (wss : List (List (List ℕ))) → are_lines wss ≡ true → Say (lines_of (written_lines wss)) wss
text-back wss h = say (lines_of (written_lines wss)) wss (written_back wss h)
