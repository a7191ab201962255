-- What is written is read back: a token and what is no word byte after it make one word; so word by word, and line by line.
use Prim.Native.Nat.{ℕ, suc, ◌+◌, ◌<◌}
use mathlib.Core.Path.{◌≡◌, refl, ap, ap₂, ◌∙◌}
use mathlib.Core.List.{List, [], ◌∷◌, ◌++◌, map, append_assoc}
use mathlib.Core.Bool.{true}
use mathlib.Core.Option.{Option, none}
use lib.ListN.{length, drop, length-append}
use lib.Seq.{drop-append_seam}
use native.Mathlib.Omega.{arith}
use Rattle.lists.specs.Lists.{all}
use Rattle.lists.proofs.Tests.{never, and_left, and_right}
use Rattle.text.specs.Bytes.{is_word}
use Rattle.text.specs.Lines.{gap, word, line_of, stride_of, lines_of}
use Rattle.text.specs.Words.{Word, word_of, words, refused_at}
use Rattle.text.specs.Rest.{Rest, push}
use Rattle.text.specs.Written.{written_after, written_line, written_lines, bytes_of}
use Rattle.text.specs.Tokens.{is_token, are_lines, WrittenStatement, said_by, saying_of, starts_word}
use Rattle.text.proofs.Cut.{words-cut, refused-cut}
use Rattle.text.proofs.Walk.{rest_in, rest_goes, rest-opens, rest-ends, past_word, word-look, starts-word}
use Rattle.text.proofs.LineByLine.{lines_in, lines_cons}

-- ---- one word
word-front : (t : List ℕ) → word_of t ≡ [] → (w : List ℕ) → all is_word w ≡ true → word_of (w ++ t) ≡ w
word-front t n [] h = n
word-front t n (b ∷ bs) h =
    rw (and_left (is_word b) (all is_word bs) h) (ap (λ (r : List ℕ). b ∷ r) (word-front t n bs (and_right (is_word b) (all is_word bs) h)))

token-front : (p : ℕ) (w t : List ℕ) → is_token w ≡ true → word_of t ≡ []
    → rest_in gap p (w ++ t) ≡ push (record { place = p; bytes = w }) (rest_in gap (p + length w) t)
token-front p [] t h n = never h
token-front p (b ∷ bs) t h n =
    let a : starts_word b ≡ true = and_left (starts_word b) (all is_word bs) h in
    let u : is_word b ≡ true = starts-word b a in
    let f : word_of (bs ++ t) ≡ bs = word-front t n bs (and_right (starts_word b) (all is_word bs) h) in
    let e : suc p + length bs ≡ p + suc (length bs) = omega arith in
    let g : word_of (b ∷ (bs ++ t)) ≡ b ∷ bs = rw u (ap (λ (r : List ℕ). b ∷ r) f) in
    rest-opens gap p b (bs ++ t) word (word-look b (bs ++ t) a) refl
    ∙ ap (λ (l : List ℕ). push (record { place = p; bytes = l }) (rest_in word (suc p) (bs ++ t))) g
    ∙ ap (push (record { place = p; bytes = b ∷ bs }))
    (past_word (suc p) (bs ++ t)
    ∙ ap (λ (l : List ℕ). rest_in gap (suc p + length l) (drop (length l) (bs ++ t))) f
    ∙ ap (rest_in gap (suc p + length bs)) (drop-append_seam bs t)
    ∙ ap (λ (q : ℕ). rest_in gap q t) e)

-- ---- one line: its words where they were put
abbrev pub placed_after : ℕ → List (List ℕ) → List Word
placed_after p [] = []
placed_after p (w ∷ ws) = record { place = suc p; bytes = w } ∷ placed_after (suc p + length w) ws

abbrev pub placed : ℕ → List (List ℕ) → List Word
placed p [] = []
placed p (w ∷ ws) = record { place = p; bytes = w } ∷ placed_after (p + length w) ws

after-stops : (ws : List (List ℕ)) (t : List ℕ) → word_of (written_after ws ++ t) ≡ []
after-stops [] t = refl
after-stops (w ∷ ws) t = refl

after-back : (p : ℕ) (ws : List (List ℕ)) (t : List ℕ) → all is_token ws ≡ true
    → rest_in gap p (written_after ws ++ t) ≡ record { words = placed_after p ws; bad = none; next = p + length (written_after ws) }
after-back p [] t h = rest-ends gap p 10 t refl
after-back p (w ∷ ws) t h =
    let l : List ℕ = written_after ws in
    let a : (w ++ written_after ws) ++ t ≡ w ++ (written_after ws ++ t) = append_assoc w (written_after ws) t in
    let z = length-append w (written_after ws) in
    let e : suc p + length w + length (written_after ws) ≡ p + suc (length (w ++ written_after ws)) = omega arith in
    rest_goes gap p 32 ((w ++ written_after ws) ++ t) gap refl refl
    ∙ ap (rest_in gap (suc p)) a
    ∙ token-front (suc p) w (written_after ws ++ t) (and_left (is_token w) (all is_token ws) h) (after-stops ws t)
    ∙ ap (push (record { place = suc p; bytes = w })) (after-back (suc p + length w) ws t (and_right (is_token w) (all is_token ws) h))
    ∙ ap (λ (q : ℕ). record { words = record { place = suc p; bytes = w } ∷ placed_after (suc p + length w) ws; bad = none; next = q }) e

line-back : (p : ℕ) (ws : List (List ℕ)) (t : List ℕ) → all is_token ws ≡ true
    → rest_in gap p (written_line ws ++ t) ≡ record { words = placed p ws; bad = none; next = p + length (written_line ws) }
line-back p [] t h = rest-ends gap p 10 t refl
line-back p (w ∷ ws) t h =
    let a : (w ++ written_after ws) ++ t ≡ w ++ (written_after ws ++ t) = append_assoc w (written_after ws) t in
    let z = length-append w (written_after ws) in
    let e : p + length w + length (written_after ws) ≡ p + length (w ++ written_after ws) = omega arith in
    ap (rest_in gap p) a
    ∙ token-front p w (written_after ws ++ t) (and_left (is_token w) (all is_token ws) h) (after-stops ws t)
    ∙ ap (push (record { place = p; bytes = w })) (after-back (p + length w) ws t (and_right (is_token w) (all is_token ws) h))
    ∙ ap (λ (q : ℕ). record { words = record { place = p; bytes = w } ∷ placed_after (p + length w) ws; bad = none; next = q }) e

after-bytes : (p : ℕ) (ws : List (List ℕ)) → bytes_of (placed_after p ws) ≡ ws
after-bytes p [] = refl
after-bytes p (w ∷ ws) = ap (λ (r : List (List ℕ)). w ∷ r) (after-bytes (suc p + length w) ws)

pub placed-bytes : (p : ℕ) (ws : List (List ℕ)) → bytes_of (placed p ws) ≡ ws
placed-bytes p [] = refl
placed-bytes p (w ∷ ws) = ap (λ (r : List (List ℕ)). w ∷ r) (after-bytes (p + length w) ws)

-- ---- line by line
some_byte : (ws : List (List ℕ)) (t : List ℕ) → 0 < length (written_line ws ++ t)
some_byte [] t = omega arith
some_byte (w ∷ ws) t =
    let x = length-append (w ++ written_after ws) t in let y = length-append w (written_after ws) in let z = after-some ws in omega arith
  where
    after-some : (ws : List (List ℕ)) → 0 < length (written_after ws)
    after-some [] = omega arith
    after-some (w ∷ ws) = omega arith

module _ (p : ℕ) (ws : List (List ℕ)) (t : List ℕ) (h : all is_token ws ≡ true) where
  abbrev bytes : List ℕ
  bytes = written_line ws ++ t

  stride_back : stride_of bytes ≡ length (written_line ws)
  stride_back = let z = ap (λ (r : Rest). r.next) (line-back p ws t h) in omega arith

  said-back : said_by (record { place = p; bytes = line_of bytes }) ≡ saying_of ws
  said-back =
      let a : words gap p (line_of bytes) ≡ placed p ws = words-cut gap p bytes ∙ ap (λ (r : Rest). r.words) (line-back p ws t h) in
      let b : refused_at gap p (line_of bytes) ≡ none = refused-cut gap p bytes ∙ ap (λ (r : Rest). r.bad) (line-back p ws t h) in
      ap₂ (λ (x : List (List ℕ)) (y : Option ℕ). record { texts = x; bad = y }) (ap bytes_of a ∙ placed-bytes p ws) b

  -- the first of the lines, and the others
  pub written_on : lines_in p bytes ≡ record { place = p; bytes = line_of bytes } ∷ lines_in (p + length (written_line ws)) t
  written_on =
      lines_cons p bytes (some_byte ws t)
      ∙ ap (λ (k : ℕ). record { place = p; bytes = line_of bytes } ∷ lines_in (p + k) (drop k bytes)) stride_back
      ∙ ap (λ (l : List ℕ). record { place = p; bytes = line_of bytes } ∷ lines_in (p + length (written_line ws)) l) (drop-append_seam (written_line ws) t)

lines-back : (p : ℕ) (ls : List (List (List ℕ))) → are_lines ls ≡ true → map said_by (lines_in p (written_lines ls)) ≡ map saying_of ls
lines-back p [] h = refl
lines-back p (ws ∷ ls) h =
    let a : all is_token ws ≡ true = and_left (all is_token ws) (are_lines ls) h in
    ap (map said_by) (written_on p ws (written_lines ls) a)
    ∙ ap₂ (λ (x : WrittenStatement) (xs : List WrittenStatement). x ∷ xs) (said-back p ws (written_lines ls) a)
    (lines-back (p + length (written_line ws)) ls (and_right (all is_token ws) (are_lines ls) h))

-- a text of written lines says, line by line, their words, and has no byte that is not allowed
pub written_back : (ls : List (List (List ℕ))) → are_lines ls ≡ true → map said_by (lines_of (written_lines ls)) ≡ map saying_of ls
unfolding lines_of
written_back ls h = lines-back 0 ls h
