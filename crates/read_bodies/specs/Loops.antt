-- 01: "trim, hole a positive multiple of three (two numbers, a curv2 number)": the parts of a loop's line, and what the code finds of them.
use Rattle.std.specs.Prelude.{ℕ, ◌+◌, ◌*◌, ◌≤◌, ◌<◌, ◌≡◌, List, [], ◌∷◌, Bool, true, false, cond, ◌⊎◌, length, eqb, ℤ, Option as Answer, Some, None}
use Rattle.std.proofs.Math.Option.{none}
use Rattle.std.proofs.lemmas.List.Edits.{sets}
use Rattle.lists.specs.Lists.{flat}
use Rattle.text.specs.Words.{Word}
use Rattle.text.specs.declared.Parsed.{Parsed}
use Rattle.text.specs.Rest.{Rest, rest_at, push, EndMet}
use Rattle.digits.specs.Said.{Said, says, wrong}
use Rattle.decimals.specs.Number.{number_of}
use Rattle.references.specs.Reference.{reference_of}
use Rattle.model.specs.Model.{Part}
use Rattle.model.specs.Layout.{beginning, loop_row, span_row}
use Rattle.model.specs.Parse as parse
use Rattle.read_bodies.specs.declared.loops.PartMet.{PartMet}
use Rattle.read_bodies.specs.declared.loops.PartMet.TheVariants as part

abbrev pub loop_word : Bool → parse.Keyword
loop_word false = parse.trim
loop_word true = parse.hole

-- the parts at the front of a row of words, of so many curv2s: all up to the first three words that are no part
abbrev pub on_part : Said ℤ → Said ℤ → Said ℕ → List Part → List Part
on_part (says a) (says b) (says k) ps = record { from = a; to = b; curve = k } ∷ ps
on_part (says a) (says b) (wrong n) ps = []
on_part (says a) (wrong n) k ps = []
on_part (wrong n) b k ps = []

abbrev pub loop_parts : ℕ → List Word → List Part
loop_parts curves [] = []
loop_parts curves (a ∷ []) = []
loop_parts curves (a ∷ b ∷ []) = []
loop_parts curves (a ∷ b ∷ k ∷ ws) = on_part (number_of a.bytes) (number_of b.bytes) (reference_of curves k.bytes) (loop_parts curves ws)

unfoldable pub parts_at : ℕ → List ℕ → ℕ → List Part
parts_at curves s at = loop_parts curves (rest_at s at).words

-- ---- one step
pub record CurveMet (curves : ℕ) (s : List ℕ) (at k e : ℕ) : Type 0 where
  pub ahead : at < e
  pub to : e ≤ length s
  pub word : Word
  pub rest : rest_at s at ≡ push word (rest_at s e)
  pub reference : reference_of curves word.bytes ≡ says k

-- no word, or one that is no curv2
abbrev pub NotCurve : ℕ → List Word → Type 0
NotCurve curves [] = Unit
NotCurve curves (w ∷ ws) = (k : ℕ) → reference_of curves w.bytes ≡ says k → ⊥

abbrev pub CurveIs : ℕ → List ℕ → ℕ → Answer (Parsed ℕ) → Type 0
CurveIs curves s at (Some p) = CurveMet curves s at p.value p.next
CurveIs curves s at None = NotCurve curves (rest_at s at).words

pub record PartFound (curves : ℕ) (s : List ℕ) (at : ℕ) (p : Part) (e : ℕ) : Type 0 where
  pub ahead : at + 3 ≤ e
  pub to : e ≤ length s
  pub parts : parts_at curves s at ≡ p ∷ parts_at curves s e
  pub words : length (rest_at s at).words ≡ 3 + length (rest_at s e).words
  pub bad : (rest_at s at).bad ≡ (rest_at s e).bad
  pub next : (rest_at s at).next ≡ (rest_at s e).next

pub record NoPart (curves : ℕ) (s : List ℕ) (at : ℕ) : Type 0 where
  pub none_here : parts_at curves s at ≡ []
  pub word-left : (rest_at s at).bad ≡ none → 0 < length (rest_at s at).words

abbrev pub PartIs : ℕ → List ℕ → ℕ → Answer PartMet → Type 0
PartIs curves s at (Some (part.Part a b k e)) = PartFound curves s at (record { from = a; to = b; curve = k }) e
PartIs curves s at (Some (part.End q)) = EndMet s at q
PartIs curves s at None = NoPart curves s at

-- ---- the whole line
abbrev pub beginning_of : Bool → ℕ → ℕ
beginning_of hole n = cond (eqb n 0) (beginning hole) 0

-- a line that says the parts ps: one or more, each of three words, to its end
pub record LoopLine (curves : ℕ) (r : Rest) (ps : List Part) : Type 0 where
  pub parts : loop_parts curves r.words ≡ ps
  pub all : 3 * length ps ≡ length r.words
  pub some : 0 < length ps
  pub good : r.bad ≡ none

-- the loops l and spans z that take the parts after the used ones
pub record LoopTaken (s : List ℕ) (at : ℕ) (hole : Bool) (curves used : ℕ) (l m : List ℕ) (z y : List ℤ) (n q : ℕ) : Type 0 where
  pub line : LoopLine curves (rest_at s at) (parts_at curves s at)
  pub count : n ≡ length (parts_at curves s at)
  pub next : q ≡ (rest_at s at).next
  pub to : q ≤ length s
  pub room : 2 * (used + n) ≤ length l
  pub room-spans : 2 * (used + n) ≤ length z
  pub stored : m ≡ sets l (2 * used) (loop_row (record { hole = hole; parts = parts_at curves s at }))
  pub stored-spans : y ≡ sets z (2 * used) (flat span_row (parts_at curves s at))

pub record LoopLeft (s : List ℕ) (at : ℕ) (curves used : ℕ) (l m : List ℕ) (z y : List ℤ) : Type 0 where
  pub same : length m ≡ length l
  pub same-spans : length y ≡ length z
  pub short : (ps : List Part) → LoopLine curves (rest_at s at) ps → (length l < 2 * (used + length ps)) ⊎ (length z < 2 * (used + length ps))

abbrev pub LoopIs : List ℕ → ℕ → Bool → ℕ → ℕ → List ℕ → List ℕ → List ℤ → List ℤ → Answer (Parsed ℕ) → Type 0
LoopIs s at hole curves used l m z y (Some p) = LoopTaken s at hole curves used l m z y p.value p.next
LoopIs s at hole curves used l m z y None = LoopLeft s at curves used l m z y
