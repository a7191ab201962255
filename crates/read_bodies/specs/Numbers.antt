-- The numbers of a line from a place between words on, and what the code finds of them.
use Rattle.std.specs.Prelude.{ℕ, ◌≤◌, ◌<◌, ◌≡◌, List, [], ◌∷◌, length, ℤ, Option as Answer, Some, None, Result, Ok, Err}
use Rattle.std.proofs.Math.Option.{none}
use Rattle.text.specs.Words.{Word}
use Rattle.text.specs.declared.Parsed.{Parsed}
use Rattle.text.specs.Rest.{rest_at, push, EndMet}
use Rattle.digits.specs.Said.{Said, says, wrong}
use Rattle.decimals.specs.Number.{number_of}
use Rattle.read_bodies.specs.declared.numbers.NextNumber.{NextNumber}
use Rattle.read_bodies.specs.declared.numbers.NextNumber.TheVariants.{Number, End}

-- the numbers at the front of a row of words: all up to the first word that is no number
abbrev pub number_before : Said ℤ → List ℤ → List ℤ
number_before (says z) zs = z ∷ zs
number_before (wrong n) zs = []

abbrev pub leading : List Word → List ℤ
leading [] = []
leading (w ∷ ws) = number_before (number_of w.bytes) (leading ws)

unfoldable pub numbers_at : List ℕ → ℕ → List ℤ
numbers_at s at = leading (rest_at s at).words

-- ---- what `next_number` finds
pub record NumberMet (s : List ℕ) (at : ℕ) (z : ℤ) (e : ℕ) : Type 0 where
  pub ahead : at < e
  pub to : e ≤ length s
  pub word : Word
  pub rest : rest_at s at ≡ push word (rest_at s e)
  pub number : number_of word.bytes ≡ says z

-- a byte that is not allowed, or a word that is no number
pub record NoNumber (s : List ℕ) (at : ℕ) : Type 0 where
  pub none_here : numbers_at s at ≡ []
  pub word-left : (rest_at s at).bad ≡ none → 0 < length (rest_at s at).words

abbrev pub NumberStepIs : List ℕ → ℕ → Answer NextNumber → Type 0
NumberStepIs s at (Some (Number p)) = NumberMet s at p.value p.next
NumberStepIs s at (Some (End q)) = EndMet s at q
NumberStepIs s at None = NoNumber s at

-- ---- what `count_numbers` finds: all words are numbers and the line ends, or not
pub record AllNumbers (s : List ℕ) (at n q : ℕ) : Type 0 where
  pub count : n ≡ length (numbers_at s at)
  pub all : n ≡ length (rest_at s at).words
  pub good : (rest_at s at).bad ≡ none
  pub next : q ≡ (rest_at s at).next
  pub to : q ≤ length s
  pub small : n ≤ length s

pub record NotAll (s : List ℕ) (at n : ℕ) : Type 0 where
  pub count : n ≡ length (numbers_at s at)
  pub fewer : (rest_at s at).bad ≡ none → n < length (rest_at s at).words
  pub small : n ≤ length s

abbrev pub CountedIs : List ℕ → ℕ → Result (Parsed ℕ) ℕ → Type 0
CountedIs s at (Ok p) = AllNumbers s at p.value p.next
CountedIs s at (Err n) = NotAll s at n
