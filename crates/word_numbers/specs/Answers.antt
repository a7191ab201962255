-- What is known of a number that was read straight ahead.
use Rattle.std.specs.Prelude.{ℕ, ◌*◌, ◌≤◌, ◌≡◌}
use Prim.{Unit}
use Rattle.digits.specs.Said.{Said, says}
use Rattle.word_numbers.specs.declared.Exact.{Exact}
use Rattle.word_numbers.specs.declared.Exact.TheVariants as exact

-- it is what the word says, in ten-millionths, and ends by `far`; of a mantissa before e or E `scaled` holds; of any other nothing is known
abbrev pub ExactIs : ℕ → Said (ℕ × ℕ) → (ℕ → ℕ → Type 0) → Exact → Type 0
ExactIs far said scaled (exact.Of m e) = (says (10 * m, e) ≡ said) × (e ≤ far)
ExactIs far said scaled (exact.Scaled m e) = scaled m e
ExactIs far said scaled exact.Other = Unit {0}
