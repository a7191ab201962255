-- What is known of a corner that was read straight ahead.
use Rattle.std.specs.Prelude.{ℕ, ◌≡◌, Option, Some, None}
use Prim.{Unit}
use Rattle.text.specs.declared.Parsed.{Parsed}
use Rattle.references.specs.Corner.{Corner}
use Rattle.digits.specs.Said.{Said, says}

-- it is what the word says; of any other nothing is known
abbrev pub AheadIs : Said (Corner × ℕ) → Option (Parsed Corner) → Type 0
AheadIs said (Some p) = says (p.value, p.next) ≡ said
AheadIs said None = Unit {0}
