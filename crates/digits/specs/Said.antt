-- Must be believed: a promise reaches every definition of this file.
-- What a word says as one of 01's forms: a value, or the number of the refusal.
use Rattle.std.specs.Prelude.{ℕ, Bool, cond}

pub data Said (A : Type 0) : Type 0 where
  says : A → Said A
  wrong : ℕ → Said A

-- the value where the test holds, else refusal n
abbrev pub must : {A : Type 0} → Bool → ℕ → Said A → Said A
must t n x = cond t x (wrong n)
