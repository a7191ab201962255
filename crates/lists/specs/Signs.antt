-- Must be believed: a promise reaches every definition of this file.
-- A whole number from its size and its sign.
use Rattle.std.specs.Prelude.{ℕ, Bool, true, false, ℤ, pos, neg_ℤ}

-- m, or -m where the number is below zero
abbrev pub with_sign : Bool → ℕ → ℤ
with_sign true m = neg_ℤ (pos m)
with_sign false m = pos m
