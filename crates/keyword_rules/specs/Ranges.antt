-- The words of a range, by the row of rules.
use Rattle.std.specs.Prelude.{ℕ}
use Rattle.statements.specs.declared.rules.Forms.{Forms}
use Rattle.statements.specs.declared.rules.Forms.TheVariants as forms

-- "curv 4 or more (range, controls)": the words of the range
abbrev pub range_in : Forms → ℕ
range_in (forms.All f) = 0
range_in (forms.Range r f) = r
range_in forms.Parameters = 0
range_in forms.Loop = 0
range_in forms.Type = 0
