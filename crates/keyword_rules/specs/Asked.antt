-- Must be believed: a promise reaches every definition of this file.
-- A row of the one table of rules as numbers: what each case of its enums is as numbers.
use Rattle.std.specs.Prelude.{ℕ, cond, eqb, ℤ, pos, neg_ℤ}
use Rattle.statements.specs.declared.Statement.{Statement}
use Rattle.statements.specs.declared.Statement.TheVariants as statement
use Rattle.statements.specs.declared.Carried.{Carried}
use Rattle.statements.specs.declared.Carried.TheVariants.{PassedOver}
use Rattle.statements.specs.Rules.{rules_of, form_by, fewest_by, most_by}
use Rattle.statements.specs.declared.rules.Parts.{Parts}
use Rattle.statements.specs.declared.rules.WordForm.{WordForm}
use Rattle.statements.specs.declared.rules.WordForm.TheVariants as form
use Rattle.statements.specs.declared.rules.Standing.{Standing}
use Rattle.statements.specs.declared.rules.Standing.TheVariants as standing
use Rattle.statements.specs.declared.rules.Count.{Count}
use Rattle.statements.specs.declared.rules.Count.TheVariants as count
use Rattle.keyword_rules.specs.declared.RuleRow.{RuleRow}
use Rattle.keyword_rules.specs.declared.Limits.{Limits}

-- outside a body, in one, in a surface's, as a parm
abbrev pub standing_number : Standing → ℕ
standing_number standing.Outside = 0
standing_number standing.Body = 1
standing_number standing.Surface = 2
standing_number standing.Parameters = 3

-- "trim, hole a positive multiple of three"
abbrev pub multiple_of : Count → ℕ
multiple_of count.Any = 1
multiple_of (count.AtLeast n) = 1
multiple_of (count.Within a b) = 1
multiple_of (count.Exactly n) = 1
multiple_of count.Threes = 3

-- "p and curv are v; l is v or v/vt; f and surf are v, v/vt, v//vn or v/vt/vn"
abbrev pub corner_number : Parts → ℕ
corner_number p = cond p.vn 4 (cond p.vt 3 2)

abbrev pub form_number : WordForm → ℕ
form_number form.Anything = 0
form_number form.Number = 1
form_number (form.Corner p) = corner_number p
form_number form.Control = 5
form_number form.Curve = 6
form_number form.Direction = 7
form_number form.Type = 8
form_number form.Rational = 9
form_number form.Degree = 10
form_number form.Smoothing = 11
form_number form.Name = 12

-- ---- "Beyond plus or minus 2,000,000,000 millionths"; "1 to 20"; "at most 65,535"; "1 to 255 bytes"; zeros where a form has no limits of its own
abbrev pub limits_by : ℤ → ℤ → Limits
limits_by low high = record { low = low; high = high }

abbrev pub limits_of : WordForm → Limits
limits_of f =
    cond (eqb (form_number f) (form_number form.Number)) (limits_by (neg_ℤ (pos 2000000000)) (pos 2000000000))
    (cond (eqb (form_number f) (form_number form.Degree)) (limits_by (pos 1) (pos 20))
    (cond (eqb (form_number f) (form_number form.Smoothing)) (limits_by (pos 0) (pos 65535))
    (cond (eqb (form_number f) (form_number form.Name)) (limits_by (pos 1) (pos 255)) (limits_by (pos 0) (pos 0)))))

-- the statement whose rules a keyword's line has; a line that is refused by its keyword has the rules of one that is passed over
abbrev pub carried_of : Statement → Carried
carried_of (statement.Carried k) = k
carried_of statement.Refused = PassedOver
carried_of statement.Unknown = PassedOver

-- the statement's row, with the form of word i of n; where a count has no end, as many words as a text can have
unfoldable pub rule_row_of : Carried → ℕ → ℕ → RuleRow
rule_row_of k n i =
    record {
      standing = standing_number (rules_of k).standing;
      least = fewest_by (rules_of k).count;
      most = most_by (rules_of k).count 16777216;
      multiple = multiple_of (rules_of k).count;
      form = form_number (form_by (rules_of k).forms n i);
      low = (limits_of (form_by (rules_of k).forms n i)).low;
      high = (limits_of (form_by (rules_of k).forms n i)).high;
    }
