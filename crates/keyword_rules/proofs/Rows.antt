-- The row of a statement, from what each of its numbers is made of.
use Prim.Native.Nat.{ℕ}
use mathlib.Core.Path.{◌≡◌, refl, ap}
use mathlib.Core.List.{List}
use lib.IntN.{ℤ}
use lib.ListN.{drop}
use Rattle.text.specs.Words.{word_of}
use Rattle.keywords.specs.Keywords.{statement_of}
use Rattle.keywords.specs.Lookup.{keyword_at}
use Rattle.keywords.specs.declared.Keyword.{Keyword}
use Rattle.statements.specs.declared.Carried.{Carried}
use Rattle.statements.specs.Rules.{rules_of, form_by, fewest_by, most_by}
use Rattle.statements.specs.declared.rules.WordForm.{WordForm}
use Rattle.statements.specs.declared.rules.Rules.{Rules}
use Rattle.keyword_rules.specs.declared.RuleRow.{RuleRow}
use Rattle.keyword_rules.specs.declared.Limits.{Limits}
use Rattle.keyword_rules.specs.Asked.{standing_number, multiple_of, form_number, limits_of, rule_row_of}

pub statement-at : (s : List ℕ) (at : ℕ) (k : Keyword) → k ≡ keyword_at s at → k.statement ≡ statement_of (word_of (drop at s))
unfolding keyword_at
statement-at s at k e = ap (λ (k : Keyword). k.statement) e

pub row-eq : (k : Carried) (n i : ℕ) (r : Rules) (f : WordForm) (l : Limits) (x least most multiple y : ℕ) (low high : ℤ)
    → r ≡ rules_of k → f ≡ form_by r.forms n i → l ≡ limits_of f
    → x ≡ standing_number r.standing → least ≡ fewest_by r.count → most ≡ most_by r.count 16777216 → multiple ≡ multiple_of r.count → y ≡ form_number f → low ≡ l.low → high ≡ l.high
    → ◌≡◌ {A = RuleRow} (record { standing = x; least = least; most = most; multiple = multiple; form = y; low = low; high = high }) (rule_row_of k n i)
unfolding rule_row_of
row-eq k n i r f l x least most multiple y low high a c e g b d m h o q = rw (o, q, g, h, b, d, m, e, c, a) refl
