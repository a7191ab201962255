-- The limits that a row of rules gives are those by which the forms refuse with 7, and a name with 6.
use Prim.Native.Nat.{ℕ}
use mathlib.Core.Path.{◌≡◌, refl, sym, ap, ◌∙◌}
use mathlib.Core.List.{List}
use mathlib.Core.Bool.{Bool, true, false, cond, ◌&&◌}
use lib.ListN.{length}
use lib.Dec.{leb}
use lib.IntN.{nat_abs, pos}
use Rattle.lists.specs.Lists.{same}
use Rattle.keywords.specs.declared.Argument.TheVariants.{Off}
use Rattle.keywords.specs.Arguments.{argument_bytes}
use Rattle.digits.specs.Said.{says, must}
use Rattle.digits.specs.Digits.{nat_of, is_whole}
use Rattle.digits.specs.Degree.{degree_of, smoothing_of, name_of}
use Rattle.lists.specs.Signs.{with_sign}
use Rattle.decimals.specs.Number.{limited}
use Rattle.statements.specs.declared.rules.Parts.{Parts}
use Rattle.statements.specs.declared.rules.WordForm.{WordForm}
use Rattle.statements.specs.declared.rules.WordForm.TheVariants as form
use Rattle.keyword_rules.specs.declared.Limits.{Limits}
use Rattle.keyword_rules.specs.Asked.{limits_of, limits_by}

pub number-limits : (minus : Bool) (m : ℕ) → limited minus m ≡ must (leb m (nat_abs (limits_of form.Number).high)) 7 (says (with_sign minus m))
number-limits minus m = refl

pub degree-limits : (w : List ℕ) → degree_of w
    ≡ must (is_whole 3 w) 6 (must (leb (nat_abs (limits_of form.Degree).low) (nat_of 0 w) && leb (nat_of 0 w) (nat_abs (limits_of form.Degree).high)) 7 (says (nat_of 0 w)))
unfolding degree_of
degree-limits w = refl

pub smoothing-limits : (w : List ℕ) → smoothing_of w
    ≡ cond (same w (argument_bytes Off)) (says 0) (must (is_whole 5 w) 6 (must (leb (nat_of 0 w) (nat_abs (limits_of form.Smoothing).high)) 7 (says (nat_of 0 w))))
unfolding smoothing_of
smoothing-limits w = refl

pub name-limits : (w : List ℕ) → name_of w
    ≡ must (leb (nat_abs (limits_of form.Name).low) (length w) && leb (length w) (nat_abs (limits_of form.Name).high)) 6 (says w)
unfolding name_of
name-limits w = refl

-- a corner has none
no-limits : (p : Parts) → limits_of (form.Corner p) ≡ limits_by (pos 0) (pos 0)
no-limits p = go p.vn refl p.vt refl
  where
    go : (n : Bool) → p.vn ≡ n → (t : Bool) → p.vt ≡ t → limits_of (form.Corner p) ≡ limits_by (pos 0) (pos 0)
    go true e t f = rw e refl
    go false e true f = rw (e, f) refl
    go false e false f = rw (e, f) refl

pub corner-limits : {p : Parts} {f : WordForm} {l : Limits} → f ≡ form.Corner p → l ≡ limits_by (pos 0) (pos 0) → l ≡ limits_of f
corner-limits {p} e h = h ∙ sym (ap limits_of e ∙ no-limits p)
