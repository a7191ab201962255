-- The walk over a table, from index i on.
use Prim.Native.Nat.{ℕ, ◌+◌, ◌<◌}
use native.Mathlib.Numerals.{add-one}
use mathlib.Core.Path.{◌≡◌, sym, ap, ◌∙◌}
use mathlib.Core.List.{List}
use lib.ListN.{length, get_or, drop}
use lib.Seq.{drop-cons}
use lib.IntN.{ℤ, pos}
use Rattle.parameter_order.specs.declared.Requirement.{Requirement}
use Rattle.parameter_order.specs.declared.Order.{Order}
use Rattle.parameter_order.specs.Stepping.{step_of, walk_from, walked}

module _ (a : Requirement) (x : List ℤ) (i : ℕ) (o : Order) (w : walk_from a i o (drop i x) ≡ walked a x) where
  pub walk-on : i < length x → {p : Order} → p ≡ step_of a i o (get_or x i (pos 0)) → walk_from a (i + 1) p (drop (i + 1) x) ≡ walked a x
  walk-on h {p} e = rw (add-one, e) (sym (ap (walk_from a i o) (drop-cons x i (pos 0) h)) ∙ w)
