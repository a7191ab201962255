-- The law that carries the one test of the table to each of its rows.
use mathlib.Core.Path.{◌≡◌, sym, ap, ◌∙◌, subst}
use mathlib.Core.Bool.{true}
use mathlib.Core.List.{List, [], ◌∷◌}
use Prim.Native.Nat.{ℕ, zero, suc, ◌+◌, ◌<◌}
use native.Mathlib.Nat.{add-zero, zero-add, add-suc, suc-add, le_of_suc-le-suc, not-suc-le-zero}
use lib.ListN.{length, get_or}
use Rattle.lists.specs.Lists.{same}
use Rattle.lists.proofs.Tests.{and_left, and_right}
use Rattle.lists.proofs.Laws.{same-eq}
use Rattle.point_weights.specs.Inner.{weight_row, ruled, Ruled}

from : (rows : List (List ℕ)) (j : ℕ) → ruled j rows ≡ true → (k : ℕ) → k < length rows → (d : List ℕ) → get_or rows k d ≡ weight_row (j + k)
from [] j h k l d = absurd (not-suc-le-zero l)
from (r ∷ rows) j h zero l d = same-eq r (weight_row j) (and_left (same r (weight_row j)) (ruled (suc j) rows) h) ∙ ap weight_row (sym (add-zero j))
from (r ∷ rows) j h (suc k) l d =
    from rows (suc j) (and_right (same r (weight_row j)) (ruled (suc j) rows) h) k (le_of_suc-le-suc l) d ∙ ap weight_row (suc-add j k ∙ sym (add-suc j k))

pub rule : {table : List (List ℕ)} → Ruled table → (j : ℕ) → j < 65 → (d : List ℕ) → get_or table j d ≡ weight_row j
rule {table} r j l d = from table 0 r.each j (subst (λ (m : ℕ). j < m) (sym r.long) l) d ∙ ap weight_row (zero-add j)
