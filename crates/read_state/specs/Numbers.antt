-- The numbers of a line's words, as the code goes through them.
use Rattle.std.specs.Prelude.{ℕ, zero, suc, List, [], ◌∷◌, ℤ}
use Rattle.std.proofs.Math.Option.{Option, none, some}
use Rattle.text.specs.Words.{Word}
use Rattle.text.specs.Rest.{Rest}
use Rattle.digits.specs.Said.{Said, says, wrong}
use Rattle.decimals.specs.Number.{number_of}

-- the line ended after these numbers, and the next starts there; or as many as were asked for were found, and the rest of the line follows; or one word is no
-- number, or a byte is not allowed
pub data Walk : Type 0 where
  ended : List ℤ → ℕ → Walk
  full : List ℤ → Rest → Walk
  stuck : Walk

abbrev pub onto_walk : ℤ → Walk → Walk
onto_walk z (ended zs q) = ended (z ∷ zs) q
onto_walk z (full zs r) = full (z ∷ zs) r
onto_walk z stuck = stuck

abbrev pub on_number : Said ℤ → Walk → Walk
on_number (says z) k = onto_walk z k
on_number (wrong n) k = stuck

-- at most n numbers, and then the line's end
abbrev pub numbers_from : ℕ → List Word → Option ℕ → ℕ → Walk
numbers_from zero ws b q = full [] (record { words = ws; bad = b; next = q })
numbers_from (suc n) [] none q = ended [] q
numbers_from (suc n) [] (some p) q = stuck
numbers_from (suc n) (w ∷ ws) b q = on_number (number_of w.bytes) (numbers_from n ws b q)

abbrev pub numbers_walk : ℕ → Rest → Walk
numbers_walk n r = numbers_from n r.words r.bad r.next
