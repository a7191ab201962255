-- What is found where a line's numbers are stored from entry `first` of a table on, which held l and then holds m.
use Rattle.std.specs.Prelude.{ℕ, ◌+◌, ◌≤◌, ◌<◌, ◌≡◌, cond, List, [], ◌∷◌, length, get_or, leb, ℤ, pos, Option as Answer, Some, None}
use Rattle.std.proofs.Math.Option.{Option, none, some}
use Rattle.std.proofs.lemmas.List.Edits.{sets}
use Rattle.text.specs.Words.{Word}
use Rattle.text.specs.Rest.{Rest, rest_at}
use Rattle.text.specs.declared.Parsed.{Parsed}
use Rattle.read_state.specs.Numbers.{Walk, ended, full, stuck, numbers_walk}
use Rattle.read_vertices.specs.declared.Numbers.{Numbers}
use Rattle.read_vertices.specs.declared.Numbers.TheVariants.{Ended, Full}

-- the line ended after `count` numbers, fewer than were asked for
pub record EndedAfter (most : ℕ) (s : List ℕ) (at first : ℕ) (l m : List ℤ) (count next : ℕ) : Type 0 where
  pub found : List ℤ
  pub walked : numbers_walk most (rest_at s at) ≡ ended found next
  pub counted : count ≡ length found
  pub room : 0 < count → first + count ≤ length l
  pub stored : m ≡ sets l first found

-- as many as were asked for, and the line goes on at `end`
pub record FullAfter (most : ℕ) (s : List ℕ) (at first : ℕ) (l m : List ℤ) (end : ℕ) : Type 0 where
  pub found : List ℤ
  pub walked : numbers_walk most (rest_at s at) ≡ full found (rest_at s end)
  pub counted : length found ≡ most
  pub room : 0 < most → first + most ≤ length l
  pub stored : m ≡ sets l first found
  pub from : at ≤ end
  pub to : end ≤ length s

-- whatever numbers the line has pass the lent length; what stands before them is as it was
pub record StoppedAfter (most : ℕ) (s : List ℕ) (at first : ℕ) (l m : List ℤ) : Type 0 where
  pub same : length m ≡ length l
  pub before : (i : ℕ) → i < first → get_or m i (pos 0) ≡ get_or l i (pos 0)
  pub ended-short : (zs : List ℤ) (q : ℕ) → numbers_walk most (rest_at s at) ≡ ended zs q → length l < first + length zs
  pub full-short : (zs : List ℤ) (r : Rest) → numbers_walk most (rest_at s at) ≡ full zs r → length l < first + length zs

abbrev pub NumbersIs : ℕ → List ℕ → ℕ → ℕ → List ℤ → List ℤ → Answer Numbers → Type 0
NumbersIs most s at first l m (Some (Ended n q)) = EndedAfter most s at first l m n q
NumbersIs most s at first l m (Some (Full e)) = FullAfter most s at first l m e
NumbersIs most s at first l m None = StoppedAfter most s at first l m

-- ---- a line of numbers alone: from `least` to `most` of them, and where the next line starts
abbrev pub closing : List ℤ → List Word → Option ℕ → ℕ → Option (List ℤ × ℕ)
closing zs [] none q = some (zs, q)
closing zs [] (some p) q = none
closing zs (w ∷ ws) b q = none

abbrev pub line_ended : Walk → Option (List ℤ × ℕ)
line_ended (ended zs q) = some (zs, q)
line_ended (full zs r) = closing zs r.words r.bad r.next
line_ended stuck = none

-- what was found, where there is enough of it
abbrev pub at_least : {A : Type 0} → ℕ → Option (List A × ℕ) → Option (List A × ℕ)
at_least n none = none
at_least n (some p) = cond (leb n (length p.0)) (some p) none

abbrev pub row_said : ℕ → ℕ → Rest → Option (List ℤ × ℕ)
row_said least most r = at_least least (line_ended (numbers_walk most r))

pub record WholeRow (least most : ℕ) (s : List ℕ) (at first : ℕ) (l m : List ℤ) (count next : ℕ) : Type 0 where
  pub found : List ℤ
  pub said : row_said least most (rest_at s at) ≡ some (found, next)
  pub counted : count ≡ length found
  pub room : 0 < count → first + count ≤ length l
  pub stored : m ≡ sets l first found

pub record NoRow (least most : ℕ) (s : List ℕ) (at first : ℕ) (l m : List ℤ) : Type 0 where
  pub same : length m ≡ length l
  pub before : (i : ℕ) → i < first → get_or m i (pos 0) ≡ get_or l i (pos 0)
  pub short : (zs : List ℤ) (q : ℕ) → row_said least most (rest_at s at) ≡ some (zs, q) → length l < first + length zs

abbrev pub RowIs : ℕ → ℕ → List ℕ → ℕ → ℕ → List ℤ → List ℤ → Answer (Parsed ℕ) → Type 0
RowIs least most s at first l m (Some p) = WholeRow least most s at first l m p.value p.next
RowIs least most s at first l m None = NoRow least most s at first l m
