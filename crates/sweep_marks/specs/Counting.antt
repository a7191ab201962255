-- Must be believed: a promise reaches every definition of this file.
-- Q-6: the number by which a corner names a record of a kind, and counting and renumbering records over a test of which are named.
use Rattle.std.specs.Prelude.{ℕ, zero, suc, ◌+◌, ◌*◌, List, [], ◌∷◌, ◌++◌, Bool, false, cond, ◌||◌, take, drop, eqb, ℤ}
use Rattle.tables.specs.Records.{curve2_kind}
use Rattle.tables.specs.declared.Corner.{Corner}
use Rattle.model.specs.Model.{VertexKind, geometric, texture, normal, parametric}

-- the number of that kind that a corner of an element of kind e holds, 0 for none: "a curv2 control holds its vp number in the first place"
abbrev pub reference : VertexKind → (e : ℕ) → Corner → ℕ
reference geometric e c = cond (eqb e curve2_kind) 0 c.v
reference texture e c = c.vt
reference normal e c = c.vn
reference parametric e c = cond (eqb e curve2_kind) c.v 0

-- the test holds at some index below n
abbrev pub any_below : ℕ → (ℕ → Bool) → Bool
any_below zero f = false
any_below (suc n) f = any_below n f || f n

-- ---- counting and renumbering, over the test of what is named

-- how many of the records 1 to n are named, and how many are not
abbrev pub kept_upto : (ℕ → Bool) → ℕ → ℕ
kept_upto f zero = 0
kept_upto f (suc n) = kept_upto f n + cond (f (suc n)) 1 0

abbrev pub dropped_upto : (ℕ → Bool) → ℕ → ℕ
dropped_upto f zero = 0
dropped_upto f (suc n) = dropped_upto f n + cond (f (suc n)) 0 1

-- "its new number, or 0 if dropped": 0 stays 0
abbrev pub new_number : (ℕ → Bool) → ℕ → ℕ
new_number f k = cond (f k) (kept_upto f k) 0

-- what f gives for each index below n, one after the other
abbrev pub flat_below : {A : Type 0} → ℕ → (ℕ → List A) → List A
flat_below zero f = []
flat_below (suc n) f = flat_below n f ++ f n

-- the new numbers of records 1 to n
unfoldable pub new_numbers : (ℕ → Bool) → ℕ → List ℕ
new_numbers f n = flat_below n (λ i. new_number f (suc i) ∷ [])

-- the named ones of the first n records, of w numbers each: "Kept records keep their order"
unfoldable pub kept_rows : ℕ → (ℕ → Bool) → List ℤ → ℕ → List ℤ
kept_rows w f l n = flat_below n (λ i. cond (f (suc i)) (take w (drop (w * i) l)) [])
