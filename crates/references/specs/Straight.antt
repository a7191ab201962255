-- What the code computes on the way, from a place in the text to where its digits stop; the laws of proofs/ say that it comes to the forms of the word there.
use Prim.{Unit}
use Rattle.std.specs.Prelude.{ℕ, ◌+◌, ◌≤◌, ◌≡◌, ◌⊎◌, Option, Some, None, Result, Ok, Err, List, [], ◌∷◌, Bool, false, cond, ◌&&◌, not, length, drop, leb, eqb}
use Rattle.digits.specs.Said.{Said, wrong, must}
use Rattle.text.specs.Bytes.{is_word}
use Rattle.digits.specs.Digits.{nat_of, negative, unminus}
use Rattle.references.specs.Reference.{is_reference, item, refer}
use Rattle.references.specs.Corner.{Corner, formed}
use Rattle.refusals.specs.declared.Reason.{Reason}
use Rattle.refusals.specs.declared.Reason.TheVariants.{Malformed}
use Rattle.text.specs.declared.Parsed.{Parsed}
use Rattle.digits.specs.Straight.{first, run, front, UptoRead}

-- a part of a corner goes to a slash or to the end of its word
abbrev pub is_piece : ℕ → Bool
is_piece b = is_word b && not (eqb b 47)

abbrev pub piece : List ℕ → List ℕ
piece l = front is_piece l

-- the digits of a reference at the front of l
abbrev pub places : List ℕ → List ℕ
places l = run (unminus l)

-- an optional minus and 1 to 10 digits stand at `at`, whatever follows them: the number of what they refer to, 0 for nothing
pub record PartRead (count : ℕ) (s : List ℕ) (at number end : ℕ) : Type 0 where
  pub to : end ≤ length s
  pub some : 1 ≤ length (places (drop at s))
  pub few : length (places (drop at s)) ≤ 10
  pub number_is : number ≡ item (negative (drop at s)) count (nat_of 0 (places (drop at s)))
  pub end_is : end ≡ at + (cond (negative (drop at s)) 1 0 + length (places (drop at s)))

abbrev pub CornerPartIs : ℕ → List ℕ → ℕ → Result (Parsed ℕ) Reason → Type 0
CornerPartIs count s at (Ok p) = PartRead count s at p.value p.next
CornerPartIs count s at (Err r) = (r ≡ Malformed) × ((leb 1 (length (places (drop at s))) && leb (length (places (drop at s))) 10) ≡ false)

-- digits at `at`, at most ten of them read, refer to one of `count`
pub record AheadRead (count : ℕ) (s : List ℕ) (at number end : ℕ) : Type 0 where
  pub read : UptoRead 10 s at 0 end number
  pub some : 1 ≤ number
  pub within : number ≤ count

-- a slash at `at`
pub record NoneRead (s : List ℕ) (at number end : ℕ) : Type 0 where
  pub number_is : number ≡ 0
  pub end_is : end ≡ at
  pub slash : first (drop at s) ≡ 47

abbrev pub SecondIs : ℕ → List ℕ → ℕ → Option (Parsed ℕ) → Type 0
SecondIs count s at (Some p) = NoneRead s at p.value p.next ⊎ AheadRead count s at p.value p.next
SecondIs count s at None = Unit {0}

-- a corner from its second part on, after the vertex v; and from its third part on, `there` when all before it are
abbrev pub third : Bool → ℕ → Bool → ℕ → ℕ → List (List ℕ) → Said Corner
third normal count there v vt [] = wrong 6
third normal count there v vt (d ∷ []) =
    formed (normal && is_reference d) (there && leb 1 (refer count d)) (record { v = v; vt = vt; vn = refer count d })
third normal count there v vt (d ∷ e ∷ ps) = wrong 6

abbrev pub second : ℕ → ℕ → Bool → Bool → ℕ → List (List ℕ) → Said Corner
second nvt nvn texture normal v [] = wrong 6
second nvt nvn texture normal v (b ∷ []) =
    formed (texture && is_reference b) (leb 1 v && leb 1 (refer nvt b)) (record { v = v; vt = refer nvt b; vn = 0 })
second nvt nvn texture normal v ([] ∷ d ∷ ps) = third normal nvn (leb 1 v) v 0 (d ∷ ps)
second nvt nvn texture normal v ((x ∷ b) ∷ d ∷ ps) =
    must (texture && is_reference (x ∷ b)) 6 (third normal nvn (leb 1 v && leb 1 (refer nvt (x ∷ b))) v (refer nvt (x ∷ b)) (d ∷ ps))
