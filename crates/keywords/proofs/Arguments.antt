-- The table's bytes are the rows': both are computed.
use Prim.Native.Nat.{ℕ}
use mathlib.Core.Path.{◌≡◌, refl, ◌∙◌}
use mathlib.Core.Logic.{⊎_elim}
use mathlib.Core.List.{List}
use mathlib.Core.Bool.{true, false, cond}
use lib.ListN.{drop}
use Rattle.std.specs.Prelude.{Option, Some, None}
use Rattle.lists.specs.Lists.{same}
use Rattle.lists.proofs.Tests.{test}
use Rattle.text.specs.Words.{word_of}
use Rattle.text.specs.Rest.{end_of}
use Rattle.spellings.specs.Rows.{kind_at, found_by}
use Rattle.spellings.specs.Lookup.{lettered_in}
use Rattle.keywords.specs.Arguments.{sign_of, arguments, argument_of, argument_bytes}
use Rattle.keywords.specs.Lookup.{of_sign, table_of_arguments, argument_at}
use Rattle.spellings.specs.declared.Found.{Found}
use Rattle.keywords.specs.declared.Argument.{Argument}
use Rattle.keywords.specs.declared.Argument.TheVariants.{Rational, BasisMatrix, Bezier, Bspline, Cardinal, Taylor, DirectionU, DirectionV, Off, Other}
use Rattle.spellings.proofs.Compare.{compare_of}
use Rattle.spellings.proofs.Rows.{Laid}
use Rattle.keywords.proofs.ArgumentTable.{all-distinct}

-- a kind is told by its letter
told : (k : Argument) → of_sign (sign_of k) ≡ k
unfolding arguments of_sign
told Rational = refl
told BasisMatrix = refl
told Bezier = refl
told Bspline = refl
told Cardinal = refl
told Taylor = refl
told DirectionU = refl
told DirectionV = refl
told Off = refl
told Other = refl

pub laid : Laid sign_of of_sign Other arguments table_of_arguments 9
unfolding arguments table_of_arguments
laid = record { many = refl; walked = λ w. refl; no_word = refl; ahead = refl; words = refl; letters = refl; told = told; apart = all-distinct }

pub argument_is : (s : List ℕ) (at : ℕ) (f : Found) (k : Argument) → f ≡ found_by arguments (word_of (drop at s)) at → k ≡ kind_at Other arguments f.row → k ≡ argument_at s at
unfolding argument_at argument_of
argument_is s at f k g l = rw (l, g) refl

rows-lettered : (k : Argument) → lettered_in 9 table_of_arguments (sign_of k) ≡ argument_bytes k
unfolding arguments table_of_arguments argument_bytes
rows-lettered k = refl

-- the row that is found by a kind's letter has its spelling
pub argument-row :
    (t : List ℕ) (from letter : ℕ) (k : Argument) → t ≡ table_of_arguments → word_of (drop from t) ≡ lettered_in 9 t letter → letter ≡ sign_of k → word_of (drop from t) ≡ argument_bytes k
argument-row t from letter k e w l = w ∙ rw (e, l) (rows-lettered k)

off-row : word_of (drop 96 table_of_arguments) ≡ argument_bytes Off
unfolding arguments table_of_arguments argument_bytes
off-row = refl

abbrev pub off_end : List ℕ → ℕ → Option ℕ
off_end s at = cond (same (word_of (drop at s)) (argument_bytes Off)) (Some (end_of s at)) None

pub off-is : (s t : List ℕ) (at : ℕ) (end : Option ℕ) → t ≡ table_of_arguments → end ≡ compare_of s at t 96 → end ≡ off_end s at
off-is s t at end e c = rw (e, off-row) at c

pub off-found : (s : List ℕ) (at end : ℕ) → Some end ≡ off_end s at → (same (word_of (drop at s)) (argument_bytes Off) ≡ true) × (end ≡ end_of s at)
off-found s at end d =
    ⊎_elim
    (λ h. let f : Some end ≡ Some (end_of s at) = rw h at d in (h, cc))
    (λ h. let f : Some end ≡ None = rw h at d in cc)
    (test (same (word_of (drop at s)) (argument_bytes Off)))

pub off-not : (s : List ℕ) (at : ℕ) → None ≡ off_end s at → same (word_of (drop at s)) (argument_bytes Off) ≡ false
off-not s at d =
    ⊎_elim
    (λ h. let f : None ≡ Some (end_of s at) = rw h at d in cc)
    (λ h. h)
    (test (same (word_of (drop at s)) (argument_bytes Off)))
