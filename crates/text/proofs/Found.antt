-- The answers of `skip_blanks`, one by one: what each says of the rest of the line.
use Prim.Native.Nat.{ℕ, ◌+◌, ◌≤◌, ◌<◌}
use mathlib.Core.Path.{◌≡◌}
use mathlib.Core.List.{List}
use mathlib.Core.Bool.{true, false}
use mathlib.Core.Logic.{⊎_elim}
use lib.ListN.{length}
use lib.Dec.{leb}
use native.Mathlib.Omega.{arith}
use borrow.Author.Tests.{leb-true, leb-false}
use Rattle.lists.proofs.Tests.{test}
use Rattle.text.specs.Rest.{WordMet, EndMet, BadMet, AfterBlanksIs}
use Rattle.text.specs.declared.AfterBlanks.{AfterBlanks}
use Rattle.text.specs.declared.AfterBlanks.TheVariants.{Start, End, Bad}

module _ (s : List ℕ) (at : ℕ) (r : AfterBlanks) (m : AfterBlanksIs s at r) where
  pub word-found : {p : ℕ} → r ≡ Start p → WordMet s at p
  word-found e = rw e at m

  pub end-found : {q : ℕ} → r ≡ End q → EndMet s at q
  end-found e = rw e at m

  pub bad-found : {p : ℕ} → r ≡ Bad p → BadMet s at p
  bad-found e = rw e at m

-- a line's end is past each place of the line that is within the text
pub end-past : (s : List ℕ) (at i q : ℕ) → at ≤ i → at < length s → i ≤ length s → EndMet s i q → at < q
end-past s at i q a h l m =
    ⊎_elim
    (λ (t : leb (i + 1) (length s) ≡ true).
    let u = leb-true (i + 1) (length s) t in
    let x = m.ahead (omega arith) in
    omega arith)
    (λ (t : leb (i + 1) (length s) ≡ false).
    let u = leb-false (i + 1) (length s) t in
    let x = m.from in
    omega arith)
    (test (leb (i + 1) (length s)))
