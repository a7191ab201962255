-- Each reason is that of its number, and a number below the last is that of its reason.
use Prim.Native.Nat.{ℕ, ◌+◌, ◌<◌, ◌≤◌}
use mathlib.Core.Path.{◌≡◌, refl, sym, ◌∙◌}
use mathlib.Core.Bool.{Bool, true, false, cond}
use native.Mathlib.Omega.{arith}
use lib.Dec.{eqb}
use borrow.Author.Tests.{eqb-true, eqb-false}
use Rattle.refusals.specs.declared.Reason.{Reason}
use Rattle.refusals.specs.declared.Reason.TheVariants as reason
use Rattle.refusals.specs.Reasons.{reason_number, reason_of}

pub reason-back : (r : Reason) → reason_of (reason_number r) ≡ r
reason-back reason.TextTooLong = refl
reason-back reason.ByteNotAllowed = refl
reason-back reason.UnknownKeyword = refl
reason-back reason.NotTaken = refl
reason-back reason.WordCount = refl
reason-back reason.Malformed = refl
reason-back reason.OutOfRange = refl
reason-back reason.NoReferent = refl
reason-back reason.CornerPattern = refl
reason-back reason.NotHere = refl
reason-back reason.Incomplete = refl
reason-back reason.ControlCount = refl
reason-back reason.ParameterOrder = refl
reason-back reason.NoTableRoom = refl
reason-back reason.BrokenRecord = refl
reason-back reason.NoOutputRoom = refl
reason-back reason.NoSuchElement = refl
reason-back reason.NotSampled = refl
reason-back reason.ParameterOutside = refl

-- one step of the chain of tests
step : (n m k : ℕ) (r s : Reason) → reason_number r ≡ k → (reason_number s ≡ m → n ≡ m) → reason_number (cond (eqb n k) r s) ≡ m → n ≡ m
step n m k r s e rest h = go (eqb n k) refl h
  where
    go : (b : Bool) → eqb n k ≡ b → reason_number (cond b r s) ≡ m → n ≡ m
    go true t g = eqb-true n k t ∙ sym e ∙ g
    go false t g = rest g

pub number-back : (n m : ℕ) → m < 19 → reason_number (reason_of n) ≡ m → n ≡ m
number-back n m h =
    step n m 1 reason.TextTooLong _ refl
    (step n m 2 reason.ByteNotAllowed _ refl
    (step n m 3 reason.UnknownKeyword _ refl
    (step n m 4 reason.NotTaken _ refl
    (step n m 5 reason.WordCount _ refl
    (step n m 6 reason.Malformed _ refl
    (step n m 7 reason.OutOfRange _ refl
    (step n m 8 reason.NoReferent _ refl
    (step n m 9 reason.CornerPattern _ refl
    (step n m 10 reason.NotHere _ refl
    (step n m 11 reason.Incomplete _ refl
    (step n m 12 reason.ControlCount _ refl
    (step n m 13 reason.ParameterOrder _ refl
    (step n m 14 reason.NoTableRoom _ refl
    (step n m 15 reason.BrokenRecord _ refl
    (step n m 16 reason.NoOutputRoom _ refl
    (step n m 17 reason.NoSuchElement _ refl
    (step n m 18 reason.NotSampled _ refl
    (λ g. absurd (let e : 19 ≡ m = g in omega arith)))))))))))))))))))

-- a number of 01's table is that of its reason
pick : (n k : ℕ) (r s : Reason) → k ≤ n → reason_number r ≡ k → (k + 1 ≤ n → reason_number s ≡ n) → reason_number (cond (eqb n k) r s) ≡ n
pick n k r s l e rest = go (eqb n k) refl
  where
    go : (b : Bool) → eqb n k ≡ b → reason_number (cond b r s) ≡ n
    go true t = e ∙ sym (eqb-true n k t)
    go false t = rest (let f = eqb-false n k t in omega arith)

pub number-kept : (n : ℕ) → 1 ≤ n → n ≤ 19 → reason_number (reason_of n) ≡ n
number-kept n l m =
    pick n 1 reason.TextTooLong _ l refl (λ l.
    pick n 2 reason.ByteNotAllowed _ l refl (λ l.
    pick n 3 reason.UnknownKeyword _ l refl (λ l.
    pick n 4 reason.NotTaken _ l refl (λ l.
    pick n 5 reason.WordCount _ l refl (λ l.
    pick n 6 reason.Malformed _ l refl (λ l.
    pick n 7 reason.OutOfRange _ l refl (λ l.
    pick n 8 reason.NoReferent _ l refl (λ l.
    pick n 9 reason.CornerPattern _ l refl (λ l.
    pick n 10 reason.NotHere _ l refl (λ l.
    pick n 11 reason.Incomplete _ l refl (λ l.
    pick n 12 reason.ControlCount _ l refl (λ l.
    pick n 13 reason.ParameterOrder _ l refl (λ l.
    pick n 14 reason.NoTableRoom _ l refl (λ l.
    pick n 15 reason.BrokenRecord _ l refl (λ l.
    pick n 16 reason.NoOutputRoom _ l refl (λ l.
    pick n 17 reason.NoSuchElement _ l refl (λ l.
    pick n 18 reason.NotSampled _ l refl (λ l. let e : 19 ≡ n = omega arith in e))))))))))))))))))
