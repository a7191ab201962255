-- Must be believed: a promise reaches every definition of this file.
-- 01, "Numbers of refusal": the number of each reason.
use Rattle.std.specs.Prelude.{ℕ, cond, eqb}
use Rattle.refusals.specs.declared.Reason.{Reason}
use Rattle.refusals.specs.declared.Reason.TheVariants as reason

-- "Any answer that is an enum has a definition that gives this paper's number .. for each of the enum's cases"
abbrev pub reason_number : Reason → ℕ
reason_number reason.TextTooLong = 1
reason_number reason.ByteNotAllowed = 2
reason_number reason.UnknownKeyword = 3
reason_number reason.NotTaken = 4
reason_number reason.WordCount = 5
reason_number reason.Malformed = 6
reason_number reason.OutOfRange = 7
reason_number reason.NoReferent = 8
reason_number reason.CornerPattern = 9
reason_number reason.NotHere = 10
reason_number reason.Incomplete = 11
reason_number reason.ControlCount = 12
reason_number reason.ParameterOrder = 13
reason_number reason.NoTableRoom = 14
reason_number reason.BrokenRecord = 15
reason_number reason.NoOutputRoom = 16
reason_number reason.NoSuchElement = 17
reason_number reason.NotSampled = 18
reason_number reason.ParameterOutside = 19

-- the reason of a number, 1 to 19; of any other, which 01 does not have, it is the last
abbrev pub reason_of : ℕ → Reason
reason_of n =
    cond (eqb n 1) reason.TextTooLong
    (cond (eqb n 2) reason.ByteNotAllowed
    (cond (eqb n 3) reason.UnknownKeyword
    (cond (eqb n 4) reason.NotTaken
    (cond (eqb n 5) reason.WordCount
    (cond (eqb n 6) reason.Malformed
    (cond (eqb n 7) reason.OutOfRange
    (cond (eqb n 8) reason.NoReferent
    (cond (eqb n 9) reason.CornerPattern
    (cond (eqb n 10) reason.NotHere
    (cond (eqb n 11) reason.Incomplete
    (cond (eqb n 12) reason.ControlCount
    (cond (eqb n 13) reason.ParameterOrder
    (cond (eqb n 14) reason.NoTableRoom
    (cond (eqb n 15) reason.BrokenRecord
    (cond (eqb n 16) reason.NoOutputRoom
    (cond (eqb n 17) reason.NoSuchElement
    (cond (eqb n 18) reason.NotSampled
    reason.ParameterOutside)))))))))))))))))
