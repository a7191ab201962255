-- Must be believed: a promise reaches every definition of this file.
-- The whole of reading: the answer, and what every lent table holds at the end, for every text and every lent length.
use Rattle.std.specs.Prelude.{ℕ, List}
use Rattle.tables.specs.Tables.{Tables}
use Rattle.model.specs.Read.{read_of}
pub use Rattle.read_lines.specs.Answered.{rooms_of, ReadOutcome, read_outcome, ReadAnswer, read_answer, answered}

-- what reading the text s into the tables t comes to
unfoldable pub read_into : List ℕ → Tables → ReadAnswer
read_into s t = answered t (read_of (rooms_of t) s)
