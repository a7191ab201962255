-- Must be believed: a promise reaches every definition of this file.
-- What the rooms of a text are good for, and that they are few.
use Rattle.std.specs.Prelude.{ℕ, ◌+◌, ◌*◌, ◌≤◌, ◌≡◌, List, true, length, Err}
use Rattle.refusals.specs.declared.Reason.TheVariants.{NoTableRoom}
use Rattle.text.specs.Lines.{lines_of}
use Rattle.text.specs.Words.{words_of}
use Rattle.tables.specs.Tables.{Tables}
use Rattle.model.specs.Room as lent
use Rattle.model.specs.Room.{summed, within}
use Rattle.reader.specs.Reading.{rooms_of, read_into}
use Rattle.read_rooms.specs.declared.Rooms.{Rooms}
use Rattle.read_rooms.specs.Rooms.{rooms_of_text}

-- the same as the lengths of lent tables
abbrev pub lengths_of : Rooms → lent.Rooms
lengths_of r =
    record {
      vertices = record { v = r.v; vt = r.vt; vn = r.vn; vp = r.vp };
      elements = record { corners = r.corners; elements = r.elements };
      bodies = record { bodies = r.bodies; ranges = r.ranges; parameters = r.parameters; loops = r.loops; spans = r.spans };
    }

-- all entries of all tables
abbrev pub total : Rooms → ℕ
total r = r.v + r.vt + r.vn + r.vp + r.corners + r.elements + r.bodies + r.ranges + r.parameters + r.loops + r.spans

unfoldable pub word_count : List ℕ → ℕ
word_count s = summed (λ l. length (words_of l)) (lines_of s)

-- where each lent table has at least its room, reading never answers 14, whatever the text
abbrev pub NeverLacksRoom : Type 0
NeverLacksRoom =
    (s : List ℕ) (t : Tables) → within (lengths_of (rooms_of_text s)) (rooms_of t) ≡ true
    → (p : ℕ) → (read_into s t).answer ≡ Err (record { reason = NoTableRoom; place = p }) → ⊥

-- all tables together have at most 22 entries for each word of the text, and of n bytes there are at most (n + 1) / 2 words
abbrev pub FewForItsWords : Type 0
FewForItsWords = (s : List ℕ) → total (rooms_of_text s) ≤ 22 * word_count s

abbrev pub FewWords : Type 0
FewWords = (s : List ℕ) → 2 * word_count s ≤ length s + 1
