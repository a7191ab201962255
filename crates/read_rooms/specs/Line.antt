-- What the code finds of one line: its room and where the next line starts, or that a byte of it is not allowed.
use Rattle.std.specs.Prelude.{ℕ, Option as Answer, Some, None}
use Rattle.std.proofs.Math.Option.{Option, none, some}
use Rattle.text.specs.declared.Parsed.{Parsed}
use Rattle.text.specs.Rest.{Rest}
use Rattle.read_rooms.specs.declared.Rooms.{Rooms}
use Rattle.read_rooms.specs.Rooms.{room_of_words}

-- numbers of v, vt, vn, vp
abbrev pub vertex_room : ℕ → ℕ → ℕ → ℕ → Rooms
vertex_room v vt vn vp =
    record { v = v; vt = vt; vn = vn; vp = vp; corners = 0; elements = 0; bodies = 0; ranges = 0; parameters = 0; loops = 0; spans = 0 }

abbrev pub counted : Rooms → ℕ → Answer (Parsed Rooms)
counted r q = Some (record { value = r; next = q })

abbrev pub counted_if : Option ℕ → Rooms → ℕ → Answer (Parsed Rooms)
counted_if none r q = counted r q
counted_if (some p) r q = None

abbrev pub counted_of : Rest → Answer (Parsed Rooms)
counted_of r = counted_if r.bad (room_of_words r.words) r.next
