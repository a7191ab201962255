-- No line needs more than 22 entries for each of its words: a curv, curv2 or surf takes that many for its keyword alone, any other word at most three.
use Prim.Native.Nat.{ℕ, suc, ◌+◌, ◌*◌, ◌≤◌}
use mathlib.Core.List.{List, [], ◌∷◌}
use mathlib.Core.Bool.{Bool, true, false, cond}
use mathlib.Core.Option.{Option, none, some}
use native.Mathlib.Omega.{arith}
use lib.ListN.{length}
use lib.Dec.{leb}
use Rattle.text.specs.Lines.{Line as JoinedLine, lines_of}
use Rattle.text.specs.Words.{Word, words_of, bad_of}
use Rattle.keywords.specs.Keywords.{statement_of}
use Rattle.statements.specs.declared.VertexKind.TheVariants.{Geometric, Texture, Normal, Parametric}
use Rattle.statements.specs.declared.Free.TheVariants.{Curve, Curve2, Surface}
use Rattle.statements.specs.declared.Carried as carried
use Rattle.statements.specs.declared.Carried.TheVariants.{Vertex, Element, Body, Parameters, Trim, Hole, End, BodyType, Degree, Group, Smoothing, Material, PassedOver}
use Rattle.statements.specs.declared.Statement.{Statement}
use Rattle.statements.specs.declared.Statement.TheVariants.{Carried, Refused, Unknown}
use Rattle.model.specs.Room.{summed}
use Rattle.read_rooms.specs.declared.Rooms.{Rooms}
use Rattle.read_rooms.specs.Rooms.{no_room, both, carried_room, room_for, room_of_words, up_to, rooms_of_lines, rooms_of_text}
use Rattle.read_rooms.specs.Claims.{total, word_count, FewForItsWords}
use Rattle.read_rooms.proofs.Sums.{total-both}

few-carried : (k : carried.Carried) (n : ℕ) → total (carried_room k n) ≤ 22 * suc n
few-carried (Vertex Geometric) n = omega arith
few-carried (Vertex Texture) n = omega arith
few-carried (Vertex Normal) n = omega arith
few-carried (Vertex Parametric) n = omega arith
few-carried (Element k) n = omega arith
few-carried (Body Curve) n = omega arith
few-carried (Body Curve2) n = omega arith
few-carried (Body Surface) n = omega arith
few-carried Parameters n = omega arith
few-carried Trim n = omega arith
few-carried Hole n = omega arith
few-carried End n = omega arith
few-carried BodyType n = omega arith
few-carried Degree n = omega arith
few-carried Group n = omega arith
few-carried Smoothing n = omega arith
few-carried Material n = omega arith
few-carried PassedOver n = omega arith

few-for : (k : Statement) (n : ℕ) → total (room_for k n) ≤ 22 * suc n
few-for (Carried k) n = few-carried k n
few-for Refused n = omega arith
few-for Unknown n = omega arith

few-line : (ws : List Word) → total (room_of_words ws) ≤ 22 * length ws
few-line [] = omega arith
few-line (w ∷ ws) = few-for (statement_of w.bytes) (length ws)

few-up : (o : Option ℕ) (r : Rooms) (n : ℕ) → total r ≤ n → total (up_to o r) ≤ n
few-up none r n h = h
few-up (some p) r n h = omega arith

few-lines : (ls : List JoinedLine) → total (rooms_of_lines ls) ≤ 22 * summed (λ l. length (words_of l)) ls
few-lines [] = omega arith
few-lines (l ∷ ls) =
    let a = few-line (words_of l) in
    let b = few-lines ls in
    let c = total-both (room_of_words (words_of l)) (rooms_of_lines ls) in
    few-up (bad_of l) (both (room_of_words (words_of l)) (rooms_of_lines ls)) (22 * (length (words_of l) + summed (λ l. length (words_of l)) ls)) (omega arith)

few-short : (t : Bool) (r : Rooms) (n : ℕ) → total r ≤ n → total (cond t r no_room) ≤ n
few-short true r n h = h
few-short false r n h = omega arith

pub few-for-its-words : FewForItsWords
unfolding rooms_of_text word_count
few-for-its-words s = few-short (leb (length s) 16777216) (rooms_of_lines (lines_of s)) (22 * summed (λ l. length (words_of l)) (lines_of s)) (few-lines (lines_of s))
