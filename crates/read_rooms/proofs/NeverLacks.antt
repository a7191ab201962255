-- Reading in its rooms: what a state holds and what the lines left can need are together within what is lent. By the lines.
use Prim.Native.Nat.{ℕ}
use mathlib.Core.Path.{◌≡◌, refl, sym, ap, ◌∙◌, subst}
use mathlib.Core.List.{List, [], ◌∷◌}
use mathlib.Core.Bool.{Bool, true, false}
use mathlib.Core.Option.{Option, none, some}
use mathlib.Core.Logic.{⊎_elim}
use native.Mathlib.Omega.{arith}
use borrow.Author.Tests.{eq-eqb}
use lib.ListN.{length}
use lib.Dec.{eqb, leb}
use Rattle.lists.proofs.Tests.{test, never}
use Rattle.text.specs.Lines.{Line as JoinedLine, lines_of}
use Rattle.text.specs.Words.{Word, words_of, bad_of}
use Rattle.keywords.specs.Keywords.{statement_of}
use Rattle.tables.specs.Tables.{Tables}
use Rattle.model.specs.Model.{Open, Model, State, start}
use Rattle.model.specs.Statements.{apply}
use Rattle.model.specs.Parse.{Parsed, fine, fault, then, unless, parse}
use Rattle.model.specs.Room as lent
use Rattle.model.specs.Room.{needed, fits}
use Rattle.model.specs.Read.{carried_in, statement, step, Answer, read, refused, finish, on_parsed, read_lines, read_of}
use Rattle.model.proofs.Rooms.{Within, within-parts, parts-fit}
use Rattle.std.specs.Prelude.{Err}
use Rattle.refusals.specs.declared.Refusal.{Refusal}
use Rattle.refusals.specs.declared.Reason.TheVariants.{NoTableRoom}
use Rattle.refusals.specs.Reasons.{reason_number}
use Rattle.refusals.proofs.Numbers.{number-back}
use Rattle.read_lines.specs.Answered.{refusal}
use Rattle.reader.specs.Reading.{rooms_of, answered, read_into}
use Rattle.read_rooms.specs.declared.Rooms.{Rooms}
use Rattle.read_rooms.specs.Rooms.{no_room, both, room_for, room_of_words, up_to, rooms_of_lines, rooms_of_text}
use Rattle.read_rooms.specs.Claims.{lengths_of, NeverLacksRoom}
use Rattle.read_rooms.proofs.Sums.{none_both, both-both}
use Rattle.read_rooms.proofs.Refusals.{lacking, parse-said, keyword-said}
use Rattle.read_rooms.proofs.Held.{Held, held_start, held_after}
use Rattle.read_rooms.proofs.Taken.{line-takes}

-- answered with 14
abbrev short : Answer → Bool
short (read m) = false
short (refused n p) = eqb n 14

then-short : {C : Type 0} (r : Parsed C) (f : C → Parsed State) (h : State → Answer) → lacking r ≡ false → ((c : C) → r ≡ fine c → short (on_parsed (f c) h) ≡ false) → short (on_parsed (then r f) h) ≡ false
then-short (fine c) f h e k = k c refl
then-short (fault n p) f h e k = e

finish-short : (n : ℕ) (o : Option Open) (m : Model) → short (finish n o m) ≡ false
finish-short n none m = refl
finish-short n (some o) m = refl

module _ (R : lent.Rooms) where
  held-within : (r q : Rooms) (x : State) → Held r x.model x.open-body → Within (lengths_of (both r q)) R → Within (needed x) R
  held-within r q x h w = record { vertices = omega arith; elements = omega arith; bodies = omega arith }

  module _ (n : ℕ) where
    -- one line, and by it the lines after it
    by-line :
        (ls : List JoinedLine) (x : State) (r : Rooms) → Held r x.model x.open-body → ((y : State) (q : Rooms) → Held q y.model y.open-body → Within (lengths_of (both q (rooms_of_lines ls))) R → short (read_lines R n ls y) ≡ false)
        → (b : Option ℕ) (ws : List Word) → Within (lengths_of (both r (up_to b (both (room_of_words ws) (rooms_of_lines ls))))) R → short (on_parsed (unless b 2 (step R x ws)) (read_lines R n ls)) ≡ false
    unfolding statement
    by-line ls x r h on (some p) ws w = refl
    by-line ls x r h on none [] w = on x r h (subst (λ (q : Rooms). Within (lengths_of (both r q)) R) (none_both (rooms_of_lines ls)) w)
    by-line ls x r h on none (v ∷ ws) w =
        then-short (carried_in (statement_of v.bytes) v.place) _ _ (keyword-said (statement_of v.bytes) v.place) (λ k e.
        then-short (parse k x v.place ws) _ _ (parse-said k x v.place ws) (λ t f.
        let room : Rooms = room_for (statement_of v.bytes) (length ws) in
        let held : Held (both r room) (apply t x).model (apply t x).open-body = held_after r room x.model x.names x.form t x.open-body (line-takes x v.place ws (statement_of v.bytes) k t e f) h in
        let z : Within (lengths_of (both (both r room) (rooms_of_lines ls))) R = subst (λ (q : Rooms). Within (lengths_of q) R) (both-both r room (rooms_of_lines ls)) w in
        let y : fits R (apply t x) ≡ true = parts-fit R (apply t x) (held-within (both r room) (rooms_of_lines ls) (apply t x) held z) in
        rw y (on (apply t x) (both r room) held z)))

    never-short : (ls : List JoinedLine) (x : State) (r : Rooms) → Held r x.model x.open-body → Within (lengths_of (both r (rooms_of_lines ls))) R → short (read_lines R n ls x) ≡ false
    never-short [] x r h w = finish-short n x.open-body x.model
    never-short (l ∷ ls) x r h w = by-line ls x r h (never-short ls) (bad_of l) (words_of l) w

never-answered : (t : Tables) (a : Answer) (p : ℕ) → short a ≡ false → (answered t a).answer ≡ Err (record { reason = NoTableRoom; place = p }) → ⊥
never-answered t (read m) p h e = let z : ◌≡◌ {A = ℕ} 0 1 = cc in omega arith
never-answered t (refused n q) p h e =
    let r : refusal n q ≡ record { reason = NoTableRoom; place = p } = cc in
    let z : n ≡ 14 = number-back n 14 (omega arith) (ap (λ (f : Refusal). reason_number f.reason) r) in
    never (sym (sym (eq-eqb n 14 z) ∙ h))

never-read : (R : lent.Rooms) (s : List ℕ) → Within (lengths_of (rooms_of_text s)) R → short (read_of R s) ≡ false
unfolding read_of rooms_of_text
never-read R s w =
    ⊎_elim
    (λ (t : leb (length s) 16777216 ≡ true). rw t (never-short R (length s) (lines_of s) start no_room held_start (subst (λ (q : Rooms). Within (lengths_of q) R) (sym (none_both (rooms_of_lines (lines_of s)))) (rw t at w))))
    (λ (t : leb (length s) 16777216 ≡ false). rw t refl)
    (test (leb (length s) 16777216))

pub never-lacks-room : NeverLacksRoom
unfolding read_into
never-lacks-room s t h p e = never-answered t (read_of (rooms_of t) s) p (never-read (rooms_of t) s (within-parts (lengths_of (rooms_of_text s)) (rooms_of t) h)) e
