-- The whole text: the answer of its lines, with the tables cleared before them; 1 for a text that is too long.
use Prim.Native.Nat.{ℕ, ◌≤◌, ◌<◌}
use mathlib.Core.Path.{◌≡◌, sym, ap, ◌∙◌}
use mathlib.Core.List.{List}
use lib.ListN.{length}
use Rattle.tables.specs.Tables.{Tables, zeros}
use Rattle.text.specs.Rest.{lines_at}
use Rattle.model.specs.Model.{start}
use Rattle.model.specs.Room.{Rooms}
use Rattle.model.specs.Read.{Answer, read_lines}
use Rattle.std.specs.Prelude.{Result, Err}
use Rattle.refusals.specs.declared.Reason.TheVariants.{TextTooLong}
use Rattle.refusals.specs.declared.Refusal.{Refusal}
use Rattle.tables.specs.declared.Used.{Used}
use Rattle.read_lines.specs.Answered.{read_answer, rooms_of, answered}
use Rattle.read_lines.specs.Lines.{lines_read}
use Rattle.read_lines.proofs.Cleared.{zeros-rooms, answered-same}
use Rattle.read_lines.proofs.Going.{read_short, read-long}
use Rattle.reader.specs.Reading.{read_into}

module _ (s : List ℕ) (t u : Tables) (e : u ≡ zeros t) where
  pub read-too-long : 16777216 < length s → read_answer (Err (record { reason = TextTooLong; place = 0 })) u ≡ read_into s t
  unfolding read_into
  read-too-long h = ap (λ (y : Tables). read_answer (Err (record { reason = TextTooLong; place = 0 })) y) e ∙ ap (answered t) (sym (read-long (rooms_of t) s h))

  pub read_whole : length s ≤ 16777216 → (y : Tables) (a : Result Used Refusal) → read_answer a y ≡ lines_read s u → read_answer a y ≡ read_into s t
  unfolding read_into
  read_whole h y a k =
      let same : rooms_of u ≡ rooms_of t = ap rooms_of e ∙ zeros-rooms t in
      k ∙ answered-same u t same (all (rooms_of u)) ∙ ap (answered t) (ap all same ∙ sym (read_short (rooms_of t) s h))
    where
      all : Rooms → Answer
      all R = read_lines R (length s) (lines_at s 0) start
