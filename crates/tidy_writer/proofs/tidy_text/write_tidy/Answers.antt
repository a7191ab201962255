-- The length first; then the text where there is room for all of it, and else nothing.
use Prim.Native.Nat.{◌+◌, min}
use mathlib.Core.Path.{◌≡◌, refl}
use native.Mathlib.Omega.{arith}
use lib.ListN.{length}
use Rattle.tables.specs.Lent.{lent}
use Rattle.tidy_writer.specs.TidyFrom.{tidy_from}
use Rattle.tidy_words.proofs.Emissions.{whole-emitted, whole-roomless}
use Rattle.tidy_writer.proofs.tidy_text.write_tidy.Goals as goal

pub returns-then-length-room_in : goal.returns-then-length-room_in
returns-then-length-room_in c =
    let e = c.emit_tidy.ensures in
    whole-emitted e (omega (arith, e.ends, c.measure-length.ensures, c.room_in.ensures, c.if-length-room_in.true))

pub returns : goal.returns
returns c =
    let a = c.args in
    let w = tidy_from a.weights a.text.now a.used (lent a.t.now) in
    let j : c.measure-length.result ≡ min (0 + length w) 16777217 = omega (arith, c.measure-length.ensures) in
    whole-roomless 0 w a.out.now (length w) c.measure-length.result refl j (omega (arith, c.room_in.ensures, c.if-length-room_in.false))
