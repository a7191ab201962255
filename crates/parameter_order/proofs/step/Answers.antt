-- Each number of the order is the definition's.
use Rattle.std.proofs.Common.{◌≡◌, cond, ◌&&◌, leb, refl, to_z, of_z, w32, rules}
use Rattle.std.specs.Int.Signed.{lt_z}
use Rattle.parameter_order.specs.Stepping.{may_follow}
use Rattle.parameter_order.proofs.step.Goals as goal

pub returns : goal.returns
returns c =
    let s = c.args in
    let previous : to_z w32 (of_z w32 s.b) ≡ s.b = search rules in
    let since : c.if-o-b.result ≡ cond (lt_z s.o.previous s.b) s.i s.o.since = search rules in
    let fine : c.if-o.result ≡ (s.o.fine && may_follow s.asked s.i s.o s.b) = search rules in
    let low : to_z w32 (of_z w32 c.end_so_far.result) ≡ cond (leb s.i s.asked.low_at) s.b s.o.low = search rules in
    let high : to_z w32 (of_z w32 c.end_so_far-2.result) ≡ cond (leb s.i s.asked.high_at) s.b s.o.high = search rules in
    rw (previous, since, fine, low, high) refl
