-- The loop keeps what is left to pass over (`Skipping`); each word takes one off.
use Prim.Native.Nat.{◌-◌}
use native.Mathlib.Omega.{arith}
use Rattle.read_word_checks.proofs.Walks as W
use Rattle.read_word_checks.proofs.walk.skip.Goals as goal

pub loop-passed-init : goal.loop-passed-init
loop-passed-init c = W.skip-none c.args.text.now c.args.at c.args.count c.requires

pub skip_blanks-requires : goal.skip_blanks-requires
skip_blanks-requires c = c.loop-passed.invariant.to

pub word_end-i-requires : goal.word_end-i-requires
word_end-i-requires c =
    let more = c.in-Start.ensures.more in
    let to = c.in-Start.ensures.to in
    omega arith

pub loop-passed-preserved : goal.loop-passed-preserved
loop-passed-preserved c =
    let a = c.args in
    W.skip-further a.text.now a.at a.count _ c.loop-passed._passed
    (W.skip-turn a.text.now a.at a.count c.loop-passed.i (a.count - c.loop-passed._passed) c.loop-passed.invariant (omega arith) c.in-Start.ensures c.word_end-i.ensures.0).0

pub returns-in-End : goal.returns-in-End
returns-in-End c =
    let a = c.args in
    W.skip-end a.text.now a.at a.count c.loop-passed.i (a.count - c.loop-passed._passed) c.loop-passed.invariant (W.end-words a.text.now c.loop-passed.i c.in-End.ensures)

pub returns-in-Bad : goal.returns-in-Bad
returns-in-Bad c =
    let a = c.args in
    W.skip-end a.text.now a.at a.count c.loop-passed.i (a.count - c.loop-passed._passed) c.loop-passed.invariant c.in-Bad.ensures.no_words

pub returns : goal.returns
returns c =
    let a = c.args in
    W.skip-done a.text.now a.at a.count c.loop-passed.i (a.count - c.loop-passed._passed) c.loop-passed.invariant (omega arith)
