-- The loop keeps the words found so far with the rest of the line (`Scanning`); each word takes bytes off what is left.
use mathlib.Core.Path.{refl}
use native.Mathlib.Omega.{arith}
use borrow.Author.Rules.{rules}
use Rattle.text.proofs.Found as F
use Rattle.text.proofs.Scans as S
use Rattle.text.proofs.scan_line.Goals as goal

pub loop-p-init : goal.loop-p-init
loop-p-init c = record { to = c.requires; small = omega arith; bad-is = refl; next-is = refl; count-is = omega arith }

pub word_end-i-requires : goal.word_end-i-requires
word_end-i-requires c =
    let met = F.word-found c.args.text.now c.loop-p.i _ c.skip_blanks.ensures c.in-Start.is in
    let more = met.more in
    let to = met.to in
    omega arith

pub overflow_add-count : goal.overflow_add-count
overflow_add-count c =
    let met = F.word-found c.args.text.now c.loop-p.i _ c.skip_blanks.ensures c.in-Start.is in
    let next = S.scan-turn c.args.text.now c.args.at c.loop-p.i c.loop-p.count c.loop-p.invariant met c.word_end-i.ensures.0 in
    let small = next.0.small in
    let to = next.0.to in
    search rules

pub loop-p-smaller : goal.loop-p-smaller
loop-p-smaller c =
    let met = F.word-found c.args.text.now c.loop-p.i _ c.skip_blanks.ensures c.in-Start.is in
    let next = S.scan-turn c.args.text.now c.args.at c.loop-p.i c.loop-p.count c.loop-p.invariant met c.word_end-i.ensures.0 in
    let ahead = next.1 in
    let to = next.0.to in
    omega arith

pub loop-p-preserved : goal.loop-p-preserved
loop-p-preserved c =
    let met = F.word-found c.args.text.now c.loop-p.i _ c.skip_blanks.ensures c.in-Start.is in
    let next = S.scan-turn c.args.text.now c.args.at c.loop-p.i c.loop-p.count c.loop-p.invariant met c.word_end-i.ensures.0 in
    next.0

pub returns-in-End : goal.returns-in-End
returns-in-End c =
    S.scan-end c.args.text.now c.args.at c.loop-p.i c.loop-p.count c.loop-p.invariant _ c.skip_blanks.ensures c.in-End.is

pub returns-in-Bad : goal.returns-in-Bad
returns-in-Bad c =
    S.scan-bad c.args.text.now c.args.at c.loop-p.i c.loop-p.count c.loop-p.invariant _ c.skip_blanks.ensures c.in-Bad.is
