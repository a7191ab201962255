-- The direction at the first word, then the row.
use mathlib.Core.Path.{sym, ◌∙◌}
use native.Mathlib.Omega.{arith}
use Rattle.lists.proofs.Tests.{never}
use Rattle.read_bodies.proofs.Parms as P
use Rattle.read_bodies.proofs.parm.take_parm.Goals as goal
use Rattle.read_bodies.proofs.parm.take_parm.Goals.{else-v-via-then-v+else-not-surface, else-v-via-else-v}

pub word_end-requires : goal.word_end-requires
word_end-requires c =
    let m = c.in-Start.ensures.more in
    let t = c.in-Start.ensures.to in
    omega arith

pub take_row-requires : goal.take_row-requires
take_row-requires c = c.word_end.ensures.1

pub returns-in-Bad : goal.returns-in-Bad
returns-in-Bad c = P.no_words c.args.surface c.args.text.now c.args.at c.in-Bad.ensures.no_words

pub returns-in-End : goal.returns-in-End
returns-in-End c = P.no_words c.args.surface c.args.text.now c.args.at (P.end-words c.args.text.now c.args.at c.in-End.ensures)

pub returns-in_err-v-in-Start : goal.returns-in_err-v-in-Start
returns-in_err-v-in-Start c =
    rw c.from_residual.ensures
    (P.no-direction c.args.surface c.args.text.now c.args.at _ c.in-Start.ensures (P.says_none c.args.text.now c.in-Start.p c.argument_at.ensures c.in_err-v-in-Start.ensures))

pub returns-then-not-surface : goal.returns-then-not-surface
returns-then-not-surface c =
    let a = c.args in
    P.not-here a.surface a.text.now a.at _ c.in-Start.ensures (P.directed a.text.now c.in-Start.p c.argument_at.ensures c.in_ok-v-in-Start.ensures) c.if-v.true c.if-not-surface.true

pub returns-else-v : goal.returns-else-v
returns-else-v c =
    let a = c.args in
    let s = a.text.now in
    let v = c.in_ok-v-in-Start.v in
    P.parm-row a.surface s a.at _ c.in-Start.ensures v (P.directed s c.in-Start.p c.argument_at.ensures c.in_ok-v-in-Start.ensures)
    (P.belongs v a.surface (λ h. elim c.else-v.branch [ else-v-via-then-v+else-not-surface w ↦ w.if-not-surface.false | else-v-via-else-v w ↦ never (sym w.if-v.false ∙ h) ]))
    _ c.word_end.ensures.0 c.take_row.result c.take_row.ensures
