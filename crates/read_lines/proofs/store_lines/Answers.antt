-- What is left comes to what all comes to: `Reached`, a turn for each line.
use Rattle.std.proofs.Common.{rules}
use Rattle.std.proofs.lemmas.Result.{err_from_is_err_and}
use Rattle.tables.specs.Lent.{lent_mut}
use Rattle.read_lines.proofs.Loop.{reached-start, reached-next, reached-stop, reached-open, reached-end}
use Rattle.read_lines.proofs.store_lines.Goals as goal

pub loop-at-init : goal.loop-at-init
loop-at-init c = record { reached = reached-start c.args.text.now (lent_mut c.args.t.now) c.begin-state.result c.requires.text_len_bound c.begin-state.ensures c.requires.blank; same = search rules }

pub loop-at-smaller : goal.loop-at-smaller
loop-at-smaller c =
    let l = c.loop-at in
    (reached-next c.args.text.now (lent_mut c.args.t.now) (lent_mut l.t) l.state l.at l.invariant.reached c.loop-at-test.true (lent_mut c.line_at.new.t) c.line_at.result c.line_at.ensures.taken c.line_at.ensures.lengths _ c.in_ok-line.was).1

pub loop-at-preserved : goal.loop-at-preserved
loop-at-preserved c =
    let l = c.loop-at in
    record {
      reached = (reached-next c.args.text.now (lent_mut c.args.t.now) (lent_mut l.t) l.state l.at l.invariant.reached c.loop-at-test.true (lent_mut c.line_at.new.t) c.line_at.result c.line_at.ensures.taken c.line_at.ensures.lengths _ c.in_ok-line.was).0;
      same = search rules;
    }

pub returns-in_err-line-clause-stored : goal.returns-in_err-line-clause-stored
returns-in_err-line-clause-stored c =
    let l = c.loop-at in
    let p = err_from_is_err_and c.from_residual.result c.from_residual.ensures.1 in
    rw (p.1, p.2)
    (reached-stop c.args.text.now (lent_mut c.args.t.now) (lent_mut l.t) l.state l.at l.invariant.reached c.loop-at-test.true (lent_mut c.line_at.new.t) c.line_at.result c.line_at.ensures.taken c.line_at.ensures.lengths _ c.in_err-line.was).0

pub returns-then-state-ne0-clause-stored : goal.returns-then-state-ne0-clause-stored
returns-then-state-ne0-clause-stored c =
    let l = c.loop-at in
    reached-open c.args.text.now (lent_mut c.args.t.now) (lent_mut l.t) l.state l.at l.invariant.reached c.loop-at-test.false c.if-state-ne0.true

pub returns-clause-stored : goal.returns-clause-stored
returns-clause-stored c =
    let l = c.loop-at in
    reached-end c.args.text.now (lent_mut c.args.t.now) (lent_mut l.t) l.state l.at l.invariant.reached c.loop-at-test.false c.if-state-ne0.false
