-- Each way out by the law of what stands first in the line.
use mathlib.Core.Path.{ap, ◌∙◌}
use Rattle.std.specs.Prelude.{Err}
use Rattle.std.proofs.lemmas.Result.{err_from_is_err_and}
use Rattle.tables.specs.Lent.{lent_mut}
use Rattle.read_vertex_lines.specs.declared.LineFault.{LineFault}
use Rattle.read_dispatch.proofs.Sorted.{key-word, key-end, key-bad, keyword-bounds, line-empty, line-bad, line_taken, line-refuses, line-faulted, line-roomless}
use Rattle.read_dispatch.proofs.line_with.Goals as goal

pub take_line-requires : goal.take_line-requires
take_line-requires c =
    let a = c.args in
    let word = key-word a.text.now a.at a.key c.requires.key_is c.in-Word.is in
    keyword-bounds a.text.now a.at _ _ word.0 word.1 a.state c.requires.at_in_bounds.1

pub returns-in-End-clause-taken : goal.returns-in-End-clause-taken
returns-in-End-clause-taken c =
    let a = c.args in
    line-empty a.text.now a.at a.state (lent_mut a.t.now) c.requires.at_in_bounds.1 (key-end a.text.now a.at a.key c.requires.key_is c.in-End.is)

pub returns-in-Bad-clause-taken : goal.returns-in-Bad-clause-taken
returns-in-Bad-clause-taken c =
    let a = c.args in
    line-bad a.text.now a.at a.state (lent_mut a.t.now) (key-bad a.text.now a.at a.key c.requires.key_is c.in-Bad.is)

pub returns-in-Ok-clause-taken : goal.returns-in-Ok-clause-taken
returns-in-Ok-clause-taken c =
    let a = c.args in
    let word = key-word a.text.now a.at a.key c.requires.key_is c.in-Word.is in
    line_taken a.text.now a.at _ a.state (lent_mut a.t.now) (lent_mut c.take_line.new.t) _ c.family_of.result c.take_line.result
    word.0 word.1 c.family_of.ensures c.take_line.ensures.taken c.requires.at_in_bounds.1 _ c.in-Ok.is

pub returns-in-Err-AtKeyword-clause-taken : goal.returns-in-Err-AtKeyword-clause-taken
returns-in-Err-AtKeyword-clause-taken c =
    let a = c.args in
    let word = key-word a.text.now a.at a.key c.requires.key_is c.in-Word.is in
    line-refuses a.text.now a.at _ a.state (lent_mut a.t.now) (lent_mut c.take_line.new.t) _ c.family_of.result c.take_line.result
    word.0 word.1 c.family_of.ensures c.take_line.ensures.taken _ (c.in-Err-AtKeyword.is ∙ ap (λ (f : LineFault). Err f) c.in-Err-AtKeyword.field-0-is)

pub returns-in_err-diagnose-in-Err-Unknown-clause-taken : goal.returns-in_err-diagnose-in-Err-Unknown-clause-taken
returns-in_err-diagnose-in-Err-Unknown-clause-taken c =
    let a = c.args in
    let word = key-word a.text.now a.at a.key c.requires.key_is c.in-Word.is in
    let p = err_from_is_err_and c.from_residual.result c.from_residual.ensures.1 in
    rw (p.1, p.2)
    (line-faulted a.text.now a.at _ a.state (lent_mut a.t.now) (lent_mut c.take_line.new.t) _ c.family_of.result c.take_line.result
    word.0 word.1 c.family_of.ensures c.take_line.ensures.taken (c.in-Err-Unknown.is ∙ ap (λ (f : LineFault). Err f) c.in-Err-Unknown.field-0-is) c.diagnose.result c.diagnose.ensures _ c.in_err-diagnose-in-Err-Unknown.was)

pub returns-in_ok-diagnose-in-Err-Unknown-clause-taken : goal.returns-in_ok-diagnose-in-Err-Unknown-clause-taken
returns-in_ok-diagnose-in-Err-Unknown-clause-taken c =
    let a = c.args in
    let word = key-word a.text.now a.at a.key c.requires.key_is c.in-Word.is in
    line-roomless a.text.now a.at _ a.state (lent_mut a.t.now) (lent_mut c.take_line.new.t) _ c.family_of.result c.take_line.result
    word.0 word.1 c.family_of.ensures c.take_line.ensures.taken (c.in-Err-Unknown.is ∙ ap (λ (f : LineFault). Err f) c.in-Err-Unknown.field-0-is) c.diagnose.result c.diagnose.ensures _ c.in_ok-diagnose-in-Err-Unknown.was
