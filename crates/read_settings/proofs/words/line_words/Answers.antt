-- By what the line goes on with.
use mathlib.Core.Path.{sym, ap, ◌∙◌, subst}
use native.Mathlib.Omega.{arith}
use Rattle.text.specs.Rest.{Rest, rest_at, push, word_at}
use Rattle.read_settings.specs.Words.{SettingLineIs}
use Rattle.read_settings.proofs.Lines as L
use Rattle.read_settings.proofs.words.line_words.Goals as goal

pub word_end-requires : goal.word_end-requires
word_end-requires c =
    let more = c.in-Start.ensures.more in
    let to = c.in-Start.ensures.to in
    omega arith

pub words_after-requires : goal.words_after-requires
words_after-requires c =
    let more = c.in-Start.ensures.more in
    let end = c.word_end.ensures.0 in
    (omega arith, c.word_end.ensures.1)

pub returns-in-Start : goal.returns-in-Start
returns-in-Start c =
    let s = c.args.text.now in
    subst (λ (x : Rest). SettingLineIs s x c.words_after.result) (sym (c.in-Start.ensures.rest ∙ ap (λ i. push (word_at s c.in-Start.p) (rest_at s i)) (sym c.word_end.ensures.0))) c.words_after.ensures

pub returns-in-End : goal.returns-in-End
returns-in-End c = let a = c.args in L.no_words a.text.now (rest_at a.text.now a.at) a.at c.requires c.in-End.ensures.rest

pub returns-in-Bad : goal.returns-in-Bad
returns-in-Bad c = let a = c.args in L.bad-line (rest_at a.text.now a.at).bad c.in-Bad.ensures.bad-at
