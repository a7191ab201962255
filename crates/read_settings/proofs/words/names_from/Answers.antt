-- The loop keeps the run of the names that are left (`Running`); each name takes bytes off what is left.
use lib.ListN.{drop}
use native.Mathlib.Omega.{arith}
use borrow.Author.Rules.{rules}
use Rattle.text.specs.Words.{word_of}
use Rattle.text.specs.Rest.{rest_at, word_at, end_of}
use Rattle.digits.specs.Degree.{name_of}
use Rattle.read_state.proofs.Read.{name-says, name-wrong}
use Rattle.read_settings.proofs.Runs as R
use Rattle.read_settings.proofs.words.names_from.Goals as goal

pub loop-end-init : goal.loop-end-init
loop-end-init c =
    let a = c.args in
    let s = a.text.now in
    record { from = omega arith; more = c.requires.0; to = c.requires.1; few = omega arith; rest = R.run-starts (word_at s a.at) (rest_at s (end_of s a.at)) }

pub name_at-requires : goal.name_at-requires
name_at-requires c = let inv = c.loop-end.invariant in let more = inv.more in let to = inv.to in omega arith

pub returns-in_err-end : goal.returns-in_err-end
returns-in_err-end c =
    let s = c.args.text.now in
    let w = word_of (drop c.loop-end.place s) in
    rw c.from_residual.ensures (R.run-unnamed s _ _ _ c.loop-end.invariant (name-wrong w (name_of w) (end_of s c.loop-end.place) _ c.name_at.ensures c.in_err-end.ensures.value).1)

pub skip_blanks-requires : goal.skip_blanks-requires
skip_blanks-requires c =
    let s = c.args.text.now in
    let w = word_of (drop c.loop-end.place s) in
    let said = name-says w (name_of w) (end_of s c.loop-end.place) _ c.name_at.ensures c.in_ok-end.ensures.value in
    let end = said.1 in
    let to = c.loop-end.invariant.to in
    omega arith

pub overflow_add-count : goal.overflow_add-count
overflow_add-count c =
    let inv = c.loop-end.invariant in
    let few = inv.few in
    let more = inv.more in
    let to = inv.to in
    search rules

pub loop-end-smaller : goal.loop-end-smaller
loop-end-smaller c =
    let s = c.args.text.now in
    let w = word_of (drop c.loop-end.place s) in
    let said = name-says w (name_of w) (end_of s c.loop-end.place) _ c.name_at.ensures c.in_ok-end.ensures.value in
    let next = R.run-turn s _ _ _ c.loop-end.invariant _ said.1 said.0 c.in-Start.ensures in
    let ahead = next.1 in
    let more = next.0.more in
    let far = next.0.to in
    omega arith

pub loop-end-preserved : goal.loop-end-preserved
loop-end-preserved c =
    let s = c.args.text.now in
    let w = word_of (drop c.loop-end.place s) in
    let said = name-says w (name_of w) (end_of s c.loop-end.place) _ c.name_at.ensures c.in_ok-end.ensures.value in
    (R.run-turn s _ _ _ c.loop-end.invariant _ said.1 said.0 c.in-Start.ensures).0

pub overflow_cast-result : goal.overflow_cast-result
overflow_cast-result c =
    let from = c.loop-end.invariant.from in
    let more = c.loop-end.invariant.more in
    let to = c.loop-end.invariant.to in
    omega (arith, c.requires.2)

pub overflow_sub-result : goal.overflow_sub-result
overflow_sub-result c =
    let s = c.args.text.now in
    let w = word_of (drop c.loop-end.place s) in
    let said = name-says w (name_of w) (end_of s c.loop-end.place) _ c.name_at.ensures c.in_ok-end.ensures.value in
    let end = said.1 in
    let from = c.loop-end.invariant.from in
    let more = c.loop-end.invariant.more in
    omega arith

pub overflow_cast-result-in-End : goal.overflow_cast-result-in-End
overflow_cast-result-in-End c =
    let s = c.args.text.now in
    let w = word_of (drop c.loop-end.place s) in
    let said = name-says w (name_of w) (end_of s c.loop-end.place) _ c.name_at.ensures c.in_ok-end.ensures.value in
    let end = said.1 in
    let to = c.loop-end.invariant.to in
    omega (arith, c.requires.2)

pub returns-in-End : goal.returns-in-End
returns-in-End c =
    let s = c.args.text.now in
    let w = word_of (drop c.loop-end.place s) in
    let said = name-says w (name_of w) (end_of s c.loop-end.place) _ c.name_at.ensures c.in_ok-end.ensures.value in
    R.run_end s _ _ _ c.loop-end.invariant _ said.1 said.0 c.in-End.ensures.rest

pub returns-in-Bad : goal.returns-in-Bad
returns-in-Bad c =
    let s = c.args.text.now in
    let w = word_of (drop c.loop-end.place s) in
    let said = name-says w (name_of w) (end_of s c.loop-end.place) _ c.name_at.ensures c.in_ok-end.ensures.value in
    R.run-bad s _ _ _ c.loop-end.invariant _ said.1 said.0 c.in-Bad.ensures.no_words c.in-Bad.ensures.bad-at
