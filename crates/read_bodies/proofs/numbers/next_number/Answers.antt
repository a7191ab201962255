-- The three answers of `skip_blanks`; at a word, what it says as a number.
use native.Mathlib.Omega.{arith}
use lib.ListN.{drop}
use Rattle.text.specs.Words.{word_of}
use Rattle.text.specs.Rest.{end_of}
use Rattle.decimals.specs.Number.{number_of}
use Rattle.read_state.proofs.Read.{read-says, read-wrong}
use Rattle.read_bodies.proofs.Steps as S
use Rattle.read_bodies.proofs.numbers.next_number.Goals as goal

pub number_at-requires : goal.number_at-requires
number_at-requires c =
    let m = c.in-Start.ensures.more in
    let t = c.in-Start.ensures.to in
    omega arith

pub returns-in-Bad : goal.returns-in-Bad
returns-in-Bad c = S.bad-stops c.args.text.now c.args.at c.in-Bad.ensures

pub returns-in_err-ok-in-Start : goal.returns-in_err-ok-in-Start
returns-in_err-ok-in-Start c =
    let s = c.args.text.now in
    let p = c.in-Start.p in
    let x = read-wrong (number_of (word_of (drop p s))) (end_of s p) _ c.number_at.ensures c.in_err-ok-in-Start.ensures.value in
    rw c.from_residual.ensures (S.other-stops s c.args.at p c.in-Start.ensures x.1)

pub returns-in_ok-ok-in-Start : goal.returns-in_ok-ok-in-Start
returns-in_ok-ok-in-Start c =
    let s = c.args.text.now in
    let p = c.in-Start.p in
    let x = read-says (number_of (word_of (drop p s))) (end_of s p) _ c.number_at.ensures c.in_ok-ok-in-Start.ensures.value in
    S.number-steps s c.args.at p c.in-Start.ensures x.0 x.1
