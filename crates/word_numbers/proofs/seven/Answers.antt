-- Near the text's end its digits are all there are.
use Prim.Native.Nat.{◌-◌, ◌≤◌}
use mathlib.Core.Path.{refl}
use native.Mathlib.Omega.{arith}
use lib.ListN.{length}
use Rattle.digits.proofs.Runs.{few-seven, left-small}
use Rattle.word_numbers.proofs.seven.Goals as goal

pub digits_upto-requires : goal.digits_upto-requires
digits_upto-requires c =
    let left = length c.args.text.now - c.args.at in
    record { most_in_bounds = let x = c.requires.0 in omega arith; most_bound = left-small c.args.whole left c.requires.1 (let x = c.if-left-lt7.true in let y : left ≤ 7 = omega arith in y) }

pub returns-then-left-lt7 : goal.returns-then-left-lt7
returns-then-left-lt7 c =
    let a = c.args in
    few-seven a.text.now a.at a.whole (length a.text.now - a.at) c.digits_upto.result.next c.digits_upto.result.value refl c.if-left-lt7.true c.digits_upto.ensures
