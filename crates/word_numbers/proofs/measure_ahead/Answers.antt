-- By the byte after the whole part.
use Prim.Native.Nat.{◌+◌, ◌-◌}
use mathlib.Core.Path.{refl, sym, ap, ◌∙◌}
use native.Mathlib.Omega.{arith}
use lib.ListN.{drop}
use Rattle.text.specs.Words.{word_of}
use Rattle.text.specs.Rest.{end_of}
use Rattle.digits.specs.Answers.{ends_at}
use Rattle.digits.specs.Digits.{is_digit}
use Rattle.decimals.specs.Straight.{pointed, magnitude_of, DecimalsAhead, MantissaAhead}
use Rattle.digits.proofs.Fronts.{low-stops}
use Rattle.digits.proofs.Runs.{few-near, few-all}
use Rattle.word_numbers.proofs.Numbers.{measure-point}
use Rattle.decimals.proofs.Ahead.{with-decimals}
use Rattle.word_numbers.proofs.Ahead.{exact-on, four, bare_of}
use Rattle.word_numbers.proofs.measure_ahead.Goals as goal

pub byte_in-b-requires : goal.byte_in-b-requires
byte_in-b-requires c =
    let n = few-near c.digits_upto-w.ensures in
    let p = c.requires in
    omega arith

pub decimals_ahead-requires : goal.decimals_ahead-requires
decimals_ahead-requires c =
    let n = few-near c.digits_upto-w.ensures in
    let f = four c.digits_upto-w.ensures (ap is_digit (sym c.byte_in-b.ensures ∙ c.if-b-eq46.true)) in
    let v = f.value-is in
    let p = c.requires in
    (omega arith, omega arith, omega arith)

pub returns-then-b-eq46 : goal.returns-then-b-eq46
returns-then-b-eq46 c =
    let s = c.args.text.now in
    let n = few-near c.digits_upto-w.ensures in
    let f = four c.digits_upto-w.ensures (ap is_digit (sym c.byte_in-b.ensures ∙ c.if-b-eq46.true)) in
    let x = ends_at (pointed (c.digits_upto-w.result.next - c.args.at) c.digits_upto-w.result.value (word_of (drop (c.digits_upto-w.result.next + 1) s))) (end_of s (c.digits_upto-w.result.next + 1)) in
    exact-on (c.digits_upto-w.result.next + 1 + 6) (c.args.at + 11) x (ends_at (magnitude_of (word_of (drop c.args.at s))) (end_of s c.args.at)) (DecimalsAhead s (c.digits_upto-w.result.next + 1) (c.digits_upto-w.result.next - c.args.at) c.digits_upto-w.result.value) (MantissaAhead s c.args.at) c.decimals_ahead.result
    (measure-point s c.args.at c.digits_upto-w.result.next c.digits_upto-w.result.value f c.byte_in-b.result c.byte_in-b.ensures c.if-b-eq46.true x refl)
    (omega arith)
    (with-decimals s c.args.at c.digits_upto-w.result.next c.digits_upto-w.result.value f (few-all c.digits_upto-w.ensures (ap is_digit (sym c.byte_in-b.ensures ∙ c.if-b-eq46.true))) c.byte_in-b.result c.byte_in-b.ensures c.if-b-eq46.true)
    c.decimals_ahead.ensures

pub overflow_mul-result : goal.overflow_mul-result
overflow_mul-result c =
    let s = c.args.text.now in
    let f = four c.digits_upto-w.ensures (low-stops (drop c.digits_upto-w.result.next s) c.byte_in-b.result c.byte_in-b.ensures c.if-b-gt32.false) in
    let v = f.value-is in
    omega arith

pub returns : goal.returns
returns c =
    let n = few-near c.digits_upto-w.ensures in
    (bare_of c.digits_upto-w.ensures c.byte_in-b.ensures c.if-b-gt32.false c.if-end-at.false, omega arith)
