-- No digits, an exponent that is none, or a value.
use Prim.Native.Nat.{ℕ, ◌+◌}
use mathlib.Core.Path.{refl, ◌∙◌, ap}
use mathlib.Core.List.{◌++◌}
use lib.ListN.{drop}
use native.Mathlib.Omega.{arith}
use Rattle.digits.specs.Straight.{run, cap}
use Rattle.decimals.specs.Straight.{taken_of}
use Rattle.std.proofs.lemmas.Result.{err_from_is_err_and}
use Rattle.decimals.proofs.Exponents.{exponent_small}
use Rattle.decimals.proofs.Scaled.{scaled-nothing, scaled-malformed, scaled_read, counts, end-in, mantissa-order}
use Rattle.decimals.proofs.exponent.with_exponent.Goals as goal

pub returns-then-point-at-eq0 : goal.returns-then-point-at-eq0
returns-then-point-at-eq0 c =
    scaled-nothing c.requires.mantissa_read _ refl c.requires.text_value c.if-point-at-eq0.true

pub exponent_at-requires : goal.exponent_at-requires
exponent_at-requires c =
    let q = end-in c.requires.mantissa_read _ refl c.requires.text_value in
    omega arith

pub places-requires : goal.places-requires
places-requires c =
    let o = mantissa-order c.requires.mantissa_read in
    let t = c.requires.mantissa_read.to in
    (omega arith, exponent_small c.args.text.now (c.args.m.end + 1) c.in_ok-exponent.exponent.value c.in_ok-exponent.exponent.next c.in_ok-exponent.ensures)

pub returns-in_err-exponent : goal.returns-in_err-exponent
returns-in_err-exponent c =
    let p = err_from_is_err_and c.from_residual.result c.from_residual.ensures.1 in
    rw (p.1, p.2)
    (scaled-malformed c.requires.mantissa_read _ refl c.requires.text_value _ c.in_err-exponent.ensures)

pub returns : goal.returns
returns c =
    let s = c.args.text.now in
    scaled_read c.requires.mantissa_read _ refl c.requires.text_value (let y = counts c.requires.mantissa_read _ refl c.requires.text_value in let z = c.if-point-at-eq0.false in omega arith) c.in_ok-exponent.exponent.value c.in_ok-exponent.exponent.next c.in_ok-exponent.ensures c.taken.result
    (c.taken.ensures ∙ ap (λ (n : ℕ). cap (taken_of n (run (drop c.args.at s) ++ run (drop c.args.m.from s)))) c.places.ensures)
