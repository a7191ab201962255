-- As many digits as the number has are the number itself.
use Prim.Native.Nat.{ℕ, ◌+◌}
use mathlib.Core.Path.{ap, ◌∙◌}
use lib.Seq.{sets}
use Rattle.references.specs.Written.{full}
use Rattle.word_format.proofs.Digits.{whole-full}
use Rattle.word_format.proofs.write_whole.Goals as goal

pub returns : goal.returns
returns c =
    let k = c.whole_length-count.ensures in
    let w = c.write_digits.ensures in
    let o = c.args.out.now in
    (w.0 ∙ ap (λ (n : ℕ). c.args.at + n) k, w.1 ∙ ap (λ (n : ℕ). sets o c.args.at (full n c.args.n)) k ∙ ap (sets o c.args.at) (whole-full c.args.n c.ranges.n.fits))
