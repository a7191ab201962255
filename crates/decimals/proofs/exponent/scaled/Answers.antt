-- By the byte where the digits of the mantissa stop.
use mathlib.Core.Path.{◌∙◌, sym, ap}
use Rattle.decimals.specs.Number.{is_e}
use Rattle.decimals.proofs.Scaled.{scaled-not}
use Rattle.decimals.proofs.exponent.scaled.Goals as goal

pub with_exponent-requires : goal.with_exponent-requires
with_exponent-requires c =
    record { mantissa_read = c.mantissa_at-m.ensures; text_value = sym (ap is_e c.byte_at.ensures) ∙ sym c.is_e.ensures ∙ c.if-is_e.true }

pub returns : goal.returns
returns c =
    scaled-not c.mantissa_at-m.ensures (sym (ap is_e c.byte_at.ensures) ∙ sym c.is_e.ensures ∙ c.if-is_e.false)
