-- A slash, then the number.
use mathlib.Core.Path.{refl}
use mathlib.Core.List.{[], ◌∷◌}
use Rattle.references.specs.Written.{written_whole}
use Rattle.word_format.specs.Parts.{written_part}
use Rattle.word_format.proofs.Stores.{both_stored}
use Rattle.word_format.proofs.write_part.Goals as goal

pub returns : goal.returns
returns c =
    let a = c.args in
    both_stored a.out.now a.at (written_part a.n) (47 ∷ []) (written_whole a.n) refl _ _ _ _ c.put_byte-first.ensures c.write_whole.ensures
