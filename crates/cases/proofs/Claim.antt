-- Every row of the table holds: computed from the definitions.
use mathlib.Core.Path.{◌≡◌, refl}
use mathlib.Core.Bool.{true}
use Rattle.lists.specs.Lists.{all}
use Rattle.text.specs.Lines.{lines_of}
use Rattle.digits.specs.Digits.{is_whole}
use Rattle.decimals.specs.Number.{decimal, numerator, denominator, nearest, number_of}
use Rattle.references.specs.Reference.{is_reference, refer, reference_of}
use Rattle.references.specs.Corner.{corner_of}
use Rattle.keywords.specs.Keywords.{keywords, statement_of}
use Rattle.model.specs.Room.{fits}
use Rattle.model.specs.Parse.{parse}
use Rattle.model.specs.Read.{statement, read_of}
use Rattle.rounding.specs.Round.{rounded, between}
use Rattle.point_exact.specs.Directions.{last_where, segment, span, chosen}
use Rattle.point_exact.specs.Sampled.{pyramid, low_at, high_at, offset_at, gap_at, first_control, curve_sampled}
use Rattle.cases.specs.Table.{holds, table}

pub claim : all holds table ≡ true
unfolding table lines_of is_whole decimal numerator denominator nearest number_of is_reference refer reference_of corner_of keywords statement_of fits parse statement read_of rounded between last_where segment span chosen pyramid low_at high_at offset_at gap_at first_control curve_sampled
claim = refl
