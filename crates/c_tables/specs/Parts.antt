-- Must be believed: a promise reaches every definition of this file.
-- Where a name of an element stands in the caller's text.
use Rattle.std.specs.Prelude.{ℕ, ◌+◌, List, cond, leb, length, take, drop}
use Rattle.tables.specs.Asking.{asked_element}
use Rattle.tables.specs.declared.Used.{Used}
use Rattle.tables.specs.declared.NameRun.{NameRun}
use Rattle.c_tables.specs.declared.Part.{Part}

abbrev pub part : ℕ → ℕ → Part
part place count = record { place = place; length = count }

-- where that part of the caller's own text stands; "a run past the text's end, gives an empty part"
unfoldable pub text_part_in : List ℕ → NameRun → Part
text_part_in text run = cond (leb (run.place + run.length) (length text)) (part run.place run.length) (part 0 0)

unfoldable pub group_in : List ℕ → Used → List ℕ → ℕ → Part
group_in text used elements number = text_part_in text (asked_element used elements number).group

unfoldable pub material_in : List ℕ → Used → List ℕ → ℕ → Part
material_in text used elements number = text_part_in text (asked_element used elements number).material

-- the bytes of the text that a part names
abbrev pub bytes_in : List ℕ → Part → List ℕ
bytes_in text p = take p.length (drop p.place text)
