-- Where a part of the text stands, and that its bytes are the part: by the one test, whether its end is within the text.
use Prim.Native.Nat.{ℕ, ◌+◌, ◌≤◌, ◌<◌}
use mathlib.Core.Path.{◌≡◌, refl, ap, ◌∙◌}
use mathlib.Core.List.{List, []}
use mathlib.Core.Bool.{Bool, true, false, cond}
use borrow.Author.Tests.{le-leb, lt-leb}
use lib.Dec.{leb}
use lib.ListN.{length, take, drop}
use Rattle.tables.specs.Asking.{asked_element, part_of, asked_group, asked_material}
use Rattle.tables.specs.declared.Used.{Used}
use Rattle.tables.specs.declared.NameRun.{NameRun}
use Rattle.tables.specs.declared.Element.{Element}
use Rattle.c_tables.specs.Parts.{part, text_part_in, group_in, material_in, bytes_in}
use Rattle.c_tables.specs.declared.Part.{Part}

bytes-by : (text : List ℕ) (place count : ℕ) (b : Bool) → bytes_in text (cond b (part place count) (part 0 0)) ≡ cond b (take count (drop place text)) []
bytes-by text place count true = refl
bytes-by text place count false = refl

module _ (text : List ℕ) (run : NameRun) where
  pub part-there : run.place + run.length ≤ length text → part run.place run.length ≡ text_part_in text run
  unfolding text_part_in
  part-there h = rw (le-leb (run.place + run.length) (length text) h) refl

  pub part-past : length text < run.place + run.length → part 0 0 ≡ text_part_in text run
  unfolding text_part_in
  part-past h = rw (lt-leb (run.place + run.length) (length text) h) refl

  bytes-in : bytes_in text (text_part_in text run) ≡ part_of text run
  unfolding text_part_in part_of
  bytes-in = bytes-by text run.place run.length (leb (run.place + run.length) (length text))

-- an element's record e, and the answer r that was made of it
module _ (text : List ℕ) (used : Used) (elements : List ℕ) (number : ℕ) {e : Element} {r : Part} (p : e ≡ asked_element used elements number) where
  pub group-placed : r ≡ text_part_in text e.group → (r ≡ group_in text used elements number) × (bytes_in text r ≡ asked_group text used elements number)
  unfolding group_in asked_group
  group-placed q =
      let at : r ≡ text_part_in text (asked_element used elements number).group = q ∙ ap (λ (e : Element). text_part_in text e.group) p in
      (at, ap (λ (r : Part). bytes_in text r) at ∙ bytes-in text _)

  pub material-placed : r ≡ text_part_in text e.material → (r ≡ material_in text used elements number) × (bytes_in text r ≡ asked_material text used elements number)
  unfolding material_in asked_material
  material-placed q =
      let at : r ≡ text_part_in text (asked_element used elements number).material = q ∙ ap (λ (e : Element). text_part_in text e.material) p in
      (at, ap (λ (r : Part). bytes_in text r) at ∙ bytes-in text _)
