-- What sweeping the four tables of vertices leaves, over the tables that it looks at. Only an inner contract cites this.
use Rattle.std.specs.Prelude.{ℕ, ◌-◌, ◌≡◌, cond, leb, List, ◌++◌, ℤ, pos, length, drop, Result, Ok, Err}
use Rattle.refusals.specs.declared.Reason.{Reason}
use Rattle.refusals.specs.declared.Reason.TheVariants.{BrokenRecord, NoOutputRoom}
use Rattle.lists.specs.Lists.{filled}
use Rattle.tables.specs.Tables.{Tables}
use Rattle.tables.specs.declared.Used.{Used}
use Rattle.model.specs.Model.{geometric, texture, normal, parametric}
use Rattle.table_rules.specs.Whole.{whole_obeys}
use Rattle.sweep.specs.declared.Dropped.{Dropped}
use Rattle.sweep.specs.Swept.{rows_after, swept_used, swept_numbers, numbers_needed}

pub record VerticesSwept (used : Used) (t : Tables) (list : List ℕ) (after : Used) (v vt vn vp : List ℤ) (numbers : List ℕ) : Type 0 where
  pub counts : after ≡ swept_used used t
  pub v-is : v ≡ filled (length t.vertices.v) (pos 0) (rows_after used t geometric)
  pub vt_is : vt ≡ filled (length t.vertices.vt) (pos 0) (rows_after used t texture)
  pub vn_is : vn ≡ filled (length t.vertices.vn) (pos 0) (rows_after used t normal)
  pub vp-is : vp ≡ filled (length t.vertices.vp) (pos 0) (rows_after used t parametric)
  pub numbers-are : numbers ≡ swept_numbers used t ++ drop (numbers_needed used) list

-- how many of each kind are fewer afterwards
abbrev pub fewer : Used → Used → Dropped
fewer before after =
    record { v = before.v - after.v; vt = before.vt - after.vt; vn = before.vn - after.vn; vp = before.vp - after.vp }

-- why a sweep is refused
unfoldable pub sweep_refusal : Used → Tables → (room : ℕ) → Result (Unit {0}) Reason
sweep_refusal used t room = cond (whole_obeys used t) (cond (leb (numbers_needed used) room) (Ok tt) (Err NoOutputRoom)) (Err BrokenRecord)
