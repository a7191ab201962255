-- The table of vp against the model's: each record of it begins where four times as many numbers end, with how many were given. By the rows.
use Prim.Native.Nat.{ℕ, zero, suc, ◌+◌, ◌*◌, ◌-◌}
use mathlib.Core.Path.{◌≡◌, refl, sym, ap, ◌∙◌}
use mathlib.Core.List.{List, [], ◌∷◌, ◌++◌}
use native.Mathlib.Omega.{arith}
use lib.ListN.{length, get_or, get_or-append}
use lib.Seq.{get_or-append-add}
use lib.IntN.{ℤ, pos, nat_abs}
use Rattle.lists.specs.Lists.{flat}
use Rattle.tables.specs.Tables.{Tables}
use Rattle.tables.proofs.Filled.{get_d-filled}
use Rattle.model.specs.Model as model
use Rattle.model.specs.Room.{Rooms}
use Rattle.model.specs.Layout.{itself}
use Rattle.read_state.specs.declared.State.{State}
use Rattle.read_state.specs.Image.{image_of}
use Rattle.read_state.specs.Changed.{AllCounted}
use Rattle.read_diagnosis.specs.Diagnosis.{GivenIn}
use Rattle.read_elements.proofs.Wide.{Given}
use Rattle.read_vertex_lines.specs.Holding.{Holds}

-- the first number of record j, and 0 after the last
first_of : (zs : List (List ℤ)) (j : ℕ) → AllCounted zs → get_or (flat itself zs) (4 * j) (pos 0) ≡ get_or (get_or zs j []) 0 (pos 0)
first_of [] j a = refl
first_of (z ∷ zs) zero a = let e = a.0.wide in get_or-append z (flat itself zs) (pos 0) 0 (omega arith)
first_of (z ∷ zs) (suc j) a =
    let e = a.0.wide in
    let f : 4 * suc j ≡ length z + 4 * j = omega arith in
    ap (λ (i : ℕ). get_or (z ++ flat itself zs) i (pos 0)) f ∙ get_or-append-add z (flat itself zs) (4 * j) (pos 0) ∙ first_of zs j a.1

-- it is a count
count_of : (zs : List (List ℤ)) (j : ℕ) → AllCounted zs → get_or (get_or zs j []) 0 (pos 0) ≡ pos (nat_abs (get_or (get_or zs j []) 0 (pos 0)))
count_of [] j a = refl
count_of (z ∷ zs) zero a = let e = a.0.first in e ∙ ap (λ (y : ℤ). pos (nat_abs y)) (sym e)
count_of (z ∷ zs) (suc j) a = count_of zs j a.1

module _ (R : Rooms) (s : List ℕ) (x : model.State) (c : State) (t : Tables) (p : ℕ) (h : Holds R s x c t p) where
  firsts : (j : ℕ) → get_or t.vertices.vp (4 * j) (pos 0) ≡ get_or (get_or x.model.vertices.vp j []) 0 (pos 0)
  unfolding image_of
  firsts j =
      ap (λ (a : Tables). get_or a.vertices.vp (4 * j) (pos 0)) h.image
      ∙ get_d-filled R.vertices.vp (pos 0) (flat itself x.model.vertices.vp) (4 * j)
      ∙ first_of x.model.vertices.vp j h.wide.counts

  pub given-in : GivenIn x.model.vertices.vp t.vertices.vp
  given-in j l = firsts j

  pub given : Given t.vertices.vp x.model.vertices.vp
  given =
      record {
        first = λ j.
            let e : suc j - 1 ≡ j = omega arith in
            firsts j ∙ count_of x.model.vertices.vp j h.wide.counts
            ∙ ap (λ (i : ℕ). pos (nat_abs (get_or (get_or x.model.vertices.vp i []) 0 (pos 0)))) (sym e);
      }
