-- The loop's invariant, turn by turn.
use Prim.Native.Nat.{ℕ, ◌-◌, ◌≤◌, ◌<◌}
use mathlib.Core.Path.{◌≡◌, refl, sym, ◌∙◌, subst}
use mathlib.Core.List.{List}
use native.Mathlib.Omega.{arith}
use lib.ListN.{length}
use Rattle.tables.specs.Tables.{Tables}
use Rattle.read_state.specs.declared.State.{State}
use Rattle.std.specs.Prelude.{Ok, Err}
use Rattle.refusals.specs.declared.Reason.TheVariants.{NotHere}
use Rattle.refusals.specs.declared.Refusal.{Refusal}
use Rattle.text.specs.declared.Parsed.{Parsed}
use Rattle.model.proofs.Rooms.{rooms-eq}
use Rattle.read_lines.specs.Answered.{rooms_of}
use Rattle.read_dispatch.specs.Taking.{Taken, LineIs, SameLengths}
use Rattle.read_lines.specs.Lines.{begin, Blank, LinesIs}
use Rattle.read_lines.proofs.Going.{Going, going_start, going_on, going-stops, going-read, going-open}

-- the tables held t, which is nothing, and now hold u, of the same lengths
pub record Reached (s : List ℕ) (t u : Tables) (c : State) (at : ℕ) : Type 0 where
  pub going : Going (rooms_of t) s c u at
  pub lengths : rooms_of u ≡ rooms_of t

pub reached-start : (s : List ℕ) (t : Tables) (c : State) → length s ≤ 16777216 → c ≡ begin → Blank t → Reached s t t c 0
reached-start s t c l e b =
    record { going = subst (λ (d : State). Going (rooms_of t) s d t 0) (sym e) (subst (λ (u : Tables). Going (rooms_of t) s begin u 0) (sym b) (going_start (rooms_of t) s l)); lengths = refl }

module _ (s : List ℕ) (t u : Tables) (c : State) (at : ℕ) (r : Reached s t u c at) where
  module _ (h : at < length s) (y : Tables) (a : Taken) (is : LineIs s at c u y a) (k : SameLengths u y) where
    same-rooms : rooms_of y ≡ rooms_of t
    same-rooms = rooms-eq k.vertices k.elements k.bodies ∙ r.lengths

    pub reached-next : (l : Parsed State) → a ≡ Ok l → Reached s t y l.value l.next × (length s - l.next < length s - at)
    reached-next l e =
        let g = going_on (rooms_of t) s c u at r.going h y l (subst (LineIs s at c u y) e is) in
        let to = g.0.bounds.to in
        let on = g.1 in (
          record { going = g.0; lengths = same-rooms },
          (let z : length s - l.next < length s - at = omega arith in z),
        )

    pub reached-stop : (f : Refusal) → a ≡ Err f → LinesIs s t y (Err f) × (rooms_of y ≡ rooms_of t)
    reached-stop f e = (going-stops (rooms_of t) s c u at r.going h y f (subst (LineIs s at c u y) e is), same-rooms)

  module _ (h : length s ≤ at) where
    pub reached-open : (c.«open».kind ≡ 0 → ⊥) → LinesIs s t u (Err (record { reason = NotHere; place = length s }))
    reached-open f = going-open t s c u at r.going h f

    pub reached-end : c.«open».kind ≡ 0 → LinesIs s t u (Ok c.used)
    reached-end z = going-read t s c u at r.going h z
