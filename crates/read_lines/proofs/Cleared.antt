-- Tables cleared before the lines and after a refusal: what the lines come to with them.
use Prim.Native.Nat.{ℕ}
use mathlib.Core.Path.{◌≡◌, sym, ap, ◌∙◌, subst}
use mathlib.Core.List.{List, []}
use lib.ListN.{length, replicate, length-replicate}
use lib.IntN.{pos}
use Rattle.lists.specs.Lists.{filled}
use Rattle.tables.specs.Tables.{Tables, zeros}
use Rattle.tables.specs.declared.Used.{Used}
use Rattle.tables.proofs.Filled.{replicate-filled}
use Rattle.tables.proofs.Groups.{vertex-tables-eq, element-tables-eq, body-tables-eq, tables-eq, vertex-rooms-eq, element-rooms-eq, body-rooms-eq}
use Rattle.model.specs.Model.{start}
use Rattle.model.specs.Room.{Rooms}
use Rattle.model.specs.Read.{Answer, read, refused}
use Rattle.model.specs.Layout.{tables_of, used_of}
use Rattle.std.specs.Prelude.{Result, Ok, Err}
use Rattle.refusals.specs.declared.Reason.{Reason}
use Rattle.refusals.specs.declared.Refusal.{Refusal}
use Rattle.refusals.specs.Reasons.{reason_number}
use Rattle.refusals.proofs.Numbers.{reason-back}
use Rattle.read_lines.specs.Answered.{read_answer, refusal, rooms_of, answered}
use Rattle.read_lines.specs.Lines.{Blank, lines_read, LinesIs}
use Rattle.model.proofs.Rooms.{rooms-eq}

-- ---- cleared tables
blank : {A : Type 0} (l : List A) (z : A) → replicate (length l) z ≡ filled (length l) z []
blank l z = replicate-filled (length l) z

as_long : {A : Type 0} (l : List A) (z : A) → length (replicate (length l) z) ≡ length l
as_long l z = length-replicate (length l) z

module _ (t : Tables) where
  pub zeros-nothing : zeros t ≡ tables_of (rooms_of t) start.model
  unfolding tables_of
  zeros-nothing =
      let v = t.vertices in
      let e = t.elements in
      let b = t.bodies in
      tables-eq
      (vertex-tables-eq (blank v.v (pos 0)) (blank v.vt (pos 0)) (blank v.vn (pos 0)) (blank v.vp (pos 0)))
      (element-tables-eq (blank e.corners 0) (blank e.elements 0))
      (body-tables-eq (blank b.bodies 0) (blank b.ranges (pos 0)) (blank b.parameters (pos 0)) (blank b.loops 0) (blank b.spans (pos 0)))

  pub zeros-rooms : rooms_of (zeros t) ≡ rooms_of t
  zeros-rooms =
      let v = t.vertices in
      let e = t.elements in
      let b = t.bodies in
      rooms-eq
      (vertex-rooms-eq (as_long v.v (pos 0)) (as_long v.vt (pos 0)) (as_long v.vn (pos 0)) (as_long v.vp (pos 0)))
      (element-rooms-eq (as_long e.corners 0) (as_long e.elements 0))
      (body-rooms-eq (as_long b.bodies 0) (as_long b.ranges (pos 0)) (as_long b.parameters (pos 0)) (as_long b.loops 0) (as_long b.spans (pos 0)))

  pub cleared-blank : (u : Tables) → u ≡ zeros t → Blank u
  cleared-blank u e = e ∙ zeros-nothing ∙ ap (λ (R : Rooms). tables_of R start.model) (sym (ap rooms_of e ∙ zeros-rooms))

-- ---- tables of the same lengths: the same is left in them
pub zeros-same : (t u : Tables) → rooms_of t ≡ rooms_of u → zeros t ≡ zeros u
zeros-same t u e = zeros-nothing t ∙ ap (λ (R : Rooms). tables_of R start.model) e ∙ sym (zeros-nothing u)

pub answered-same : (t u : Tables) → rooms_of t ≡ rooms_of u → (x : Answer) → answered t x ≡ answered u x
answered-same t u e (read m) = ap (λ (R : Rooms). read_answer (Ok (used_of m)) (tables_of R m)) e
answered-same t u e (refused n p) = ap (read_answer (Err (refusal n p))) (zeros-same t u e)

-- ---- the answer
-- a refusal is that of its number and place
pub refusal-back : (r : Refusal) → refusal (reason_number r.reason) r.place ≡ r
refusal-back r = ap (λ (k : Reason). record { reason = k; place = r.place }) (reason-back r.reason)

module _ (s : List ℕ) (t y : Tables) (a : Result Used Refusal) (is : LinesIs s t y a) where
  pub all_read : (n : Used) → a ≡ Ok n → read_answer (Ok n) y ≡ lines_read s t
  all_read n k = subst (LinesIs s t y) k is

  pub all-refused : (r : Refusal) → a ≡ Err r → (z : Tables) → z ≡ zeros y → rooms_of y ≡ rooms_of t → read_answer (Err r) z ≡ lines_read s t
  all-refused r k z f l =
      ap (read_answer (Err r)) (f ∙ zeros-same y t l)
      ∙ ap (λ (q : Refusal). read_answer (Err q) (zeros t)) (sym (refusal-back r))
      ∙ ap (answered t) (sym (subst (LinesIs s t y) k is))
