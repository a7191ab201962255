-- The parts of loops, each with what begins at it: their rows one after the other, read back by index, and cut into the loops again.
use Prim.Native.Nat.{ℕ, zero, suc, ◌+◌, ◌*◌, ◌<◌}
use mathlib.Core.Path.{◌≡◌, refl, sym, ap, ap₂, ◌∙◌, subst}
use mathlib.Core.List.{List, [], ◌∷◌, ◌++◌, map, append-nil}
use mathlib.Core.Bool.{Bool, true, false, cond}
use native.Mathlib.Omega.{arith}
use borrow.Author.Tests.{ne_eqb}
use lib.ListN.{length, get_or, length-append, length-map}
use lib.IntN.{ℤ, pos}
use Rattle.lists.specs.Lists.{flat}
use Rattle.tables.specs.Tables.{Tables}
use Rattle.tables.specs.Records.{loop_width, span_width, part_at, number_at, value_at}
use Rattle.tables.specs.declared.parts.LoopPart.{LoopPart}
use Rattle.tables.proofs.Flat.{flat_append}
use Rattle.model.specs.Model.{Part, Loop}
use Rattle.model.specs.Room.{summed}
use Rattle.model.specs.Layout.{first_part, beginning, part_row, part_rows, loop_row, span_row}
use Rattle.model.specs.In.{each, Begun, begun_with, begun_in}
use Rattle.model.proofs.Stands.{Stands, stands_at, stands-record, Among, each-is}
use Rattle.model.proofs.Placed.{Parted}

-- ---- parts as their records: 1 a trim, 2 a hole, 0 nothing begins
abbrev pub laid_part : ℕ → Part → LoopPart
laid_part n p = record { begins = n; curve = p.curve; from = p.from; to = p.to }

abbrev pub begun_parts : ℕ → List Part → List LoopPart
begun_parts n [] = []
begun_parts n (p ∷ ps) = laid_part n p ∷ map (laid_part 0) ps

abbrev pub laid_loop : Loop → List LoopPart
laid_loop l = begun_parts (beginning l.hole) l.parts

abbrev pub laid_parts : List Loop → List LoopPart
laid_parts ls = flat laid_loop ls

abbrev pub row_of : LoopPart → List ℕ
row_of q = q.begins ∷ q.curve ∷ []

abbrev pub span_of : LoopPart → List ℤ
span_of q = q.from ∷ q.to ∷ []

on-rows : (ps : List Part) → flat (part_row 0) ps ≡ flat row_of (map (laid_part 0) ps)
on-rows [] = refl
on-rows (p ∷ ps) = ap (λ (r : List ℕ). 0 ∷ p.curve ∷ r) (on-rows ps)

part-rows : (n : ℕ) (ps : List Part) → part_rows n ps ≡ flat row_of (begun_parts n ps)
part-rows n [] = refl
part-rows n (p ∷ ps) = ap (λ (r : List ℕ). n ∷ p.curve ∷ r) (on-rows ps)

on-spans : (ps : List Part) → flat span_row ps ≡ flat span_of (map (laid_part 0) ps)
on-spans [] = refl
on-spans (p ∷ ps) = ap (λ (r : List ℤ). p.from ∷ p.to ∷ r) (on-spans ps)

part-spans : (n : ℕ) (ps : List Part) → flat span_row ps ≡ flat span_of (begun_parts n ps)
part-spans n [] = refl
part-spans n (p ∷ ps) = ap (λ (r : List ℤ). p.from ∷ p.to ∷ r) (on-spans ps)

pub parts-rows : (ls : List Loop) → flat loop_row ls ≡ flat row_of (laid_parts ls)
parts-rows [] = refl
parts-rows (l ∷ ls) =
    ap₂ (λ (a b : List ℕ). a ++ b) (part-rows (beginning l.hole) l.parts) (parts-rows ls) ∙ sym (flat_append row_of (laid_loop l) (laid_parts ls))

pub parts-spans : (ls : List Loop) → flat (λ (l : Loop). flat span_row l.parts) ls ≡ flat span_of (laid_parts ls)
parts-spans [] = refl
parts-spans (l ∷ ls) =
    ap₂ (λ (a b : List ℤ). a ++ b) (part-spans (beginning l.hole) l.parts) (parts-spans ls) ∙ sym (flat_append span_of (laid_loop l) (laid_parts ls))

parts-many : (n : ℕ) (ps : List Part) → length (begun_parts n ps) ≡ length ps
parts-many n [] = refl
parts-many n (p ∷ ps) = ap suc (length-map ps (laid_part 0))

pub parts-count : (ls : List Loop) → length (laid_parts ls) ≡ summed (λ (l : Loop). length l.parts) ls
parts-count [] = refl
parts-count (l ∷ ls) =
    let a = length-append (laid_loop l) (laid_parts ls) in
    let b = parts-many (beginning l.hole) l.parts in
    let c = parts-count ls in
    omega arith

-- ---- read back by index
pub part-among : (t : Tables) (l : ℕ) (qs : List LoopPart) → Stands t.bodies.loops (loop_width * l) (flat row_of qs) → Stands t.bodies.spans (span_width * l) (flat span_of qs)
    → (k : ℕ) (a : Among qs k) → part_at t (l + k) ≡ a.one
part-among t l qs s r k a =
    let q = a.one in
    let v = stands-record row_of loop_width (λ q. refl) t.bodies.loops (loop_width * l) qs k a s in
    let w = stands-record span_of span_width (λ q. refl) t.bodies.spans (span_width * l) qs k a r in
    let n : (j : ℕ) → j < loop_width → number_at loop_width t.bodies.loops (l + k) j ≡ get_or (row_of q) j 0 =
    λ j h. ap (λ (i : ℕ). get_or t.bodies.loops i 0) (let e : loop_width * (l + k) + j ≡ loop_width * l + loop_width * k + j = omega arith in e) ∙ stands_at t.bodies.loops (loop_width * l + loop_width * k) (row_of q) j 0 v (omega arith) in
    let z : (j : ℕ) → j < span_width → value_at span_width t.bodies.spans (l + k) j ≡ get_or (span_of q) j (pos 0) =
    λ j h. ap (λ (i : ℕ). get_or t.bodies.spans i (pos 0)) (let e : span_width * (l + k) + j ≡ span_width * l + span_width * k + j = omega arith in e) ∙ stands_at t.bodies.spans (span_width * l + span_width * k) (span_of q) j (pos 0) w (omega arith) in
    rw (n 0 (omega arith), n 1 (omega arith), z 0 (omega arith), z 1 (omega arith)) refl

-- ---- cut into loops again
on-cut : (ps : List Part) (qs : List LoopPart) → begun_in (map (laid_part 0) ps ++ qs) ≡ record { on = ps ++ (begun_in qs).on; loops = (begun_in qs).loops }
on-cut [] qs = refl
on-cut (p ∷ ps) qs = ap (begun_with (laid_part 0 p)) (on-cut ps qs)

after : (ps : List Part) (qs : List LoopPart) (ls : List Loop) → begun_in qs ≡ record { on = []; loops = ls } → begun_in (map (laid_part 0) ps ++ qs) ≡ record { on = ps; loops = ls }
after ps qs ls e =
    on-cut ps qs ∙ ap (λ (r : Begun). record { on = ps ++ r.on; loops = r.loops }) e ∙ ap (λ (x : List Part). record { on = x; loops = ls }) (append-nil ps)

pub loops-cut : (ls : List Loop) → Parted ls → begun_in (laid_parts ls) ≡ record { on = []; loops = ls }
loops-cut [] g = refl
loops-cut (l ∷ ls) g = go (λ ps. after ps (laid_parts ls) ls (loops-cut ls g.1)) l.hole l.parts g.0
  where
    go : ((ps : List Part) → begun_in (map (laid_part 0) ps ++ laid_parts ls) ≡ record { on = ps; loops = ls })
        → (h : Bool) (ps : List Part) → 0 < length ps → begun_in (begun_parts (beginning h) ps ++ laid_parts ls) ≡ record { on = []; loops = record { hole = h; parts = ps } ∷ ls }
    go f h [] o = absurd (omega arith)
    go f true (p ∷ ps) o = ap (begun_with (laid_part 2 p)) (f ps)
    go f false (p ∷ ps) o = ap (begun_with (laid_part 1 p)) (f ps)

-- a body with no loops has first loop part 0
pub each_first : {A : Type 0} (f : ℕ → A) (k l : ℕ) → each f k (first_part l k) ≡ each f k l
each_first f zero l = refl
each_first f (suc k) l = ap (λ (x : Bool). each f (suc k) (cond x 0 l)) (ne_eqb (suc k) 0 (λ j. omega arith))

pub loops-back : (t : Tables) (l : ℕ) (ls : List Loop) → Stands t.bodies.loops (loop_width * l) (flat loop_row ls) → Stands t.bodies.spans (span_width * l) (flat (λ (x : Loop). flat span_row x.parts) ls)
    → Parted ls → (k : ℕ) → k ≡ summed (λ (x : Loop). length x.parts) ls → (begun_in (each (part_at t) k (first_part l k))).loops ≡ ls
loops-back t l ls s r g k e =
    let s' = subst (Stands t.bodies.loops (loop_width * l)) (parts-rows ls) s in
    let r' = subst (Stands t.bodies.spans (span_width * l)) (parts-spans ls) r in
    let n : k ≡ length (laid_parts ls) = e ∙ sym (parts-count ls) in
    let b : each (part_at t) k (first_part l k) ≡ laid_parts ls =
    each_first (part_at t) k l ∙ ap (λ (i : ℕ). each (part_at t) i l) n ∙ each-is (part_at t) (laid_parts ls) l (part-among t l (laid_parts ls) s' r') in
    ap (λ (qs : List LoopPart). (begun_in qs).loops) b ∙ ap (λ (q : Begun). q.loops) (loops-cut ls g)
