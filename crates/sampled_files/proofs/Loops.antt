-- The trimming loops of an accepted text obey the rules: its parts in order, each with what begins at it. By the loops.
use Prim.Native.Nat.{ℕ, zero, suc, ◌+◌, ◌*◌, ◌%◌, ◌≤◌, ◌<◌}
use mathlib.Core.Path.{◌≡◌, refl, sym, ap, ◌∙◌, subst}
use mathlib.Core.List.{List, [], ◌∷◌, ◌++◌, map}
use mathlib.Core.Bool.{Bool, true, false, cond, ◌&&◌}
use native.Mathlib.Omega.{arith}
use borrow.Author.Tests.{le-leb, ne_eqb, eq-eqb}
use lib.ListN.{length, get_or}
use lib.Dec.{leb, eqb}
use lib.IntN.{ℤ, pos}
use Rattle.lists.specs.Lists.{all, flat}
use Rattle.lists.proofs.Tests.{and_left, and_right, and_both}
use Rattle.lists.proofs.Laws.{all_append}
use Rattle.references.specs.Fits.{number_fits, reference_fits}
use Rattle.tables.specs.Tables.{Tables}
use Rattle.tables.specs.Records.{part_at, loop_width, span_width}
use Rattle.tables.specs.declared.parts.LoopPart.{LoopPart}
use Rattle.tables.proofs.Flat.{length-flat}
use Rattle.model.specs.Model.{Vertices, Part, Loop}
use Rattle.model.specs.Statements.{loop}
use Rattle.model.specs.Parse.{WordForm, a-number, a-curve, number, whole, Seen}
use Rattle.model.specs.Room.{summed}
use Rattle.model.specs.Layout.{first_part, beginning, loop_row, span_row}
use Rattle.tidy_form.specs.declared.Weights.TheVariants as weights
use Rattle.tidy_form.proofs.Values.{part_values}
use Rattle.tidy_form.proofs.Words.{Fits, Fitting}
use Rattle.tidy_form.proofs.Shapes.{fits-is}
use Rattle.tidy_form.proofs.Standing.{seen_of, Fine}
use Rattle.tidy_form.proofs.Good.{GoodLoops}
use Rattle.model.proofs.Placed.{Parted}
use Rattle.record_rules.specs.Numbers.{in_range}
use Rattle.record_rules.specs.Loops.{begins_obeys, part_obeys, each_part, loops_obey}
use Rattle.record_rules.proofs.Below.{below_all}
use Rattle.model.specs.In.{part_from}
use Rattle.model.proofs.Stands.{Stands, among, among-at}
use Rattle.model.proofs.Parts.{laid_part, begun_parts, laid_loop, laid_parts, row_of, span_of, parts-rows, parts-spans, parts-count, part-among}
use Rattle.sampled_files.proofs.Vertices.{all-at}

-- ---- each part is held against the curves before it, its numbers in range
abbrev part_ok : ℕ → Part → Bool
part_ok n p = reference_fits n p.curve && number_fits p.from && number_fits p.to

abbrev pub begun_ok : ℕ → LoopPart → Bool
begun_ok n q = leb q.begins 2 && part_ok n (part_from q)

module _ (s : Seen) where
  abbrev loop_form : ℕ → WordForm
  loop_form i = cond (eqb (i % 3) 2) a-curve a-number

  one_number : (i : ℕ) (z : ℤ) → (i % 3 ≡ 2 → ⊥) → Fits s (loop_form i) (number z) → number_fits z ≡ true
  one_number i z h f =
      let q = fits-is s (loop_form i) a-number (number z) (rw (ne_eqb (i % 3) 2 h) refl) f in
      let e = q.1 in
      ap number_fits (let w : z ≡ q.0 = cc in w) ∙ q.2

  one-curve : (i k : ℕ) → i % 3 ≡ 2 → Fits s (loop_form i) (whole k) → reference_fits s.curves k ≡ true
  one-curve i k h f =
      let q = fits-is s (loop_form i) a-curve (whole k) (rw (eq-eqb (i % 3) 2 h) refl) f in
      let e = q.1 in
      ap (reference_fits s.curves) (let w : k ≡ q.0 = cc in w) ∙ q.2

  parts-kept : (i : ℕ) (ps : List Part) → i % 3 ≡ 0 → Fitting s loop_form i (flat part_values ps) → all (part_ok s.curves) ps ≡ true
  parts-kept i [] e f = refl
  parts-kept i (p ∷ ps) e f =
      and_both
      (and_both (and_both (one-curve (suc (suc i)) p.curve (omega arith) f.1.1.0) (one_number i p.from (λ h. omega arith) f.0)) (one_number (suc i) p.to (λ h. omega arith) f.1.0))
      (parts-kept (suc (suc (suc i))) ps (omega arith) f.1.1.1)

fine-parts : (x : Vertices) (n : ℕ) (l : Loop) → Fine x n (loop l) → all (part_ok n) l.parts ≡ true
fine-parts x n l f = go l.hole f
  where
    go : (h : Bool) → Fine x n (loop (record { hole = h; parts = l.parts })) → all (part_ok n) l.parts ≡ true
    go true f = parts-kept (seen_of x n) 0 l.parts refl (f.fits weights.Always)
    go false f = parts-kept (seen_of x n) 0 l.parts refl (f.fits weights.Always)

on-ok : (n : ℕ) (ps : List Part) → all (part_ok n) ps ≡ true → all (begun_ok n) (map (laid_part 0) ps) ≡ true
on-ok n [] h = refl
on-ok n (p ∷ ps) h = and_both (and_left (part_ok n p) (all (part_ok n) ps) h) (on-ok n ps (and_right (part_ok n p) (all (part_ok n) ps) h))

begins-few : (h : Bool) → leb (beginning h) 2 ≡ true
begins-few true = refl
begins-few false = refl

begins-some : (h : Bool) → leb 1 (beginning h) ≡ true
begins-some true = refl
begins-some false = refl

begun-part : (n m : ℕ) (ps : List Part) → leb m 2 ≡ true → all (part_ok n) ps ≡ true → all (begun_ok n) (begun_parts m ps) ≡ true
begun-part n m [] b h = refl
begun-part n m (p ∷ ps) b h = and_both (and_both b (and_left (part_ok n p) (all (part_ok n) ps) h)) (on-ok n ps (and_right (part_ok n p) (all (part_ok n) ps) h))

pub begun_ok-laid : (x : Vertices) (n : ℕ) (ls : List Loop) → GoodLoops x n ls → all (begun_ok n) (laid_parts ls) ≡ true
begun_ok-laid x n [] g = refl
begun_ok-laid x n (l ∷ ls) g =
    all_append (begun_ok n) (laid_loop l) (laid_parts ls) (begun-part n (beginning l.hole) l.parts (begins-few l.hole) (fine-parts x n l g.0)) (begun_ok-laid x n ls g.1)

-- the first of all begins a loop
abbrev no_part : LoopPart
no_part = record { begins = 0; curve = 0; from = pos 0; to = pos 0 }

first-begins : (ls : List Loop) → Parted ls → 0 < length (laid_parts ls) → leb 1 (get_or (laid_parts ls) 0 no_part).begins ≡ true
first-begins [] g h = absurd (omega arith)
first-begins (l ∷ ls) g h = go l.parts g.0
  where
    go : (ps : List Part) → 0 < length ps → leb 1 (get_or (begun_parts (beginning l.hole) ps ++ laid_parts ls) 0 no_part).begins ≡ true
    go [] k = absurd (omega arith)
    go (p ∷ ps) k = begins-some l.hole

-- ---- read back
module _ (t : Tables) (n l : ℕ) (qs : List LoopPart) (s : Stands t.bodies.loops (loop_width * l) (flat row_of qs)) (r : Stands t.bodies.spans (span_width * l) (flat span_of qs)) where
  part-is : (k : ℕ) → k < length qs → part_at t (l + k) ≡ get_or qs k no_part
  part-is k h = let a = among qs k h in part-among t l qs s r k a ∙ sym (among-at qs k a no_part)

  part-obeys : (k : ℕ) (q : LoopPart) → begun_ok n q ≡ true → cond (eqb k 0) (leb 1 q.begins) true ≡ true → part_obeys n k q ≡ true
  unfolding part_obeys begins_obeys in_range
  part-obeys k q o f =
      let c = q.curve in
      let b = leb q.begins 2 in
      let p = and_right b (part_ok n (part_from q)) o in
      let v = reference_fits n c && number_fits q.from in
      let w = and_left v (number_fits q.to) p in
      let z = and_left (reference_fits n c) (number_fits q.from) w in
      and_both
      (and_both (and_both (and_both (and_both (and_left b (part_ok n (part_from q)) o) f) (and_left (leb 1 c) (leb c n) z)) (and_right (leb 1 c) (leb c n) z))
      (and_right (reference_fits n c) (number_fits q.from) w))
      (and_right v (number_fits q.to) p)

  pub each_part-begun : all (begun_ok n) qs ≡ true → (0 < length qs → leb 1 (get_or qs 0 no_part).begins ≡ true) → each_part t n l (length qs) ≡ true
  unfolding each_part
  each_part-begun o f =
      below_all (λ k. part_obeys n k (part_at t (l + k))) (length qs)
      (λ k h. ap (part_obeys n k) (part-is k h) ∙ part-obeys k (get_or qs k no_part) (all-at (begun_ok n) qs k no_part o h) (begins k h))
    where
      begins : (k : ℕ) → k < length qs → cond (eqb k 0) (leb 1 (get_or qs k no_part).begins) true ≡ true
      begins zero h = f h
      begins (suc k) h = rw (ne_eqb (suc k) 0 (λ e. omega arith)) refl

pub loops-obey : (used : ℕ) (t : Tables) (n l : ℕ) (ls : List Loop) → l + summed (λ (y : Loop). length y.parts) ls ≤ used
    → Stands t.bodies.loops (loop_width * l) (flat loop_row ls) → Stands t.bodies.spans (span_width * l) (flat (λ (y : Loop). flat span_row y.parts) ls)
    → all (begun_ok n) (laid_parts ls) ≡ true → Parted ls → (c : ℕ) → c ≡ summed (λ (y : Loop). length y.parts) ls → loops_obey used t n (first_part l c) c ≡ true
unfolding loops_obey
loops-obey used t n l ls a s r o p c q = go (eqb c 0)
  where
    s' : Stands t.bodies.loops (loop_width * l) (flat row_of (laid_parts ls))
    s' = subst (Stands t.bodies.loops (loop_width * l)) (parts-rows ls) s

    r' : Stands t.bodies.spans (span_width * l) (flat span_of (laid_parts ls))
    r' = subst (Stands t.bodies.spans (span_width * l)) (parts-spans ls) r

    go : (z : Bool) → cond z (eqb (cond z 0 l) 0)
        (leb (cond z 0 l + c) used && leb (loop_width * (cond z 0 l + c)) (length t.bodies.loops) && leb (span_width * (cond z 0 l + c)) (length t.bodies.spans) && each_part t n (cond z 0 l) c) ≡ true
    go true = refl
    go false =
        let m = parts-count ls in
        let e : c ≡ length (laid_parts ls) = omega arith in
        let w₁ = length-flat row_of loop_width (λ q. refl) (laid_parts ls) in
        let w₂ = length-flat span_of span_width (λ q. refl) (laid_parts ls) in
        let h₁ = s'.lent in
        let h₂ = r'.lent in
        and_both
        (and_both (and_both (le-leb (l + c) used (omega arith)) (le-leb (loop_width * (l + c)) (length t.bodies.loops) (omega arith))) (le-leb (span_width * (l + c)) (length t.bodies.spans) (omega arith)))
        (ap (each_part t n l) e ∙ each_part-begun t n l (laid_parts ls) s' r' o (first-begins ls p))
