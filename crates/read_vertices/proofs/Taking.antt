-- A vertex's record: the line's numbers stored over a blank record, and before them, of a vp, their count. By the kind.
use Prim.Native.Nat.{ℕ, zero, suc, ◌+◌, ◌*◌, ◌^◌, ◌<◌, ◌≤◌}
use mathlib.Core.Path.{◌≡◌, refl, sym, ap, subst, ◌∙◌}
use mathlib.Core.Bool.{Bool, true, false, cond}
use mathlib.Core.List.{List, [], ◌∷◌, ◌++◌}
use mathlib.Core.Option.{Option, none, some}
use lib.ListN.{length, get_or, drop, set, length-set}
use lib.Seq.{sets, length-sets, set-set, set_comm}
use lib.Dec.{leb}
use lib.IntN.{ℤ, pos}
use borrow.Author.Tests.{leb-true, leb-false}
use native.Mathlib.Nat.{add-zero}
use native.Mathlib.Numerals.{add-one}
use native.Mathlib.Omega.{arith}
use Rattle.text.specs.Rest.{Rest, rest_at}
use Rattle.model.specs.Model.{VertexKind, geometric, texture, normal, parametric}
use Rattle.model.specs.Parse.{defaults, vertex_record}
use Rattle.read_vertices.specs.Into.{row_said, WholeRow, NoRow}
use Rattle.read_vertices.specs.Vertex.{fewest_numbers, most_numbers, width, leading_numbers, layout_of, recorded, vertex_said, TakenVertex, NoVertex, blank}
use Rattle.read_vertices.specs.declared.Layout.{Layout}
use Rattle.read_vertices.proofs.Walking.{before-stored}
use Rattle.read_vertices.proofs.Closed.{nothing, closed_some, row-some}

-- ---- stores over stores
module _ {A : Type 0} where
  set-sets : (l : List A) (i j : ℕ) (a : A) (vs : List A) → i < j → set (sets l j vs) i a ≡ sets (set l i a) j vs
  set-sets l i j a [] h = refl
  set-sets l i j a (v ∷ vs) h =
      set-sets (set l j v) i (suc j) a vs (omega arith)
      ∙ ap (λ (x : List A). sets x (suc j) vs) (set_comm l j i v a (λ e. let f : j ≡ i = e in omega arith))

  pub sets_over : (l : List A) (i : ℕ) (ds zs : List A) → length zs ≤ length ds → sets (sets l i ds) i zs ≡ sets l i (zs ++ drop (length zs) ds)
  sets_over l i ds [] h = refl
  sets_over l i [] (z ∷ zs) h = absurd (omega arith)
  sets_over l i (d ∷ ds) (z ∷ zs) h =
      ap (λ (x : List A). sets x (suc i) zs) (set-sets (set l i d) i (suc i) z ds (omega arith) ∙ ap (λ (x : List A). sets x (suc i) ds) (set-set l i d z))
      ∙ sets_over (set l i z) (suc i) ds zs (omega arith)

-- ---- the four kinds
blank-wide : (k : VertexKind) → length (blank (width k)) ≡ width k
blank-wide geometric = refl
blank-wide texture = refl
blank-wide normal = refl
blank-wide parametric = refl

lead-most : (k : VertexKind) → leading_numbers k + most_numbers k ≤ width k
lead-most geometric = omega arith
lead-most texture = omega arith
lead-most normal = omega arith
lead-most parametric = omega arith

first_fits : (k : VertexKind) (used : ℕ) → used < 2 ^ 32 → width k * used < 2 ^ 34
first_fits geometric used h = omega arith
first_fits texture used h = omega arith
first_fits normal used h = omega arith
first_fits parametric used h = omega arith

module _ (l : List ℤ) (first : ℕ) (zs : List ℤ) where
  plain : (k : VertexKind) → length zs ≤ length (blank (width k)) → sets (sets l first (blank (width k))) (first + 0) zs ≡ sets l first (zs ++ drop (length zs) (blank (width k)))
  plain k h = ap (λ (i : ℕ). sets (sets l first (blank (width k))) i zs) (add-zero first) ∙ sets_over l first (blank (width k)) zs h

  row_plain : (k : VertexKind) → leading_numbers k ≡ 0 → length zs ≤ most_numbers k → sets (sets l first (blank (width k))) (first + leading_numbers k) zs ≡ sets l first (vertex_record k zs)
  row_plain geometric e h = plain geometric h
  row_plain texture e h = plain texture h
  row_plain normal e h = plain normal h
  row_plain parametric e h = absurd (omega arith)

  row-led : (k : VertexKind) → (leading_numbers k ≡ 0 → ⊥) → length zs ≤ most_numbers k → (x : ℤ) → x ≡ pos (length zs)
      → set (sets (sets l first (blank (width k))) (first + leading_numbers k) zs) first x ≡ sets l first (vertex_record k zs)
  row-led geometric e h x f = absurd (e refl)
  row-led texture e h x f = absurd (e refl)
  row-led normal e h x f = absurd (e refl)
  row-led parametric e h x f =
      let ds : List ℤ = defaults parametric in
      ap (λ (i : ℕ). set (sets (sets (set l first (pos 0)) (suc first) ds) i zs) first x) (add-one first)
      ∙ ap (λ (y : List ℤ). set y first x) (sets_over (set l first (pos 0)) (suc first) ds zs h)
      ∙ set-sets (set l first (pos 0)) first (suc first) x (zs ++ drop (length zs) ds) (omega arith)
      ∙ ap (λ (y : List ℤ). sets y (suc first) (zs ++ drop (length zs) ds)) (set-set l first (pos 0) x)
      ∙ ap (λ (y : ℤ). sets l first (y ∷ zs ++ drop (length zs) ds)) f

pub record VertexRow (k : VertexKind) (r : Rest) (z : List ℤ) (q : ℕ) : Type 0 where
  pub numbers : List ℤ
  pub whole : z ≡ vertex_record k numbers
  pub said : row_said (fewest_numbers k) (most_numbers k) r ≡ some (numbers, q)

row_of : (k : VertexKind) (o : Option (List ℤ × ℕ)) (z : List ℤ) (q : ℕ) (r : Rest) → row_said (fewest_numbers k) (most_numbers k) r ≡ o → recorded k o ≡ some (z, q) → VertexRow k r z q
row_of k none z q r h e = nothing e
row_of k (some p) z q r h e =
    let f : ◌≡◌ {A = List ℤ × ℕ} (vertex_record k p.0, p.1) (z, q) = cc in
    record { numbers = p.0; whole = sym (ap (λ (x : List ℤ × ℕ). x.0) f); said = h ∙ ap (λ (n : ℕ). some (p.0, n)) (ap (λ (x : List ℤ × ℕ). x.1) f) }

pub vertex-row : (k : VertexKind) (r : Rest) (z : List ℤ) (q : ℕ) → vertex_said k r ≡ some (z, q) → VertexRow k r z q
vertex-row k r z q e = row_of k (row_said (fewest_numbers k) (most_numbers k) r) z q r refl e

pub row-short : (k : VertexKind) (r : Rest) (zs : List ℤ) (q : ℕ) → row_said (fewest_numbers k) (most_numbers k) r ≡ some (zs, q) → length zs ≤ most_numbers k
row-short k r zs q e =
    let f = closed_some (most_numbers k) r.words r.bad r.next zs q (row-some (fewest_numbers k) (most_numbers k) r zs q e).closes in
    let a = f.counted in
    let b = f.short in
    omega arith

module _ (k : VertexKind) (s : List ℕ) (at used : ℕ) (l : List ℤ) {h : Layout} (is : h ≡ layout_of k) where
  pub product : used < 2 ^ 32 → h.width * used < 2 ^ 34
  product n = let w : h.width ≡ width k = ap (λ (g : Layout). g.width) is in rw w (first_fits k used n)

  module _ {r : Bool} {u : List ℤ} (put : (r ≡ leb (h.width * used + length (blank h.width)) (length l)) × (u ≡ cond r (sets l (h.width * used) (blank h.width)) l)) where
    needs : h.width * used + length (blank h.width) ≡ width k * used + width k
    needs = ap (λ (g : Layout). g.width * used + length (blank g.width)) is ∙ ap (λ (n : ℕ). width k * used + n) (blank-wide k)

    pub no_room : r ≡ false → NoVertex k s at used l u
    no_room f =
        record {
          same = ap length (put.1 ∙ ap (λ (b : Bool). cond b (sets l (h.width * used) (blank h.width)) l) f);
          before = λ i b. ap (λ (x : List ℤ). get_or x i (pos 0)) (put.1 ∙ ap (λ (b : Bool). cond b (sets l (h.width * used) (blank h.width)) l) f);
          short = λ z q e.
              let g = leb-false (h.width * used + length (blank h.width)) (length l) (sym put.0 ∙ f) in
              let n = needs in
              omega arith;
        }

    module _ (f : r ≡ true) where
      room : width k * used + width k ≤ length l
      room =
          let g = leb-true (h.width * used + length (blank h.width)) (length l) (sym put.0 ∙ f) in
          let n = needs in
          omega arith

      blanked : u ≡ sets l (width k * used) (blank (width k))
      blanked =
          put.1 ∙ ap (λ (b : Bool). cond b (sets l (h.width * used) (blank h.width)) l) f
          ∙ ap (λ (g : Layout). sets l (g.width * used) (blank g.width)) is

      kept : length u ≡ length l
      kept = ap length blanked ∙ length-sets l (width k * used) (blank (width k))

      pub inside : h.width * used + h.lead ≤ length l
      inside =
          let g = room in
          let n = lead-most k in
          let w : h.width * used + h.lead ≡ width k * used + leading_numbers k = ap (λ (g : Layout). g.width * used + g.lead) is in
          omega arith

      module _ {m : List ℤ} where
        pub no-vertex : NoRow h.least h.most s at (h.width * used + h.lead) u m → NoVertex k s at used l m
        no-vertex row =
            let no : NoRow (fewest_numbers k) (most_numbers k) s at (width k * used + leading_numbers k) u m =
            subst (λ (g : Layout). NoRow g.least g.most s at (g.width * used + g.lead) u m) is row in
            record {
              same = no.same ∙ kept;
              before = λ i b. no.before i (omega arith) ∙ before-stored l u (width k * used) (blank (width k)) blanked i b;
              short = λ z q e.
                  let v = vertex-row k (rest_at s at) z q e in
                  let a = no.short v.numbers q v.said in
                  let b = row-short k (rest_at s at) v.numbers q v.said in
                  let c = lead-most k in
                  let d = room in
                  let i = kept in
                  absurd (omega arith);
            }

        module _ {n q : ℕ} (row : WholeRow h.least h.most s at (h.width * used + h.lead) u m n q) where
          whole : WholeRow (fewest_numbers k) (most_numbers k) s at (width k * used + leading_numbers k) u m n q
          whole = subst (λ (g : Layout). WholeRow g.least g.most s at (g.width * used + g.lead) u m n q) is row

          fewer : length whole.found ≤ most_numbers k
          fewer = row-short k (rest_at s at) whole.found q whole.said

          placed : m ≡ sets (sets l (width k * used) (blank (width k))) (width k * used + leading_numbers k) whole.found
          placed = whole.stored ∙ ap (λ (x : List ℤ). sets x (width k * used + leading_numbers k) whole.found) blanked

          pub count_small : n ≤ 4
          count_small = let a = fewer in let b = whole.counted in let c = four k in omega arith
            where
              four : (j : VertexKind) → most_numbers j ≤ 4
              four geometric = omega arith
              four texture = omega arith
              four normal = omega arith
              four parametric = omega arith

          long : length m ≡ length l
          long = ap length whole.stored ∙ length-sets u (width k * used + leading_numbers k) whole.found ∙ kept

          pub still-long : (i : ℕ) (x : ℤ) → length (set m i x) ≡ length l
          still-long i x = length-set m i x ∙ long

          pub in_table : (h.lead ≡ 0 → ⊥) → h.width * used < length m
          in_table e =
              let a = inside in
              let b = long in
              let c : 0 < h.lead = some-lead h.lead e in
              omega arith
            where
              some-lead : (n : ℕ) → (n ≡ 0 → ⊥) → 0 < n
              some-lead zero e = absurd (e refl)
              some-lead (suc n) e = omega arith

          pub taken-plain : h.lead ≡ 0 → TakenVertex k s at used l m q
          taken-plain e =
              let leads : leading_numbers k ≡ 0 = sym (ap (λ (g : Layout). g.lead) is) ∙ e in
              record {
                row = vertex_record k whole.found;
                said = ap (recorded k) whole.said;
                room = room;
                stored = placed ∙ row_plain l (width k * used) whole.found k leads fewer;
              }

          pub taken-led : (h.lead ≡ 0 → ⊥) → (x : ℤ) → x ≡ pos n → TakenVertex k s at used l (set m (h.width * used) x) q
          taken-led e x g =
              record {
                row = vertex_record k whole.found;
                said = ap (recorded k) whole.said;
                room = room;
                stored =
                    ap (λ (w : Layout). set m (w.width * used) x) is ∙ ap (λ (y : List ℤ). set y (width k * used) x) placed
                    ∙ row-led l (width k * used) whole.found k (λ i. e (ap (λ (w : Layout). w.lead) is ∙ i)) fewer x (g ∙ ap pos whole.counted);
              }
