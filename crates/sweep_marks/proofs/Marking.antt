-- The marks that the passes over elements and corners leave are the records that a corner names.
use Prim.Native.Nat.{ℕ, zero, suc, ◌<◌}
use mathlib.Core.Path.{◌≡◌, refl, sym, ap, ◌∙◌}
use mathlib.Core.List.{List}
use mathlib.Core.Bool.{Bool, true, false, ◌||◌, or-true, or-false, or_assoc}
use mathlib.Core.Logic.{◌⊎◌, inl, inr}
use native.Mathlib.Nat.{add-zero}
use native.Mathlib.Omega.{arith}
use borrow.Author.Tests.{eq-eqb, ne_eqb, eqb-true, eqb-false}
use lib.Dec.{eqb}
use lib.ListN.{length, get_or, set, replicate, length-set, length-replicate, get_or-replicate}
use lib.Seq.{get_or-set_same, get_or-set_other}
use Rattle.lists.proofs.Tests.{test}
use Rattle.tables.specs.Records.{element_in, corner_in, corner_place, curve2_kind}
use Rattle.tables.specs.declared.Corner.{Corner}
use Rattle.tables.specs.declared.CornerRun.{CornerRun}
use Rattle.tables.specs.declared.Element.{Element}
use Rattle.model.specs.Model.{VertexKind, geometric, texture, normal, parametric}
use Rattle.sweep_marks.specs.Counting.{reference, any_below}
use Rattle.sweep_marks.specs.Marks.{place_of, named_in_tables, corner_number_in, mark_number, mark_every, mark_placed, mark_element, mark_elements, marked_in}
use Rattle.std.specs.Prelude.{Option, None, Some}
use Rattle.sweep_marks.proofs.Counting.{any_same, any_none}

-- ---- one number
pub length-mark : (l : List ℕ) (r : ℕ) → length (mark_number l r) ≡ length l
length-mark l zero = refl
length-mark l (suc k) = length-set l k 1

mark-number : (l : List ℕ) (r i : ℕ) → i < length l → marked_in (mark_number l r) (suc i) ≡ (marked_in l (suc i) || eqb r (suc i))
mark-number l zero i h = sym (rw (ne_eqb 0 (suc i) (λ e. omega arith)) (or-false (marked_in l (suc i))))
mark-number l (suc k) i h = go (test (eqb i k))
  where
    go : (eqb i k ≡ true) ⊎ (eqb i k ≡ false) → marked_in (set l k 1) (suc i) ≡ (marked_in l (suc i) || eqb (suc k) (suc i))
    go (inl t) =
        let e : i ≡ k = eqb-true i k t in
        rw (e, get_or-set_same l k 1 0 (rw e at h), eq-eqb (suc k) (suc k) refl) (sym (or-true (marked_in l (suc k))))
    go (inr t) =
        let n : i ≡ k → ⊥ = eqb-false i k t in
        rw (get_or-set_other l k i 1 0 n, ne_eqb (suc k) (suc i) (λ e. n (omega arith))) (sym (or-false (marked_in l (suc i))))

-- ---- a number of each corner
module _ (corners : List ℕ) (run : CornerRun) (place : ℕ) where
  pub length-every : (n : ℕ) (l : List ℕ) → length (mark_every corners run place n l) ≡ length l
  length-every zero l = refl
  length-every (suc n) l = length-mark (mark_every corners run place n l) (corner_number_in corners run n place) ∙ length-every n l

  mark-every : (n : ℕ) (l : List ℕ) (i : ℕ) → i < length l →
      marked_in (mark_every corners run place n l) (suc i) ≡ (marked_in l (suc i) || any_below n (λ j. eqb (corner_number_in corners run j place) (suc i)))
  mark-every zero l i h = sym (or-false (marked_in l (suc i)))
  mark-every (suc n) l i h =
      let any : Bool = any_below n (λ j. eqb (corner_number_in corners run j place) (suc i)) in
      let last : Bool = eqb (corner_number_in corners run n place) (suc i) in
      mark-number (mark_every corners run place n l) (corner_number_in corners run n place) i (rw (length-every n l) h)
      ∙ ap (λ (b : Bool). b || last) (mark-every n l i h)
      ∙ or_assoc (marked_in l (suc i)) any last

-- ---- an element
module _ (corners : List ℕ) (run : CornerRun) (j : ℕ) where
  abbrev corner : Corner
  corner = corner_in corners (corner_place run j)

  first-placed : corner_number_in corners run j 0 ≡ corner.v
  first-placed = rw add-zero refl

  -- the number in the place of that kind, where it has one
  placed : (kind : VertexKind) (e : ℕ) (place : ℕ) → place_of kind e ≡ Some place → corner_number_in corners run j place ≡ reference kind e corner
  placed geometric e place h = go (eqb e curve2_kind) refl
    where
      go : (b : Bool) → eqb e curve2_kind ≡ b → corner_number_in corners run j place ≡ reference geometric e corner
      go true t = let z : ◌≡◌ {A = Option ℕ} None (Some place) = (rw t at h) in cc
      go false t = let z : ◌≡◌ {A = Option ℕ} (Some 0) (Some place) = (rw t at h) in let is : place ≡ 0 = cc in rw (t, is) first-placed
  placed texture e place h = let is : place ≡ 1 = cc in rw is refl
  placed normal e place h = let is : place ≡ 2 = cc in rw is refl
  placed parametric e place h = go (eqb e curve2_kind) refl
    where
      go : (b : Bool) → eqb e curve2_kind ≡ b → corner_number_in corners run j place ≡ reference parametric e corner
      go true t = let z : ◌≡◌ {A = Option ℕ} (Some 0) (Some place) = (rw t at h) in let is : place ≡ 0 = cc in rw (t, is) first-placed
      go false t = let z : ◌≡◌ {A = Option ℕ} None (Some place) = (rw t at h) in cc

  unplaced : (kind : VertexKind) (e : ℕ) → place_of kind e ≡ None → reference kind e corner ≡ 0
  unplaced geometric e h = go (eqb e curve2_kind) refl
    where
      go : (b : Bool) → eqb e curve2_kind ≡ b → reference geometric e corner ≡ 0
      go true t = rw t
      go false t = let z : ◌≡◌ {A = Option ℕ} (Some 0) None = (rw t at h) in cc
  unplaced texture e h = cc
  unplaced normal e h = cc
  unplaced parametric e h = go (eqb e curve2_kind) refl
    where
      go : (b : Bool) → eqb e curve2_kind ≡ b → reference parametric e corner ≡ 0
      go true t = let z : ◌≡◌ {A = Option ℕ} (Some 0) None = (rw t at h) in cc
      go false t = rw t

module _ (kind : VertexKind) (corners : List ℕ) where
  pub length-element : (e : Element) (l : List ℕ) → length (mark_element kind corners e l) ≡ length l
  length-element e l = go (place_of kind e.kind)
    where
      go : (p : Option ℕ) → length (mark_placed corners e.corners p l) ≡ length l
      go None = refl
      go (Some place) = length-every corners e.corners place e.corners.count l

  -- some corner of the element names record k
  abbrev in_element : Element → ℕ → Bool
  in_element e k = any_below e.corners.count (λ j. eqb (reference kind e.kind (corner_in corners (corner_place e.corners j))) k)

  mark-element : (e : Element) (l : List ℕ) (i : ℕ) → i < length l → marked_in (mark_element kind corners e l) (suc i) ≡ (marked_in l (suc i) || in_element e (suc i))
  mark-element e l i h = go (place_of kind e.kind) refl
    where
      go : (p : Option ℕ) → place_of kind e.kind ≡ p → marked_in (mark_placed corners e.corners p l) (suc i) ≡ (marked_in l (suc i) || in_element e (suc i))
      go None t =
          let none : in_element e (suc i) ≡ false = any_none _ e.corners.count (λ j. rw (unplaced corners e.corners j kind e.kind t) (ne_eqb 0 (suc i) (λ z. omega arith))) in
          rw none (sym (or-false (marked_in l (suc i))))
      go (Some place) t =
          let same : any_below e.corners.count (λ j. eqb (corner_number_in corners e.corners j place) (suc i)) ≡ in_element e (suc i)
          = any_same _ _ e.corners.count (λ j. ap (λ (n : ℕ). eqb n (suc i)) (placed corners e.corners j kind e.kind place t)) in
          mark-every corners e.corners place e.corners.count l i h ∙ ap (λ (b : Bool). marked_in l (suc i) || b) same

  -- ---- all elements
  module _ (elements : List ℕ) where
    pub length-elements : (n : ℕ) (l : List ℕ) → length (mark_elements kind elements corners n l) ≡ length l
    length-elements zero l = refl
    length-elements (suc n) l = length-element (element_in elements n) (mark_elements kind elements corners n l) ∙ length-elements n l

    mark-elements : (n : ℕ) (l : List ℕ) (i : ℕ) → i < length l →
        marked_in (mark_elements kind elements corners n l) (suc i) ≡ (marked_in l (suc i) || named_in_tables n elements corners kind (suc i))
    unfolding named_in_tables
    mark-elements zero l i h = sym (or-false (marked_in l (suc i)))
    mark-elements (suc n) l i h =
        let e = element_in elements n in
        mark-element e (mark_elements kind elements corners n l) i (rw (length-elements n l) h)
        ∙ ap (λ (b : Bool). b || in_element e (suc i)) (mark-elements n l i h)
        ∙ or_assoc (marked_in l (suc i)) (any_below n (λ i'. in_element (element_in elements i') (suc i))) (in_element e (suc i))

    -- from cleared marks on
    pub marks-named : (n m i : ℕ) → i < m → marked_in (mark_elements kind elements corners n (replicate m 0)) (suc i) ≡ named_in_tables n elements corners kind (suc i)
    marks-named n m i h =
        let clear : marked_in (replicate m 0) (suc i) ≡ false = rw (get_or-replicate {A = ℕ} m i 0 0 h) in
        mark-elements n (replicate m 0) i (rw (length-replicate {A = ℕ} m 0) h) ∙ ap (λ (b : Bool). b || named_in_tables n elements corners kind (suc i)) clear
