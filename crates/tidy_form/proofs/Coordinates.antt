-- The record of a vertex, its coordinates written, is read as that record: what is filled in is there, and is left alone.
use Prim.Native.Nat.{ℕ, zero, suc, ◌≤◌}
use mathlib.Core.Path.{◌≡◌, refl, sym, ap, ◌∙◌}
use mathlib.Core.List.{List, [], ◌∷◌, ◌++◌, append-nil}
use mathlib.Core.Bool.{Bool, true, false}
use lib.ListN.{length, length-append, length-drop, length-map, drop, drop_of_length-le}
use lib.Seq.{take-append_seam}
use lib.Dec.{leb}
use lib.IntN.{ℤ, pos, negsuc}
use native.Mathlib.Omega.{arith}
use borrow.Author.Tests.{leb-true, eqb-true}
use Rattle.lists.specs.Lists.{all}
use Rattle.lists.proofs.Tests.{and_left, and_right, and_both, never}
use Rattle.lists.proofs.Laws.{all_append}
use Rattle.references.specs.Fits.{number_fits}
use Rattle.model.specs.Model.{VertexKind, geometric, texture, normal, parametric, Vertices}
use Rattle.model.specs.Statements.{vertex}
use Rattle.model.specs.Parse.{number, defaults, completed, vertex_record}
use Rattle.model.proofs.Pieces.{counted_vertex}
use Rattle.tidy_form.specs.declared.Weights.{Weights}
use Rattle.tidy_form.specs.declared.Weights.TheVariants.{WhenNeeded, Always}
use Rattle.tidy_form.specs.Printed.{is_one, coordinates}
use Rattle.tidy_form.proofs.Shapes.{fit-numbers}
use Rattle.tidy_form.proofs.Standing.{seen_of, Fine}

pub all_drop : {A : Type 0} (f : A → Bool) (n : ℕ) (xs : List A) → all f xs ≡ true → all f (drop n xs) ≡ true
all_drop f zero xs h = h
all_drop f (suc n) [] h = refl
all_drop f (suc n) (x ∷ xs) h = all_drop f n xs (and_right (f x) (all f xs) h)

all-front : {A : Type 0} (f : A → Bool) (s t : List A) → all f (s ++ t) ≡ true → all f s ≡ true
all-front f [] t h = refl
all-front f (x ∷ s) t h = and_both (and_left (f x) (all f (s ++ t)) h) (all-front f s t (and_right (f x) (all f (s ++ t)) h))

most : (k : VertexKind) (n : ℕ) → counted_vertex k n ≡ true → n ≤ length (defaults k)
most geometric n h = leb-true n 4 (and_right (leb 3 n) (leb n 4) h)
most texture n h = leb-true n 3 (and_right (leb 1 n) (leb n 3) h)
most normal n h = let e = eqb-true n 3 h in omega arith
most parametric n h = leb-true n 3 (and_right (leb 1 n) (leb n 3) h)

full : (k : VertexKind) → (counted_vertex k (length (defaults k)) ≡ true) × (all number_fits (defaults k) ≡ true)
full geometric = (refl, refl)
full texture = (refl, refl)
full normal = (refl, refl)
full parametric = (refl, refl)

pub completed-length : (k : VertexKind) (z : List ℤ) → counted_vertex k (length z) ≡ true → length (completed k z) ≡ length (defaults k)
completed-length k z c =
    let l = most k (length z) c in
    let a = length-append z (drop (length z) (defaults k)) in
    let b = length-drop (length z) (defaults k) in
    omega arith

module _ (k : VertexKind) (z : List ℤ) (c : counted_vertex k (length z) ≡ true) (h : all number_fits z ≡ true) where
  completed-again : completed k (completed k z) ≡ completed k z
  completed-again =
      let l : length (defaults k) ≤ length (completed k z) = (let e = completed-length k z c in omega arith) in
      ap (λ (r : List ℤ). completed k z ++ r) (drop_of_length-le (defaults k) l) ∙ append-nil (completed k z)

  pub completed-numbers : all number_fits (completed k z) ≡ true
  completed-numbers = all_append number_fits z (drop (length z) (defaults k)) h (all_drop number_fits (length z) (defaults k) (full k).1)

-- what is written of a record by a choice of weights: as many as may be, each a number, and the record again
record Written (w : Weights) (k : VertexKind) (r : List ℤ) : Type 0 where
  many : counted_vertex k (length (coordinates w k r)) ≡ true
  numbers : all number_fits (coordinates w k r) ≡ true
  whole : vertex_record k (coordinates w k r) ≡ r

-- a w that is left off is filled in again
pub one_again : (z : ℤ) → is_one z ≡ true → pos 1000000 ≡ z
one_again (pos n) h = ap pos (sym (eqb-true n 1000000 h))
one_again (negsuc n) h = never h

weighted-is : (w : Weights) (r : List ℤ) → length r ≡ 4 → all number_fits r ≡ true → Written w geometric r
weighted-is w [] l h = absurd (omega arith)
weighted-is w (a ∷ []) l h = absurd (omega arith)
weighted-is w (a ∷ b ∷ []) l h = absurd (omega arith)
weighted-is w (a ∷ b ∷ c ∷ []) l h = absurd (omega arith)
weighted-is Always (a ∷ b ∷ c ∷ d ∷ []) l h = record { many = refl; numbers = h; whole = refl }
weighted-is WhenNeeded (a ∷ b ∷ c ∷ d ∷ []) l h = go (is_one d) refl
  where
    go : (t : Bool) → is_one d ≡ t → Written WhenNeeded geometric (a ∷ b ∷ c ∷ d ∷ [])
    go true e =
        record {
          many = rw e refl;
          numbers = rw e (all-front number_fits (a ∷ b ∷ c ∷ []) (d ∷ []) h);
          whole = rw e (ap (λ (v : ℤ). a ∷ b ∷ c ∷ v ∷ []) (one_again d e));
        }
    go false e = record { many = rw e refl; numbers = rw e h; whole = rw e refl }
weighted-is w (a ∷ b ∷ c ∷ d ∷ e ∷ r) l h = absurd (omega arith)

written_is : (w : Weights) (k : VertexKind) (z : List ℤ) → counted_vertex k (length z) ≡ true → all number_fits z ≡ true → Written w k (vertex_record k z)
written_is w geometric z c h = weighted-is w (completed geometric z) (completed-length geometric z c) (completed-numbers geometric z c h)
written_is w texture z c h =
    record { many = rw (completed-length texture z c) refl; numbers = completed-numbers texture z c h; whole = completed-again texture z c h }
written_is w normal z c h =
    record { many = rw (completed-length normal z c) refl; numbers = completed-numbers normal z c h; whole = completed-again normal z c h }
written_is w parametric z c h =
    let e : coordinates w parametric (vertex_record parametric z) ≡ z = take-append_seam z (drop (length z) (defaults parametric)) in
    record {
      many = ap (λ (y : List ℤ). counted_vertex parametric (length y)) e ∙ c;
      numbers = ap (all number_fits) e ∙ h;
      whole = ap (vertex_record parametric) e;
    }

pub vertex-fine : (x : Vertices) (n : ℕ) (k : VertexKind) (z : List ℤ) → counted_vertex k (length z) ≡ true → all number_fits z ≡ true → Fine x n (vertex k (vertex_record k z))
vertex-fine x n k z c h =
    record {
      many = λ w. rw (length-map (coordinates w k (vertex_record k z)) number) (written_is w k z c h).many;
      fits = λ w. fit-numbers (seen_of x n) 0 (coordinates w k (vertex_record k z)) (written_is w k z c h).numbers;
      whole = λ w. (written_is w k z c h).whole;
    }
