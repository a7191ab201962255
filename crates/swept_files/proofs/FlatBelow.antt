-- What a function gives for each index below n, one after the other: where the part of an index begins, and what stands there. By n.
use Prim.Native.Nat.{ℕ, zero, suc, ◌+◌, ◌≤◌, ◌<◌}
use mathlib.Core.Path.{◌≡◌, sym, ap, ◌∙◌}
use mathlib.Core.List.{List, [], ◌++◌, append_assoc, append-nil}
use native.Mathlib.Decide.{dec_le}
use native.Mathlib.Omega.{arith}
use lib.ListN.{length, get_or, take, drop, get_or-append}
use lib.Seq.{get_or-append-add, take-append_seam, drop-append_seam}
use Rattle.sweep_marks.specs.Counting.{flat_below}

module _ {A : Type 0} where
  module _ (f : ℕ → List A) where
    -- the part of index i, with what stands before and behind it
    pub record Split (n i : ℕ) : Type 0 where
      pub after : List A
      pub is : flat_below n f ≡ flat_below i f ++ (f i ++ after)

    pub flat_below-split : (n i : ℕ) → i < n → Split n i
    flat_below-split zero i h = absurd (omega arith)
    flat_below-split (suc n) i h = go (dec_le (suc i) n) (flat_below-split n i)
      where
        go : Dec (suc i ≤ n) → (suc i ≤ n → Split n i) → Split (suc n) i
        go (yes l) r =
            let s = r l in
            record {
              after = s.after ++ f n;
              is =
                  ap (λ (x : List A). x ++ f n) s.is ∙ append_assoc (flat_below i f) (f i ++ s.after) (f n)
                  ∙ ap (λ (x : List A). flat_below i f ++ x) (append_assoc (f i) s.after (f n));
            }
        go (no l) r =
            let e : n ≡ i = omega arith in
            record { after = []; is = ap (λ (k : ℕ). flat_below (suc k) f) e ∙ ap (λ (x : List A). flat_below i f ++ x) (sym (append-nil (f i))) }

    module _ (n i : ℕ) (h : i < n) where
      pub flat_below-part : take (length (f i)) (drop (length (flat_below i f)) (flat_below n f)) ≡ f i
      flat_below-part =
          let s = flat_below-split n i h in
          ap (λ (x : List A). take (length (f i)) (drop (length (flat_below i f)) x)) s.is
          ∙ ap (take (length (f i))) (drop-append_seam (flat_below i f) (f i ++ s.after))
          ∙ take-append_seam (f i) s.after

      pub flat_below-at : (k : ℕ) (z : A) → k < length (f i) → get_or (flat_below n f) (length (flat_below i f) + k) z ≡ get_or (f i) k z
      flat_below-at k z l =
          let s = flat_below-split n i h in
          ap (λ (x : List A). get_or x (length (flat_below i f) + k) z) s.is
          ∙ get_or-append-add (flat_below i f) (f i ++ s.after) k z
          ∙ get_or-append (f i) s.after z k l
