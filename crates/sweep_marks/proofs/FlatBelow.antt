-- What a function gives for each index below n, one after the other: by n.
use Prim.Native.Nat.{ℕ, zero, suc, ◌+◌, ◌*◌, ◌<◌}
use mathlib.Core.Path.{◌≡◌, refl, sym, ap₂, ◌∙◌}
use mathlib.Core.List.{List, ◌++◌}
use native.Mathlib.Nat.{mul-zero, mul-suc}
use native.Mathlib.Omega.{arith}
use lib.ListN.{length, length-append}
use Rattle.sweep_marks.specs.Counting.{flat_below}

module _ {A : Type 0} where
  pub flat_below-same : (f g : ℕ → List A) (n : ℕ) → ((i : ℕ) → i < n → f i ≡ g i) → flat_below n f ≡ flat_below n g
  flat_below-same f g zero h = refl
  flat_below-same f g (suc n) h = ap₂ (λ (x y : List A). x ++ y) (flat_below-same f g n (λ i l. h i (omega arith))) (h n (omega arith))

  pub flat_below-length : (f : ℕ → List A) (w n : ℕ) → ((i : ℕ) → i < n → length (f i) ≡ w) → length (flat_below n f) ≡ w * n
  flat_below-length f w zero h = sym (mul-zero w)
  flat_below-length f w (suc n) h =
      let i = flat_below-length f w n (λ i l. h i (omega arith)) in
      let e = h n (omega arith) in
      length-append (flat_below n f) (f n) ∙ (let g : length (flat_below n f) + length (f n) ≡ w * suc n = rw mul-suc (omega arith) in g)
