-- Records laid one after the other, each of the same width: number w * i + k is number k of record i. By the records.
use Prim.Native.Nat.{ℕ, zero, suc, ◌+◌, ◌*◌, ◌<◌}
use mathlib.Core.Path.{◌≡◌, refl, sym, ap, ◌∙◌}
use mathlib.Core.List.{List, [], ◌∷◌, ◌++◌, append_assoc}
use native.Mathlib.Nat.{mul-zero, mul-suc, zero-add}
use native.Mathlib.Omega.{arith}
use lib.ListN.{length, get_or, take, drop, length-append, get_or-append}
use lib.Seq.{take_at, get_or-append-add, take-append-add, drop-append-add, take-nil, drop-nil}
use Rattle.lists.specs.Lists.{flat, filled}
use Rattle.tables.proofs.Filled.{get_d-filled}

module _ {A R : Type 0} (f : R → List A) where
  pub flat_append : (rs ss : List R) → flat f (rs ++ ss) ≡ flat f rs ++ flat f ss
  flat_append [] ss = refl
  flat_append (r ∷ rs) ss = ap (λ (t : List A). f r ++ t) (flat_append rs ss) ∙ sym (append_assoc (f r) (flat f rs) (flat f ss))

module _ {A R : Type 0} (f : R → List A) (w : ℕ) (wide : (r : R) → length (f r) ≡ w) where
  pub length-flat : (rs : List R) → length (flat f rs) ≡ w * length rs
  length-flat [] = sym (mul-zero w)
  length-flat (r ∷ rs) =
      let e : length (f r) ≡ w = wide r in
      let i : length (flat f rs) ≡ w * length rs = length-flat rs in
      length-append (f r) (flat f rs) ∙ (let g : length (f r) + length (flat f rs) ≡ w * suc (length rs) = rw mul-suc (omega arith) in g)

  pub drop-flat : (rs : List R) (i : ℕ) → drop (w * i) (flat f rs) ≡ flat f (drop i rs)
  drop-flat rs zero = ap (λ (k : ℕ). drop k (flat f rs)) (mul-zero w)
  drop-flat [] (suc i) = drop-nil (w * suc i)
  drop-flat (r ∷ rs) (suc i) =
      let e : length (f r) ≡ w = wide r in
      let m : w * suc i ≡ length (f r) + w * i = rw mul-suc (omega arith) in
      ap (λ (k : ℕ). drop k (f r ++ flat f rs)) m ∙ drop-append-add (f r) (flat f rs) (w * i) ∙ drop-flat rs i

  pub take-flat : (rs : List R) (i : ℕ) → take (w * i) (flat f rs) ≡ flat f (take i rs)
  take-flat rs zero = ap (λ (k : ℕ). take k (flat f rs)) (mul-zero w)
  take-flat [] (suc i) = take-nil (w * suc i)
  take-flat (r ∷ rs) (suc i) =
      let e : length (f r) ≡ w = wide r in
      let m : w * suc i ≡ length (f r) + w * i = rw mul-suc (omega arith) in
      ap (λ (k : ℕ). take k (f r ++ flat f rs)) m ∙ take-append-add (f r) (flat f rs) (w * i) ∙ ap (λ (t : List A). f r ++ t) (take-flat rs i)

  -- number k of record i
  pub get_d-flat : (rs : List R) (i k : ℕ) (none : R) (z : A) → i < length rs → k < w → get_or (flat f rs) (w * i + k) z ≡ get_or (f (get_or rs i none)) k z
  get_d-flat [] i k none z h l = absurd (omega arith)
  get_d-flat (r ∷ rs) zero k none z h l =
      let e : length (f r) ≡ w = wide r in
      let m : w * 0 + k ≡ k = rw mul-zero (zero-add k) in
      ap (λ (n : ℕ). get_or (f r ++ flat f rs) n z) m ∙ get_or-append (f r) (flat f rs) z k (omega arith)
  get_d-flat (r ∷ rs) (suc i) k none z h l =
      let e : length (f r) ≡ w = wide r in
      let m : w * suc i + k ≡ length (f r) + (w * i + k) = rw mul-suc (omega arith) in
      ap (λ (n : ℕ). get_or (f r ++ flat f rs) n z) m ∙ get_or-append-add (f r) (flat f rs) (w * i + k) z ∙ get_d-flat rs i k none z (omega arith) l

  -- the whole of record i
  pub record-flat : (rs : List R) (i : ℕ) (none : R) → i < length rs → take w (drop (w * i) (flat f rs)) ≡ f (get_or rs i none)
  record-flat [] i none h = absurd (omega arith)
  record-flat (r ∷ rs) zero none h =
      ap (λ (k : ℕ). take w (drop k (f r ++ flat f rs))) (mul-zero w) ∙ take_at (f r) (flat f rs) w (wide r)
  record-flat (r ∷ rs) (suc i) none h =
      let e : length (f r) ≡ w = wide r in
      let m : w * suc i ≡ length (f r) + w * i = rw mul-suc (omega arith) in
      ap (λ (k : ℕ). take w (drop k (f r ++ flat f rs))) m ∙ ap (λ (t : List A). take w t) (drop-append-add (f r) (flat f rs) (w * i)) ∙ record-flat rs i none (omega arith)

  -- both in a lent table that holds the records
  pub get_d-table : (n : ℕ) (z : A) (rs : List R) (i k : ℕ) (none : R) → i < length rs → k < w → get_or (filled n z (flat f rs)) (w * i + k) z ≡ get_or (f (get_or rs i none)) k z
  get_d-table n z rs i k none h l = get_d-filled n z (flat f rs) (w * i + k) ∙ get_d-flat rs i k none z h l
