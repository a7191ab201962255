-- A run of stores, and a list of which a front part is rewritten: what lies past it is as before. Over the element type.
use Prim.Native.Nat.{ℕ, suc, ◌+◌, ◌-◌, ◌≤◌}
use mathlib.Core.Path.{◌≡◌, refl, sym, ap, ap₂, ◌∙◌}
use mathlib.Core.List.{List, [], ◌∷◌, ◌++◌, append-nil, append_assoc}
use native.Mathlib.Omega.{arith}
use borrow.Rule.Slice.PartMut.{mid_of, put_mid, Post-is}
use lib.ListN.{length, get_or, set, take, drop, replicate, length-append, length-drop, drop_of_length-le}
use Rattle.lists.specs.Lists.{filled}
use lib.Seq.{sets, get_or-set_other, take_at, length-take-le, drop-append-add, drop-drop, sets-eq}

module _ {A : Type 0} where
  pub get_d-sets-past : (l : List A) (i : ℕ) (vs : List A) (k : ℕ) (d : A) → i + length vs ≤ k → get_or (sets l i vs) k d ≡ get_or l k d
  get_d-sets-past l i [] k d h = refl
  get_d-sets-past l i (v ∷ vs) k d h =
      get_d-sets-past (set l i v) (suc i) vs k d (omega arith) ∙ get_or-set_other l i k v d (λ e. omega arith)

  -- past a front that takes the place of the first `length xs`
  pub drop_past : (xs l : List A) (k : ℕ) → length xs ≤ k → drop k (xs ++ drop (length xs) l) ≡ drop k l
  drop_past xs l k h =
      let e : length xs + (k - length xs) ≡ k = omega arith in
      ap (λ (n : ℕ). drop n (xs ++ drop (length xs) l)) (sym e)
      ∙ drop-append-add xs (drop (length xs) l) (k - length xs)
      ∙ drop-drop (k - length xs) (length xs) l
      ∙ ap (λ (n : ℕ). drop n l) e

  -- a run stored right behind that front makes it longer
  pub sets-front : (xs vs l : List A) → length xs + length vs ≤ length (xs ++ drop (length xs) l) →
      sets (xs ++ drop (length xs) l) (length xs) vs ≡ (xs ++ vs) ++ drop (length (xs ++ vs)) l
  sets-front xs vs l h =
      let m = xs ++ drop (length xs) l in
      let e : length (xs ++ vs) ≡ length xs + length vs = length-append xs vs in
      sets-eq vs m (length xs) h
      ∙ ap (λ (x : List A). x ++ vs ++ drop (length xs + length vs) m) (take_at xs (drop (length xs) l) (length xs) refl)
      ∙ ap (λ (x : List A). xs ++ vs ++ x) (drop_past xs l (length xs + length vs) (omega arith))
      ∙ ap (λ (n : ℕ). xs ++ vs ++ drop n l) (sym e)

  -- a part from a place on, put back all z
  pub part-cleared : (l : List A) (z : A) (a : ℕ) {last : List A} → a ≤ length l → last ≡ replicate (length (mid_of a (length l - a) l)) z →
      put_mid a (length l - a) l last ≡ take a l ++ replicate (length l - a) z
  part-cleared l z a {last} h e =
      let many : length (mid_of a (length l - a) l) ≡ length l - a = length-take-le (length l - a) (drop a l) (let d = length-drop a l in omega arith) in
      let none : drop (length l - a) (drop a l) ≡ [] = (let d = length-drop a l in let k : length (drop a l) ≤ length l - a = omega arith in drop_of_length-le (drop a l) k) in
      ap₂ (λ (x y : List A). take a l ++ (x ++ y)) (e ∙ ap (λ (k : ℕ). replicate k z) many) none
      ∙ ap (λ (x : List A). take a l ++ x) (append-nil (replicate (length l - a) z))

  pub rest-cleared : (l : List A) (z : A) (a : ℕ) {last : List A} → a ≤ length l → last ≡ replicate (length (mid_of a (length l - a) l)) z →
      put_mid a (length l - a) l last ≡ filled (length l) z (take a l)
  rest-cleared l z a h e = part-cleared l z a h e ∙ ap (λ (k : ℕ). take a l ++ replicate (length l - k) z) (sym (length-take-le a l h))

  -- a part put in the place of the next ones behind a front
  pub part-behind : (xs ys l : List A) (a b : ℕ) → length xs ≡ a → length ys ≡ b - a → a ≤ b → b ≤ length l →
      put_mid a (b - a) (xs ++ drop (length xs) l) ys ≡ (xs ++ ys) ++ drop (length (xs ++ ys)) l
  part-behind xs ys l a b e d h k =
      let m : List A = xs ++ drop (length xs) l in
      let n : length (xs ++ ys) ≡ b = length-append xs ys ∙ (let z : length xs + length ys ≡ b = omega arith in z) in
      ap₂ (λ (x y : List A). x ++ (ys ++ y)) (take_at xs (drop (length xs) l) a e) (Post-is a b m h ∙ drop_past xs l b (omega arith) ∙ ap (λ (k : ℕ). drop k l) (sym n))
      ∙ sym (append_assoc xs ys (drop (length (xs ++ ys)) l))
