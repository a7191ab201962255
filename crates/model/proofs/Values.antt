-- The values of a line are as many as its words, no kind of them is more, and numbers and corners are told back.
use Prim.Native.Nat.{ℕ, suc, ◌≤◌}
use mathlib.Core.Path.{◌≡◌, refl, sym, ap, ◌∙◌}
use mathlib.Core.List.{List, [], ◌∷◌, ◌++◌, map}
use mathlib.Core.Bool.{Bool, true, false, cond}
use mathlib.Core.Option.{none, some}
use native.Mathlib.Omega.{arith}
use lib.ListN.{length, drop}
use lib.IntN.{ℤ}
use Rattle.text.specs.Words.{Word}
use Rattle.keywords.specs.Arguments.{is_argument}
use Rattle.keywords.specs.declared.Argument.{Argument}
use Rattle.keywords.specs.declared.Argument.TheVariants.{DirectionU, DirectionV}
use Rattle.references.specs.Corner.{Corner}
use Rattle.model.specs.Parse.{fine, placed, direction_of, WordForm, Value, number, corner, whole, direction, basis, name, nothing, Seen, said_of, values_of, numbers_of, corners_of, wholes_of, parts_of}
use Rattle.model.specs.Model.{along-u, along-v}
use Rattle.model.specs.Standing.{is_v}
use Rattle.model.proofs.Parsed.{then-fine, fine-is}

pub values_length : (n : Seen) (f : ℕ → WordForm) (i : ℕ) (ws : List Word) (xs : List Value) → values_of n f i ws ≡ fine xs → length xs ≡ length ws
values_length n f i [] xs h = let z : [] ≡ xs = fine-is h in ap length (sym z)
values_length n f i (w ∷ ws) xs h =
    let p = then-fine (placed (said_of n (f i) w) w.place) _ xs h in
    let q = then-fine (values_of n f (suc i) ws) _ xs p.2 in
    let z : p.0 ∷ q.0 ≡ xs = fine-is q.2 in
    ap length (sym z) ∙ ap suc (values_length n f (suc i) ws q.0 q.1)

pub numbers-few : (xs : List Value) → length (numbers_of xs) ≤ length xs
numbers-few [] = omega arith
numbers-few (number z ∷ xs) = let i = numbers-few xs in omega arith
numbers-few (corner c ∷ xs) = let i = numbers-few xs in omega arith
numbers-few (whole k ∷ xs) = let i = numbers-few xs in omega arith
numbers-few (direction d ∷ xs) = let i = numbers-few xs in omega arith
numbers-few (basis t ∷ xs) = let i = numbers-few xs in omega arith
numbers-few (name w ∷ xs) = let i = numbers-few xs in omega arith
numbers-few (nothing ∷ xs) = let i = numbers-few xs in omega arith

pub corners-few : (xs : List Value) → length (corners_of xs) ≤ length xs
corners-few [] = omega arith
corners-few (number z ∷ xs) = let i = corners-few xs in omega arith
corners-few (corner c ∷ xs) = let i = corners-few xs in omega arith
corners-few (whole k ∷ xs) = let i = corners-few xs in omega arith
corners-few (direction d ∷ xs) = let i = corners-few xs in omega arith
corners-few (basis t ∷ xs) = let i = corners-few xs in omega arith
corners-few (name w ∷ xs) = let i = corners-few xs in omega arith
corners-few (nothing ∷ xs) = let i = corners-few xs in omega arith

pub wholes-few : (xs : List Value) → length (wholes_of xs) ≤ length xs
wholes-few [] = omega arith
wholes-few (number z ∷ xs) = let i = wholes-few xs in omega arith
wholes-few (corner c ∷ xs) = let i = wholes-few xs in omega arith
wholes-few (whole k ∷ xs) = let i = wholes-few xs in omega arith
wholes-few (direction d ∷ xs) = let i = wholes-few xs in omega arith
wholes-few (basis t ∷ xs) = let i = wholes-few xs in omega arith
wholes-few (name w ∷ xs) = let i = wholes-few xs in omega arith
wholes-few (nothing ∷ xs) = let i = wholes-few xs in omega arith

pub parts-length : (zs : List ℤ) (ks : List ℕ) → length (parts_of zs ks) ≡ length ks
parts-length zs [] = refl
parts-length zs (k ∷ ks) = ap suc (parts-length (drop 2 zs) ks)

-- ---- told back
pub numbers_of-map : (z : List ℤ) → numbers_of (map number z) ≡ z
numbers_of-map [] = refl
numbers_of-map (a ∷ z) = ap (λ (r : List ℤ). a ∷ r) (numbers_of-map z)

pub corners-of : (cs : List Corner) → corners_of (map corner cs) ≡ cs
corners-of [] = refl
corners-of (c ∷ cs) = ap (λ (r : List Corner). c ∷ r) (corners-of cs)

no-numbers : (cs : List Corner) → numbers_of (map corner cs) ≡ []
no-numbers [] = refl
no-numbers (c ∷ cs) = no-numbers cs

pub line-numbers : (z : List ℤ) (cs : List Corner) → numbers_of (map number z ++ map corner cs) ≡ z
line-numbers [] cs = no-numbers cs
line-numbers (a ∷ z) cs = ap (λ (r : List ℤ). a ∷ r) (line-numbers z cs)

pub line-corners : (z : List ℤ) (cs : List Corner) → corners_of (map number z ++ map corner cs) ≡ cs
line-corners [] cs = corners-of cs
line-corners (a ∷ z) cs = line-corners z cs

-- ---- the argument v, and the direction
pub v-is : (a : Argument) → is_argument a DirectionV ≡ is_v (direction_of a)
v-is a = go (is_argument a DirectionV) (is_argument a DirectionU)
  where
    go : (v u : Bool) → v ≡ is_v (cond v (some along-v) (cond u (some along-u) none))
    go true u = refl
    go false true = refl
    go false false = refl
