-- One word and all words of a line: a value that fits its word's form is read back from what is written; and what is read fits. By cases on the form.
use Prim.Native.Nat.{ℕ, suc, ◌≤◌, ◌<◌, ◌^◌}
use mathlib.Core.Path.{◌≡◌, refl, ap, ◌∙◌, subst}
use mathlib.Core.List.{List, [], ◌∷◌, map}
use mathlib.Core.Bool.{Bool, true, false, ◌&&◌, ◌||◌}
use mathlib.Core.Option.{Option, none, some}
use lib.ListN.{length}
use lib.Dec.{leb, eqb}
use lib.IntN.{ℤ}
use native.Mathlib.Omega.{arith}
use borrow.Author.Tests.{leb-true, le-leb}
use Rattle.lists.specs.Lists.{all}
use Rattle.lists.proofs.Tests.{and_left, and_right, and_both, never}
use Rattle.text.specs.Words.{Word}
use Rattle.text.specs.Written.{bytes_of}
use Rattle.text.specs.Tokens.{is_token}
use Rattle.digits.specs.Said.{Said, says, wrong, must}
use Rattle.decimals.specs.Number.{number_of}
use Rattle.references.specs.Reference.{reference_of}
use Rattle.references.specs.Corner.{Corner, corner_of}
use Rattle.digits.specs.Degree.{degree_of, smoothing_of, name_of}
use Rattle.references.specs.Written.{written_whole, written_number, written_corner}
use Rattle.references.specs.Fits.{number_fits, reference_fits, part_fits, corner_fits, degree_fits, smoothing_fits}
use Rattle.references.proofs.NumbersBack.{number-back, number_fits-says}
use Rattle.references.proofs.WholesBack.{degree-back, degree-fits, smoothing-back, smoothing-fits, reference-back, reference-fits}
use Rattle.references.proofs.CornersBack.{Few, corner-back, corner-fits}
use Rattle.keywords.specs.declared.Argument.{Argument}
use Rattle.keywords.specs.declared.Argument.TheVariants.{Rational, BasisMatrix, Bezier, Bspline, Cardinal, Taylor, DirectionU, DirectionV, Off, Other}
use Rattle.keywords.specs.Arguments.{argument_of, arguments, argument_bytes}
use Rattle.tables.specs.Bodies.{Basis, bezier, bspline, cardinal, taylor}
use Rattle.model.specs.Model.{ParmDirection, along-u, along-v}
use Rattle.model.specs.Parse.{Parsed, fine, fault, then, WordForm, a-number, a-corner, a-control, a-curve, a-direction, a-type, a-rational, a-degree, a-smoothing, a-name, anything, Value, number, corner, whole, direction, basis, name, nothing, on_said, type_said, rational_said, direction_of, direction_said, Seen, said_of, placed, values_of}
use Rattle.tidy_form.specs.Printed.{basis_argument, direction_argument}
use Rattle.tidy_form.proofs.Values.{written}

unfoldable pub is_name : List ℕ → Bool
is_name w = is_token w && leb (length w) 255

-- a value that a word of a form can be found to be, after n
abbrev pub Fits : Seen → WordForm → Value → Type 0
Fits n a-number x = (z : ℤ) × (x ≡ number z) × (number_fits z ≡ true)
Fits n (a-corner k) x = (c : Corner) × (x ≡ corner c) × (corner_fits n.counts k c ≡ true)
Fits n a-control x = (i : ℕ) × (x ≡ corner (record { v = i; vt = 0; vn = 0 })) × (reference_fits n.vp i ≡ true)
Fits n a-curve x = (i : ℕ) × (x ≡ whole i) × (reference_fits n.curves i ≡ true)
Fits n a-direction x = (d : ParmDirection) × (x ≡ direction d)
Fits n a-type x = (t : Basis) × (x ≡ basis t)
Fits n a-rational x = x ≡ nothing
Fits n a-degree x = (i : ℕ) × (x ≡ whole i) × (degree_fits i ≡ true)
Fits n a-smoothing x = (i : ℕ) × (x ≡ whole i) × (smoothing_fits i ≡ true)
Fits n a-name x = (w : Word) × (x ≡ name w) × (is_name w.bytes ≡ true)
Fits n anything x = x ≡ nothing

-- what refers can be written in ten digits
pub record Small (n : Seen) : Type 0 where
  pub counts : Few n.counts
  pub vp : n.vp < 10 ^ 10
  pub curves : n.curves < 10 ^ 10

-- a name is the word itself
abbrev pub stand : Word → Value → Value
stand w (number z) = number z
stand w (corner c) = corner c
stand w (whole k) = whole k
stand w (direction d) = direction d
stand w (basis t) = basis t
stand w (name v) = name w
stand w nothing = nothing

-- ---- back
pub direction-is : (d : ParmDirection) → direction_of (argument_of (argument_bytes (direction_argument d))) ≡ some d
unfolding argument_of arguments argument_bytes
direction-is along-u = refl
direction-is along-v = refl

type-back : (t : Basis) → type_said (argument_of (argument_bytes (basis_argument t))) ≡ says t
unfolding argument_of arguments argument_bytes
type-back bezier = refl
type-back bspline = refl
type-back cardinal = refl
type-back taylor = refl

rational-back : rational_said (argument_of (argument_bytes Rational)) ≡ says nothing
unfolding argument_of arguments argument_bytes
rational-back = refl

token-long : (w : List ℕ) → is_token w ≡ true → leb 1 (length w) ≡ true
token-long [] h = never h
token-long (b ∷ bs) h = le-leb 1 (suc (length bs)) (omega arith)

name_back : (w : Word) → is_name w.bytes ≡ true → name_of w.bytes ≡ says w.bytes
unfolding name_of is_name
name_back w h =
    rw (token-long w.bytes (and_left (is_token w.bytes) _ h), and_right (is_token w.bytes) (leb (length w.bytes) 255) h) refl

few : (count n : ℕ) → count < 10 ^ 10 → reference_fits count n ≡ true → n < 10 ^ 10
few count n l h = let k = leb-true n count (and_right (leb 1 n) (leb n count) h) in omega arith

pub word_back : (n : Seen) (f : WordForm) (w : Word) (x : Value) → Small n → Fits n f x → w.bytes ≡ written x → said_of n f w ≡ says (stand w x)
word_back n a-number w x s f e =
    let q : w.bytes ≡ written_number f.0 = e ∙ ap written f.1 in
    rw (q, number-back f.0 f.2, f.1) refl
word_back n (a-corner k) w x s f e =
    let q : w.bytes ≡ written_corner f.0 = e ∙ ap written f.1 in
    rw (q, corner-back n.counts k s.counts f.0 f.2, f.1) refl
word_back n a-control w x s f e =
    let q : w.bytes ≡ written_whole f.0 = e ∙ ap written f.1 in
    rw (q, reference-back n.vp f.0 f.2 (few n.vp f.0 s.vp f.2), f.1) refl
word_back n a-curve w x s f e =
    let q : w.bytes ≡ written_whole f.0 = e ∙ ap written f.1 in
    rw (q, reference-back n.curves f.0 f.2 (few n.curves f.0 s.curves f.2), f.1) refl
word_back n a-direction w x s f e =
    let q : w.bytes ≡ argument_bytes (direction_argument f.0) = e ∙ ap written f.1 in
    rw (q, direction-is f.0, f.1) refl
word_back n a-type w x s f e =
    let q : w.bytes ≡ argument_bytes (basis_argument f.0) = e ∙ ap written f.1 in
    rw (q, type-back f.0, f.1) refl
word_back n a-rational w x s f e =
    let q : w.bytes ≡ argument_bytes Rational = e ∙ ap written f in
    rw (q, rational-back, f) refl
word_back n a-degree w x s f e =
    let q : w.bytes ≡ written_whole f.0 = e ∙ ap written f.1 in
    rw (q, degree-back f.0 f.2, f.1) refl
word_back n a-smoothing w x s f e =
    let q : w.bytes ≡ written_whole f.0 = e ∙ ap written f.1 in
    rw (q, smoothing-back f.0 f.2, f.1) refl
word_back n a-name w x s f e =
    let q : w.bytes ≡ f.0.bytes = e ∙ ap written f.1 in
    let h : is_name w.bytes ≡ true = ap is_name q ∙ f.2 in
    rw (name_back w h, f.1) refl
word_back n anything w x s f e = rw f refl

-- all words of a line
abbrev pub Fitting : Seen → (ℕ → WordForm) → ℕ → List Value → Type 0
Fitting n f i [] = Unit {0}
Fitting n f i (x ∷ xs) = Fits n (f i) x × Fitting n f (suc i) xs

abbrev pub stands : List Word → List Value → List Value
stands [] xs = xs
stands (w ∷ ws) [] = []
stands (w ∷ ws) (x ∷ xs) = stand w x ∷ stands ws xs

pub values-back : (n : Seen) (f : ℕ → WordForm) (i : ℕ) (ws : List Word) (xs : List Value) → Small n → Fitting n f i xs → bytes_of ws ≡ map written xs
    → values_of n f i ws ≡ fine (stands ws xs)
values-back n f i [] [] s h e = refl
values-back n f i [] (x ∷ xs) s h e = absurd (let z : ◌≡◌ {A = ℕ} 0 1 = cc in omega arith)
values-back n f i (w ∷ ws) [] s h e = absurd (let z : ◌≡◌ {A = ℕ} 0 1 = cc in omega arith)
values-back n f i (w ∷ ws) (x ∷ xs) s h e =
    let a : w.bytes ≡ written x = cc in
    let b : bytes_of ws ≡ map written xs = cc in
    rw (word_back n (f i) w x s h.0 a, values-back n f (suc i) ws xs s h.1 b) refl

-- ---- fit
pub then-fine : {A C : Type 0} (r : Parsed A) (k : A → Parsed C) (c : C) → then r k ≡ fine c → (a : A) × (r ≡ fine a) × (k a ≡ fine c)
then-fine (fine a) k c h = (a, refl, h)
then-fine (fault n p) k c h = absurd (let z : ◌≡◌ {A = ℕ} 0 1 = cc in omega arith)

pub on-says : {A C : Type 0} (f : A → C) (r : Said A) (c : C) → on_said f r ≡ says c → (a : A) × (r ≡ says a) × (c ≡ f a)
on-says f (says a) c h = (a, refl, cc)
on-says f (wrong n) c h = absurd (let z : ◌≡◌ {A = ℕ} 0 1 = cc in omega arith)

direction-fit : (o : Option ParmDirection) (x : Value) → direction_said o ≡ says x → (d : ParmDirection) × (x ≡ direction d)
direction-fit none x h = absurd (let z : ◌≡◌ {A = ℕ} 0 1 = cc in omega arith)
direction-fit (some d) x h = (d, cc)

rational-fit : (a : Argument) (x : Value) → rational_said a ≡ says x → x ≡ nothing
rational-fit Rational x h = cc
rational-fit BasisMatrix x h = cc
rational-fit Bezier x h = cc
rational-fit Bspline x h = cc
rational-fit Cardinal x h = cc
rational-fit Taylor x h = cc
rational-fit DirectionU x h = cc
rational-fit DirectionV x h = cc
rational-fit Off x h = cc
rational-fit Other x h = cc

name-fit : (w v : List ℕ) → is_token w ≡ true → name_of w ≡ says v → is_name w ≡ true
unfolding name_of is_name
name-fit w v t h = rw t (go (leb 1 (length w) && leb (length w) 255) refl h)
  where
    go : (b : Bool) → (leb 1 (length w) && leb (length w) 255) ≡ b → must b 6 (says w) ≡ says v → leb (length w) 255 ≡ true
    go true q h = and_right (leb 1 (length w)) (leb (length w) 255) q
    go false q h = absurd (let z : ◌≡◌ {A = ℕ} 0 1 = cc in omega arith)

pub word_fit : (n : Seen) (f : WordForm) (w : Word) (x : Value) → is_token w.bytes ≡ true → said_of n f w ≡ says x → Fits n f x
word_fit n a-number w x t h = let p = on-says number (number_of w.bytes) x h in (p.0, p.2, number_fits-says w.bytes p.0 p.1)
word_fit n (a-corner k) w x t h = let p = on-says corner (corner_of n.counts k w.bytes) x h in (p.0, p.2, corner-fits n.counts k w.bytes p.0 p.1)
word_fit n a-control w x t h =
    let p = on-says (λ i. corner (record { v = i; vt = 0; vn = 0 })) (reference_of n.vp w.bytes) x h in
    (p.0, p.2, reference-fits n.vp w.bytes p.0 p.1)
word_fit n a-curve w x t h = let p = on-says whole (reference_of n.curves w.bytes) x h in (p.0, p.2, reference-fits n.curves w.bytes p.0 p.1)
word_fit n a-direction w x t h = direction-fit (direction_of (argument_of w.bytes)) x h
word_fit n a-type w x t h = let p = on-says basis (type_said (argument_of w.bytes)) x h in (p.0, p.2)
word_fit n a-rational w x t h = rational-fit (argument_of w.bytes) x h
word_fit n a-degree w x t h = let p = on-says whole (degree_of w.bytes) x h in (p.0, p.2, degree-fits w.bytes p.0 p.1)
word_fit n a-smoothing w x t h = let p = on-says whole (smoothing_of w.bytes) x h in (p.0, p.2, smoothing-fits w.bytes p.0 p.1)
word_fit n a-name w x t h = let p = on-says (λ b. name w) (name_of w.bytes) x h in (w, p.2, name-fit w.bytes p.0 t p.1)
word_fit n anything w x t h = cc

pub placed-fine : {A : Type 0} (r : Said A) (p : ℕ) (a : A) → placed r p ≡ fine a → r ≡ says a
placed-fine (says b) p a h = cc
placed-fine (wrong n) p a h = absurd (let z : ◌≡◌ {A = ℕ} 0 1 = cc in omega arith)

pub record Found (n : Seen) (f : ℕ → WordForm) (i : ℕ) (ws : List Word) (xs : List Value) : Type 0 where
  pub fits : Fitting n f i xs
  pub many : length xs ≡ length ws

pub values-fit : (n : Seen) (f : ℕ → WordForm) (i : ℕ) (ws : List Word) (xs : List Value) → all is_token (bytes_of ws) ≡ true → values_of n f i ws ≡ fine xs → Found n f i ws xs
values-fit n f i [] xs t h = subst (Found n f i []) (let z : [] ≡ xs = cc in z) (record { fits = tt; many = refl })
values-fit n f i (w ∷ ws) xs t h =
    let p = then-fine (placed (said_of n (f i) w) w.place) _ xs h in
    let q = then-fine (values_of n f (suc i) ws) _ xs p.2 in
    let z : p.0 ∷ q.0 ≡ xs = (let y = q.2 in cc) in
    let r = values-fit n f (suc i) ws q.0 (and_right (is_token w.bytes) _ t) q.1 in
    subst (Found n f i (w ∷ ws)) z
    (record { fits = (word_fit n (f i) w p.0 (and_left (is_token w.bytes) _ t) (placed-fine (said_of n (f i) w) w.place p.0 p.1), r.fits); many = ap suc r.many })

-- ---- more of each kind, and it still fits
pub record Up (m n : Seen) : Type 0 where
  pub v : m.counts.v ≤ n.counts.v
  pub vt : m.counts.vt ≤ n.counts.vt
  pub vn : m.counts.vn ≤ n.counts.vn
  pub vp : m.vp ≤ n.vp
  pub curves : m.curves ≤ n.curves

reference-up : (a b k : ℕ) → a ≤ b → reference_fits a k ≡ true → reference_fits b k ≡ true
reference-up a b k l h =
    let q = leb-true k a (and_right (leb 1 k) (leb k a) h) in
    and_both (and_left (leb 1 k) (leb k a) h) (le-leb k b (omega arith))

part_up : (t : Bool) (a b k : ℕ) → a ≤ b → part_fits t a k ≡ true → part_fits t b k ≡ true
part_up t a b k l h = go (eqb k 0) h
  where
    go : (z : Bool) → (z || (t && reference_fits a k)) ≡ true → (z || (t && reference_fits b k)) ≡ true
    go true h = refl
    go false h = and_both (and_left t (reference_fits a k) h) (reference-up a b k l (and_right t (reference_fits a k) h))

pub fits-up : (m n : Seen) (f : WordForm) (x : Value) → Up m n → Fits m f x → Fits n f x
fits-up m n a-number x u f = f
fits-up m n (a-corner k) x u f =
    let c = f.0 in
    let W = reference_fits m.counts.v c.v in
    let P = part_fits k.vt m.counts.vt c.vt in
    let r = and_right W _ f.2 in (
      c,
      f.1,
      and_both (reference-up m.counts.v n.counts.v c.v u.v (and_left W _ f.2))
          (and_both (part_up k.vt m.counts.vt n.counts.vt c.vt u.vt (and_left P _ r)) (part_up k.vn m.counts.vn n.counts.vn c.vn u.vn (and_right P _ r))),
    )
fits-up m n a-control x u f = (f.0, f.1, reference-up m.vp n.vp f.0 u.vp f.2)
fits-up m n a-curve x u f = (f.0, f.1, reference-up m.curves n.curves f.0 u.curves f.2)
fits-up m n a-direction x u f = f
fits-up m n a-type x u f = f
fits-up m n a-rational x u f = f
fits-up m n a-degree x u f = f
fits-up m n a-smoothing x u f = f
fits-up m n a-name x u f = f
fits-up m n anything x u f = f

pub fitting-up : (m n : Seen) (f : ℕ → WordForm) (i : ℕ) (xs : List Value) → Up m n → Fitting m f i xs → Fitting n f i xs
fitting-up m n f i [] u h = tt
fitting-up m n f i (x ∷ xs) u h = (fits-up m n (f i) x u h.0, fitting-up m n f (suc i) xs u h.1)
