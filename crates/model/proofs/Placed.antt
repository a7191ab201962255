-- What the layout asks of a model so that its tables give it back: rows of their tables' widths, loops of one part or more, names that stand in the text.
use Prim.Native.Nat.{ℕ, ◌+◌, ◌*◌, ◌<◌}
use mathlib.Core.Path.{◌≡◌, ap, ◌∙◌, subst}
use mathlib.Core.List.{List, [], ◌∷◌, ◌++◌}
use native.Mathlib.Omega.{arith}
use native.Mathlib.Nat.{zero-add}
use lib.ListN.{length, length-append}
use lib.IntN.{ℤ}
use Rattle.lists.specs.Lists.{flat}
use Rattle.text.specs.Words.{Word}
use Rattle.tables.specs.Records.{v_width, vt_width, vn_width, vp_width}
use Rattle.model.specs.Model.{Vertices, Names, Loop, Kind, plain, free, Element, Model}
use Rattle.model.specs.Layout.{run_of, listed, itself, words_in}
use Rattle.model.proofs.Stands.{Stands, stands-is, stands-flat, Among}

-- ---- of each element of a list, and so of those before one of them and of that one
abbrev pub Each : {A : Type 0} → (A → Type 0) → List A → Type 0
Each P [] = Unit {0}
Each P (x ∷ xs) = P x × Each P xs

pub each-among : {A : Type 0} (P : A → Type 0) (xs : List A) (k : ℕ) (a : Among xs k) → Each P xs → Each P a.before × P a.one
each-among {A} P xs k a h = go a.before (subst (Each P) a.is h)
  where
    go : (ys : List A) → Each P (ys ++ a.one ∷ a.after) → Each P ys × P a.one
    go [] h = (tt, h.0)
    go (y ∷ ys) h = let r = go ys h.1 in ((h.0, r.0), r.1)

-- ---- vertices: each record of w numbers
abbrev pub Wide : ℕ → List (List ℤ) → Type 0
Wide w zs = Each (λ (z : List ℤ). length z ≡ w) zs

pub wide-length : (w : ℕ) (zs : List (List ℤ)) → Wide w zs → length (flat itself zs) ≡ w * length zs
wide-length w [] h = omega arith
wide-length w (z ∷ zs) h =
    let a = length-append z (flat itself zs) in
    let i = wide-length w zs h.1 in
    let e = h.0 in
    omega arith

pub wide-stands : (w : ℕ) (l : List ℤ) (zs : List (List ℤ)) (k : ℕ) (a : Among zs k) → Wide w zs → Stands l 0 (flat itself zs) → Stands l (w * k) a.one
wide-stands w l zs k a h s =
    let e : length (flat itself a.before) ≡ w * k = wide-length w a.before (each-among (λ (z : List ℤ). length z ≡ w) zs k a h).0 ∙ ap (λ (n : ℕ). w * n) a.many in
    stands-is l (0 + length (flat itself a.before)) (w * k) a.one (zero-add (length (flat itself a.before)) ∙ e) (stands-flat itself l 0 zs k a s)

abbrev pub Widths : Vertices → Type 0
Widths x = Wide v_width x.v × Wide vt_width x.vt × Wide vn_width x.vn × Wide vp_width x.vp

-- ---- loops
abbrev pub Parted : List Loop → Type 0
Parted ls = Each (λ (l : Loop). 0 < length l.parts) ls

abbrev pub PartedKind : Kind → Type 0
PartedKind (plain k) = Unit {0}
PartedKind (free b) = Parted b.loops

abbrev pub PartedAll : List Element → Type 0
PartedAll es = Each (λ (e : Element). PartedKind e.kind) es

-- ---- names: the words of the part of the text t that their run gives
module _ (t : List ℕ) where
  abbrev pub WordsStand : List Word → Type 0
  WordsStand ws = words_in t (run_of ws) ≡ ws

  pub record NamesStand (n : Names) : Type 0 where
    pub group : WordsStand n.group
    pub material : WordsStand (listed n.material)

  abbrev pub ElementsStand : List Element → Type 0
  ElementsStand es = Each (λ (e : Element). NamesStand e.names) es

-- ---- all three
pub record Placed (t : List ℕ) (m : Model) : Type 0 where
  pub rows : Widths m.vertices
  pub loops : PartedAll m.elements
  pub names : ElementsStand t m.elements
