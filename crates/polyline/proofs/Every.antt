-- Every chord of a polyline rises, is a piece of the range, and is handed out for a reason.
use mathlib.Core.Path.{◌≡◌, refl, sym, ap, ◌∙◌, subst}
use mathlib.Core.Bool.{Bool, true, false, cond, ◌||◌}
use mathlib.Core.Logic.{◌⊎◌, inl, inr}
use mathlib.Core.List.{List, [], ◌∷◌, ◌++◌}
use Prim.Native.Nat.{ℕ, zero, suc, ◌+◌}
use native.Mathlib.Omega.{arith}
use lib.IntN.{ℤ}
use lib.Signed.{◌<ℤ◌}
use Rattle.lists.proofs.Tests.{never}
use Rattle.point_chords.specs.Chords.{middle, straight, short_interval, chord, ends}
use Rattle.polyline.specs.Promises.{Linked, last_from, Piece, all, first, second, Chord, EveryChord}
use Rattle.point_chords.proofs.Middle.{middle-after, middle-before}

last-joined : (a : ℤ) (x y : List ℤ) → last_from a (x ++ y) ≡ last_from (last_from a x) y
last-joined a [] y = refl
last-joined a (b ∷ x) y = last-joined b x y

linked-joined : (R : ℤ → ℤ → Type 0) (a : ℤ) (x y : List ℤ) → Linked R a x → Linked R (last_from a x) y → Linked R a (x ++ y)
linked-joined R a [] y h k = k
linked-joined R a (b ∷ x) y h k = (h.0, linked-joined R b x y h.1 k)

module _ (point : ℤ → List ℤ) (tolerance : ℤ) where
  last-either : (c : Bool) (a b m : ℤ) (x y : List ℤ) → last_from a x ≡ m → last_from m y ≡ b → last_from a (cond c (b ∷ []) (x ++ y)) ≡ b
  last-either true a b m x y f g = refl
  last-either false a b m x y f g = last-joined a x y ∙ ap (λ (z : ℤ). last_from z y) f ∙ g

  pub last-end : (depth : ℕ) (a b : ℤ) → last_from a (ends point tolerance depth a b) ≡ b
  unfolding ends
  last-end zero a b = refl
  last-end (suc depth) a b =
      last-either (chord point tolerance a b) a b (middle a b) (ends point tolerance depth a (middle a b)) (ends point tolerance depth (middle a b) b)
      (last-end depth a (middle a b)) (last-end depth (middle a b) b)

  reason : (a b : ℤ) → chord point tolerance a b ≡ true → (short_interval a b ≡ true) ⊎ (straight tolerance (point a) (point (middle a b)) (point b) ≡ true)
  unfolding chord
  reason a b h = go (short_interval a b) refl h
    where
      go : (c : Bool) → short_interval a b ≡ c → (c || straight tolerance (point a) (point (middle a b)) (point b)) ≡ true → (short_interval a b ≡ true) ⊎ (straight tolerance (point a) (point (middle a b)) (point b) ≡ true)
      go true e k = inl e
      go false e k = inr k

  not_short : (a b : ℤ) → chord point tolerance a b ≡ false → short_interval a b ≡ false
  unfolding chord
  not_short a b h = go (short_interval a b) h
    where
      go : (c : Bool) → (c || straight tolerance (point a) (point (middle a b)) (point b)) ≡ false → c ≡ false
      go true k = never (sym k)
      go false k = refl

  module _ (start end : ℤ) where
    abbrev Handed : ℤ → ℤ → Type 0
    Handed = Chord point tolerance start end

    linked-either : (c : Bool) (a b : ℤ) (x y : List ℤ) → (c ≡ true → Handed a b) → (c ≡ false → Linked Handed a (x ++ y)) → Linked Handed a (cond c (b ∷ []) (x ++ y))
    linked-either true a b x y f g = (f refl, tt)
    linked-either false a b x y f g = g refl

    linked-ends : (depth n : ℕ) (a b : ℤ) → n + depth ≡ 12 → Piece start end n a b → a <ℤ b → Linked Handed a (ends point tolerance depth a b)
    unfolding ends
    linked-ends zero n a b e p l = (record { rises = l; depth = n; piece = p; why = inl (omega (arith, e)) }, tt)
    linked-ends (suc depth) n a b e p l =
        let m = middle a b in
        let d : suc n + depth ≡ 12 = omega (arith, e) in
        linked-either (chord point tolerance a b) a b (ends point tolerance depth a m) (ends point tolerance depth m b)
        (λ h. record { rises = l; depth = n; piece = p; why = inr (reason a b h) })
        (λ h. linked-joined Handed a (ends point tolerance depth a m) (ends point tolerance depth m b)
        (linked-ends depth (suc n) a m d (first p) (middle-after l (not_short a b h)))
        (subst (λ (z : ℤ). Linked Handed z (ends point tolerance depth m b)) (sym (last-end depth a m)) (linked-ends depth (suc n) m b d (second p) (middle-before l (not_short a b h)))))

pub every-chord : EveryChord
every-chord point tolerance start end l = record {
  linked = linked-ends point tolerance start end 12 0 start end refl all l;
  last = last-end point tolerance 12 start end;
}
