-- Emissions one after the other: two are one of both texts, by `sets-append`. What a loop that emits has left comes to what it was asked for.
use Prim.Native.Nat.{ℕ, ◌+◌, ◌≤◌, ◌<◌, min}
use mathlib.Core.Path.{◌≡◌, refl, sym, ap, ap₂, ◌∙◌, subst}
use mathlib.Core.List.{List, [], ◌∷◌, ◌++◌}
use mathlib.Core.Bool.{Bool, true, false, cond}
use native.Mathlib.Omega.{arith}
use borrow.Author.Tests.{le-leb, lt-leb}
use lib.Dec.{leb}
use lib.ListN.{length, length-append}
use lib.Seq.{sets, length-sets}
use Rattle.lists.proofs.Laws.{sets-append}
use Rattle.tidy_words.specs.Emitting.{Emission, emission, emitted_whole, emitted_spaced, Emitted}

-- nothing
pub emitted-none : (at : ℕ) (l : List ℕ) → at ≤ 16777217 → Emitted at [] l l at
emitted-none at l h = record { ends = omega arith; same = refl; stored = λ a b. refl }

-- a word w of n bytes, which ends at e: stored where it has room, nothing where it has none
module _ (at : ℕ) (w l : List ℕ) (n e : ℕ) (i : n ≡ length w) (j : e ≡ min (at + n) 16777217) where
  pub whole_room : e ≤ min (length l) 16777216 → (m : List ℕ) (r : ℕ) → (r ≡ at + length w) × (m ≡ sets l at w) → emission r m ≡ emitted_whole at w l
  unfolding emitted_whole
  whole_room k m r s =
      let t : leb (at + length w) (min (length l) 16777216) ≡ true = le-leb (at + length w) (min (length l) 16777216) (omega arith) in
      let q : r ≡ min (at + length w) 16777217 = omega (arith, s.0) in
      rw t (ap₂ emission q s.1)

  pub whole-roomless : min (length l) 16777216 < e → emission e l ≡ emitted_whole at w l
  unfolding emitted_whole
  whole-roomless k =
      let t : leb (at + length w) (min (length l) 16777216) ≡ false = lt-leb (at + length w) (min (length l) 16777216) (omega arith) in
      let q : e ≡ min (at + length w) 16777217 = omega arith in
      rw t (ap (λ (r : ℕ). emission r l) q)

-- a word, and a word after a space, as texts
pub emitted-whole : {at r : ℕ} {w l m : List ℕ} → emission r m ≡ emitted_whole at w l → Emitted at w l m r
unfolding emitted_whole
emitted-whole {at} {r} {w} {l} {m} e =
    let out : m ≡ cond (leb (at + length w) (min (length l) 16777216)) (sets l at w) l = ap (λ (x : Emission). x.out) e in
    record {
      ends = ap (λ (x : Emission). x.next) e;
      same = ap length out ∙ kept (leb (at + length w) (min (length l) 16777216));
      stored = λ (h : at + length w ≤ length l) (g : at + length w ≤ 16777216).
          let t : leb (at + length w) (min (length l) 16777216) ≡ true = le-leb (at + length w) (min (length l) 16777216) (omega arith) in
          out ∙ ap (λ (b : Bool). cond b (sets l at w) l) t;
    }
  where
    kept : (b : Bool) → length (cond b (sets l at w) l) ≡ length l
    kept true = length-sets l at w
    kept false = refl

-- two, one after the other
pub emitted_then : {at : ℕ} {v w l m n : List ℕ} {q r : ℕ} → Emitted at v l m q → Emitted q w m n r → Emitted at (v ++ w) l n r
emitted_then {at} {v} {w} {l} {m} {n} {q} {r} a b =
    let k = length-append v w in
    record {
      ends = omega (arith, a.ends, b.ends);
      same = b.same ∙ a.same;
      stored = λ (h : at + length (v ++ w) ≤ length l) (g : at + length (v ++ w) ≤ 16777216).
          let i : q ≡ at + length v = omega (arith, a.ends) in
          let j : m ≡ sets l at v = a.stored (omega arith) (omega arith) in
          let o : n ≡ sets m q w = b.stored (omega (arith, a.same)) (omega arith) in
          o ∙ ap₂ (λ (t : List ℕ) (p : ℕ). sets t p w) j i ∙ sym (sets-append l at v w);
    }

-- a text that was emitted where it has room, and one that has none: the buffer holds all of it or is as it was
pub whole-emitted : {at r : ℕ} {w l m : List ℕ} → Emitted at w l m r → r ≤ min (length l) 16777216 → emission r m ≡ emitted_whole at w l
whole-emitted {at} {r} {w} {l} {m} e k =
    let q : r ≡ at + length w = omega (arith, e.ends) in
    whole_room at w l (length w) r refl e.ends k m r (q, e.stored (omega arith) (omega arith))

pub whole-kept : (at : ℕ) (w l : List ℕ) {r : ℕ} {m : List ℕ} → emission r m ≡ emitted_whole at w l → min (length l) 16777216 < at + length w → m ≡ l
unfolding emitted_whole
whole-kept at w l {r} {m} e h =
    let t : leb (at + length w) (min (length l) 16777216) ≡ false = lt-leb (at + length w) (min (length l) 16777216) h in
    ap (λ (x : Emission). x.out) e ∙ ap (λ (b : Bool). cond b (sets l at w) l) t

pub emitted-spaced : {at r : ℕ} {w l m : List ℕ} → emission r m ≡ emitted_spaced at w l → Emitted at (32 ∷ w) l m r
unfolding emitted_spaced
emitted-spaced {at} {r} {w} {l} {m} e =
    let space : Emission = emitted_whole at (32 ∷ []) l in
    emitted_then {v = 32 ∷ []} {m = space.out} {q = space.next} (emitted-whole refl) (emitted-whole e)

-- the two of them written one after the other
pub space-then : (at : ℕ) (w l : List ℕ) {q r : ℕ} {m n : List ℕ} → emission q m ≡ emitted_whole at (32 ∷ []) l → emission r n ≡ emitted_whole q w m → emission r n ≡ emitted_spaced at w l
unfolding emitted_spaced
space-then at w l {q} {r} {m} {n} a b = b ∙ ap (λ (x : Emission). emitted_whole x.next w x.out) a

-- the same text said otherwise
pub emitted-is : {at r : ℕ} {v w l m : List ℕ} → v ≡ w → Emitted at v l m r → Emitted at w l m r
emitted-is {at} {r} {v} {w} {l} {m} e h = subst (λ (x : List ℕ). Emitted at x l m r) e h

-- ---- a loop that emits: `all` from at₀ on into l, of which `rest` is left from `at` on, into m
pub record Left (at₀ : ℕ) (all l : List ℕ) (at : ℕ) (rest m : List ℕ) : Type 0 where
  pub most : at ≤ 16777217
  pub same : length m ≡ length l
  pub onward : (n : List ℕ) (r : ℕ) → Emitted at rest m n r → Emitted at₀ all l n r

pub left-start : (at : ℕ) (all l : List ℕ) → at ≤ 16777217 → Left at all l at all l
left-start at all l h = record { most = h; same = refl; onward = λ n r e. e }

-- all is left at first, said otherwise
pub left-begins : (at : ℕ) (l : List ℕ) {all rest : List ℕ} → at ≤ 16777217 → rest ≡ all → Left at all l at rest l
left-begins at l {all} {rest} h e = record { most = h; same = refl; onward = λ (n : List ℕ) (r : ℕ) (c : Emitted at rest l n r). emitted-is e c }

pub left-turn : {at₀ at at' : ℕ} {all l rest v rest' m m' : List ℕ} → Left at₀ all l at rest m → rest ≡ v ++ rest' → Emitted at v m m' at' → Left at₀ all l at' rest' m'
left-turn {at₀} {at} {at'} {all} {l} {rest} {v} {rest'} {m} {m'} a e b =
    record {
      most = omega (arith, b.ends);
      same = b.same ∙ a.same;
      onward = λ (n : List ℕ) (r : ℕ) (c : Emitted at' rest' m' n r). a.onward n r (rw e (emitted_then b c));
    }

pub left-ends : {at₀ at : ℕ} {all l rest m : List ℕ} → Left at₀ all l at rest m → rest ≡ [] → Emitted at₀ all l m at
left-ends {at₀} {at} {all} {l} {rest} {m} a e = a.onward m at (rw e (emitted-none at m a.most))
