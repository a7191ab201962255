-- A corner that is written is read back, and what is read can be written: by the four patterns.
use Prim.Native.Nat.{ℕ, zero, suc, ◌^◌, ◌≤◌, ◌<◌}
use mathlib.Core.Path.{◌≡◌, refl, sym, ap, ◌∙◌}
use mathlib.Core.List.{List, [], ◌∷◌, ◌++◌}
use mathlib.Core.Bool.{Bool, true, false, ◌&&◌}
use lib.ListN.{length}
use lib.Dec.{leb, eqb}
use borrow.Author.Tests.{leb-true, ne_eqb}
use native.Mathlib.Omega.{arith}
use Rattle.lists.proofs.Tests.{and_left, and_right, and_both}
use Rattle.digits.specs.Said.{says}
use Rattle.digits.specs.Digits.{is_digit, digits}
use Rattle.references.specs.Reference.{is_reference, refer}
use Rattle.references.specs.Corner.{Corner, Counts, Parts, split, formed, patterned, corner_of}
use Rattle.references.specs.Written.{written_whole, slashed, written_corner}
use Rattle.references.specs.Fits.{reference_fits, part_fits, corner_fits}
use Rattle.digits.proofs.Saids.{must-both}
use Rattle.references.proofs.WholesBack.{written-digits, written-some, reference-form, refer-back, refer-fits}

-- ---- slashes
no_slash : (b : ℕ) → is_digit b ≡ true → eqb b 47 ≡ false
no_slash b h = ne_eqb b 47 (omega (arith, leb-true 48 b (and_left (leb 48 b) (leb b 57) h)))

split-digits : (w : List ℕ) → digits w ≡ true → split w ≡ w ∷ []
split-digits [] h = refl
split-digits (b ∷ bs) h =
    rw (no_slash b (and_left (is_digit b) (digits bs) h), split-digits bs (and_right (is_digit b) (digits bs) h)) refl

split-slash : (w r : List ℕ) → digits w ≡ true → split (w ++ 47 ∷ r) ≡ w ∷ split r
split-slash [] r h = refl
split-slash (b ∷ bs) r h =
    rw (no_slash b (and_left (is_digit b) (digits bs) h), split-slash bs r (and_right (is_digit b) (digits bs) h)) refl

-- ---- read back
-- fewer than 10,000,000,000 of each kind
pub record Few (c : Counts) : Type 0 where
  pub v : c.v < 10 ^ 10
  pub vt : c.vt < 10 ^ 10
  pub vn : c.vn < 10 ^ 10

module _ (count n : ℕ) (l : count < 10 ^ 10) (h : reference_fits count n ≡ true) where
  small : n < 10 ^ 10
  small = let z = leb-true n count (and_right (leb 1 n) (leb n count) h) in omega arith

  form : is_reference (written_whole n) ≡ true
  form = reference-form n small

  back : refer count (written_whole n) ≡ n
  back = refer-back count n h small

  there : leb 1 (refer count (written_whole n)) ≡ true
  there = ap (leb 1) back ∙ and_left (leb 1 n) (leb n count) h

part-has : (has : Bool) (count n : ℕ) → part_fits has count (suc n) ≡ true → (has && reference_fits count (suc n)) ≡ true
part-has has count n h = rw (ne_eqb (suc n) 0 (omega arith)) at h

-- the middle part of four is not empty
filled : (c : Counts) (k : Parts) (a b d : List ℕ) → 1 ≤ length b
    → patterned c k (a ∷ b ∷ d ∷ [])
    ≡ formed (is_reference a && ((k.vt && is_reference b) && (k.vn && is_reference d)))
    (leb 1 (refer c.v a) && (leb 1 (refer c.vt b) && leb 1 (refer c.vn d)))
    (record { v = refer c.v a; vt = refer c.vt b; vn = refer c.vn d })
filled c k a [] d h = absurd (omega arith)
filled c k a (x ∷ b) d h = refl

pub corner-back : (c : Counts) (k : Parts) → Few c → (x : Corner) → corner_fits c k x ≡ true → corner_of c k (written_corner x) ≡ says x
unfolding corner_of
corner-back c k f x h = go x.v x.vt x.vn h
  where
    go : (a t n : ℕ) → corner_fits c k (record { v = a; vt = t; vn = n }) ≡ true → patterned c k (split (slashed (written_whole a) t n)) ≡ says (record { v = a; vt = t; vn = n })
    go a zero zero h =
        let p : reference_fits c.v a ≡ true = and_left (reference_fits c.v a) true h in
        rw (split-digits (written_whole a) (written-digits a))
        (rw (form c.v a f.v p, there c.v a f.v p, back c.v a f.v p) refl)
    go a (suc t) zero h =
        let p : reference_fits c.v a ≡ true = and_left (reference_fits c.v a) (part_fits k.vt c.vt (suc t) && true) h in
        let q = part-has k.vt c.vt t (and_left (part_fits k.vt c.vt (suc t)) true (and_right (reference_fits c.v a) (part_fits k.vt c.vt (suc t) && true) h)) in
        let u = and_right k.vt (reference_fits c.vt (suc t)) q in
        rw (split-slash (written_whole a) (written_whole (suc t)) (written-digits a), split-digits (written_whole (suc t)) (written-digits (suc t)))
        (rw (form c.v a f.v p, form c.vt (suc t) f.vt u, and_left k.vt (reference_fits c.vt (suc t)) q)
        (rw (there c.v a f.v p, there c.vt (suc t) f.vt u, back c.v a f.v p, back c.vt (suc t) f.vt u) refl))
    go a zero (suc n) h =
        let p : reference_fits c.v a ≡ true = and_left (reference_fits c.v a) (part_fits k.vn c.vn (suc n)) h in
        let q = part-has k.vn c.vn n (and_right (reference_fits c.v a) (part_fits k.vn c.vn (suc n)) h) in
        let u = and_right k.vn (reference_fits c.vn (suc n)) q in
        rw (split-slash (written_whole a) (47 ∷ written_whole (suc n)) (written-digits a), split-digits (written_whole (suc n)) (written-digits (suc n)))
        (rw (form c.v a f.v p, form c.vn (suc n) f.vn u, and_left k.vn (reference_fits c.vn (suc n)) q)
        (rw (there c.v a f.v p, there c.vn (suc n) f.vn u, back c.v a f.v p, back c.vn (suc n) f.vn u) refl))
    go a (suc t) (suc n) h =
        let p : reference_fits c.v a ≡ true = and_left (reference_fits c.v a) (part_fits k.vt c.vt (suc t) && part_fits k.vn c.vn (suc n)) h in
        let r = and_right (reference_fits c.v a) (part_fits k.vt c.vt (suc t) && part_fits k.vn c.vn (suc n)) h in
        let q = part-has k.vt c.vt t (and_left (part_fits k.vt c.vt (suc t)) (part_fits k.vn c.vn (suc n)) r) in
        let m = part-has k.vn c.vn n (and_right (part_fits k.vt c.vt (suc t)) (part_fits k.vn c.vn (suc n)) r) in
        let u = and_right k.vt (reference_fits c.vt (suc t)) q in
        let w = and_right k.vn (reference_fits c.vn (suc n)) m in
        rw (split-slash (written_whole a) (written_whole (suc t) ++ 47 ∷ written_whole (suc n)) (written-digits a), split-slash (written_whole (suc t)) (written_whole (suc n)) (written-digits (suc t)), split-digits (written_whole (suc n)) (written-digits (suc n)))
        (filled c k (written_whole a) (written_whole (suc t)) (written_whole (suc n)) (written-some (suc t))
        ∙ rw (form c.v a f.v p, form c.vt (suc t) f.vt u, form c.vn (suc n) f.vn w, and_left k.vt (reference_fits c.vt (suc t)) q, and_left k.vn (reference_fits c.vn (suc n)) m)
        (rw (there c.v a f.v p, there c.vt (suc t) f.vt u, there c.vn (suc n) f.vn w, back c.v a f.v p, back c.vt (suc t) f.vt u, back c.vn (suc n) f.vn w) refl))

-- ---- what is read can be written
fits-part : (has : Bool) (count : ℕ) (w : List ℕ) → (has && is_reference w) ≡ true → leb 1 (refer count w) ≡ true → part_fits has count (refer count w) ≡ true
fits-part has count w f h = go (refer count w) (leb-true 1 (refer count w) h) (refer-fits count w h)
  where
    go : (n : ℕ) → 1 ≤ n → reference_fits count n ≡ true → part_fits has count n ≡ true
    go zero l e = absurd (omega arith)
    go (suc n) l e = rw (ne_eqb (suc n) 0 (omega arith)) (and_both (and_left has (is_reference w) f) e)

pub corner-fits : (c : Counts) (k : Parts) (w : List ℕ) (x : Corner) → corner_of c k w ≡ says x → corner_fits c k x ≡ true
unfolding corner_of
corner-fits c k w x h = go (split w) h
  where
    corner : (form there : Bool) (y : Corner) → formed form there y ≡ says x → (form ≡ true → there ≡ true → corner_fits c k y ≡ true) → corner_fits c k x ≡ true
    corner form there y h f =
        let p = must-both form there 6 8 y x h in
        ap (corner_fits c k) (sym p.2) ∙ f p.0 p.1

    go : (ps : List (List ℕ)) → patterned c k ps ≡ says x → corner_fits c k x ≡ true
    go [] h = absurd (let z : ◌≡◌ {A = ℕ} 0 1 = cc in omega arith)
    go (a ∷ []) h =
        corner (is_reference a) (leb 1 (refer c.v a)) (record { v = refer c.v a; vt = 0; vn = 0 }) h
        (λ f t. and_both (refer-fits c.v a t) refl)
    go (a ∷ b ∷ []) h =
        corner (is_reference a && (k.vt && is_reference b)) (leb 1 (refer c.v a) && leb 1 (refer c.vt b)) (record { v = refer c.v a; vt = refer c.vt b; vn = 0 }) h
        (λ f t.
        and_both (refer-fits c.v a (and_left (leb 1 (refer c.v a)) (leb 1 (refer c.vt b)) t))
        (and_both
        (fits-part k.vt c.vt b (and_right (is_reference a) (k.vt && is_reference b) f) (and_right (leb 1 (refer c.v a)) (leb 1 (refer c.vt b)) t))
        refl))
    go (a ∷ [] ∷ d ∷ []) h =
        corner (is_reference a && (k.vn && is_reference d)) (leb 1 (refer c.v a) && leb 1 (refer c.vn d)) (record { v = refer c.v a; vt = 0; vn = refer c.vn d }) h
        (λ f t.
        and_both (refer-fits c.v a (and_left (leb 1 (refer c.v a)) (leb 1 (refer c.vn d)) t))
        (fits-part k.vn c.vn d (and_right (is_reference a) (k.vn && is_reference d) f) (and_right (leb 1 (refer c.v a)) (leb 1 (refer c.vn d)) t)))
    go (a ∷ (y ∷ b) ∷ d ∷ []) h =
        let fv = leb 1 (refer c.v a) in
        let ft = leb 1 (refer c.vt (y ∷ b)) in
        let fn = leb 1 (refer c.vn d) in
        let gt = k.vt && is_reference (y ∷ b) in
        let gn = k.vn && is_reference d in
        corner (is_reference a && (gt && gn)) (fv && (ft && fn)) (record { v = refer c.v a; vt = refer c.vt (y ∷ b); vn = refer c.vn d }) h
        (λ f t.
        let g = and_right (is_reference a) (gt && gn) f in
        let u = and_right fv (ft && fn) t in
        and_both (refer-fits c.v a (and_left fv (ft && fn) t))
        (and_both
        (fits-part k.vt c.vt (y ∷ b) (and_left gt gn g) (and_left ft fn u))
        (fits-part k.vn c.vn d (and_right gt gn g) (and_right ft fn u))))
    go (a ∷ b ∷ d ∷ e ∷ ps) h = absurd (let z : ◌≡◌ {A = ℕ} 0 1 = cc in omega arith)
