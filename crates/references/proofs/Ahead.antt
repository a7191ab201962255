-- Digits that were read straight ahead are a whole part where no digit follows them; so each way out is one of those of the parts.
use Prim.Native.Nat.{ℕ, suc, ◌+◌, ◌≤◌}
use mathlib.Core.Path.{◌≡◌, refl, sym, ap, ap₂, ◌∙◌}
use mathlib.Core.List.{List, [], ◌∷◌}
use mathlib.Core.Bool.{Bool, true, false, cond, ◌&&◌}
use mathlib.Core.Logic.{◌⊎◌, ⊎_elim}
use lib.ListN.{length, take, drop}
use lib.Seq.{take_all}
use lib.Dec.{leb}
use borrow.Author.Tests.{le-leb, leb-true, ne_eqb}
use native.Mathlib.Omega.{arith}
use Rattle.lists.proofs.Tests.{and_both, and_left, and_right, test, never}
use Rattle.text.specs.Words.{word_of}
use Rattle.text.specs.Rest.{end_of}
use Rattle.digits.specs.Said.{says}
use Rattle.digits.specs.Answers.{ends_at}
use Rattle.digits.specs.Digits.{is_digit, nat_of, negative, unminus}
use Rattle.references.specs.Reference.{item}
use Rattle.references.specs.Corner.{Counts, Parts, split, corner_of}
use Rattle.digits.specs.Straight.{first, run, UptoRead}
use Rattle.references.specs.Straight.{places, PartRead, AheadRead, NoneRead, second, third}
use Rattle.digits.proofs.Fronts.{low-no-word, low-stops, slash-stops, word_over}
use Rattle.digits.proofs.Runs.{few-near, few-all}
use Rattle.references.proofs.Pieces.{negative-first, minus-drop}
use Rattle.references.proofs.Patterns.{normal-of, texture-slash, texture-normal, texture-end, corner-slash, corner-end}

starts-digit : (n : ℕ) (l : List ℕ) → 1 ≤ nat_of 0 (take (suc n) (run l)) → is_digit (first l) ≡ true
starts-digit n [] h = absurd (omega arith)
starts-digit n (b ∷ bs) h =
    ⊎_elim (λ (t : is_digit b ≡ true). t) (λ (t : is_digit b ≡ false). let q = rw t at h in absurd (omega arith)) (test (is_digit b))

one-digit : (l : List ℕ) → is_digit (first l) ≡ true → 1 ≤ length (run l)
one-digit [] h = never h
one-digit (b ∷ bs) h = rw h (omega arith)

module _ {count : ℕ} {s : List ℕ} {at number end : ℕ} (a : AheadRead count s at number end) where
  pub near : end ≤ at + 10
  near = few-near a.read

  starts : is_digit (first (drop at s)) ≡ true
  starts = starts-digit 9 (drop at s) (let x = a.read.value-is in let y = a.some in omega arith)

  no_slash : first (drop at s) ≡ 47 → ⊥
  no_slash h = never (sym (ap is_digit h) ∙ starts)

  plain : negative (drop at s) ≡ false
  plain = sym (negative-first (drop at s)) ∙ ne_eqb (first (drop at s)) 45 (λ h. never (sym (ap is_digit h) ∙ starts))

  same : unminus (drop at s) ≡ drop at s
  same = minus-drop (drop at s) ∙ ap (λ (t : Bool). drop (cond t 1 0) (drop at s)) plain

  module _ (o : is_digit (first (drop end s)) ≡ false) where
    short : length (run (drop at s)) ≤ 10
    short = few-all a.read o

    all : take 10 (run (drop at s)) ≡ places (drop at s)
    all = take_all 10 (run (drop at s)) short ∙ ap run (sym same)

    pub part : PartRead count s at number end
    part =
        let m : length (places (drop at s)) ≡ length (run (drop at s)) = ap (λ (l : List ℕ). length (run l)) same in
        let n : number ≡ nat_of 0 (places (drop at s)) = a.read.value-is ∙ ap (nat_of 0) all in
        let i : item false count number ≡ number =
        ap (λ (t : Bool). cond t number 0) (and_both (le-leb 1 number a.some) (le-leb number count a.within)) in
        record {
          to = a.read.to;
          some = let x = one-digit (drop at s) starts in omega arith;
          few = let x = short in omega arith;
          number_is = sym i ∙ ap₂ (λ (t : Bool) (k : ℕ). item t count k) (sym plain) n;
          end_is =
              let x = a.read.end_is in
              let y = ap length all in
              let z : ◌≡◌ {A = ℕ} (cond (negative (drop at s)) 1 0) 0 = ap (λ (t : Bool). cond t 1 0) plain in
              omega arith;
        }

pub ahead : {count : ℕ} {s : List ℕ} {at number end : ℕ} {r : Bool} → UptoRead 10 s at 0 end number → r ≡ (leb 1 number && leb number count) → r ≡ true → AheadRead count s at number end
ahead {count} {number = number} f e t =
    let q = sym e ∙ t in
    record {
      read = f;
      some = leb-true 1 number (and_left (leb 1 number) (leb number count) q);
      within = leb-true number count (and_right (leb 1 number) (leb number count) q);
    }

-- ---- the third part
pub normal-end : {normal : Bool} {nvn v vt : ℕ} {s : List ℕ} {at number end : ℕ} → AheadRead nvn s at number end → normal ≡ true → {b : ℕ} → b ≡ first (drop end s) → b ≤ 32
    → says (record { v = v; vt = vt; vn = number }, end) ≡ ends_at (third normal nvn true v vt (split (word_of (drop at s)))) (end_of s at)
normal-end {normal} {nvn} {v} {vt} {s} {at} {number} {end} a h {b} e l =
    let some = a.some in
    normal-of normal nvn true v vt s at (part a (low-stops (drop end s) b e l)) h
    (word_over (drop end s) (low-no-word (first (drop end s)) (omega arith)))
    (λ z. omega arith)
    (says (record { v = v; vt = vt; vn = number }, end)) refl

-- ---- the second part
module _ {nvt : ℕ} {s : List ℕ} {at number end : ℕ} (q : NoneRead s at number end ⊎ AheadRead nvt s at number end) where
  pub second-near : end ≤ at + 10
  second-near =
      ⊎_elim
      (λ (n : NoneRead s at number end). let x = n.end_is in omega arith)
      (λ (a : AheadRead nvt s at number end). near a)
      q

  module _ (nvn : ℕ) (texture normal : Bool) (v : ℕ) (h : texture ≡ true) (k : 1 ≤ v) {b : ℕ} (e : b ≡ first (drop end s)) where
    both : (a : AheadRead nvt s at number end) → true ≡ (leb 1 v && leb 1 number)
    both a = sym (and_both (le-leb 1 v k) (le-leb 1 number a.some))

    pub second-slash : b ≡ 47
        → ends_at (third normal nvn true v number (split (word_of (drop (end + 1) s)))) (end_of s (end + 1))
        ≡ ends_at (second nvt nvn texture normal v (split (word_of (drop at s)))) (end_of s at)
    second-slash g =
        ⊎_elim
        (λ (n : NoneRead s at number end).
        ap₂ (λ (m i : ℕ). ends_at (third normal nvn true v m (split (word_of (drop (i + 1) s)))) (end_of s (i + 1))) n.number_is n.end_is
        ∙ texture-slash nvt nvn texture normal v s at refl n.slash
        (ends_at (third normal nvn true v 0 (split (word_of (drop (at + 1) s)))) (end_of s (at + 1))) true (sym (le-leb 1 v k)) refl)
        (λ (a : AheadRead nvt s at number end).
        texture-normal nvt nvn texture normal v s at refl (no_slash a) (part a (slash-stops (drop end s) b e g)) e h g
        (ends_at (third normal nvn true v number (split (word_of (drop (end + 1) s)))) (end_of s (end + 1))) true (both a) refl)
        q

    pub second-end : b ≤ 32
        → says (record { v = v; vt = number; vn = 0 }, end) ≡ ends_at (second nvt nvn texture normal v (split (word_of (drop at s)))) (end_of s at)
    second-end l =
        ⊎_elim
        (λ (n : NoneRead s at number end).
        let z : first (drop end s) ≡ 47 = ap (λ (i : ℕ). first (drop i s)) n.end_is ∙ n.slash in absurd (omega arith))
        (λ (a : AheadRead nvt s at number end).
        texture-end nvt nvn texture normal v s at refl (no_slash a) (part a (low-stops (drop end s) b e l)) e h (low-no-word b l)
        (says (record { v = v; vt = number; vn = 0 }, end)) true (both a) refl)
        q

-- ---- the whole corner
module _ (c : Counts) (k : Parts) {s : List ℕ} {at number end : ℕ} (a : AheadRead c.v s at number end) {b : ℕ} (e : b ≡ first (drop end s)) where
  pub first-slash : b ≡ 47
      → ends_at (second c.vt c.vn k.vt k.vn number (split (word_of (drop (end + 1) s)))) (end_of s (end + 1)) ≡ ends_at (corner_of c k (word_of (drop at s))) (end_of s at)
  first-slash g =
      corner-slash c k s at (part a (slash-stops (drop end s) b e g)) e g
      (ends_at (second c.vt c.vn k.vt k.vn number (split (word_of (drop (end + 1) s)))) (end_of s (end + 1))) refl

  pub first-end : b ≤ 32 → says (record { v = number; vt = 0; vn = 0 }, end) ≡ ends_at (corner_of c k (word_of (drop at s))) (end_of s at)
  first-end l =
      corner-end c k s at (part a (low-stops (drop end s) b e l)) e (low-no-word b l)
      (says (record { v = number; vt = 0; vn = 0 }, end)) true (sym (le-leb 1 number a.some)) refl
