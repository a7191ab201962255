-- The count of a line's numbers by the walk of `state`: so many at once, and those before the line's end.
use Prim.Native.Nat.{ℕ, zero, suc, ◌+◌}
use mathlib.Core.Path.{◌≡◌, refl, sym, ap, ◌∙◌}
use mathlib.Core.List.{List, [], ◌∷◌}
use mathlib.Core.Option.{Option, none, some}
use native.Mathlib.Omega.{arith}
use lib.ListN.{length}
use lib.IntN.{ℤ}
use Rattle.std.specs.Prelude.{Some}
use Rattle.text.specs.Words.{Word}
use Rattle.text.specs.Rest.{Rest, rest_at}
use Rattle.text.proofs.LineByLine.{next-to}
use Rattle.digits.specs.Said.{Said, says, wrong}
use Rattle.decimals.specs.Number.{number_of}
use Rattle.read_state.specs.Numbers.{Walk, ended, full, stuck, onto_walk, on_number, numbers_from}
use Rattle.read_vertices.specs.Into.{EndedAfter, FullAfter, NumbersIs}
use Rattle.read_vertices.specs.declared.Numbers.{Numbers}
use Rattle.read_vertices.specs.declared.Numbers.TheVariants.{Ended, Full}
use Rattle.read_bodies.specs.Numbers.{number_before, leading, numbers_at, AllNumbers}
use Rattle.read_bodies.proofs.Steps.{Counting, counting-small}
use Rattle.read_bodies.proofs.Parms.{walk-ended}

-- the walk took zs off the words ws and left r
record Left (ws : List Word) (b : Option ℕ) (q : ℕ) (zs : List ℤ) (r : Rest) : Type 0 where
  numbers : length (leading ws) ≡ length zs + length (leading r.words)
  words : length ws ≡ length zs + length r.words
  bad : r.bad ≡ b
  next : r.next ≡ q

onto-full : (z : ℤ) (x : Walk) {zs : List ℤ} {r : Rest} → onto_walk z x ≡ full zs r → (ys : List ℤ) × ((x ≡ full ys r) × (zs ≡ z ∷ ys))
onto-full z (ended ys k) h = absurd (let z : ◌≡◌ {A = ℕ} 0 1 = cc in omega arith)
onto-full z (full ys p) {zs} {r} h = let a : z ∷ ys ≡ zs = cc in let b : p ≡ r = cc in (ys, (ap (full ys) b, sym a))
onto-full z stuck h = absurd (let z : ◌≡◌ {A = ℕ} 0 1 = cc in omega arith)

walk-full : (n : ℕ) (ws : List Word) (b : Option ℕ) (q : ℕ) {zs : List ℤ} {r : Rest} → numbers_from n ws b q ≡ full zs r → Left ws b q zs r
walk-full zero ws b q {zs} {r} h =
    let a : [] ≡ zs = cc in
    let d : ◌≡◌ {A = Rest} (record { words = ws; bad = b; next = q }) r = cc in
    let l : 0 ≡ length zs = ap length a in
    let x : length (leading ws) ≡ length (leading r.words) = ap (λ (r : Rest). length (leading r.words)) d in
    let y : length ws ≡ length r.words = ap (λ (r : Rest). length r.words) d in
    record { numbers = omega arith; words = omega arith; bad = sym (ap (λ (r : Rest). r.bad) d); next = sym (ap (λ (r : Rest). r.next) d) }
walk-full (suc n) [] none q h = absurd (let z : ◌≡◌ {A = ℕ} 0 1 = cc in omega arith)
walk-full (suc n) [] (some k) q h = absurd (let z : ◌≡◌ {A = ℕ} 0 1 = cc in omega arith)
walk-full (suc n) (w ∷ ws) b q {zs} {r} h = go (number_of w.bytes) refl h (λ ys e. walk-full n ws b q e)
  where
    go :
        (x : Said ℤ) → number_of w.bytes ≡ x → on_number x (numbers_from n ws b q) ≡ full zs r →
        ((ys : List ℤ) → numbers_from n ws b q ≡ full ys r → Left ws b q ys r) → Left (w ∷ ws) b q zs r
    go (wrong m) e k i = absurd (let z : ◌≡◌ {A = ℕ} 0 1 = cc in omega arith)
    go (says z) e k i =
        let o = onto-full z (numbers_from n ws b q) k in
        let j = i o.0 o.1.0 in
        let f : length zs ≡ suc (length o.0) = ap length o.1.1 in
        let y : length (number_before (number_of w.bytes) (leading ws)) ≡ suc (length (leading ws)) = ap (λ (x : Said ℤ). length (number_before x (leading ws))) e in
        let a = j.numbers in
        let d = j.words in
        record { numbers = omega arith; words = omega arith; bad = j.bad; next = j.next }

-- ---- `count_numbers`
module _ (n : ℕ) (s : List ℕ) (i first : ℕ) (l m : List ℤ) {v : Numbers} (g : NumbersIs n s i first l m (Some v)) where
  pub was-ended : {k q : ℕ} → v ≡ Ended k q → EndedAfter n s i first l m k q
  was-ended e = rw e at g

  pub was-full : {e : ℕ} → v ≡ Full e → FullAfter n s i first l m e
  was-full h = rw h at g

module _ (s : List ℕ) (at i count : ℕ) (w : Counting s at i count) {n first : ℕ} {l m : List ℤ} where
  pub counting-full : {e : ℕ} → FullAfter n s i first l m e → (Counting s at e (count + n)) × (length (rest_at s i).words ≡ n + length (rest_at s e).words)
  unfolding numbers_at
  counting-full {e} f =
      let p = walk-full n (rest_at s i).words (rest_at s i).bad (rest_at s i).next f.walked in
      let c = f.counted in
      let x : count + length (leading (rest_at s i).words) ≡ length (leading (rest_at s at).words) = w.numbers in
      let y = w.words in
      let a = p.numbers in
      let d = p.words in
      (record { to = f.to; numbers = omega arith; words = omega arith; bad = p.bad ∙ w.bad; next = p.next ∙ w.next }, omega arith)

  pub counting-ended : {k q : ℕ} → EndedAfter n s i first l m k q → AllNumbers s at (count + k) q
  unfolding numbers_at
  counting-ended {k} {q} f =
      let p = walk-ended n (rest_at s i).words (rest_at s i).bad (rest_at s i).next f.walked in
      let c = f.counted in
      let x : count + length (leading (rest_at s i).words) ≡ length (leading (rest_at s at).words) = w.numbers in
      let y = w.words in
      let a : length (leading (rest_at s i).words) ≡ length f.found = ap length p.numbers in
      let d = p.all in
      let t = counting-small s at i count w in
      let b = (next-to s i w.to).1 in
      let e = p.next in
      record { count = omega arith; all = omega arith; good = sym w.bad ∙ p.good; next = p.next ∙ w.next; to = omega arith; small = omega arith }
