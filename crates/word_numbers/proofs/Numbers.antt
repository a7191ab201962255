-- The ways out of `fraction`, `measure` and `number_at`: each is a case of where the digits of the word at a place stop.
use Prim.Native.Nat.{ℕ, ◌+◌, ◌-◌, ◌*◌, ◌^◌, ◌≤◌, ◌<◌}
use mathlib.Core.Path.{◌≡◌, refl, sym, ap, ap₂, ◌∙◌}
use mathlib.Core.List.{List, ◌∷◌, ◌++◌}
use mathlib.Core.Bool.{Bool, true, false, cond}
use lib.ListN.{length, take, drop, length-append, length-take}
use lib.Seq.{drop-drop}
use lib.IntN.{ℤ}
use lib.Dec.{eqb}
use native.Mathlib.Omega.{arith}
use Rattle.text.specs.Words.{word_of}
use Rattle.text.specs.Rest.{end_of}
use Rattle.digits.specs.Said.{Said, says, wrong}
use Rattle.digits.specs.Answers.{ends_at}
use Rattle.digits.specs.Digits.{nat_of}
use Rattle.decimals.specs.Number.{is_sign, unsigned, number_of}
use Rattle.decimals.specs.Straight.{pointed, magnitude_of, size_of, settle_of}
use Rattle.digits.specs.Straight.{first, is_empty, run, past, WholeRead, UptoRead}
use Rattle.digits.proofs.Rows.{run-rest, scaled_small}
use Rattle.digits.proofs.Fronts.{past-at, next-at, byte-in, word-all, word-run, past_word}
use Rattle.decimals.proofs.Signed as sign
use Rattle.word_numbers.proofs.Decimals.{point_at, bare-at, other_at, none-at, pointed-not, pointed-none, pointed-of, number-long, number-bad, number-of}
use Rattle.digits.proofs.Saids.{says-ends, unsaid, ended-says, ended-wrong}

-- ---- fraction
module _ (s : List ℕ) (at count whole last value end : ℕ) (f : UptoRead 7 s at whole last value) (g : end ≡ last + length (run (drop last s))) where
  -- all the digits, the first seven and the rest
  stop : end ≡ at + length (run (drop at s))
  stop =
      let l : List ℕ = drop at s in
      let r : drop last s ≡ drop (length (take 7 (run l))) l = ap (λ (n : ℕ). drop n s) f.end_is ∙ sym (drop-drop (length (take 7 (run l))) at s) in
      let q : end ≡ last + length (run (drop (length (take 7 (run l))) l)) = g ∙ ap (λ (x : List ℕ). last + length (run x)) r in
      let z = run-rest 7 l in
      let y = f.end_is in
      omega arith

  pub fraction-fits : whole ≤ 20000000005 → (k : ℕ) → k ≡ 10 ^ (7 - (last - at)) → value * k < 2 ^ 60
  fraction-fits w k e =
      let y = f.end_is in
      let n : last - at ≡ length (take 7 (run (drop at s))) = omega arith in
      let z : value * k ≡ nat_of whole (take 7 (run (drop at s))) * 10 ^ (7 - length (take 7 (run (drop at s)))) =
      ap₂ (λ (a b : ℕ). a * b) f.value-is (e ∙ ap (λ (m : ℕ). 10 ^ (7 - m)) n) in
      let x = scaled_small whole (drop at s) w in
      omega arith

  pub fraction-none : count + (end - at) ≡ 0 → wrong 6 ≡ ends_at (pointed count whole (word_of (drop at s))) (end_of s at)
  fraction-none z = unsaid _ 6 (end_of s at) (pointed-none count whole (drop at s) (let q = stop in omega arith))

  pub fraction-not : false ≡ is_empty (word_of (drop end s)) → wrong 6 ≡ ends_at (pointed count whole (word_of (drop at s))) (end_of s at)
  fraction-not o =
      unsaid _ 6 (end_of s at)
      (pointed-not count whole (drop at s) (sym (o ∙ ap (λ (l : List ℕ). is_empty (word_of l)) (past-at s at end stop))))

  pub fraction-of : (count + (end - at) ≡ 0 → ⊥) → true ≡ is_empty (word_of (drop end s)) → (k : ℕ) → k ≡ 10 ^ (7 - (last - at))
      → says (value * k, end) ≡ ends_at (pointed count whole (word_of (drop at s))) (end_of s at)
  fraction-of n o k e =
      let l : List ℕ = drop at s in
      let q = stop in
      let y = f.end_is in
      let x = length-take 7 (run l) in
      let p : is_empty (word_of (past l)) ≡ true = sym (o ∙ ap (λ (l : List ℕ). is_empty (word_of l)) (past-at s at end stop)) in
      let m : 7 - (last - at) ≡ 7 - length (run l) = omega arith in
      let b : 1 ≤ count + length (run l) = omega arith in
      says-ends _ (value * k) (end_of s at) end
      (pointed-of count whole l p b
      ∙ ap says (sym (ap₂ (λ (a b : ℕ). a * b) f.value-is (e ∙ ap (λ (m : ℕ). 10 ^ m) m))))
      (q ∙ ap (λ (w : List ℕ). at + length w) (sym (word-all l p)))

-- ---- measure
module _ (s : List ℕ) (at end value : ℕ) (w : WholeRead s at end value) where
  here : drop end s ≡ past (drop at s)
  here = past-at s at end w.end_is

  overs : (b : Bool) → b ≡ is_empty (word_of (drop end s)) → is_empty (word_of (past (drop at s))) ≡ b
  overs b o = sym (o ∙ ap (λ (l : List ℕ). is_empty (word_of l)) here)

  pub measure-in : (b : ℕ) → b ≡ first (drop end s) → b ≡ 46 → end < length s
  measure-in b e p = byte-in s end (ap (λ (n : ℕ). eqb n 10) (sym e ∙ p))

  pub measure-point : (b : ℕ) → b ≡ first (drop end s) → b ≡ 46 → (r : Said (ℕ × ℕ))
      → r ≡ ends_at (pointed (end - at) value (word_of (drop (end + 1) s))) (end_of s (end + 1)) → r ≡ ends_at (magnitude_of (word_of (drop at s))) (end_of s at)
  measure-point b e p r h =
      let l : List ℕ = drop at s in
      let y = w.end_is in
      let f : first (past l) ≡ 46 = ap first (sym here) ∙ sym e ∙ p in
      let n : drop (end + 1) s ≡ drop 1 (past l) = next-at s end ∙ ap (λ (x : List ℕ). drop 1 x) here in
      let z = word-run l ∙ ap (λ (x : List ℕ). run l ++ x) (past_word l 46 f refl refl) in
      let k : length (word_of l) ≡ length (run l) + (1 + length (word_of (drop 1 (past l)))) =
      ap length z ∙ length-append (run l) (46 ∷ word_of (drop 1 (past l))) ∙ (omega arith) in
      let q : end - at ≡ length (run l) = omega arith in
      let x : length (word_of (drop (end + 1) s)) ≡ length (word_of (drop 1 (past l))) = ap (λ (x : List ℕ). length (word_of x)) n in
      let v : end_of s (end + 1) ≡ end_of s at = omega arith in
      h
      ∙ ap₂ ends_at
      (ap (λ (x : List ℕ). pointed (end - at) value (word_of x)) n ∙ ap₂ (λ (x y : ℕ). pointed x y (word_of (drop 1 (past l)))) q w.value-is ∙ sym (point_at l f))
      v

  module _ (b : ℕ) (e : b ≡ first (drop end s)) (p : b ≡ 46 → ⊥) where
    other : first (past (drop at s)) ≡ 46 → ⊥
    other h = p (e ∙ ap first here ∙ h)

    pub measure-none : end ≡ at → wrong 6 ≡ ends_at (magnitude_of (word_of (drop at s))) (end_of s at)
    measure-none z = unsaid _ 6 (end_of s at) (none-at (drop at s) other (let y = w.end_is in omega arith))

    pub measure-not : false ≡ is_empty (word_of (drop end s)) → wrong 6 ≡ ends_at (magnitude_of (word_of (drop at s))) (end_of s at)
    measure-not o = unsaid _ 6 (end_of s at) (other_at (drop at s) other (overs false o))

    pub measure-of : (end ≡ at → ⊥) → true ≡ is_empty (word_of (drop end s)) → says (value * 10000000, end) ≡ ends_at (magnitude_of (word_of (drop at s))) (end_of s at)
    measure-of n o =
        let l : List ℕ = drop at s in
        let y = w.end_is in
        let k : 1 ≤ length (run l) = omega arith in
        says-ends _ (value * 10000000) (end_of s at) end
        (bare-at l (overs true o) k ∙ ap (λ (x : ℕ). says (x * 10000000)) (sym w.value-is))
        (y ∙ ap (λ (x : List ℕ). at + length x) (sym (word-all l (overs true o))))

-- ---- number_at
module _ (s : List ℕ) (at b n : ℕ) (h : at ≤ length s) (e : b ≡ first (drop at s)) (k : n ≡ cond (is_sign b) 1 0) where
  signs : sign.Signed (drop at s) n
  signs = sign.signs s at b n h e k

  unsigned_is : word_of (drop (at + n) s) ≡ unsigned (word_of (drop at s))
  unsigned_is = sign.unsigned_is s at b n h e k

  ends : end_of s (at + n) ≡ end_of s at
  ends = sign.ends s at b n h e k

  pub number-not : (r : ℕ) → wrong r ≡ ends_at (size_of (word_of (drop (at + n) s))) (end_of s (at + n)) → wrong r ≡ ends_at (number_of (word_of (drop at s))) (end_of s at)
  number-not r m =
      unsaid _ r (end_of s at) (number-bad (word_of (drop at s)) r (ap size_of (sym unsigned_is) ∙ ended-wrong _ r (end_of s (at + n)) m))

  module _ (v end : ℕ) (m : says (v, end) ≡ ends_at (size_of (word_of (drop (at + n) s))) (end_of s (at + n))) where
    end_is : end ≡ end_of s at
    end_is = (ended-says (size_of (word_of (drop (at + n) s))) v (end_of s (at + n)) end m).1 ∙ ends

    pub number-from : at ≤ end
    number-from = let z = end_is in omega arith

    pub number-over : 64 < end - at → wrong 6 ≡ ends_at (number_of (word_of (drop at s))) (end_of s at)
    number-over l = unsaid _ 6 (end_of s at) (number-long (word_of (drop at s)) (let z = end_is in omega arith))

    pub number_read : end - at ≤ 64 → (r : Said (ℤ × ℕ)) → r ≡ ends_at (settle_of (eqb b 45) v) end → r ≡ ends_at (number_of (word_of (drop at s))) (end_of s at)
    number_read l r q =
        let z = end_is in
        let w : List ℕ = word_of (drop at s) in
        let x = (ended-says (size_of (word_of (drop (at + n) s))) v (end_of s (at + n)) end m).0 in
        let y = number-of w v (ap size_of (sym unsigned_is) ∙ x) (omega arith) in
        q
        ∙ ap₂ ends_at
        (ap (λ (t : Bool). settle_of t v) (ap (λ (x : ℕ). eqb x 45) e ∙ sym signs.negative-is) ∙ sym y)
        end_is
