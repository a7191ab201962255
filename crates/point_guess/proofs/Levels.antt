-- Rows by their indices: a loop makes a row place by place, and a level leaves what the row comes to as it was.
use mathlib.Core.Path.{◌≡◌, sym, ap, ◌∙◌, subst, subst₂}
use mathlib.Core.List.{List}
use Prim.Native.Nat.{ℕ, suc, ◌+◌, ◌-◌, ◌≤◌, ◌<◌}
use native.Mathlib.Nat.{not-suc-le-zero}
use native.Mathlib.Decide.{dec_le}
use native.Mathlib.Omega.{arith}
use lib.ListN.{length, set, length-set}
use lib.Seq.{get_or-set_same, get_or-set_other}
use lib.IntN.{ℤ}
use lib.Ieee.{nan}
use Rattle.point_exact.specs.Directions.{Direction}
use Rattle.point_exact.specs.Sampled.{pyramid, offset_at, gap_at}
use Rattle.point_exact.proofs.Pyramid.{pyramid-row}
use Rattle.point_guess.specs.Steps.{Axis, Parted, Next, Stepped}
use Rattle.point_guess.specs.Rows.{place_at, axis_number, Encoded}
use Rattle.point_guess.specs.declared.Interval.{Interval}
use Rattle.point_guess.specs.declared.Place.{Place}
use Rattle.point_guess.proofs.Weights.{part_of, gap_from}

abbrev nought : Place
nought = record { x = nan; y = nan; z = nan }

-- the first i places of a row have a property
pub record Made (P : ℕ → Place → Type 0) (row : List Place) (i : ℕ) : Type 0 where
  pub each : (j : ℕ) → j < i → P j (place_at row j)

pub made_none : {P : ℕ → Place → Type 0} {row : List Place} → Made P row 0
made_none = record { each = λ j h. absurd (not-suc-le-zero h) }

pub made_more : {P : ℕ → Place → Type 0} {row : List Place} {i : ℕ} (p : Place) → Made P row i → i < length row → P i p → Made P (set row i p) (i + 1)
made_more {P} {row} {i} p m h new = record { each = λ j l. pick j (dec_le (suc j) i) l }
  where
    same_place : (j : ℕ) → (suc j ≤ i → ⊥) → j < i + 1 → i ≡ j
    same_place j f l = omega arith

    pick : (j : ℕ) → Dec (suc j ≤ i) → j < i + 1 → P j (place_at (set row i p) j)
    pick j (yes l) k = subst (P j) (sym (get_or-set_other row i j p nought (λ q. omega arith))) (m.each j l)
    pick j (no f) k = subst (λ (q : ℕ). P q (place_at (set row i p) q)) (same_place j f k) (subst (P i) (sym (get_or-set_same row i p nought h)) new)

-- a row as it was from place i on
pub record Left (old new : List Place) (i : ℕ) : Type 0 where
  pub long : length new ≡ length old
  pub rest : (j : ℕ) → i ≤ j → place_at new j ≡ place_at old j

pub left_less : {old new : List Place} {i : ℕ} (p : Place) → Left old new i → Left old (set new i p) (i + 1)
left_less {old} {new} {i} p l = record {
  long = length-set new i p ∙ l.long;
  rest = λ j h. get_or-set_other new i j p nought (λ q. omega arith) ∙ l.rest j (omega arith);
}

-- ---- a level
abbrev pub Level : (p g : ℕ → ℕ) (old new : List Place) (i : ℕ) → Type 0
Level p g old new i = Made (λ j c. Next (p j) (g j) (place_at old j) (place_at old (suc j)) c) new i

-- the place that a step makes is the next row's
pub next_place : {d : Direction} {t : ℤ} {r j : ℕ} {g : Interval} {a b a' b' c : Place} → Parted d t r j g → a ≡ a' → b ≡ b' → Stepped a b g t c → Next (offset_at d t r j) (gap_at d t r j) a' b' c
next_place p e f m = rw (← e, ← f, ← part_of p, ← gap_from p) m

-- neighbours by another name
pub next_of : {p D : ℕ} {a b a' b' c : Place} → a ≡ a' → b ≡ b' → Next p D a b c → Next p D a' b' c
next_of {p} {D} {c = c} e f m = subst₂ (λ (x y : Place). Next p D x y c) e f m

module _ (p g : ℕ → ℕ → ℕ) (old : List Place) {new : List Place} {last : ℕ} (l : Level (p (last - 1)) (g (last - 1)) old new last) where
  pub level-encoded : last ≤ length new → Encoded new last
  level-encoded h = record { most = h; each = λ j i k. (l.each j i k).whole }

  pub level-row : 0 < last → (k : Axis) → pyramid p g (last - 1) (axis_number new k) ≡ pyramid p g last (axis_number old k)
  level-row h k =
      let n : last ≡ suc (last - 1) = omega arith in
      pyramid-row p g (last - 1) (axis_number old k) (axis_number new k) (λ j i. (l.each j (omega arith) k).is) ∙ ap (λ (q : ℕ). pyramid p g q (axis_number old k)) (sym n)

pub pyramid-one : (p g : ℕ → ℕ → ℕ) (n : ℕ) (c : ℕ → ℤ) → n ≡ 0 → pyramid p g n c ≡ c 0
unfolding pyramid
pyramid-one p g n c e = rw e
