-- The answers of asking, by the tests that lead to each: over plain numbers and lists.
use Prim.Native.Nat.{ℕ, ◌+◌, ◌*◌, ◌-◌, ◌^◌, ◌≤◌, ◌<◌}
use mathlib.Core.Path.{◌≡◌, refl, sym, subst⁻¹, ◌∙◌}
use mathlib.Core.List.{List, []}
use mathlib.Core.Bool.{Bool, true}
use native.Mathlib.Nat.{lt_of_le_of_lt, mul-le-mul_left, mul-lt-mul_of_pos_right, le_of_lt}
use native.Mathlib.Omega.{arith}
use borrow.Author.Tests.{lt-ltb, le-leb, lt-leb}
use lib.Dec.{leb}
use lib.ListN.{length, get_or, take, drop, get_or-eq_default}
use lib.IntN.{ℤ}
use lib.Pow.{pow_pos, pow-add}
use Rattle.tables.specs.Records.{body_in, corner_place, corner_in}
use Rattle.tables.specs.Asking.{held, body_held, asked_body, corner_with, no_corner, part_of}
use Rattle.tables.specs.declared.Used.{Used}
use Rattle.tables.specs.declared.CornerRun.{CornerRun}
use Rattle.tables.specs.declared.NameRun.{NameRun}
use Rattle.tables.specs.declared.Element.{Element}
use Rattle.tables.specs.declared.Body.{Body}

-- the whole product of two 32-bit numbers
pub product : {a b : ℕ} → a < 2 ^ 32 → b < 2 ^ 32 → a * b < 2 ^ 64
product {a} {b} h k =
    subst⁻¹ (λ (n : ℕ). a * b < n) (pow-add 2 32 32) (lt_of_le_of_lt (mul-le-mul_left a (le_of_lt k)) (mul-lt-mul_of_pos_right h (pow_pos 32)))

module _ (used : Used) (bodies : List ℕ) (ranges : List ℤ) (number : ℕ) where
  pub body-held : {e : Body} {b : Bool} → b ≡ body_held used bodies ranges number → b ≡ true → e ≡ body_in bodies ranges (number - 1) → e ≡ asked_body used bodies ranges number
  unfolding asked_body
  body-held h t p = p ∙ rw (sym h ∙ t) refl

-- no corner begins past as many entries
pub corner-past : (corners : List ℕ) (run : CornerRun) (k : ℕ) → length corners ≤ k → no_corner ≡ corner_in corners (corner_place run k)
corner-past corners run k h =
    let v : get_or corners (corner_place run k) 0 ≡ 0 = get_or-eq_default corners 0 (omega arith) in
    let vt : get_or corners (corner_place run k + 1) 0 ≡ 0 = get_or-eq_default corners 0 (omega arith) in
    let vn : get_or corners (corner_place run k + 2) 0 ≡ 0 = get_or-eq_default corners 0 (omega arith) in
    rw (v, vt, vn) refl

module _ (used : Used) (corners : List ℕ) (e : Element) (k : ℕ) where
  abbrev at : ℕ
  at = corner_place e.corners k

  pub corner-there : k < e.corners.count → at + 3 ≤ used.corners → at + 3 ≤ length corners → corner_in corners at ≡ corner_with used corners e k
  unfolding corner_with
  corner-there h u l = rw (lt-ltb k e.corners.count h, le-leb (at + 3) used.corners u, le-leb (at + 3) (length corners) l) refl

module _ (text : List ℕ) (run : NameRun) where
  pub part-there : run.place + run.length ≤ length text → take (run.place + run.length - run.place) (drop run.place text) ≡ part_of text run
  unfolding part_of
  part-there h =
      let e : run.place + run.length - run.place ≡ run.length = omega arith in
      rw (le-leb (run.place + run.length) (length text) h, e) refl

  pub part-past : length text < run.place + run.length → [] ≡ part_of text run
  unfolding part_of
  part-past h = rw (lt-leb (run.place + run.length) (length text) h) refl
