-- A parm line: its direction, then its numbers; and the walk of `state`, which says the same of the numbers.
use Prim.Native.Nat.{ℕ, zero, suc, ◌+◌, ◌≤◌, ◌<◌}
use mathlib.Core.Path.{◌≡◌, refl, sym, ap, subst, ◌∙◌}
use mathlib.Core.List.{List, [], ◌∷◌}
use mathlib.Core.Bool.{Bool, true, false, ◌||◌, not}
use mathlib.Core.Option.{Option, none, some}
use native.Mathlib.Omega.{arith}
use lib.ListN.{length, drop}
use lib.IntN.{ℤ}
use borrow.Author.Tests.{leb-true, leb-false}
use Rattle.lists.proofs.Tests.{never}
use Rattle.std.specs.Prelude.{Option as Answer, Some, None, Result, Ok, Err}
use Rattle.std.specs.Result.{result_ok}
use Rattle.text.specs.declared.Parsed.{Parsed}
use Rattle.text.specs.Words.{Word, word_of}
use Rattle.text.specs.Rest.{Rest, rest_at, word_at, end_of, WordMet, EndMet}
use Rattle.digits.specs.Said.{Said, says, wrong}
use Rattle.decimals.specs.Number.{number_of}
use Rattle.keywords.specs.declared.Argument.{Argument}
use Rattle.keywords.specs.declared.Argument.TheVariants.{Rational, BasisMatrix, Bezier, Bspline, Cardinal, Taylor, DirectionU, DirectionV, Off, Other}
use Rattle.keywords.specs.Arguments.{argument_of}
use Rattle.keywords.specs.Lookup.{argument_at}
use Rattle.statements.specs.declared.Carried.TheVariants.{Parameters}
use Rattle.statements.specs.Rules.{rules_of, counted_by}
use Rattle.model.specs.Model.{ParmDirection, along-v}
use Rattle.model.specs.Parse.{direction_of}
use Rattle.model.specs.Standing.{is_v}
use Rattle.read_state.specs.Numbers.{Walk, ended, full, stuck, onto_walk, on_number, numbers_from}
use Rattle.read_state.specs.State.{ParmAt}
use Rattle.read_bodies.specs.Numbers.{number_before, leading, numbers_at, AllNumbers, NotAll, CountedIs}
use Rattle.read_bodies.specs.Parm.{way_of, RowTaken, ParmRowIs, ParmLine, parm_direction, ParmTaken, ParmIs}
use Rattle.read_bodies.specs.declared.parm.Parm.{Parm}

clash : {A : Type 0} {n : ℕ} → suc n ≡ 0 → A
clash h = absurd (omega arith)

-- ---- the walk of a line's numbers
-- of words that are all numbers it gives them, where it may take more than there are
pub walk-all : (n : ℕ) (ws : List Word) (q : ℕ) → length ws < n → length (leading ws) ≡ length ws → numbers_from n ws none q ≡ ended (leading ws) q
walk-all zero ws q h e = absurd (omega arith)
walk-all (suc n) [] q h e = refl
walk-all (suc n) (w ∷ ws) q h e = go (number_of w.bytes) e (walk-all n ws q (omega arith))
  where
    go :
        (x : Said ℤ) → length (number_before x (leading ws)) ≡ suc (length ws) → (length (leading ws) ≡ length ws → numbers_from n ws none q ≡ ended (leading ws) q) →
        on_number x (numbers_from n ws none q) ≡ ended (number_before x (leading ws)) q
    go (says z) k i = ap (onto_walk z) (i (omega arith))
    go (wrong m) k i = clash (sym k)

-- what it gives are all the words
pub record Walked (ws : List Word) (b : Option ℕ) (q : ℕ) (zs : List ℤ) (p : ℕ) : Type 0 where
  pub numbers : leading ws ≡ zs
  pub all : length zs ≡ length ws
  pub good : b ≡ none
  pub next : p ≡ q

no_walk : {A : Type 0} {zs : List ℤ} {p : ℕ} → stuck ≡ ended zs p → A
no_walk h = absurd (let z : ◌≡◌ {A = ℕ} 0 1 = cc in omega arith)

onto-ended : (z : ℤ) (x : Walk) {zs : List ℤ} {p : ℕ} → onto_walk z x ≡ ended zs p → (ys : List ℤ) × ((x ≡ ended ys p) × (zs ≡ z ∷ ys))
onto-ended z (ended ys k) {zs} {p} h = let a : z ∷ ys ≡ zs = cc in let b : k ≡ p = cc in (ys, (ap (ended ys) b, sym a))
onto-ended z (full ys r) {zs} {p} h = absurd (let z : ◌≡◌ {A = ℕ} 0 1 = cc in omega arith)
onto-ended z stuck h = no_walk h

pub walk-ended : (n : ℕ) (ws : List Word) (b : Option ℕ) (q : ℕ) {zs : List ℤ} {p : ℕ} → numbers_from n ws b q ≡ ended zs p → Walked ws b q zs p
walk-ended zero ws b q {zs} {p} h = absurd (let z : ◌≡◌ {A = ℕ} 0 1 = cc in omega arith)
walk-ended (suc n) [] none q {zs} {p} h = let a : [] ≡ zs = cc in let d : q ≡ p = cc in record { numbers = a; all = ap length (sym a); good = refl; next = sym d }
walk-ended (suc n) [] (some k) q h = no_walk h
walk-ended (suc n) (w ∷ ws) b q {zs} {p} h = go (number_of w.bytes) refl h (λ ys e. walk-ended n ws b q e)
  where
    go :
        (x : Said ℤ) → number_of w.bytes ≡ x → on_number x (numbers_from n ws b q) ≡ ended zs p →
        ((ys : List ℤ) → numbers_from n ws b q ≡ ended ys p → Walked ws b q ys p) → Walked (w ∷ ws) b q zs p
    go (wrong m) e k i = no_walk k
    go (says z) e k i =
        let o = onto-ended z (numbers_from n ws b q) k in
        let j = i o.0 o.1.0 in
        let f = o.1.1 in
        record {
          numbers = ap (λ (x : Said ℤ). number_before x (leading ws)) e ∙ ap (λ (l : List ℤ). z ∷ l) j.numbers ∙ sym f;
          all = ap length f ∙ ap suc j.all;
          good = j.good;
          next = j.next;
        }

pub kept_at : (s : List ℕ) (at : ℕ) {n q : ℕ} → AllNumbers s at n q → 0 < n → 0 < at → at ≤ length s → ParmAt s at (numbers_at s at)
unfolding numbers_at
kept_at s at {n} {q} a h k l =
    let c = a.count in
    let w = a.all in
    let m = a.small in
    record {
      within = l;
      none-there = λ e. absurd (omega arith);
      some-there =
          λ z. (omega arith, ap (λ (b : Option ℕ). numbers_from (suc (length s)) (rest_at s at).words b (rest_at s at).next) a.good ∙ walk-all (suc (length s)) (rest_at s at).words (rest_at s at).next (omega arith) (omega arith));
    }

-- the numbers at a parm's place
pub kept-is : (s : List ℕ) (at : ℕ) (zs : List ℤ) → ParmAt s at zs → 0 < at → numbers_at s at ≡ zs
unfolding numbers_at
kept-is s at zs k h = (walk-ended (suc (length s)) (rest_at s at).words (rest_at s at).bad (rest_at s at).next (k.some-there h).1).numbers

-- ---- `take_row`
module _ (s : List ℕ) (at : ℕ) (v : Bool) where
  pub row-taken : {n q : ℕ} → AllNumbers s at n q → true ≡ counted_by (rules_of Parameters).count (n + 1) → ParmRowIs s at v (Some (record { value = record { along_v = v; numbers_at = at }; next = q }))
  row-taken {n} {q} a h =
      let c = a.count in
      let d = leb-true 3 (n + 1) (sym h) in
      record { along = refl; here = refl; two = omega arith; all = subst (λ (k : ℕ). AllNumbers s at k q) c a }

  pub row-few : {n q : ℕ} → AllNumbers s at n q → false ≡ counted_by (rules_of Parameters).count (n + 1) → ParmRowIs s at v None
  row-few {n} a h = λ b e. let c = a.count in let d = leb-false 3 (n + 1) (sym h) in omega arith

  pub row-stopped : {n : ℕ} → NotAll s at n → ParmRowIs s at v None
  row-stopped a = λ b e. let c = a.count in let f = a.fewer b in absurd (omega arith)

-- what `count_numbers` found, by what was kept of it
pub all-counted : (s : List ℕ) (at : ℕ) (r : Result (Parsed ℕ) ℕ) {v : Parsed ℕ} → CountedIs s at r → Some v ≡ result_ok r → AllNumbers s at v.value v.next
all-counted s at (Ok p) {v} a h = subst (λ (w : Parsed ℕ). AllNumbers s at w.value w.next) (let k : p ≡ v = cc in k) a
all-counted s at (Err n) a h = absurd (let z : ◌≡◌ {A = ℕ} 0 1 = cc in omega arith)

pub not-counted : (s : List ℕ) (at : ℕ) (v : Bool) (r : Result (Parsed ℕ) ℕ) → CountedIs s at r → None ≡ result_ok r → ParmRowIs s at v None
not-counted s at v (Ok p) a h = absurd (let z : ◌≡◌ {A = ℕ} 0 1 = cc in omega arith)
not-counted s at v (Err n) a h = row-stopped s at v a

-- ---- the direction
direction : (a : Argument) (v : Bool) → way_of a ≡ Some v → direction_of a ≡ some (parm_direction v)
direction DirectionU false h = refl
direction DirectionV true h = refl
direction DirectionU true h = absurd (let z : ◌≡◌ {A = ℕ} 0 1 = cc in omega arith)
direction DirectionV false h = absurd (let z : ◌≡◌ {A = ℕ} 0 1 = cc in omega arith)
direction Rational v h = absurd (let z : ◌≡◌ {A = ℕ} 0 1 = cc in omega arith)
direction BasisMatrix v h = absurd (let z : ◌≡◌ {A = ℕ} 0 1 = cc in omega arith)
direction Bezier v h = absurd (let z : ◌≡◌ {A = ℕ} 0 1 = cc in omega arith)
direction Bspline v h = absurd (let z : ◌≡◌ {A = ℕ} 0 1 = cc in omega arith)
direction Cardinal v h = absurd (let z : ◌≡◌ {A = ℕ} 0 1 = cc in omega arith)
direction Taylor v h = absurd (let z : ◌≡◌ {A = ℕ} 0 1 = cc in omega arith)
direction Off v h = absurd (let z : ◌≡◌ {A = ℕ} 0 1 = cc in omega arith)
direction Other v h = absurd (let z : ◌≡◌ {A = ℕ} 0 1 = cc in omega arith)

undirected : (a : Argument) → way_of a ≡ None → direction_of a ≡ none
undirected DirectionU h = absurd (let z : ◌≡◌ {A = ℕ} 0 1 = cc in omega arith)
undirected DirectionV h = absurd (let z : ◌≡◌ {A = ℕ} 0 1 = cc in omega arith)
undirected Rational h = refl
undirected BasisMatrix h = refl
undirected Bezier h = refl
undirected Bspline h = refl
undirected Cardinal h = refl
undirected Taylor h = refl
undirected Off h = refl
undirected Other h = refl

module _ (s : List ℕ) (p : ℕ) {a : Argument} (f : a ≡ argument_at s p) where
  pub says_none : None ≡ way_of a → direction_of (argument_of (word_of (drop p s))) ≡ none
  unfolding argument_at
  says_none h = sym (ap direction_of f) ∙ undirected a (sym h)

  pub directed : {v : Bool} → Some v ≡ way_of a → direction_of (argument_of (word_of (drop p s))) ≡ some (parm_direction v)
  unfolding argument_at
  directed {v} h = sym (ap direction_of f) ∙ direction a v (sym h)

-- v is a surface's
pub belongs : (v surface : Bool) → (v ≡ true → surface ≡ true) → (surface || not (is_v (some (parm_direction v)))) ≡ true
belongs true true h = refl
belongs true false h = never (h refl)
belongs false true h = refl
belongs false false h = refl

-- ---- `take_parm`
pub no_words : (surface : Bool) (s : List ℕ) (at : ℕ) → (rest_at s at).words ≡ [] → ParmIs surface s at None
no_words surface s at h = λ d zs l. let e : ◌≡◌ {A = ℕ} 0 (suc (length l.others)) = ap length (sym h ∙ l.words) in absurd (omega arith)

pub end-words : (s : List ℕ) (at : ℕ) {q : ℕ} → EndMet s at q → (rest_at s at).words ≡ []
end-words s at m = ap (λ (r : Rest). r.words) m.rest

module _ (surface : Bool) (s : List ℕ) (at p : ℕ) (m : WordMet s at p) where
  here : (rest_at s at).words ≡ word_at s p ∷ (rest_at s (end_of s p)).words
  here = ap (λ (r : Rest). r.words) m.rest

  module _ (v : Bool) (says : direction_of (argument_of (word_of (drop p s))) ≡ some (parm_direction v)) (b : (surface || not (is_v (some (parm_direction v)))) ≡ true) where
    at_once : {q : ℕ} → RowTaken s (end_of s p) v v (end_of s p) q → ParmTaken surface s at v (end_of s p) q
    unfolding numbers_at
    at_once {q} r =
        let x = m.more in
        let y = r.two in
        let c = r.all.all in
        record {
          line =
              record {
                first = word_at s p;
                others = (rest_at s (end_of s p)).words;
                words = here;
                direction = says;
                belongs = b;
                numbers = refl;
                all = c;
                two = r.two;
                good = ap (λ (r : Rest). r.bad) m.rest ∙ r.all.good;
              };
          from = omega arith;
          kept = kept_at s (end_of s p) r.all (omega arith) (omega arith) m.to;
          next = r.all.next ∙ sym (ap (λ (r : Rest). r.next) m.rest);
          to = r.all.to;
        }

    pub parm-taken : {e n q : ℕ} {w : Bool} → e ≡ end_of s p → RowTaken s e w v n q → ParmTaken surface s at w n q
    parm-taken {e} {n} {q} {w} d r =
        let r₁ : RowTaken s (end_of s p) w v n q = subst (λ (e : ℕ). RowTaken s e w v n q) d r in
        let r₂ : RowTaken s (end_of s p) v v n q = subst (λ (w : Bool). RowTaken s (end_of s p) w v n q) r₁.along r₁ in
        let r₃ : RowTaken s (end_of s p) v v (end_of s p) q = subst (λ (n : ℕ). RowTaken s (end_of s p) v v n q) r₁.here r₂ in
        subst (λ (w : Bool). ParmTaken surface s at w n q) (sym r₁.along) (subst (λ (n : ℕ). ParmTaken surface s at v n q) (sym r₁.here) (at_once r₃))

  -- what a parm line says at this word
  first-is : {d : ParmDirection} {zs : List ℤ} (l : ParmLine surface (rest_at s at) d zs) → direction_of (argument_of (word_of (drop p s))) ≡ some d
  first-is {d} l =
      let e : word_at s p ∷ (rest_at s (end_of s p)).words ≡ l.first ∷ l.others = sym here ∙ l.words in
      let f : word_at s p ≡ l.first = cc in
      ap (λ (w : Word). direction_of (argument_of w.bytes)) f ∙ l.direction

  others-are : {d : ParmDirection} {zs : List ℤ} (l : ParmLine surface (rest_at s at) d zs) → (rest_at s (end_of s p)).words ≡ l.others
  others-are l = let e : word_at s p ∷ (rest_at s (end_of s p)).words ≡ l.first ∷ l.others = sym here ∙ l.words in cc

  pub no-direction : direction_of (argument_of (word_of (drop p s))) ≡ none → ParmIs surface s at None
  no-direction h = λ d zs l. let e : none ≡ some d = sym h ∙ first-is l in let z : ◌≡◌ {A = ℕ} 0 1 = cc in absurd (omega arith)

  pub not-here : {v : Bool} → direction_of (argument_of (word_of (drop p s))) ≡ some (parm_direction v) → v ≡ true → surface ≡ false → ParmIs surface s at None
  not-here h k f = λ d zs l.
      let e : along-v ≡ d = (let x : some along-v ≡ some d = sym (h ∙ ap (λ (b : Bool). some (parm_direction b)) k) ∙ first-is l in cc) in
      never (sym (ap (λ (b : Bool). b || false) f) ∙ subst (λ (d : ParmDirection). (surface || not (is_v (some d))) ≡ true) (sym e) l.belongs)

  pub no_row : {e : ℕ} (v : Bool) → e ≡ end_of s p → ParmRowIs s e v None → ParmIs surface s at None
  unfolding numbers_at
  no_row {e} v d r = λ k zs l.
      let r₁ = subst (λ (e : ℕ). ParmRowIs s e v None) d r in
      let o = others-are l in
      let n : leading (rest_at s (end_of s p)).words ≡ zs = ap leading o ∙ l.numbers in
      let a = l.all in
      let b = ap length o in
      let c = ap length n in
      let t = l.two in
      let f = r₁ (sym (ap (λ (r : Rest). r.bad) m.rest) ∙ l.good) (omega arith) in
      omega arith

-- a row's answer, by its case
module _ (surface : Bool) (s : List ℕ) (at p : ℕ) (m : WordMet s at p) (v : Bool) (says : direction_of (argument_of (word_of (drop p s))) ≡ some (parm_direction v)) (b : (surface || not (is_v (some (parm_direction v)))) ≡ true) where
  pub parm-row : (e : ℕ) → e ≡ end_of s p → (r : Answer (Parsed Parm)) → ParmRowIs s e v r → ParmIs surface s at r
  parm-row e d (Some w) r = parm-taken surface s at p m v says b d r
  parm-row e d None r = no_row surface s at p m v d r
