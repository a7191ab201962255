-- The list of new numbers: what stands in it for each record of each kind, and behind them.
use Prim.Native.Nat.{ℕ, zero, suc, ◌+◌, ◌*◌, ◌-◌, ◌≤◌, ◌<◌}
use mathlib.Core.Path.{◌≡◌, refl, sym, ap, ◌∙◌}
use mathlib.Core.Bool.{Bool, true}
use mathlib.Core.List.{List, [], ◌∷◌, ◌++◌}
use native.Mathlib.Omega.{arith}
use lib.ListN.{length, get_or, drop, length-append, length-drop, get_or-append}
use lib.Seq.{get_or-append-add, get_or-drop}
use Rattle.tables.specs.Tables.{Tables}
use Rattle.tables.specs.declared.Used.{Used}
use Rattle.model.specs.Model.{VertexKind, geometric, texture, normal, parametric}
use Rattle.table_rules.specs.Whole.{whole_obeys}
use Rattle.sweep_marks.specs.Counting.{kept_upto, flat_below, new_number, new_numbers}
use Rattle.sweep.specs.Named.{used_of_kind, named}
use Rattle.sweep.specs.Swept.{swept_numbers, numbers_needed, swept_used, swept_tables, swept_answer}
use Rattle.swept_files.specs.Promises.{row_numbered, reference_in, listed_from, number_after, Renumbered, RestKept}
use Rattle.swept_files.proofs.Counting.{kept-named, kept_more, kept-order, new-zero, new-named}
use Rattle.sweep_marks.proofs.FlatBelow.{flat_below-length}
use Rattle.swept_files.proofs.FlatBelow.{flat_below-at}
use Rattle.swept_files.proofs.OneKind.{used-in, new-moved}
use Rattle.swept_files.proofs.Standing.{Standing, standing, reference-in}

-- ---- the numbers of one kind
module _ (f : ℕ → Bool) (n : ℕ) where
  pub numbers-length : length (new_numbers f n) ≡ n
  unfolding new_numbers
  numbers-length = flat_below-length (λ i. new_number f (suc i) ∷ []) 1 n (λ i l. refl) ∙ (let e : 1 * n ≡ n = omega arith in e)

  numbers-at : (i : ℕ) → i < n → get_or (new_numbers f n) i 0 ≡ new_number f (suc i)
  unfolding new_numbers
  numbers-at i h =
      let l = flat_below-length (λ i. new_number f (suc i) ∷ []) 1 i (λ j m. refl) in
      let e : i ≡ length (flat_below i (λ i. new_number f (suc i) ∷ [])) + 0 = omega arith in
      ap (λ (k : ℕ). get_or (flat_below n (λ i. new_number f (suc i) ∷ [])) k 0) e ∙ flat_below-at (λ i. new_number f (suc i) ∷ []) n i h 0 0 (omega arith)

-- ---- one kind behind the other
left : (xs ys : List ℕ) (i : ℕ) → i < length xs → get_or (xs ++ ys) i 0 ≡ get_or xs i 0
left xs ys i h = get_or-append xs ys 0 i h

module _ (used : Used) (t : Tables) where
  abbrev numbers_v : List ℕ
  numbers_v = new_numbers (named used t geometric) used.v

  abbrev numbers_vt : List ℕ
  numbers_vt = new_numbers (named used t texture) used.vt

  abbrev numbers_vn : List ℕ
  numbers_vn = new_numbers (named used t normal) used.vn

  abbrev numbers_vp : List ℕ
  numbers_vp = new_numbers (named used t parametric) used.vp

  -- how far each reaches
  record Reach : Type 0 where
    one : length numbers_v ≡ used.v
    two : length (numbers_v ++ numbers_vt) ≡ used.v + used.vt
    three : length (numbers_v ++ numbers_vt ++ numbers_vn) ≡ used.v + used.vt + used.vn
    four : length (numbers_v ++ numbers_vt ++ numbers_vn ++ numbers_vp) ≡ used.v + used.vt + used.vn + used.vp

  reach : Reach
  reach =
      let v = numbers-length (named used t geometric) used.v in
      let vt = numbers-length (named used t texture) used.vt in
      let vn = numbers-length (named used t normal) used.vn in
      let vp = numbers-length (named used t parametric) used.vp in
      let a = length-append numbers_v numbers_vt in
      let b = length-append (numbers_v ++ numbers_vt) numbers_vn in
      let c = length-append (numbers_v ++ numbers_vt ++ numbers_vn) numbers_vp in
      record { one = v; two = omega arith; three = omega arith; four = omega arith }

  pub numbers-long : length (swept_numbers used t) ≡ numbers_needed used
  unfolding swept_numbers
  numbers-long = reach.four

  module _ (rest : List ℕ) where
    listed : (kind : VertexKind) (i : ℕ) → i < used_of_kind kind used → get_or (swept_numbers used t ++ rest) (listed_from kind used + i) 0 ≡ new_number (named used t kind) (suc i)
    unfolding swept_numbers
    listed geometric i h =
        let r = reach in
        let z : 0 + i ≡ i = omega arith in
        ap (λ (k : ℕ). get_or (numbers_v ++ numbers_vt ++ numbers_vn ++ numbers_vp ++ rest) k 0) z
        ∙ left (numbers_v ++ numbers_vt ++ numbers_vn ++ numbers_vp) rest i (let q = r.four in omega arith)
        ∙ left (numbers_v ++ numbers_vt ++ numbers_vn) numbers_vp i (let q = r.three in omega arith)
        ∙ left (numbers_v ++ numbers_vt) numbers_vn i (let q = r.two in omega arith)
        ∙ left numbers_v numbers_vt i (let q = r.one in omega arith)
        ∙ numbers-at (named used t geometric) used.v i h
    listed texture i h =
        let r = reach in
        left (numbers_v ++ numbers_vt ++ numbers_vn ++ numbers_vp) rest (used.v + i) (let q = r.four in omega arith)
        ∙ left (numbers_v ++ numbers_vt ++ numbers_vn) numbers_vp (used.v + i) (let q = r.three in omega arith)
        ∙ left (numbers_v ++ numbers_vt) numbers_vn (used.v + i) (let q = r.two in omega arith)
        ∙ ap (λ (k : ℕ). get_or (numbers_v ++ numbers_vt) (k + i) 0) (sym r.one)
        ∙ get_or-append-add numbers_v numbers_vt i 0
        ∙ numbers-at (named used t texture) used.vt i h
    listed normal i h =
        let r = reach in
        left (numbers_v ++ numbers_vt ++ numbers_vn ++ numbers_vp) rest (used.v + used.vt + i) (let q = r.four in omega arith)
        ∙ left (numbers_v ++ numbers_vt ++ numbers_vn) numbers_vp (used.v + used.vt + i) (let q = r.three in omega arith)
        ∙ ap (λ (k : ℕ). get_or (numbers_v ++ numbers_vt ++ numbers_vn) (k + i) 0) (sym r.two)
        ∙ get_or-append-add (numbers_v ++ numbers_vt) numbers_vn i 0
        ∙ numbers-at (named used t normal) used.vn i h
    listed parametric i h =
        let r = reach in
        left (numbers_v ++ numbers_vt ++ numbers_vn ++ numbers_vp) rest (used.v + used.vt + used.vn + i) (let q = r.four in omega arith)
        ∙ ap (λ (k : ℕ). get_or (numbers_v ++ numbers_vt ++ numbers_vn ++ numbers_vp) (k + i) 0) (sym r.three)
        ∙ get_or-append-add (numbers_v ++ numbers_vt ++ numbers_vn) numbers_vp i 0
        ∙ numbers-at (named used t parametric) used.vp i h

    number-of : (kind : VertexKind) (k : ℕ) → k ≤ used_of_kind kind used → number_after kind used (swept_numbers used t ++ rest) k ≡ new_number (named used t kind) k
    number-of kind zero h = sym (new-zero (named used t kind))
    number-of kind (suc i) h = listed kind i h

-- ---- the theorem
module _ (used : Used) (t : Tables) (s : Standing used t) (numbers : List ℕ) (kind : VertexKind) where
  abbrev f : ℕ → Bool
  f = named used t kind

  abbrev after : ℕ → ℕ
  after k = number_after kind used (swept_answer used t numbers).numbers k

  after_is : (k : ℕ) → k ≤ used_of_kind kind used → after k ≡ new_number f k
  after_is k h = number-of used t (drop (numbers_needed used) numbers) kind k h

  after_kept : (k : ℕ) → k ≤ used_of_kind kind used → f k ≡ true → after k ≡ kept_upto f k
  after_kept k h e = after_is k h ∙ new-named f k e

  after-within : (k : ℕ) → 1 ≤ k → k ≤ used_of_kind kind used → f k ≡ true → (1 ≤ after k) × (after k ≤ used_of_kind kind (swept_used used t))
  after-within zero a b e = absurd (omega arith)
  after-within (suc i) a b e =
      let q = after_kept (suc i) b e in
      let n = kept-named f i e in
      let m = kept_more f (suc i) (used_of_kind kind used) b in
      let u = used-in used t kind in
      (omega arith, omega arith)

  all-renumbered : Renumbered used t (swept_answer used t numbers) kind after
  all-renumbered =
      record {
        zeros = λ k a b e. after_is k b ∙ rw e;
        within = after-within;
        order = λ j k a b c d e.
            (let x = after_kept j (omega arith) d in let y = after_kept k c e in let o = kept-order f j k b e in omega arith);
        contents = λ k a b e. ap (row_numbered kind (swept_tables used t)) (after_is k b) ∙ new-moved used t s.lent kind k b e;
        references = λ i j h l.
            (let r = reference-in used t s kind i j h l in r.after ∙ sym (after_is (reference_in kind t i j) r.within));
      }

pub renumbered : (used : Used) (t : Tables) → whole_obeys used t ≡ true → (numbers : List ℕ) → numbers_needed used ≤ length numbers
    → (kind : VertexKind) → Renumbered used t (swept_answer used t numbers) kind (number_after kind used (swept_answer used t numbers).numbers)
renumbered used t h numbers room kind = all-renumbered used t (standing used t h) numbers kind

pub rest-kept : (used : Used) (t : Tables) (numbers : List ℕ) → numbers_needed used ≤ length numbers → RestKept used numbers (swept_answer used t numbers).numbers
rest-kept used t numbers room =
    let l = numbers-long used t in
    let d = length-drop (numbers_needed used) numbers in
    record {
      long = length-append (swept_numbers used t) (drop (numbers_needed used) numbers)
          ∙ (let e : length (swept_numbers used t) + length (drop (numbers_needed used) numbers) ≡ length numbers = omega arith in e);
      rest = λ i h.
          (let e : i ≡ length (swept_numbers used t) + (i - numbers_needed used) = omega arith in
          let g : numbers_needed used + (i - numbers_needed used) ≡ i = omega arith in
          ap (λ (k : ℕ). get_or (swept_numbers used t ++ drop (numbers_needed used) numbers) k 0) e
          ∙ get_or-append-add (swept_numbers used t) (drop (numbers_needed used) numbers) (i - numbers_needed used) 0
          ∙ get_or-drop (numbers_needed used) numbers (i - numbers_needed used) 0
          ∙ ap (λ (k : ℕ). get_or numbers k 0) g);
    }
