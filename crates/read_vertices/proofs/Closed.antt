-- A line that is closed after its numbers: it has as many words, no byte that is not allowed, and its words have these values. By the words.
use Prim.Native.Nat.{ℕ, zero, suc, ◌≤◌}
use mathlib.Core.Path.{◌≡◌, refl, sym, ap, subst, ◌∙◌}
use mathlib.Core.Bool.{Bool, true, false, cond}
use mathlib.Core.List.{List, [], ◌∷◌, map}
use mathlib.Core.Option.{Option, none, some}
use lib.ListN.{length}
use lib.Dec.{leb}
use lib.IntN.{ℤ}
use borrow.Author.Tests.{leb-true, le-leb}
use native.Mathlib.Omega.{arith}
use Rattle.text.specs.Words.{Word}
use Rattle.text.specs.Rest.{Rest}
use Rattle.digits.specs.Said.{Said, says, wrong}
use Rattle.decimals.specs.Number.{number_of}
use Rattle.model.specs.Parse.{Parsed, fine, fault, then, a-number, Value, number, on_said, Seen, placed, values_of, numbers_of}
use Rattle.read_state.specs.Numbers.{Walk, ended, full, stuck, onto_walk, on_number, numbers_from, numbers_walk}
use Rattle.read_vertices.specs.Into.{closing, line_ended, at_least, row_said}
use Rattle.model.proofs.Parsed.{fine-fault}

pub nothing : {A C : Type 0} {a : A} → none ≡ some a → C
nothing h = absurd (let z : ◌≡◌ {A = ℕ} 0 1 = cc in omega arith)

pub record Closes (ys : List ℤ) (ws : List Word) (b : Option ℕ) (p : ℕ) (zs : List ℤ) (q : ℕ) : Type 0 where
  pub found : ys ≡ zs
  pub words : ws ≡ []
  pub bad : b ≡ none
  pub next : p ≡ q

pub closing-some : (ys : List ℤ) (ws : List Word) (b : Option ℕ) (p : ℕ) (zs : List ℤ) (q : ℕ) → closing ys ws b p ≡ some (zs, q) → Closes ys ws b p zs q
closing-some ys [] none p zs q e =
    let f : ◌≡◌ {A = List ℤ × ℕ} (ys, p) (zs, q) = cc in
    record { found = ap (λ (x : List ℤ × ℕ). x.0) f; words = refl; bad = refl; next = ap (λ (x : List ℤ × ℕ). x.1) f }
closing-some ys [] (some b) p zs q e = nothing e
closing-some ys (w ∷ ws) b p zs q e = nothing e

pub record Onto (z : ℤ) (k : Walk) (zs : List ℤ) (q : ℕ) : Type 0 where
  pub rest : List ℤ
  pub whole : zs ≡ z ∷ rest
  pub from : line_ended k ≡ some (rest, q)

closed-onto : (z : ℤ) (k : Walk) (zs : List ℤ) (q : ℕ) → line_ended (onto_walk z k) ≡ some (zs, q) → Onto z k zs q
closed-onto z (ended ys p) zs q e =
    let f : ◌≡◌ {A = List ℤ × ℕ} (z ∷ ys, p) (zs, q) = cc in
    record { rest = ys; whole = sym (ap (λ (x : List ℤ × ℕ). x.0) f); from = ap (λ (n : ℕ). some (ys, n)) (ap (λ (x : List ℤ × ℕ). x.1) f) }
closed-onto z (full ys r) zs q e =
    let f = closing-some (z ∷ ys) r.words r.bad r.next zs q e in
    let w = f.words in
    let b = f.bad in
    let n = f.next in
    record { rest = ys; whole = sym f.found; from = rw (w, b, n) refl }
closed-onto z stuck zs q e = nothing e

pub record Numbered (n : ℕ) (ws : List Word) (b : Option ℕ) (p : ℕ) (zs : List ℤ) (q : ℕ) : Type 0 where
  pub bad : b ≡ none
  pub next : p ≡ q
  pub counted : length zs ≡ length ws
  pub short : length ws ≤ n
  pub values : (x : Seen) (i : ℕ) → values_of x (λ j. a-number) i ws ≡ fine (map number zs)

numbered : (n : ℕ) (w : Word) (ws : List Word) (b : Option ℕ) (p : ℕ) (zs : List ℤ) (q : ℕ) (v : Said ℤ) → number_of w.bytes ≡ v
    → ((ys : List ℤ) → line_ended (numbers_from n ws b p) ≡ some (ys, q) → Numbered n ws b p ys q)
    → line_ended (on_number v (numbers_from n ws b p)) ≡ some (zs, q) → Numbered (suc n) (w ∷ ws) b p zs q
numbered n w ws b p zs q (wrong m) v rest e = nothing e
numbered n w ws b p zs q (says z) v rest e =
    let o = closed-onto z (numbers_from n ws b p) zs q e in
    let h = rest o.rest o.from in
    let f = o.whole in
    let c = h.counted in
    let s = h.short in
    record {
      bad = h.bad;
      next = h.next;
      counted = rw f (ap suc c);
      short = omega arith;
      values = λ x i.
          let y = h.values x (suc i) in
          let g : values_of x (λ j. a-number) i (w ∷ ws) ≡ fine (number z ∷ map number o.rest) = rw (v, y) refl in
          g ∙ ap (λ (ys : List ℤ). fine (map number ys)) (sym f);
    }

pub closed_some : (n : ℕ) (ws : List Word) (b : Option ℕ) (p : ℕ) (zs : List ℤ) (q : ℕ) → line_ended (numbers_from n ws b p) ≡ some (zs, q) → Numbered n ws b p zs q
closed_some zero ws b p zs q e =
    let f = closing-some [] ws b p zs q e in
    let z = f.found in
    let w = f.words in
    record {
      bad = f.bad;
      next = f.next;
      counted = rw (w, ← z) refl;
      short = rw w (omega arith);
      values = λ x i. rw (w, ← z) refl;
    }
closed_some (suc n) [] none p zs q e =
    let f : ◌≡◌ {A = List ℤ × ℕ} ([], p) (zs, q) = cc in
    let z : [] ≡ zs = ap (λ (x : List ℤ × ℕ). x.0) f in
    record { bad = refl; next = ap (λ (x : List ℤ × ℕ). x.1) f; counted = rw (← z) refl; short = omega arith; values = λ x i. rw (← z) refl }
closed_some (suc n) [] (some b) p zs q e = nothing e
closed_some (suc n) (w ∷ ws) b p zs q e = numbered n w ws b p zs q (number_of w.bytes) refl (λ ys. closed_some n ws b p ys q) e

-- and back: the words' values, as the walk finds them
pub record Back (n : ℕ) (ws : List Word) (q : ℕ) (zs : List ℤ) : Type 0 where
  pub counted : length zs ≡ length ws
  pub from : line_ended (numbers_from n ws none q) ≡ some (zs, q)

back-onto : (z : ℤ) (k : Walk) (zs : List ℤ) (q : ℕ) → line_ended k ≡ some (zs, q) → line_ended (onto_walk z k) ≡ some (z ∷ zs, q)
back-onto z (ended ys p) zs q e =
    let f : ◌≡◌ {A = List ℤ × ℕ} (ys, p) (zs, q) = cc in
    ap (λ (x : List ℤ × ℕ). some (z ∷ x.0, x.1)) f
back-onto z (full ys r) zs q e =
    let f = closing-some ys r.words r.bad r.next zs q e in
    let w = f.words in
    let b = f.bad in
    let n = f.next in
    let y = f.found in
    rw (w, b, n, y) refl
back-onto z stuck zs q e = nothing e

module _ (x : Seen) where
  -- a word before the rest of the words
  record Ahead (v : Said ℤ) (i : ℕ) (ws : List Word) (xs : List Value) : Type 0 where
    pub head : ℤ
    pub tail : List Value
    pub said : v ≡ says head
    pub rest : values_of x (λ j. a-number) i ws ≡ fine tail
    pub whole : xs ≡ number head ∷ tail

  ahead : (v : Said ℤ) (p i : ℕ) (ws : List Word) (xs : List Value) (y : Parsed (List Value)) → values_of x (λ j. a-number) i ws ≡ y
      → then (placed (on_said number v) p) (λ a. then y (λ bs. fine (a ∷ bs))) ≡ fine xs → Ahead v i ws xs
  ahead (wrong n) p i ws xs y h e = fine-fault e
  ahead (says z) p i ws xs (fault n m) h e = fine-fault e
  ahead (says z) p i ws xs (fine ys) h e = record { head = z; tail = ys; said = refl; rest = h; whole = let f : number z ∷ ys ≡ xs = cc in sym f }

  pub values-back : (n i : ℕ) (ws : List Word) (q : ℕ) (xs : List Value) → values_of x (λ j. a-number) i ws ≡ fine xs → length ws ≤ n → Back n ws q (numbers_of xs)
  values-back zero i [] q xs e h = let f : [] ≡ xs = cc in rw (← f) (record { counted = refl; from = refl })
  values-back (suc n) i [] q xs e h = let f : [] ≡ xs = cc in rw (← f) (record { counted = refl; from = refl })
  values-back zero i (w ∷ ws) q xs e h = absurd (omega arith)
  values-back (suc n) i (w ∷ ws) q xs e h =
      let a = ahead (number_of w.bytes) w.place (suc i) ws xs (values_of x (λ j. a-number) (suc i) ws) refl e in
      let b = values-back n (suc i) ws q a.tail a.rest (omega arith) in
      let f = a.whole in
      rw f (record {
        counted = ap suc b.counted;
        from =
            ap (λ (v : Said ℤ). line_ended (on_number v (numbers_from n ws none q))) a.said
            ∙ back-onto a.head (numbers_from n ws none q) (numbers_of a.tail) q b.from;
      })

-- ---- from `least` to `most`
pub record RowSome (least most : ℕ) (r : Rest) (zs : List ℤ) (q : ℕ) : Type 0 where
  pub closes : line_ended (numbers_walk most r) ≡ some (zs, q)
  pub many : least ≤ length zs

pub at-least : {A : Type 0} (n : ℕ) (o : Option (List A × ℕ)) (zs : List A) (q : ℕ) → at_least n o ≡ some (zs, q) → (o ≡ some (zs, q)) × (n ≤ length zs)
at-least n none zs q e = nothing e
at-least {A} n (some p) zs q e = enough (leb n (length p.0)) refl e
  where
    enough : (t : Bool) → leb n (length p.0) ≡ t → cond t (some p) none ≡ some (zs, q) → (some p ≡ some (zs, q)) × (n ≤ length zs)
    enough false h f = nothing f
    enough true h f = let g : p ≡ (zs, q) = cc in (f, subst (λ (y : List A × ℕ). n ≤ length y.0) g (leb-true n (length p.0) h))

pub has-least : {A : Type 0} (n : ℕ) (o : Option (List A × ℕ)) (zs : List A) (q : ℕ) → o ≡ some (zs, q) → n ≤ length zs → at_least n o ≡ some (zs, q)
has-least n o zs q e h = ap (at_least n) e ∙ ap (λ (t : Bool). cond t (some (zs, q)) none) (le-leb n (length zs) h)

pub row-some : (least most : ℕ) (r : Rest) (zs : List ℤ) (q : ℕ) → row_said least most r ≡ some (zs, q) → RowSome least most r zs q
row-some least most r zs q e = let h = at-least least (line_ended (numbers_walk most r)) zs q e in record { closes = h.0; many = h.1 }

pub some-row : (least most : ℕ) (r : Rest) (zs : List ℤ) (q : ℕ) → line_ended (numbers_walk most r) ≡ some (zs, q) → least ≤ length zs → row_said least most r ≡ some (zs, q)
some-row least most r zs q e h = has-least least (line_ended (numbers_walk most r)) zs q e h
