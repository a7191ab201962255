-- The loop over a line's numbers: what is left of the line, after the numbers stored, comes to what all of it comes to.
use Prim.Native.Nat.{ℕ, zero, suc, ◌+◌, ◌-◌, ◌<◌, ◌≤◌}
use mathlib.Core.Path.{◌≡◌, refl, sym, ap, ◌∙◌}
use mathlib.Core.Bool.{Bool, true, false, cond}
use mathlib.Core.List.{List, [], ◌∷◌, ◌++◌, append_assoc, append-nil}
use mathlib.Core.Option.{none}
use lib.ListN.{length, get_or, drop, set, length-append}
use lib.Seq.{sets, length-sets, get_or-set_other}
use lib.Dec.{leb}
use lib.IntN.{ℤ, pos}
use borrow.Author.Tests.{leb-true, leb-false}
use native.Mathlib.Omega.{arith}
use Rattle.text.specs.Words.{word_of}
use Rattle.text.specs.Rest.{Rest, rest_at, end_of, WordMet, EndMet, BadMet}
use Rattle.digits.specs.Said.{Said, says, wrong}
use Rattle.decimals.specs.Number.{number_of}
use Rattle.read_state.specs.Numbers.{Walk, ended, full, stuck, onto_walk, on_number, numbers_walk}
use Rattle.read_vertices.specs.Into.{EndedAfter, FullAfter, StoppedAfter}
use Rattle.lists.proofs.Laws.{sets-append}

-- what stands before the first place stored to
pub get_d_sets_before : {A : Type 0} (l : List A) (i : ℕ) (vs : List A) (j : ℕ) (d : A) → j < i → get_or (sets l i vs) j d ≡ get_or l j d
get_d_sets_before l i [] j d h = refl
get_d_sets_before l i (v ∷ vs) j d h =
    get_d_sets_before (set l i v) (suc i) vs j d (omega arith)
    ∙ get_or-set_other l i j v d (λ e. let f : j ≡ i = e in omega arith)

pub before-stored : (l m : List ℤ) (first : ℕ) (zs : List ℤ) → m ≡ sets l first zs → (i : ℕ) → i < first → get_or m i (pos 0) ≡ get_or l i (pos 0)
before-stored l m first zs e i h = ap (λ (t : List ℤ). get_or t i (pos 0)) e ∙ get_d_sets_before l first zs i (pos 0) h

-- numbers already stored, before those to come
abbrev pub after : List ℤ → Walk → Walk
after zs (ended ys q) = ended (zs ++ ys) q
after zs (full ys r) = full (zs ++ ys) r
after zs stuck = stuck

after_none : (k : Walk) → after [] k ≡ k
after_none (ended zs q) = refl
after_none (full zs r) = refl
after_none stuck = refl

after-onto : (zs : List ℤ) (z : ℤ) (k : Walk) → after zs (onto_walk z k) ≡ after (zs ++ z ∷ []) k
after-onto zs z (ended ys q) = ap (λ (l : List ℤ). ended l q) (sym (append_assoc zs (z ∷ []) ys))
after-onto zs z (full ys r) = ap (λ (l : List ℤ). full l r) (sym (append_assoc zs (z ∷ []) ys))
after-onto zs z stuck = refl

ended-long : (ds zs : List ℤ) (q : ℕ) (k : Walk) → after ds k ≡ ended zs q → length ds ≤ length zs
ended-long ds zs q (ended ys p) e = let z : ds ++ ys ≡ zs = cc in let y = ap length z in let x = length-append ds ys in omega arith
ended-long ds zs q (full ys r) e = let z : ◌≡◌ {A = ℕ} 0 1 = cc in absurd (omega arith)
ended-long ds zs q stuck e = let z : ◌≡◌ {A = ℕ} 0 1 = cc in absurd (omega arith)

full-long : (ds zs : List ℤ) (r : Rest) (k : Walk) → after ds k ≡ full zs r → length ds ≤ length zs
full-long ds zs r (ended ys p) e = let z : ◌≡◌ {A = ℕ} 0 1 = cc in absurd (omega arith)
full-long ds zs r (full ys q) e = let z : ds ++ ys ≡ zs = cc in let y = ap length z in let x = length-append ds ys in omega arith
full-long ds zs r stuck e = let z : ◌≡◌ {A = ℕ} 0 1 = cc in absurd (omega arith)

pub record Walking (most : ℕ) (s : List ℕ) (at first : ℕ) (l : List ℤ) (i count : ℕ) (t : List ℤ) : Type 0 where
  pub from : at ≤ i
  pub to : i ≤ length s
  pub done : List ℤ
  pub counted : count ≡ length done
  pub within : count ≤ most
  pub rest : numbers_walk most (rest_at s at) ≡ after done (numbers_walk (most - count) (rest_at s i))
  pub room : 0 < count → first + count ≤ length l
  pub stored : t ≡ sets l first done
  pub same : length t ≡ length l

pub begin : (most : ℕ) (s : List ℕ) (at first : ℕ) (l : List ℤ) → at ≤ length s → Walking most s at first l at 0 l
begin most s at first l h =
    record {
      from = omega arith;
      to = h;
      done = [];
      counted = refl;
      within = omega arith;
      rest =
          let e : most ≡ most - 0 = omega arith in
          sym (after_none (numbers_walk most (rest_at s at))) ∙ ap (λ (n : ℕ). after [] (numbers_walk n (rest_at s at))) e;
      room = λ z. absurd (omega arith);
      stored = refl;
      same = refl;
    }

-- the place of the next number fits where the first one's does
pub place-fits : (first count n k : ℕ) → (0 < count → first + count ≤ k) → first < n → k < n → first + count < n
place-fits first zero n k h f g = omega arith
place-fits first (suc count) n k h f g = let r = h (omega arith) in omega arith

module _ (most : ℕ) (s : List ℕ) (at first : ℕ) (l : List ℤ) (i count : ℕ) (t : List ℤ) (w : Walking most s at first l i count t) where
  pub filled : most ≤ count → FullAfter most s at first l t i
  filled h =
      let k = w.within in
      let j = w.counted in
      let e : most - count ≡ 0 = omega arith in
      record {
        found = w.done;
        walked =
            w.rest ∙ ap (λ (n : ℕ). after w.done (numbers_walk n (rest_at s i))) e
            ∙ ap (λ (zs : List ℤ). full zs (rest_at s i)) (append-nil w.done);
        counted = omega arith;
        room = λ z. let b = w.room (omega arith) in omega arith;
        stored = w.stored;
        from = w.from;
        to = w.to;
      }

  stop : after w.done (numbers_walk (most - count) (rest_at s i)) ≡ stuck → StoppedAfter most s at first l t
  stop e =
      record {
        same = w.same;
        before = before-stored l t first w.done w.stored;
        ended-short = λ zs q f. let g : stuck ≡ ended zs q = sym (w.rest ∙ e) ∙ f in let y : ◌≡◌ {A = ℕ} 0 1 = cc in absurd (omega arith);
        full-short = λ zs r f. let g : stuck ≡ full zs r = sym (w.rest ∙ e) ∙ f in let y : ◌≡◌ {A = ℕ} 0 1 = cc in absurd (omega arith);
      }

  module _ (more : count < most) where
    less : most - count ≡ suc (most - (count + 1))
    less = omega arith

    one : (r : Rest) → rest_at s i ≡ r → numbers_walk (most - count) (rest_at s i) ≡ numbers_walk (suc (most - (count + 1))) r
    one r e = ap (λ (n : ℕ). numbers_walk n (rest_at s i)) less ∙ ap (numbers_walk (suc (most - (count + 1)))) e

    pub ends : {q : ℕ} → EndMet s i q → EndedAfter most s at first l t count q
    ends {q} m =
        record {
          found = w.done;
          walked =
              w.rest ∙ ap (after w.done) (one (record { words = []; bad = none; next = q }) m.rest)
              ∙ ap (λ (zs : List ℤ). ended zs q) (append-nil w.done);
          counted = w.counted;
          room = w.room;
          stored = w.stored;
        }

    pub stop-bad : {p : ℕ} → BadMet s i p → StoppedAfter most s at first l t
    stop-bad {p} m =
        let x = m.no_words in
        let y = m.bad-at in
        let e : numbers_walk (suc (most - (count + 1))) (rest_at s i) ≡ stuck = rw (x, y) refl in
        stop (ap (after w.done) (one (rest_at s i) refl ∙ e))

    module _ {p : ℕ} (m : WordMet s i p) where
      met : numbers_walk (most - count) (rest_at s i)
          ≡ on_number (number_of (word_of (drop p s))) (numbers_walk (most - (count + 1)) (rest_at s (end_of s p)))
      met = one _ m.rest

      pub stop-wrong : {n : ℕ} → number_of (word_of (drop p s)) ≡ wrong n → StoppedAfter most s at first l t
      stop-wrong {n} e = stop (ap (after w.done) (met ∙ ap (λ (x : Said ℤ). on_number x (numbers_walk (most - (count + 1)) (rest_at s (end_of s p)))) e))

      module _ {z : ℤ} {e : ℕ} (v : (number_of (word_of (drop p s)) ≡ says z) × (e ≡ end_of s p)) where
        on : numbers_walk most (rest_at s at) ≡ after (w.done ++ z ∷ []) (numbers_walk (most - (count + 1)) (rest_at s e))
        on =
            w.rest
            ∙ ap (after w.done) (met ∙ ap (λ (x : Said ℤ). on_number x (numbers_walk (most - (count + 1)) (rest_at s (end_of s p)))) v.0)
            ∙ ap (λ (j : ℕ). after w.done (onto_walk z (numbers_walk (most - (count + 1)) (rest_at s j)))) (sym v.1)
            ∙ after-onto w.done z (numbers_walk (most - (count + 1)) (rest_at s e))

        longer : length (w.done ++ z ∷ []) ≡ count + 1
        longer = let a = length-append w.done (z ∷ []) in let b = w.counted in omega arith

        module _ {x : ℤ} (same : x ≡ z) {r : Bool} {u : List ℤ} (put : (r ≡ leb (first + count + 1) (length t)) × (u ≡ cond r (sets t (first + count) (x ∷ [])) t)) where
          pub stop-room : r ≡ false → StoppedAfter most s at first l u
          stop-room f =
              let h = leb-false (first + count + 1) (length t) (sym put.0 ∙ f) in
              let k = w.same in
              let j = longer in
              record {
                same = ap length (put.1 ∙ ap (λ (b : Bool). cond b (sets t (first + count) (x ∷ [])) t) f) ∙ w.same;
                before = before-stored l u first w.done (put.1 ∙ ap (λ (b : Bool). cond b (sets t (first + count) (x ∷ [])) t) f ∙ w.stored);
                ended-short = λ zs q g. let y = ended-long (w.done ++ z ∷ []) zs q (numbers_walk (most - (count + 1)) (rest_at s e)) (sym on ∙ g) in omega arith;
                full-short = λ zs q g. let y = full-long (w.done ++ z ∷ []) zs q (numbers_walk (most - (count + 1)) (rest_at s e)) (sym on ∙ g) in omega arith;
              }

          pub turn : r ≡ true → Walking most s at first l e (count + 1) u
          turn f =
              let h = leb-true (first + count + 1) (length t) (sym put.0 ∙ f) in
              let k = w.same in
              let b = w.counted in
              let d = v.1 in
              let d1 = m.from in
              let d2 = m.more in
              let d3 = m.to in
              let d4 = w.from in
              let pl : first + count ≡ first + length w.done = omega arith in
              let us : u ≡ sets t (first + count) (z ∷ []) =
              put.1 ∙ ap (λ (b : Bool). cond b (sets t (first + count) (x ∷ [])) t) f ∙ ap (λ (y : ℤ). sets t (first + count) (y ∷ [])) same in
              record {
                from = omega arith;
                to = omega arith;
                done = w.done ++ z ∷ [];
                counted = sym longer;
                within = omega arith;
                rest = on;
                room = λ q. omega arith;
                stored =
                    us ∙ ap (λ (x : List ℤ). sets x (first + count) (z ∷ [])) w.stored
                    ∙ ap (λ (j : ℕ). sets (sets l first w.done) j (z ∷ [])) pl
                    ∙ sym (sets-append l first w.done (z ∷ []));
                same = ap length us ∙ length-sets t (first + count) (z ∷ []) ∙ w.same;
              }
