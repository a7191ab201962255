-- The counts of a body's parameters, and the loop that stores them: what is left to store completes what was stored.
use Prim.Native.Nat.{ℕ, suc, ◌+◌, ◌-◌, ◌≤◌, ◌<◌}
use native.Mathlib.Nat.{add-zero, sub-zero}
use native.Mathlib.Omega.{arith}
use mathlib.Core.Path.{◌≡◌, refl, sym, ap, ap₂, ◌∙◌}
use mathlib.Core.List.{List, [], ◌∷◌, ◌++◌}
use mathlib.Core.Bool.{Bool, true, false, cond, ◌&&◌, not, and-true}
use mathlib.Core.Logic.{⊎_elim}
use borrow.Author.Tests.{ne_eqb, eq-eqb, eqb-true, eqb-false, not-true, leb-false}
use lib.ListN.{length, take, set, length-set}
use lib.Seq.{sets, take-nil, set_out, length-sets}
use lib.Dec.{eqb, leb, eqb-suc-zero}
use lib.IntN.{ℤ}
use Rattle.lists.proofs.Tests.{and_left, and_right, and_first, test, never}
use Rattle.lists.proofs.Laws.{sets-append}
use Rattle.std.specs.Prelude.{Result, Ok, Err}
use Rattle.refusals.specs.declared.Reason.{Reason}
use Rattle.refusals.specs.declared.Reason.TheVariants as reason
use Rattle.tables.specs.Bodies.{enough, low, high, in_order, curve_count, surface_count, basis_of}
use Rattle.parameter_order.specs.declared.Requirement.{Requirement}
use Rattle.parameter_order.specs.declared.Order.{Order}
use Rattle.parameter_order.specs.Stepping.{requirement_of, fresh, step_of, walk_from, walked, holds_in}
use Rattle.basis.proofs.Basis.{curve-enough, surface-enough-u, surface-enough-v}
use Rattle.basis.proofs.Walks.{walk_is, walk-holds}
use Rattle.model.specs.Model.{Free, curve, curve2, surface, Body}
use Rattle.model.specs.Statements.{settled}
use Rattle.model.specs.Parse.{some?, complete, counts_agree, range_within}
use Rattle.read_state.specs.declared.Form.{Form}
use Rattle.read_bodies.specs.Numbers.{numbers_at, NumberMet}
use Rattle.statements.specs.Numbered.{free_of}
use Rattle.tables.specs.Records.{curve2_kind, surface_kind}
use Rattle.read_bodies.specs.Closing.{parm_of, complete_of, agree_of, held_of, body_for, SettledIs, StoredIs, BodyCheckIs}
use Rattle.read_bodies.specs.declared.closing.Checked.{Checked}
use Rattle.read_bodies.proofs.Steps.{numbers_more}

module _ (s : List ℕ) (at : ℕ) where
  pub parm-none : at ≡ 0 → parm_of s at ≡ []
  unfolding parm_of
  parm-none h = rw (eq-eqb at 0 h) refl

  pub parm-some : (at ≡ 0 → ⊥) → parm_of s at ≡ numbers_at s at
  unfolding parm_of
  parm-some h = rw (ne_eqb at 0 h) refl

  pub none-parm : at ≡ 0 → (0 ≡ length (parm_of s at)) × (0 ≤ 16777216)
  none-parm h = (ap length (sym (parm-none h)), omega arith)

  pub some-parm : (at ≡ 0 → ⊥) → {n : ℕ} → n ≡ length (numbers_at s at) → n ≤ length s → length s ≤ 16777216 → (n ≡ length (parm_of s at)) × (n ≤ 16777216)
  some-parm h e a b = (e ∙ ap length (sym (parm-some h)), omega arith)

-- ---- 11
nonzero : (u : ℕ) → not (eqb u 0) ≡ true → 1 ≤ u
nonzero u h = let f = eqb-false u 0 (not-true (eqb u 0) h) in go u f
  where
    go : (u : ℕ) → (u ≡ 0 → ⊥) → 1 ≤ u
    go u f = omega arith

module _ (kind u v : ℕ) where
  pub u-there : complete_of kind u v ≡ true → 1 ≤ u
  u-there h = nonzero u (and_left (not (eqb u 0)) (cond (eqb kind surface_kind) (not (eqb v 0)) true) h)

  pub both-there : kind ≡ surface_kind → complete_of kind u v ≡ true → (1 ≤ u) × (1 ≤ v)
  both-there k h =
      (u-there h, nonzero v (sym (ap (λ (b : Bool). cond b (not (eqb v 0)) true) (eq-eqb kind surface_kind k)) ∙ and_right (not (eqb u 0)) (cond (eqb kind surface_kind) (not (eqb v 0)) true) h))

-- ---- `store`
pub record Storing (s : List ℕ) (at count : ℕ) (a : Requirement) (l : List ℤ) (first i done : ℕ) (o : Order) (t : List ℤ) : Type 0 where
  pub to : i ≤ length s
  pub judged : walked a (take count (numbers_at s at)) ≡ walk_from a done o (take (count - done) (numbers_at s i))
  pub left : sets l first (take count (numbers_at s at)) ≡ sets t (first + done) (take (count - done) (numbers_at s i))
  pub same : length t ≡ length l

pub storing-none : (s : List ℕ) (at count : ℕ) (a : Requirement) (l : List ℤ) (first : ℕ) → at ≤ length s → {o : Order} → o ≡ fresh → Storing s at count a l first at 0 o l
storing-none s at count a l first h e = record { to = h; judged = rw (sub-zero count, e) refl; left = rw (add-zero first, sub-zero count) refl; same = refl }

-- a number past the lent entries is not stored
put_one : {A : Type 0} (t : List A) (k : ℕ) (y : A) {r : Bool} {x : List A} → r ≡ leb (k + 1) (length t) → x ≡ cond r (sets t k (y ∷ [])) t → x ≡ set t k y
put_one t k y {r} {x} h e =
    ⊎_elim
    (λ (b : leb (k + 1) (length t) ≡ true). e ∙ ap (λ (c : Bool). cond c (set t k y) t) (h ∙ b))
    (λ (b : leb (k + 1) (length t) ≡ false).
    let m = leb-false (k + 1) (length t) b in
    e ∙ ap (λ (c : Bool). cond c (set t k y) t) (h ∙ b) ∙ sym (set_out t k y (omega arith)))
    (test (leb (k + 1) (length t)))

module _ (s : List ℕ) (at count : ℕ) (a : Requirement) (l : List ℤ) (first i done : ℕ) (o : Order) (t : List ℤ) (w : Storing s at count a l first i done o t) where
  module _ (e : take (count - done) (numbers_at s i) ≡ []) where
    over : (o ≡ walked a (take count (numbers_at s at))) × (t ≡ sets l first (take count (numbers_at s at)))
    over = (sym (w.judged ∙ ap (walk_from a done o) e), sym (w.left ∙ ap (sets t (first + done)) e))

  pub storing-over : numbers_at s i ≡ [] → (o ≡ walked a (take count (numbers_at s at))) × (t ≡ sets l first (take count (numbers_at s at)))
  storing-over e = over (ap (take (count - done)) e ∙ take-nil (count - done))

  pub storing-all : count ≤ done → (o ≡ walked a (take count (numbers_at s at))) × (t ≡ sets l first (take count (numbers_at s at)))
  storing-all h = let e : count - done ≡ 0 = omega arith in over (ap (λ (k : ℕ). take k (numbers_at s i)) e)

  pub storing-more :
      done < count → {z y : ℤ} {e : ℕ} → NumberMet s i z e → y ≡ z → {p : Order} → p ≡ step_of a done o y → {r : Bool} {x : List ℤ} →
      r ≡ leb (first + done + 1) (length t) → x ≡ cond r (sets t (first + done) (y ∷ [])) t → Storing s at count a l first e (done + 1) p x
  storing-more h {z} {y} {e} m f {p} d {r} {x} room put =
      let k : count - done ≡ suc (count - (done + 1)) = omega arith in
      let j : suc (first + done) ≡ first + (done + 1) = omega arith in
      let n : suc done ≡ done + 1 = omega arith in
      let rest = numbers_more s i m ∙ ap (λ (c : ℤ). c ∷ numbers_at s e) (sym f) in
      let stored = put_one t (first + done) y room put in
      record {
        to = m.to;
        judged =
            w.judged
            ∙ ap₂ (λ (c : List ℤ) (k : ℕ). walk_from a done o (take k c)) rest k
            ∙ ap₂ (λ (c : ℕ) (q : Order). walk_from a c q (take (count - (done + 1)) (numbers_at s e))) n (sym d);
        left =
            w.left
            ∙ ap₂ (λ (c : List ℤ) (k : ℕ). sets t (first + done) (take k c)) rest k
            ∙ ap₂ (λ (c : List ℤ) (n : ℕ). sets c n (take (count - (done + 1)) (numbers_at s e))) (sym stored) j;
        same = ap length stored ∙ length-set t (first + done) y ∙ w.same;
      }

-- ---- the tests of a body, by its kind
some-there : {A : Type 0} (l : List A) → some? l ≡ not (eqb (length l) 0)
some-there [] = refl
some-there (a ∷ l) = ap not (sym (eqb-suc-zero (length l)))

-- p says a surface, q a curv2
abbrev kind_of : Bool → Bool → Free
kind_of p q = cond p surface (cond q curve2 curve)

complete-is : (p q : Bool) (b : Body) → complete (kind_of p q) b ≡ (not (eqb (length b.us) 0) && cond p (not (eqb (length b.vs) 0)) true)
complete-is true q b = ap₂ (λ (x y : Bool). x && y) (some-there b.us) (some-there b.vs)
complete-is false true b = some-there b.us ∙ sym (and-true (not (eqb (length b.us) 0)))
complete-is false false b = some-there b.us ∙ sym (and-true (not (eqb (length b.us) 0)))

agree-is :
    (p q : Bool) (b : Body) (k : ℕ) →
    counts_agree (kind_of p q) b k
    ≡ cond p (surface_count b.basis b.degree-u (length b.us) b.degree-v (length b.vs) k) (curve_count b.basis b.degree-u (length b.us) k)
agree-is true q b k = refl
agree-is false true b k = refl
agree-is false false b k = refl

abbrev start_in : Bool → Body → ℤ
start_in q b = cond q (low b.basis b.degree-u b.us) b.start-u

abbrev end_in : Bool → Body → ℤ
end_in q b = cond q (high b.basis b.degree-u b.us) b.end-u

range-is :
    (p q : Bool) → (p ≡ true → q ≡ false) → (b : Body) →
    range_within (kind_of p q) b
    ≡ (in_order b.basis b.degree-u b.us (start_in q b) (end_in q b) && cond p (in_order b.basis b.degree-v b.vs b.start-v b.end-v) true)
range-is true true h b = never (sym (h refl))
range-is true false h b = refl
range-is false true h b = sym (and-true (in_order b.basis b.degree-u b.us (low b.basis b.degree-u b.us) (high b.basis b.degree-u b.us)))
range-is false false h b = sym (and-true (in_order b.basis b.degree-u b.us b.start-u b.end-u))

start_is : (p q : Bool) → (p ≡ true → q ≡ false) → (b : Body) → start_in q b ≡ (settled (kind_of p q) b).start-u
start_is true true h b = never (sym (h refl))
start_is true false h b = refl
start_is false true h b = refl
start_is false false h b = refl

end_is : (p q : Bool) → (p ≡ true → q ≡ false) → (b : Body) → end_in q b ≡ (settled (kind_of p q) b).end-u
end_is true true h b = never (sym (h refl))
end_is true false h b = refl
end_is false true h b = refl
end_is false false h b = refl

pub settled-rest : (k : Free) (b : Body) → ((settled k b).start-v ≡ b.start-v) × ((settled k b).end-v ≡ b.end-v)
settled-rest curve b = (refl, refl)
settled-rest curve2 b = (refl, refl)
settled-rest surface b = (refl, refl)

one-kind : (kind : ℕ) → eqb kind surface_kind ≡ true → eqb kind curve2_kind ≡ false
one-kind kind h = ne_eqb kind curve2_kind (λ e. let f = eqb-true kind surface_kind h in absurd (omega arith))

-- ---- the places of parameters that are there
pub parm-there : (s : List ℕ) (at : ℕ) → 1 ≤ length (parm_of s at) → parm_of s at ≡ numbers_at s at
parm-there s at h =
    ⊎_elim
    (λ (e : eqb at 0 ≡ true). let l = ap length (parm-none s at (eqb-true at 0 e)) in absurd (omega arith))
    (λ (e : eqb at 0 ≡ false). parm-some s at (eqb-false at 0 e))
    (test (eqb at 0))

-- ---- `settle`
module _ (kind u v : ℕ) (o p : Order) (a b c d : ℤ) {s e : ℤ} (hs : s ≡ cond (eqb kind curve2_kind) o.low a) (he : e ≡ cond (eqb kind curve2_kind) o.high b) where
  held : held_of kind o p (cond (eqb kind curve2_kind) o.low a) (cond (eqb kind curve2_kind) o.high b) c d ≡ held_of kind o p s e c d
  held = ap₂ (λ (s e : ℤ). held_of kind o p s e c d) (sym hs) (sym he)

  pub not-held : holds_in o s e ≡ false → SettledIs kind u v o p a b c d (Err reason.ParameterOrder)
  not-held h = (refl, held ∙ and_first (cond (eqb kind surface_kind) (holds_in p c d) true) h)

  module _ (h : holds_in o s e ≡ true) where
    pub not-along-v : kind ≡ surface_kind → holds_in p c d ≡ false → SettledIs kind u v o p a b c d (Err reason.ParameterOrder)
    not-along-v k i = (refl, held ∙ rw (h, eq-eqb kind surface_kind k, i) refl)

    pub along-both : kind ≡ surface_kind → holds_in p c d ≡ true → SettledIs kind u v o p a b c d (Ok (record { u = u; v = v; start = s; end = e }))
    along-both k i = (refl, refl, record { start_is = hs; end_is = he; held = rw (h, eq-eqb kind surface_kind k, i) refl })

    pub along_one : (kind ≡ surface_kind → ⊥) → SettledIs kind u v o p a b c d (Ok (record { u = u; v = v; start = s; end = e }))
    along_one k = (refl, refl, record { start_is = hs; end_is = he; held = rw (h, ne_eqb kind surface_kind k) refl })

-- ---- `judge`
module _ (f : Form) (kind : ℕ) (us vs : List ℤ) (a b c d : ℤ) (k u v : ℕ) (hu : u ≡ length us) (hv : v ≡ length vs) where
  abbrev B : Body
  B = body_for f kind us vs a b c d

  whole : complete (free_of kind) B ≡ complete_of kind u v
  whole = complete-is (eqb kind surface_kind) (eqb kind curve2_kind) B ∙ ap₂ (λ (m n : ℕ). complete_of kind m n) (sym hu) (sym hv)

  counts : counts_agree (free_of kind) B k ≡ agree_of kind f u v k
  counts = agree-is (eqb kind surface_kind) (eqb kind curve2_kind) B k ∙ ap₂ (λ (m n : ℕ). agree_of kind f m n k) (sym hu) (sym hv)

  pub refuse-11 : complete_of kind u v ≡ false → BodyCheckIs B k (Err reason.Incomplete)
  refuse-11 h = (rw (whole ∙ h) refl, omega arith)

  module _ (h : complete_of kind u v ≡ true) where
    pub refuse-12 : agree_of kind f u v k ≡ false → BodyCheckIs B k (Err reason.ControlCount)
    refuse-12 i = (rw (whole ∙ h, counts ∙ i) refl, omega arith)

    -- the parameters along u came to o, along v to p
    module _ (i : agree_of kind f u v k ≡ true) {o p : Order} (x : o ≡ walked (requirement_of f.basis f.degree_u u) us) (y : p ≡ walked (requirement_of f.basis f.degree_v v) vs) where
      agrees : (t : Bool) → eqb kind surface_kind ≡ t → cond t (surface_count (basis_of f.basis) f.degree_u u f.degree_v v k) (curve_count (basis_of f.basis) f.degree_u u k) ≡ true
      agrees t e = sym (ap (λ (t : Bool). cond t (surface_count (basis_of f.basis) f.degree_u u f.degree_v v k) (curve_count (basis_of f.basis) f.degree_u u k)) e) ∙ i

      enough-u : enough (basis_of f.basis) f.degree_u (length us) ≡ true
      enough-u =
          ap (enough (basis_of f.basis) f.degree_u) (sym hu)
          ∙ ⊎_elim
          (λ (e : eqb kind surface_kind ≡ true). surface-enough-u (basis_of f.basis) f.degree_u u f.degree_v v k (agrees true e))
          (λ (e : eqb kind surface_kind ≡ false). curve-enough (basis_of f.basis) f.degree_u u k (agrees false e))
          (test (eqb kind surface_kind))

      some-u : 1 ≤ length us
      some-u = let n = u-there kind u v h in omega arith

      along-u : o ≡ walked (requirement_of f.basis f.degree_u (length us)) us
      along-u = x ∙ ap (λ (n : ℕ). walked (requirement_of f.basis f.degree_u n) us) hu

      law-u : (s e : ℤ) → holds_in o s e ≡ in_order (basis_of f.basis) f.degree_u us s e
      law-u s e = ap (λ (q : Order). holds_in q s e) along-u ∙ walk-holds f.basis f.degree_u us s e some-u enough-u

      law-v : eqb kind surface_kind ≡ true → holds_in p c d ≡ in_order (basis_of f.basis) f.degree_v vs c d
      law-v e =
          let n = (both-there kind u v (eqb-true kind surface_kind e) h).1 in
          ap (λ (q : Order). holds_in q c d) (y ∙ ap (λ (n : ℕ). walked (requirement_of f.basis f.degree_v n) vs) hv)
          ∙ walk-holds f.basis f.degree_v vs c d (omega arith) (ap (enough (basis_of f.basis) f.degree_v) (sym hv) ∙ surface-enough-v (basis_of f.basis) f.degree_u u f.degree_v v k (agrees true e))

      other : (t : Bool) → eqb kind surface_kind ≡ t → cond t (holds_in p c d) true ≡ cond t (in_order (basis_of f.basis) f.degree_v vs c d) true
      other true e = law-v e
      other false e = refl

      starts : cond (eqb kind curve2_kind) o.low a ≡ start_in (eqb kind curve2_kind) B
      starts = ap (λ (z : ℤ). cond (eqb kind curve2_kind) z a) (ap (λ (q : Order). q.low) along-u ∙ (walk_is f.basis f.degree_u us some-u enough-u).1)

      ends : cond (eqb kind curve2_kind) o.high b ≡ end_in (eqb kind curve2_kind) B
      ends = ap (λ (z : ℤ). cond (eqb kind curve2_kind) z b) (ap (λ (q : Order). q.high) along-u ∙ (walk_is f.basis f.degree_u us some-u enough-u).2)

      in-range : range_within (free_of kind) B ≡ held_of kind o p (cond (eqb kind curve2_kind) o.low a) (cond (eqb kind curve2_kind) o.high b) c d
      in-range =
          range-is (eqb kind surface_kind) (eqb kind curve2_kind) (one-kind kind) B
          ∙ sym (ap₂ (λ (s t : Bool). s && t) (law-u (cond (eqb kind curve2_kind) o.low a) (cond (eqb kind curve2_kind) o.high b) ∙ ap₂ (λ (s e : ℤ). in_order (basis_of f.basis) f.degree_u us s e) starts ends) (other (eqb kind surface_kind) refl))

      pub settled-judged : u ≤ 16777216 → v ≤ 16777216 → (r : Result Checked Reason) → SettledIs kind u v o p a b c d r → BodyCheckIs B k r
      settled-judged m n (Err z) g =
          let e = g.0 in
          (rw (whole ∙ h, counts ∙ i, in-range ∙ g.1) (sym e), omega arith)
      settled-judged m n (Ok w) g =
          let q = g.2 in
          let t : held_of kind o p (cond (eqb kind curve2_kind) o.low a) (cond (eqb kind curve2_kind) o.high b) c d ≡ true = ap₂ (λ (s e : ℤ). held_of kind o p s e c d) (sym q.start_is) (sym q.end_is) ∙ q.held in
          let x₁ = g.0 in
          let x₂ = g.1 in
          record {
            none-wrong = rw (whole ∙ h, counts ∙ i, in-range ∙ t) refl;
            count-u = x₁ ∙ hu;
            count-v = x₂ ∙ hv;
            small-u = omega arith;
            small-v = omega arith;
            starts = q.start_is ∙ starts ∙ start_is (eqb kind surface_kind) (eqb kind curve2_kind) (one-kind kind) B;
            ends = q.end_is ∙ ends ∙ end_is (eqb kind surface_kind) (eqb kind curve2_kind) (one-kind kind) B;
          }

-- whatever 13 says, both runs are in the table
pub both_stored :
    (p q x : List ℤ) (first u : ℕ) (us vs : List ℤ) (r : Result Checked Reason) → u ≡ length us → q ≡ sets p first us → x ≡ sets q (first + u) vs → StoredIs p x first (us ++ vs) r
both_stored p q x first u us vs r h e g = go r
  where
    all : x ≡ sets p first (us ++ vs)
    all = g ∙ ap₂ (λ (l : List ℤ) (m : ℕ). sets l (first + m) vs) e h ∙ sym (sets-append p first us vs)

    go : (r : Result Checked Reason) → StoredIs p x first (us ++ vs) r
    go (Err z) = ap length all ∙ length-sets p first (us ++ vs)
    go (Ok w) = all
