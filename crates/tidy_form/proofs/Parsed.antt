-- The rest of the keywords, and all of them together: what a line is parsed as is ready where the line stands.
use Prim.Native.Nat.{ℕ, zero, suc}
use mathlib.Core.Path.{◌≡◌, refl, sym, ap, ap₂, ◌∙◌, subst}
use mathlib.Core.List.{List, [], ◌∷◌}
use mathlib.Core.Bool.{true, false}
use mathlib.Core.Option.{Option, none, some}
use lib.ListN.{length, drop}
use lib.Dec.{leb}
use native.Mathlib.Omega.{arith}
use borrow.Author.Tests.{leb-true, eqb-true}
use Rattle.lists.specs.Lists.{all}
use Rattle.lists.proofs.Tests.{and_right, never}
use Rattle.text.specs.Words.{Word}
use Rattle.text.specs.Written.{bytes_of}
use Rattle.text.specs.Tokens.{is_token}
use Rattle.digits.specs.Said.{says}
use Rattle.keywords.specs.Arguments.{argument_of}
use Rattle.model.specs.Model.{Vertices, ParmDirection, Open, State, curves}
use Rattle.model.specs.Statements.{Statement, smoothing, material, type, degree, end, passed}
use Rattle.model.specs.Parse.{fine, Keyword, a-vertex, an-element, a-body, parm, trim, hole, ends, cstype, deg, g, s, usemtl, over, Value, direction, whole, basis, name, nothing, counted, form_of, allowed, values_of, said_of, placed, direction_of, direction_said, checked, seen_in, parse, says_v, complete, counts_agree, range_within}
use Rattle.model.specs.Standing.{is_v}
use Rattle.model.proofs.Values.{v-is}
use Rattle.statements.specs.declared.rules.Count.TheVariants.{Within}
use Rattle.statements.specs.Rules.{counted_by}
use Rattle.model.proofs.Pieces.{finished}
use Rattle.tidy_form.proofs.Words.{Fitting, values-fit, then-fine, placed-fine}
use Rattle.tidy_form.proofs.Standing.{seen_of, Ends}
use Rattle.tidy_form.proofs.Ready.{Ready, must-fine, put, told, vertex-fit, element-fit, body-fit, parm-fit, loop-fits, group-fit}

module _ (x : State) (p : ℕ) (ws : List Word) (t : Statement) where
  abbrev X : Vertices
  X = x.model.vertices

  abbrev N : ℕ
  N = curves x.model.elements

  type-fit : (xs : List Value) → allowed cstype x.open-body ws ≡ true → counted cstype (length xs) ≡ true
      → Fitting (seen_of X N) (form_of cstype (length xs)) 0 xs → checked cstype x p ws xs ≡ fine t → Ready x t
  type-fit [] a c f h = never c
  type-fit (y ∷ []) a c f h =
      let e : (y ∷ []) ≡ basis f.0.0 ∷ [] = ap (λ (v : Value). v ∷ []) f.0.1 in
      put x p ws (type false f.0.0) t (ap (checked cstype x p ws) (sym e) ∙ h)
      (record { fine = told x p ws (type false f.0.0) (y ∷ []) (λ w. sym e) c f tt; here = a })
  type-fit (y ∷ z ∷ []) a c f h =
      let e : (y ∷ z ∷ []) ≡ nothing ∷ basis f.1.0.0 ∷ [] = ap₂ (λ (v w : Value). v ∷ w ∷ []) f.0 f.1.0.1 in
      put x p ws (type true f.1.0.0) t (ap (checked cstype x p ws) (sym e) ∙ h)
      (record { fine = told x p ws (type true f.1.0.0) (y ∷ z ∷ []) (λ w. sym e) c f tt; here = a })
  type-fit (y ∷ z ∷ w ∷ xs) a c f h =
      absurd (let l = leb-true (suc (suc (suc (length xs)))) 2 (and_right (leb 1 (suc (suc (suc (length xs))))) _ c) in omega arith)

  degree-fits : (xs : List Value) → allowed deg x.open-body ws ≡ true → counted deg (length xs) ≡ true
      → Fitting (seen_of X N) (form_of deg (length xs)) 0 xs → checked deg x p ws xs ≡ fine t → Ready x t
  degree-fits [] a c f h = never c
  degree-fits (y ∷ []) a c f h =
      let e : (y ∷ []) ≡ whole f.0.0 ∷ [] = ap (λ (v : Value). v ∷ []) f.0.1 in
      put x p ws (degree f.0.0 0) t (ap (checked deg x p ws) (sym e) ∙ h)
      (record { fine = told x p ws (degree f.0.0 0) (y ∷ []) (λ w. sym e) c f tt; here = a })
  degree-fits (y ∷ z ∷ []) a c f h = go f.1.0.0 f.1.0.1 f.1.0.2
    where
      go : (n : ℕ) → z ≡ whole n → counted_by (Within 1 20) n ≡ true → Ready x t
      go zero q l = never l
      go (suc n) q l =
          let e : (y ∷ z ∷ []) ≡ whole f.0.0 ∷ whole (suc n) ∷ [] = ap₂ (λ (v w : Value). v ∷ w ∷ []) f.0.1 q in
          put x p ws (degree f.0.0 (suc n)) t (ap (checked deg x p ws) (sym e) ∙ h)
          (record { fine = told x p ws (degree f.0.0 (suc n)) (y ∷ z ∷ []) (λ w. sym e) c f tt; here = a })
  degree-fits (y ∷ z ∷ w ∷ xs) a c f h =
      absurd (let l = leb-true (suc (suc (suc (length xs)))) 2 (and_right (leb 1 (suc (suc (suc (length xs))))) _ c) in omega arith)

  smoothing-fits : (xs : List Value) → allowed s x.open-body ws ≡ true → counted s (length xs) ≡ true
      → Fitting (seen_of X N) (form_of s (length xs)) 0 xs → checked s x p ws xs ≡ fine t → Ready x t
  smoothing-fits [] a c f h = never c
  smoothing-fits (y ∷ []) a c f h =
      let e : (y ∷ []) ≡ whole f.0.0 ∷ [] = ap (λ (v : Value). v ∷ []) f.0.1 in
      put x p ws (smoothing f.0.0) t (ap (checked s x p ws) (sym e) ∙ h)
      (record { fine = told x p ws (smoothing f.0.0) (y ∷ []) (λ w. sym e) c f tt; here = a })
  smoothing-fits (y ∷ z ∷ xs) a c f h = absurd (let l = eqb-true (suc (suc (length xs))) 1 c in omega arith)

  material-fit : (xs : List Value) → allowed usemtl x.open-body ws ≡ true → counted usemtl (length xs) ≡ true
      → Fitting (seen_of X N) (form_of usemtl (length xs)) 0 xs → checked usemtl x p ws xs ≡ fine t → Ready x t
  material-fit [] a c f h = never c
  material-fit (y ∷ []) a c f h =
      let e : (y ∷ []) ≡ name f.0.0 ∷ [] = ap (λ (v : Value). v ∷ []) f.0.1 in
      put x p ws (material f.0.0) t (ap (checked usemtl x p ws) (sym e) ∙ h)
      (record { fine = told x p ws (material f.0.0) (y ∷ []) (λ w. sym e) c f tt; here = a })
  material-fit (y ∷ z ∷ xs) a c f h = absurd (let l = eqb-true (suc (suc (length xs))) 1 c in omega arith)

  end-fit : (o : Option Open) → x.open-body ≡ o → finished o p ≡ fine t → Ready x t
  end-fit none q h = absurd (let z : ◌≡◌ {A = ℕ} 0 1 = cc in omega arith)
  end-fit (some o) q h =
      let p₀ = must-fine (complete o.body.free o.body) 11 p _ t h in
      let p₁ = must-fine (counts_agree o.body.free o.body (length o.controls)) 12 p _ t p₀.1 in
      let p₂ = must-fine (range_within o.body.free o.body) 13 p _ t p₁.1 in
      put x p ws end t p₂.1
      (record { fine = record { many = λ w. refl; fits = λ w. tt; whole = tt }; here = subst Ends (sym q) (record { complete = p₀.0; counts = p₁.0; range = p₂.0 }) })

  first-direction : (us : List Word) (xs : List Value) → counted parm (length xs) ≡ true → values_of (seen_in x) (form_of parm (length us)) 0 us ≡ fine xs
      → (d : ParmDirection) × (says_v us ≡ is_v (some d)) × (xs ≡ direction d ∷ drop 1 xs)
  first-direction [] xs c h = let z : [] ≡ xs = cc in never (ap (λ (y : List Value). counted parm (length y)) z ∙ c)
  first-direction (w ∷ us) xs c h =
      let q = then-fine (placed (said_of (seen_in x) (form_of parm (suc (length us)) 0) w) w.place) _ xs h in
      let r = then-fine (values_of (seen_in x) (form_of parm (suc (length us))) 1 us) _ xs q.2 in
      let z : xs ≡ q.0 ∷ r.0 = (let y = r.2 in cc) in
      go (direction_of (argument_of w.bytes)) refl q.0 r.0 z (placed-fine (direction_said (direction_of (argument_of w.bytes))) w.place q.0 q.1)
    where
      go : (o : Option ParmDirection) → direction_of (argument_of w.bytes) ≡ o → (y : Value) (ys : List Value) → xs ≡ y ∷ ys → direction_said o ≡ says y
          → (d : ParmDirection) × (says_v (w ∷ us) ≡ is_v (some d)) × (xs ≡ direction d ∷ drop 1 xs)
      go none q y ys z h = absurd (let z : ◌≡◌ {A = ℕ} 0 1 = cc in omega arith)
      go (some d) q y ys z h =
          let e : y ≡ direction d = cc in
          (d, v-is (argument_of w.bytes) ∙ ap is_v q, z ∙ ap₂ (λ (a : Value) (b : List Value). a ∷ b) e (sym (ap (drop 1) z)))

  -- what parsing finds on the way
  pub record Way (k : Keyword) (xs : List Value) : Type 0 where
    pub allowed : allowed k x.open-body ws ≡ true
    pub counted : counted k (length xs) ≡ true
    pub values : values_of (seen_in x) (form_of k (length ws)) 0 ws ≡ fine xs
    pub many : length xs ≡ length ws
    pub fits : Fitting (seen_of X N) (form_of k (length xs)) 0 xs
    pub checked : checked k x p ws xs ≡ fine t

  pub way : (k : Keyword) → all is_token (bytes_of ws) ≡ true → parse k x p ws ≡ fine t → (xs : List Value) × Way k xs
  unfolding parse
  way k a h =
      let p₀ = must-fine (allowed k x.open-body ws) 10 p _ t h in
      let p₁ = must-fine (counted k (length ws)) 5 p _ t p₀.1 in
      let p₂ = then-fine (values_of (seen_in x) (form_of k (length ws)) 0 ws) _ t p₁.1 in
      let q = values-fit (seen_in x) (form_of k (length ws)) 0 ws p₂.0 a p₂.1 in (
        p₂.0,
        record {
          allowed = p₀.0;
          counted = ap (counted k) q.many ∙ p₁.0;
          values = p₂.1;
          many = q.many;
          fits = subst (λ (n : ℕ). Fitting (seen_of X N) (form_of k n) 0 p₂.0) (sym q.many) q.fits;
          checked = p₂.2;
        },
      )

  kinds : (k : Keyword) (xs : List Value) → Way k xs → Ready x t
  kinds (a-vertex k) xs w = vertex-fit x p ws xs w.many t k w.allowed w.counted w.fits w.checked
  kinds (an-element k) xs w = element-fit x p ws xs w.many t k w.allowed w.counted w.fits w.checked
  kinds (a-body k) xs w = body-fit x p ws xs w.many t k w.allowed w.counted w.fits w.checked
  kinds parm xs w =
      let d = first-direction ws xs w.counted w.values in
      parm-fit x p ws xs w.many t d.0 d.1 w.allowed w.counted w.fits d.2 w.checked
  kinds trim xs w = loop-fits x p ws xs w.many t false w.allowed w.counted w.fits w.checked
  kinds hole xs w = loop-fits x p ws xs w.many t true w.allowed w.counted w.fits w.checked
  kinds ends xs w = end-fit x.open-body refl w.checked
  kinds cstype xs w = type-fit xs w.allowed w.counted w.fits w.checked
  kinds deg xs w = degree-fits xs w.allowed w.counted w.fits w.checked
  kinds g xs w = group-fit x p ws xs w.many t w.allowed w.fits w.checked
  kinds s xs w = smoothing-fits xs w.allowed w.counted w.fits w.checked
  kinds usemtl xs w = material-fit xs w.allowed w.counted w.fits w.checked
  kinds over xs w = put x p ws passed t w.checked (record { fine = record { many = λ w. refl; fits = λ w. tt; whole = tt }; here = w.allowed })

  pub fit : (k : Keyword) → all is_token (bytes_of ws) ≡ true → parse k x p ws ≡ fine t → Ready x t
  fit k a h = let w = way k a h in kinds k w.0 w.1
