-- What a line is parsed as can be printed, and may stand where the line stands. By cases on the keyword.
use Prim.Native.Nat.{ℕ, zero, suc, ◌+◌, ◌%◌, ◌≤◌}
use mathlib.Core.Path.{◌≡◌, refl, sym, ap, ap₂, ◌∙◌, subst}
use mathlib.Core.List.{List, [], ◌∷◌, ◌++◌, map}
use mathlib.Core.Bool.{Bool, true, false, cond, ◌||◌, not}
use mathlib.Core.Option.{Option, none, some}
use lib.ListN.{length, length-map, length-append, length-drop, drop}
use lib.Dec.{ltb}
use lib.IntN.{ℤ}
use native.Mathlib.Omega.{arith}
use borrow.Author.Tests.{leb-true, eqb-true, ne_eqb}
use Rattle.lists.specs.Lists.{all}
use Rattle.lists.proofs.Tests.{and_right, and_both}
use Rattle.text.specs.Words.{Word}
use Rattle.references.specs.Corner.{Corner, alike}
use Rattle.model.specs.Model.{VertexKind, Vertices, Shape, Free, curve, curve2, surface, ParmDirection, Part, Loop, Form, State, curves}
use Rattle.model.specs.Statements.{Statement, vertex, element, group, body, parameters, loop}
use Rattle.model.specs.Parse.{Parsed, fine, must, unless, a-vertex, an-element, a-body, parm, trim, hole, g, a-number, Value, number, corner, direction, name, counted, form_of, allowed, numbers_of, corners_of, names_of, differing, unlike, narrow, narrow_in, vertex_record, opened_body, in_force, checked, is_surface, says_v, range_words, fewest_controls}
use Rattle.model.specs.Standing.{outside_body, inside_body, is_v}
use Rattle.model.proofs.Pieces.{opened}
use Rattle.tidy_form.specs.declared.Weights.{Weights}
use Rattle.tidy_form.specs.Printed.{range_of}
use Rattle.tidy_form.proofs.Values.{key_of, loop_key, values_in}
use Rattle.tidy_form.proofs.Words.{Fitting}
use Rattle.tidy_form.proofs.Standing.{seen_of, uniform, wide, wide_in, Whole, Fine, Here}
use Rattle.model.proofs.Values.{numbers_of-map, corners-of, line-numbers, line-corners}
use Rattle.tidy_form.proofs.Back.{names-of, parts-of}
use Rattle.tidy_form.proofs.Shapes.{fitting-is, numbers_fit, corners-fit, names-fit, line-fit, loop-fit}
use Rattle.tidy_form.proofs.Coordinates.{vertex-fine}

-- a statement of x that can be printed and may stand in x
pub record Ready (x : State) (t : Statement) : Type 0 where
  pub fine : Fine x.model.vertices (curves x.model.elements) t
  pub here : Here x.form x.open-body t

pub must-fine : {A : Type 0} (b : Bool) (n p : ℕ) (r : Parsed A) (a : A) → must b n p r ≡ fine a → (b ≡ true) × (r ≡ fine a)
must-fine true n p r a h = (refl, h)
must-fine false n p r a h = absurd (let z : ◌≡◌ {A = ℕ} 0 1 = cc in omega arith)

pub unless-fine : {A : Type 0} (o : Option ℕ) (n : ℕ) (r : Parsed A) (a : A) → unless o n r ≡ fine a → (o ≡ none) × (r ≡ fine a)
unless-fine none n r a h = (refl, h)
unless-fine (some p) n r a h = absurd (let z : ◌≡◌ {A = ℕ} 0 1 = cc in omega arith)

cond-none : (b : Bool) (r : Option ℕ) (p : ℕ) → cond b r (some p) ≡ none → (b ≡ true) × (r ≡ none)
cond-none true r p h = (refl, h)
cond-none false r p h = absurd (let z : ◌≡◌ {A = ℕ} 0 1 = cc in omega arith)

-- ---- 9 and 12 of a word, where there are as many words as corners
differing-fit : (c : Corner) (ws : List Word) (cs : List Corner) → length ws ≡ length cs → differing c ws cs ≡ none → all (alike c) cs ≡ true
differing-fit c [] [] l h = refl
differing-fit c [] (d ∷ cs) l h = absurd (omega arith)
differing-fit c (w ∷ ws) [] l h = refl
differing-fit c (w ∷ ws) (d ∷ cs) l h =
    let q = cond-none (alike c d) (differing c ws cs) w.place h in
    and_both q.0 (differing-fit c ws cs (omega arith) q.1)

unlike-fit : (ws : List Word) (cs : List Corner) → length ws ≡ length cs → unlike ws cs ≡ none → uniform cs ≡ true
unlike-fit [] [] l h = refl
unlike-fit [] (c ∷ cs) l h = absurd (omega arith)
unlike-fit (w ∷ ws) [] l h = refl
unlike-fit (w ∷ ws) (c ∷ cs) l h = differing-fit c ws cs (omega arith) h

narrow-fit : (x : Vertices) (ws : List Word) (cs : List Corner) → length ws ≡ length cs → narrow x.vp ws cs ≡ none → all (wide x) cs ≡ true
narrow-fit x [] [] l h = refl
narrow-fit x [] (c ∷ cs) l h = absurd (omega arith)
narrow-fit x (w ∷ ws) [] l h = refl
narrow-fit x (w ∷ ws) (c ∷ cs) l h =
    let q = cond-none (wide x c) (narrow x.vp ws cs) w.place h in
    and_both q.0 (narrow-fit x ws cs (omega arith) q.1)

narrow_in-fit : (k : Free) (x : Vertices) (ws : List Word) (cs : List Corner) → length ws ≡ length cs → narrow_in k x ws cs ≡ none → wide_in k x cs ≡ true
narrow_in-fit curve x ws cs l h = refl
narrow_in-fit curve2 x ws cs l h = narrow-fit x ws cs l h
narrow_in-fit surface x ws cs l h = refl

-- ---- the body that a line opens
record Opened (k : Free) (f : Form) (z : List ℤ) : Type 0 where
  free : (opened_body k f z).free ≡ k
  range : range_of (opened_body k f z).free (opened_body k f z) ≡ z

opened-is : (k : Free) (f : Form) (z : List ℤ) → length z ≡ range_words k → Opened k f z
opened-is curve f [] l = absurd (omega arith)
opened-is curve f (a ∷ []) l = absurd (omega arith)
opened-is curve f (a ∷ b ∷ []) l = record { free = refl; range = refl }
opened-is curve f (a ∷ b ∷ c ∷ z) l = absurd (omega arith)
opened-is curve2 f [] l = record { free = refl; range = refl }
opened-is curve2 f (a ∷ z) l = absurd (omega arith)
opened-is surface f [] l = absurd (omega arith)
opened-is surface f (a ∷ []) l = absurd (omega arith)
opened-is surface f (a ∷ b ∷ []) l = absurd (omega arith)
opened-is surface f (a ∷ b ∷ c ∷ []) l = absurd (omega arith)
opened-is surface f (a ∷ b ∷ c ∷ d ∷ []) l = record { free = refl; range = refl }
opened-is surface f (a ∷ b ∷ c ∷ d ∷ e ∷ z) l = absurd (omega arith)

-- ---- each keyword
module _ (x : State) (p : ℕ) (ws : List Word) where
  abbrev X : Vertices
  X = x.model.vertices

  abbrev N : ℕ
  N = curves x.model.elements

  pub put : (u t : Statement) → fine u ≡ fine t → Ready x u → Ready x t
  put u t e r = subst (Ready x) (let z : u ≡ t = cc in z) r

  -- a statement whose values are those of the line
  pub told : (t : Statement) (xs : List Value) → ((w : Weights) → values_in w t ≡ xs) → counted (key_of t) (length xs) ≡ true → Fitting (seen_of X N) (form_of (key_of t) (length xs)) 0 xs
      → Whole X t → Fine X N t
  told t xs e c f h =
      record {
        many = λ w. ap (λ (y : List Value). counted (key_of t) (length y)) (e w) ∙ c;
        fits = λ w. subst (λ (y : List Value). Fitting (seen_of X N) (form_of (key_of t) (length y)) 0 y) (sym (e w)) f;
        whole = h;
      }

  module _ (xs : List Value) (many : length xs ≡ length ws) (t : Statement) where
    pub vertex-fit : (k : VertexKind) → allowed (a-vertex k) x.open-body ws ≡ true → counted (a-vertex k) (length xs) ≡ true
        → Fitting (seen_of X N) (form_of (a-vertex k) (length xs)) 0 xs → checked (a-vertex k) x p ws xs ≡ fine t → Ready x t
    vertex-fit k a c f h =
        let q = numbers_fit (seen_of X N) 0 xs f in
        let z : numbers_of xs ≡ q.0 = ap numbers_of q.1 ∙ numbers_of-map q.0 in
        put (vertex k (vertex_record k q.0)) t (ap (λ (y : List ℤ). fine (vertex k (vertex_record k y))) (sym z) ∙ h)
        (record { fine = vertex-fine X N k q.0 (ap (counted (a-vertex k)) (sym (ap length q.1 ∙ length-map q.0 number)) ∙ c) q.2; here = a })

    pub element-fit : (k : Shape) → allowed (an-element k) x.open-body ws ≡ true → counted (an-element k) (length xs) ≡ true
        → Fitting (seen_of X N) (form_of (an-element k) (length xs)) 0 xs → checked (an-element k) x p ws xs ≡ fine t → Ready x t
    element-fit k a c f h =
        let q = corners-fit (seen_of X N) _ 0 xs f in
        let z : corners_of xs ≡ q.0 = ap corners_of q.1 ∙ corners-of q.0 in
        let l : length ws ≡ length (corners_of xs) = sym many ∙ ap length q.1 ∙ length-map q.0 corner ∙ ap length (sym z) in
        let r = unless-fine (unlike ws (corners_of xs)) 9 _ t h in
        put (element k (corners_of xs)) t r.1
        (record { fine = told (element k (corners_of xs)) xs (λ w. ap (map corner) z ∙ sym q.1) c f (unlike-fit ws (corners_of xs) l r.0); here = a })

    pub body-fit : (k : Free) → allowed (a-body k) x.open-body ws ≡ true → counted (a-body k) (length xs) ≡ true
        → Fitting (seen_of X N) (form_of (a-body k) (length xs)) 0 xs → checked (a-body k) x p ws xs ≡ fine t → Ready x t
    body-fit k a c f h =
        let b : range_words k + fewest_controls k ≤ length xs = leb-true (range_words k + fewest_controls k) (length xs) c in
        let q = line-fit (seen_of X N) k (range_words k) 0 xs (omega arith) (omega arith) f in
        let r = q.numbers in
        let cs = q.corners in
        let vs = drop (range_words k) ws in
        let z : numbers_of xs ≡ r = ap numbers_of q.are ∙ line-numbers r cs in
        let y : corners_of xs ≡ cs = ap corners_of q.are ∙ line-corners r cs in
        let h' : opened k x p vs cs r ≡ fine t = ap₂ (λ (u : List Corner) (w : List ℤ). opened k x p vs u w) (sym y) (sym z) ∙ h in
        let l₁ = length-append (map number r) (map corner cs) in
        let l₂ = length-map r number in
        let l₃ = length-map cs corner in
        let l₄ = ap length q.are in
        let l₅ = q.many in
        let l₆ = length-drop (range_words k) ws in
        let l : length vs ≡ length cs = omega arith in
        let u₁ = unless-fine (unlike vs cs) 9 _ t h' in
        let u₂ = must-fine (in_force k x.form x.form.basis) 11 p _ t u₁.1 in
        let u₃ = unless-fine (narrow_in k X vs cs) 12 _ t u₂.1 in
        put (body (opened_body k x.form r) cs) t u₃.1
        (assemble k r cs (opened-is k x.form r q.many) a c f q.are (unlike-fit vs cs l u₁.0) u₂.0 (narrow_in-fit k X vs cs l u₃.0))
      where
        assemble : (k : Free) (r : List ℤ) (cs : List Corner) → Opened k x.form r → outside_body x.open-body ≡ true → counted (a-body k) (length xs) ≡ true
            → Fitting (seen_of X N) (form_of (a-body k) (length xs)) 0 xs → xs ≡ map number r ++ map corner cs → uniform cs ≡ true
            → in_force k x.form x.form.basis ≡ true → wide_in k X cs ≡ true
            → Ready x (body (opened_body k x.form r) cs)
        assemble k r cs o a c f e u i w =
            let b = opened_body k x.form r in
            let fr = o.free in
            record {
              fine = told (body b cs) xs (λ v. ap (λ (y : List ℤ). map number y ++ map corner cs) o.range ∙ sym e) (ap (λ (y : Free). counted (a-body y) (length xs)) fr ∙ c)
                  (subst (λ (y : Free). Fitting (seen_of X N) (form_of (a-body y) (length xs)) 0 xs) (sym fr) f) (u, ap (λ (y : Free). wide_in y X cs) fr ∙ w);
              here = (a, record { force = ap (λ (y : Free). in_force y x.form x.form.basis) fr ∙ i; gives = ap₂ (λ (y : Free) (y' : List ℤ). opened_body y x.form y') fr o.range });
            }

    pub parm-fit : (d : ParmDirection) → says_v ws ≡ is_v (some d) → allowed parm x.open-body ws ≡ true → counted parm (length xs) ≡ true
        → Fitting (seen_of X N) (form_of parm (length xs)) 0 xs → xs ≡ direction d ∷ drop 1 xs → checked parm x p ws xs ≡ fine t → Ready x t
    parm-fit d v a c f e h =
        let f' = subst (Fitting (seen_of X N) (form_of parm (length xs)) 0) e f in
        let q = numbers_fit (seen_of X N) 1 (drop 1 xs) (fitting-is (seen_of X N) (form_of parm (length xs)) (λ j. a-number) 1 (drop 1 xs) (λ j l. after j l) f'.1) in
        let e' : xs ≡ direction d ∷ map number q.0 = e ∙ ap (λ (y : List Value). direction d ∷ y) q.1 in
        let h' : fine (parameters d q.0) ≡ fine t = ap (λ (y : List ℤ). fine (parameters d y)) (sym (numbers_of-map q.0)) ∙ ap (checked parm x p ws) (sym e') ∙ h in
        put (parameters d q.0) t h'
        (record { fine = told (parameters d q.0) xs (λ w. sym e') c f tt; here = ap (λ (y : Bool). inside_body x.open-body (λ k. is_surface k || not y)) (sym v) ∙ a })
      where
        after : (j : ℕ) → 1 ≤ j → form_of parm (length xs) j ≡ a-number
        after zero l = absurd (omega arith)
        after (suc j) l = rw (ne_eqb (suc j) 0 (λ e. omega arith)) refl

    pub loop-fits : (b : Bool) → allowed (loop_key b) x.open-body ws ≡ true → counted (loop_key b) (length xs) ≡ true
        → Fitting (seen_of X N) (form_of (loop_key b) (length xs)) 0 xs → checked (loop_key b) x p ws xs ≡ fine t → Ready x t
    loop-fits true a c f h =
        let q = loop-fit (seen_of X N) 0 xs refl (eqb-true (length xs % 3) 0 (and_right (ltb 0 (length xs)) _ c)) f in
        let l : Loop = record { hole = true; parts = q.0 } in
        let h' : fine (loop l) ≡ fine t = ap (λ (y : List Part). fine (loop (record { hole = true; parts = y }))) (sym (parts-of q.0)) ∙ ap (checked hole x p ws) (sym q.1) ∙ h in
        put (loop l) t h' (record { fine = told (loop l) xs (λ w. sym q.1) c f tt; here = a })
    loop-fits false a c f h =
        let q = loop-fit (seen_of X N) 0 xs refl (eqb-true (length xs % 3) 0 (and_right (ltb 0 (length xs)) _ c)) f in
        let l : Loop = record { hole = false; parts = q.0 } in
        let h' : fine (loop l) ≡ fine t = ap (λ (y : List Part). fine (loop (record { hole = false; parts = y }))) (sym (parts-of q.0)) ∙ ap (checked trim x p ws) (sym q.1) ∙ h in
        put (loop l) t h' (record { fine = told (loop l) xs (λ w. sym q.1) c f tt; here = a })

    pub group-fit : allowed g x.open-body ws ≡ true → Fitting (seen_of X N) (form_of g (length xs)) 0 xs → checked g x p ws xs ≡ fine t → Ready x t
    group-fit a f h =
        let q = names-fit (seen_of X N) 0 xs f in
        let z : names_of xs ≡ q.0 = ap names_of q.1 ∙ names-of q.0 in
        put (group (names_of xs)) t h (record { fine = told (group (names_of xs)) xs (λ w. ap (map name) z ∙ sym q.1) refl f tt; here = a })
