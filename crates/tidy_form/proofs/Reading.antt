-- Reading keeps a state good, and its counts small: by the lines.
use Prim.Native.Nat.{ℕ, suc, ◌+◌, ◌≤◌}
use mathlib.Core.Path.{◌≡◌, refl, sym, ap, ◌∙◌, subst}
use mathlib.Core.List.{List, [], ◌∷◌}
use mathlib.Core.Bool.{Bool, true, false, cond}
use mathlib.Core.Option.{Option, none, some}
use mathlib.Core.Logic.{◌⊎◌, inl, inr}
use lib.ListN.{length, length-append}
use lib.Dec.{leb}
use native.Mathlib.Omega.{arith}
use borrow.Author.Tests.{leb-true}
use Rattle.lists.specs.Lists.{all}
use Rattle.lists.proofs.Tests.{and_right}
use Rattle.text.specs.Lines.{Line as JoinedLine, lines_of}
use Rattle.text.specs.Words.{Word, words_of, bad_of}
use Rattle.text.specs.Written.{bytes_of}
use Rattle.text.specs.Tokens.{is_token}
use Rattle.keywords.specs.Keywords.{statement_of}
use Rattle.model.specs.Model.{geometric, texture, normal, parametric, Vertices, Kind, plain, Model, Open, State, is_curve2, curves, start}
use Rattle.model.specs.Statements.{Statement, vertex, element, group, smoothing, material, type, degree, body, parameters, loop, end, passed, apply, ended, closed}
use Rattle.model.specs.Parse.{Parsed, fine, fault, unless, parse}
use Rattle.model.specs.Room.{Rooms, fits}
use Rattle.model.specs.Read.{carried_in, statement, step, Answer, read, refused, finish, on_parsed, read_lines, read_of}
use Rattle.tidy_form.proofs.Texts.{words-tokens, lines-length}
use Rattle.tidy_form.proofs.Words.{Small, then-fine}
use Rattle.tidy_form.proofs.Standing.{seen_of}
use Rattle.tidy_form.proofs.Ready.{Ready, must-fine, unless-fine}
use Rattle.tidy_form.proofs.Parsed.{fit}
use Rattle.tidy_form.proofs.Good.{Good, plus}
use Rattle.tidy_form.proofs.More.{More, more_same, more-join, more-vertex}
use Rattle.model.proofs.Rooms.{parts-fit}
use Rattle.tidy_form.proofs.Keep.{keep, curves-add, ended-vertices}

-- ---- a line changes nothing, or does what one ready statement does
pub record Did (R : Rooms) (x y : State) : Type 0 where
  pub said : Statement
  pub ready : Ready x said
  pub room : fits R (apply said x) ≡ true
  pub is : y ≡ apply said x

pub step-did : (R : Rooms) (x y : State) (ws : List Word) → all is_token (bytes_of ws) ≡ true → step R x ws ≡ fine y → (y ≡ x) ⊎ Did R x y
unfolding statement
step-did R x y [] a h = inl (let z : x ≡ y = cc in sym z)
step-did R x y (w ∷ ws) a h =
    let p = then-fine (carried_in (statement_of w.bytes) w.place) _ y h in
    let q = then-fine (parse p.0 x w.place ws) _ y p.2 in
    let r = must-fine (fits R (apply q.0 x)) 14 w.place _ y q.2 in
    inr (record {
      said = q.0;
      ready = fit x w.place ws q.0 p.0 (and_right (is_token w.bytes) _ a) q.1;
      room = r.0;
      is = (let z = r.1 in let e : apply q.0 x ≡ y = cc in sym e);
    })

pub on_read : (r : Parsed State) (f : State → Answer) (m : Model) → on_parsed r f ≡ read m → (y : State) × (r ≡ fine y) × (f y ≡ read m)
on_read (fine y) f m h = (y, refl, h)
on_read (fault n p) f m h = absurd (let z : ◌≡◌ {A = ℕ} 0 1 = cc in omega arith)

-- the first line of an accepted text, and those after it
pub record First (R : Rooms) (n : ℕ) (ls : List JoinedLine) (x : State) (m : Model) : Type 0 where
  pub state : State
  pub did : (state ≡ x) ⊎ Did R x state
  pub rest : read_lines R n ls state ≡ read m

pub first : (R : Rooms) (n : ℕ) (l : JoinedLine) (ls : List JoinedLine) (x : State) (m : Model) → read_lines R n (l ∷ ls) x ≡ read m → First R n ls x m
first R n l ls x m h =
    let p = on_read (unless (bad_of l) 2 (step R x (words_of l))) (read_lines R n ls) m h in
    let q = unless-fine (bad_of l) 2 (step R x (words_of l)) p.0 p.1 in
    record { state = p.0; did = step-did R x p.0 (words_of l) (words-tokens l) q.1; rest = p.2 }

pub finished : (n : ℕ) (o : Option Open) (m k : Model) → finish n o m ≡ read k → (o ≡ none) × (m ≡ k)
finished n none m k h = (refl, cc)
finished n (some o) m k h = absurd (let z : ◌≡◌ {A = ℕ} 0 1 = cc in omega arith)

-- ---- vertices are only added
pub apply-more : (t : Statement) (x : State) → More x.model.vertices (apply t x).model.vertices
apply-more (vertex k z) x = more-vertex k z x.model.vertices
apply-more (element k cs) x = more_same x.model.vertices
apply-more (group ws) x = more_same x.model.vertices
apply-more (smoothing n) x = more_same x.model.vertices
apply-more (material w) x = more_same x.model.vertices
apply-more (type r t) x = more_same x.model.vertices
apply-more (degree m n) x = more_same x.model.vertices
apply-more (body b cs) x = more_same x.model.vertices
apply-more (parameters d z) x = more_same x.model.vertices
apply-more (loop l) x = more_same x.model.vertices
apply-more end x = subst (More x.model.vertices) (sym (ended-vertices x.open-body x.model)) (more_same x.model.vertices)
apply-more passed x = more_same x.model.vertices

did_more : (R : Rooms) (x y : State) → (y ≡ x) ⊎ Did R x y → More x.model.vertices y.model.vertices
did_more R x y (inl e) = subst (λ (z : State). More x.model.vertices z.model.vertices) (sym e) (more_same x.model.vertices)
did_more R x y (inr d) = subst (λ (z : State). More x.model.vertices z.model.vertices) (sym d.is) (apply-more d.said x)

pub more : (R : Rooms) (n : ℕ) (ls : List JoinedLine) (x : State) (m : Model) → read_lines R n ls x ≡ read m → More x.model.vertices m.vertices
more R n [] x m h = subst (λ (k : Model). More x.model.vertices k.vertices) (finished n x.open-body x.model m h).1 (more_same x.model.vertices)
more R n (l ∷ ls) x m h =
    let p = first R n l ls x m h in
    more-join x.model.vertices p.state.model.vertices m.vertices (did_more R x p.state p.did) (more R n ls p.state m p.rest)

-- ---- counts grow by at most one for each line
pub record Bounded (k : ℕ) (x : State) : Type 0 where
  pub v : length x.model.vertices.v ≤ k
  pub vt : length x.model.vertices.vt ≤ k
  pub vn : length x.model.vertices.vn ≤ k
  pub vp : length x.model.vertices.vp ≤ k
  pub curves : curves x.model.elements ≤ k

one_more : (k : Kind) (n : ℕ) → plus k n ≤ suc n
one_more k n = go (is_curve2 k)
  where
    go : (b : Bool) → cond b (suc n) n ≤ suc n
    go true = omega arith
    go false = omega arith

apply-bounded : (k : ℕ) (t : Statement) (x : State) → Bounded k x → Bounded (suc k) (apply t x)
apply-bounded k (vertex geometric z) x b = let l = length-append x.model.vertices.v (z ∷ []) in omega arith
apply-bounded k (vertex texture z) x b = let l = length-append x.model.vertices.vt (z ∷ []) in omega arith
apply-bounded k (vertex normal z) x b = let l = length-append x.model.vertices.vn (z ∷ []) in omega arith
apply-bounded k (vertex parametric z) x b = let l = length-append x.model.vertices.vp (z ∷ []) in omega arith
apply-bounded k (element j cs) x b =
    let e = curves-add x.model.elements (record { kind = plain j; corners = cs; names = x.names }) in
    omega arith
apply-bounded k (group ws) x b = omega arith
apply-bounded k (smoothing n) x b = omega arith
apply-bounded k (material w) x b = omega arith
apply-bounded k (type r t) x b = omega arith
apply-bounded k (degree m n) x b = omega arith
apply-bounded k (body c cs) x b = omega arith
apply-bounded k (parameters d z) x b = omega arith
apply-bounded k (loop l) x b = omega arith
apply-bounded k end x b = go x.open-body
  where
    go : (o : Option Open) → Bounded (suc k) (record { model = ended o x.model; names = x.names; form = x.form; open-body = none })
    go none = omega arith
    go (some o) =
        let e = curves-add x.model.elements (closed o) in
        let l = one_more (closed o).kind (curves x.model.elements) in
        omega arith
apply-bounded k passed x b = omega arith

did-bounded : (R : Rooms) (k : ℕ) (x y : State) → (y ≡ x) ⊎ Did R x y → Bounded k x → Bounded (suc k) y
did-bounded R k x y (inl e) b = subst (Bounded (suc k)) (sym e) (omega arith)
did-bounded R k x y (inr d) b = subst (Bounded (suc k)) (sym d.is) (apply-bounded k d.said x b)

-- ---- what an accepted text comes to
did-good : (R : Rooms) (X : Vertices) (x y : State) → More x.model.vertices X → (y ≡ x) ⊎ Did R x y → Good X x → Good X y
did-good R X x y u (inl e) g = subst (Good X) (sym e) g
did-good R X x y u (inr d) g = subst (Good X) (sym d.is) (keep X x u g d.said d.ready)

did-fits : (R : Rooms) (x y : State) → (y ≡ x) ⊎ Did R x y → fits R x ≡ true → fits R y ≡ true
did-fits R x y (inl e) f = ap (fits R) e ∙ f
did-fits R x y (inr d) f = ap (fits R) d.is ∙ d.room

pub record Came (R : Rooms) (k : ℕ) (m : Model) : Type 0 where
  pub state : State
  pub good : Good m.vertices state
  pub bounded : Bounded k state
  pub room : fits R state ≡ true
  pub shut : state.open-body ≡ none
  pub model : state.model ≡ m

came : (R : Rooms) (n k : ℕ) (ls : List JoinedLine) (x : State) (m : Model) → read_lines R n ls x ≡ read m → Good m.vertices x → Bounded k x → fits R x ≡ true
    → Came R (k + length ls) m
came R n k [] x m h g b f =
    let p = finished n x.open-body x.model m h in
    record { state = x; good = g; bounded = omega arith; room = f; shut = p.0; model = p.1 }
came R n k (l ∷ ls) x m h g b f =
    let p = first R n l ls x m h in
    let e : suc k + length ls ≡ k + suc (length ls) = omega arith in
    subst (λ (j : ℕ). Came R j m) e
    (came R n (suc k) ls p.state m p.rest (did-good R m.vertices x p.state (more R n (l ∷ ls) x m h) p.did g)
    (did-bounded R k x p.state p.did b) (did-fits R x p.state p.did f))

-- ---- from the start
always-none : (x : Vertices) → Good x start
always-none x =
    record {
      v = tt;
      vt = tt;
      vn = tt;
      vp = tt;
      elements = refl;
      names = record {
        group = λ y n. record { many = λ w. refl; fits = λ w. tt; whole = tt };
        smoothing = λ y n. record { many = λ w. refl; fits = λ w. ((0, refl, refl), tt); whole = tt };
        material = tt;
      };
      form = record { u = refl; v = refl };
      opened = tt;
    }

start_fits : (R : Rooms) → fits R start ≡ true
start_fits R = parts-fit R start (record { vertices = omega arith; elements = omega arith; bodies = omega arith })

-- an accepted text is not too long
pub sized : (R : Rooms) (t : List ℕ) (m : Model) → read_of R t ≡ read m → (length t ≤ 16777216) × (read_lines R (length t) (lines_of t) start ≡ read m)
unfolding read_of
sized R t m h = go (leb (length t) 16777216) refl h
  where
    go : (b : Bool) → leb (length t) 16777216 ≡ b → cond b (read_lines R (length t) (lines_of t) start) (refused 1 0) ≡ read m
        → (length t ≤ 16777216) × (read_lines R (length t) (lines_of t) start ≡ read m)
    go true q h = (leb-true (length t) 16777216 q, h)
    go false q h = absurd (let z : ◌≡◌ {A = ℕ} 0 1 = cc in omega arith)

pub read-came : (R : Rooms) (t : List ℕ) (m : Model) → read_of R t ≡ read m → Came R (length (lines_of t)) m
read-came R t m h =
    let p = sized R t m h in
    subst (λ (k : ℕ). Came R k m) (let e : 0 + length (lines_of t) ≡ length (lines_of t) = omega arith in e)
    (came R (length t) 0 (lines_of t) start m p.1 (always-none m.vertices) (omega arith) (start_fits R))

-- what refers can be written
pub read_small : (R : Rooms) (t : List ℕ) (m : Model) → read_of R t ≡ read m → Small (seen_of m.vertices (curves m.elements))
read_small R t m h =
    let c = read-came R t m h in
    let b = c.bounded in
    let l = lines-length t in
    let k = (sized R t m h).0 in
    subst (λ (j : Model). Small (seen_of j.vertices (curves j.elements))) c.model
    (record { counts = record { v = omega arith; vt = omega arith; vn = omega arith }; vp = omega arith; curves = omega arith })
