-- Demand 2: the tidy text of an accepted text is read as the same model, apart from where names stand. By the statements of the tidy text.
use Prim.Native.Nat.{ℕ, suc, ◌≤◌}
use mathlib.Core.Path.{◌≡◌, refl, sym, ap, ap₂, ◌∙◌, subst}
use mathlib.Core.List.{List, [], ◌∷◌, map}
use mathlib.Core.Bool.{Bool, true, false, cond}
use mathlib.Core.Option.{Option, none, some}
use lib.ListN.{length}
use native.Mathlib.Omega.{arith}
use native.Mathlib.Nat.{le_refl}
use borrow.Author.Tests.{le-leb}
use Rattle.lists.specs.Lists.{all}
use Rattle.lists.proofs.Tests.{and_both, never}
use Rattle.text.specs.Lines.{Line as JoinedLine, lines_of}
use Rattle.text.specs.Words.{Word, words_of}
use Rattle.text.specs.Written.{bytes_of, written_lines}
use Rattle.text.specs.Tokens.{is_token}
use Rattle.keywords.specs.Keywords.{keyword_of}
use Rattle.model.specs.Model.{Vertices, Names, Kind, plain, Model, Form, Open, State, is_curve2, curves, start}
use Rattle.model.specs.Statements.{Statement, vertex, element, group, smoothing, material, type, degree, body, parameters, loop, end, passed, apply, ended, closed}
use Rattle.model.specs.Parse.{Parsed, fine, unless, parse}
use Rattle.model.specs.Room.{Rooms, fits}
use Rattle.model.specs.Read.{statement, step, read, refused, finish, on_parsed, read_lines, read_of}
use Rattle.tidy_form.specs.declared.Weights.{Weights}
use Rattle.tidy_form.specs.Printed.{keyword_in, words_after, printed, tidy_text}
use Rattle.tidy_form.specs.Tidied.{tidied}
use Rattle.tidy_form.specs.Bare.{bare_elements, bare, Agree}
use Rattle.tidy_form.proofs.Values.{key_of, key_back}
use Rattle.tidy_form.proofs.Words.{Small}
use Rattle.tidy_form.proofs.Standing.{seen_of, Fine, Here}
use Rattle.tidy_form.proofs.Back.{renamed, back}
use Rattle.tidy_form.proofs.Ready.{Ready}
use Rattle.tidy_form.proofs.Good.{plus}
use Rattle.tidy_form.proofs.More.{More, more_same, more-join, small-down}
use Rattle.tidy_form.proofs.Keep.{curves-add}
use Rattle.tidy_form.proofs.Rooms.{NoMore, no-more-same, no-more-join, fits-down, grows}
use Rattle.tidy_form.proofs.Bare.{bare_opening, bare_state, bare_statement, renamed-bare, bare-apply, curves-bare, here-bare, needs-bare}
use Rattle.tidy_form.proofs.Texts.{Say, text-back}
use Rattle.tidy_form.proofs.Tokens.{line-tokens}
use Rattle.tidy_form.proofs.Reading.{apply-more, Came, read-came, read_small}
use Rattle.tidy_form.proofs.Goes.{Stand, runs, at}
use Rattle.tidy_form.proofs.Elements.{tidied-goes}

-- ---- later statements take nothing back
pub record Later (s u : State) : Type 0 where
  pub more : More s.model.vertices u.model.vertices
  pub curves : curves s.model.elements ≤ curves u.model.elements
  pub room : NoMore s u

one_more : (k : Kind) (n : ℕ) → n ≤ plus k n
one_more k n = go (is_curve2 k)
  where
    go : (b : Bool) → n ≤ cond b (suc n) n
    go true = omega arith
    go false = omega arith

curves-more : (t : Statement) (s : State) → curves s.model.elements ≤ curves (apply t s).model.elements
curves-more (vertex k z) s = omega arith
curves-more (element k cs) s = let e = curves-add s.model.elements (record { kind = plain k; corners = cs; names = s.names }) in omega arith
curves-more (group ws) s = omega arith
curves-more (smoothing n) s = omega arith
curves-more (material w) s = omega arith
curves-more (type r t) s = omega arith
curves-more (degree m n) s = omega arith
curves-more (body b cs) s = omega arith
curves-more (parameters d z) s = omega arith
curves-more (loop l) s = omega arith
curves-more end s = go s.open-body
  where
    go : (o : Option Open) → curves s.model.elements ≤ curves (ended o s.model).elements
    go none = omega arith
    go (some o) = let e = curves-add s.model.elements (closed o) in let l = one_more (closed o).kind (curves s.model.elements) in omega arith
curves-more passed s = omega arith

here-still : (f : Form) (o : Option Open) (t : Statement) → Here f o t → Here f o (bare_statement t)
here-still f o (vertex k z) h = h
here-still f o (element k cs) h = h
here-still f o (group ws) h = h
here-still f o (smoothing n) h = h
here-still f o (material w) h = h
here-still f o (type r t) h = h
here-still f o (degree m n) h = h
here-still f o (body b cs) h = h
here-still f o (parameters d z) h = h
here-still f o (loop l) h = h
here-still f o end h = h
here-still f o passed h = h

later : (ts : List Statement) (s : State) → Stand s ts → Later s (runs ts s)
later [] s h = record { more = more_same s.model.vertices; curves = le_refl (curves s.model.elements); room = no-more-same s }
later (t ∷ ts) s h =
    let u = apply (bare_statement t) s in
    let i = later ts u h.1 in
    record {
      more = more-join s.model.vertices u.model.vertices (runs ts u).model.vertices (apply-more (bare_statement t) s) i.more;
      curves = (let a = curves-more (bare_statement t) s in let b = i.curves in omega arith);
      room = no-more-join s u (runs ts u) (grows s (bare_statement t) (here-still s.form s.open-body t h.0.here)) i.room;
    }

-- ---- a printed line, read
module _ (c : Weights) (R : Rooms) (x : State) (t : Statement) (ready : Ready (bare_state x) t) (small : Small (seen_of x.model.vertices (curves x.model.elements)))
    (room : fits R (apply (bare_statement t) (bare_state x)) ≡ true) where
  line-back : (p : ℕ) (ws : List Word) → bytes_of ws ≡ words_after c t → parse (key_of t) x p ws ≡ fine (renamed ws t)
  line-back p ws e =
      back c x p ws t small (subst (λ (n : ℕ). Fine x.model.vertices n t) (curves-bare x.model.elements) ready.fine) (here-bare x.form x.open-body t ready.here) e

  came-to : (ws : List Word) → bytes_of ws ≡ words_after c t → bare_state (apply (renamed ws t) x) ≡ apply (bare_statement t) (bare_state x)
  came-to ws e = bare-apply x (renamed ws t) ∙ ap (λ (u : Statement). apply u (bare_state x)) (renamed-bare c ws t e)

  has_room : (ws : List Word) → bytes_of ws ≡ words_after c t → fits R (apply (renamed ws t) x) ≡ true
  has_room ws e = fits-down R (apply (renamed ws t) x) (bare_state (apply (renamed ws t) x)) (needs-bare (apply (renamed ws t) x)).0 (ap (fits R) (came-to ws e) ∙ room)

  step_back : (vs : List Word) → bytes_of vs ≡ printed c t → (y : State) × (step R x vs ≡ fine y) × (bare_state y ≡ apply (bare_statement t) (bare_state x))
  unfolding statement
  step_back [] e = absurd (let z : ◌≡◌ {A = ℕ} 0 1 = cc in omega arith)
  step_back (w ∷ ws) e =
      let a : w.bytes ≡ keyword_of (keyword_in t) = cc in
      let b : bytes_of ws ≡ words_after c t = cc in
      (apply (renamed ws t) x, rw (a, key_back t w.place, line-back w.place ws b, has_room ws b) refl, came-to ws b)

-- ---- all printed lines, read
pub record Reread (R : Rooms) (n : ℕ) (ls : List JoinedLine) (x u : State) : Type 0 where
  pub state : State
  pub reads : read_lines R n ls x ≡ finish n state.open-body state.model
  pub is : bare_state state ≡ u

reread : (c : Weights) (R : Rooms) (n : ℕ) (ls : List JoinedLine) (ts : List Statement) (x s : State) → bare_state x ≡ s → Stand s ts → Say ls (map (printed c) ts)
    → fits R (runs ts s) ≡ true → Small (seen_of (runs ts s).model.vertices (curves (runs ts s).model.elements)) → Reread R n ls x (runs ts s)
reread c R n [] [] x s q h y f m = record { state = x; reads = refl; is = q }
reread c R n [] (t ∷ ts) x s q h y f m = never y
reread c R n (l ∷ ls) [] x s q h y f m = never y
reread c R n (l ∷ ls) (t ∷ ts) x s q h y f m =
    let u = apply (bare_statement t) s in
    let L = later (t ∷ ts) s h in
    let v : s.model.vertices ≡ x.model.vertices = ap (λ (z : State). z.model.vertices) (sym q) in
    let b : curves s.model.elements ≡ curves x.model.elements = ap (λ (z : State). curves z.model.elements) (sym q) ∙ curves-bare x.model.elements in
    let m' = small-down s.model.vertices (runs ts u).model.vertices (curves s.model.elements) (curves (runs ts u).model.elements) L.more L.curves m in
    let k = step_back c R x t (subst (λ (z : State). Ready z t) (sym q) h.0)
    (subst (λ (z : Vertices). Small (seen_of z (curves x.model.elements))) v (subst (λ (j : ℕ). Small (seen_of s.model.vertices j)) b m'))
    (ap (λ (z : State). fits R (apply (bare_statement t) z)) q ∙ fits-down R u (runs ts u) (later ts u h.1).room f) (words_of l) y.1 in
    let i = reread c R n ls ts k.0 u (k.2 ∙ ap (apply (bare_statement t)) q) h.1 y.2 f m in
    record {
      state = i.state;
      reads = ap (λ (b : Option ℕ). on_parsed (unless b 2 (step R x (words_of l))) (read_lines R n ls)) y.0
          ∙ ap (λ (r : Parsed State). on_parsed r (read_lines R n ls)) k.1
          ∙ i.reads;
      is = i.is;
    }

stand-tokens : (c : Weights) (ts : List Statement) (s : State) → Stand s ts → all (all is_token) (map (printed c) ts) ≡ true
stand-tokens c [] s h = refl
stand-tokens c (t ∷ ts) s h = and_both (line-tokens c s.model.vertices (curves s.model.elements) t h.0.fine) (stand-tokens c ts (apply (bare_statement t) s) h.1)

no-open : (o : Option Open) → bare_opening o ≡ none → o ≡ none
no-open none e = refl
no-open (some o) e = absurd (let z : ◌≡◌ {A = ℕ} 0 1 = cc in omega arith)

-- names and form need no room
same-room : (R : Rooms) (y : State) (n : Names) (f : Form) → fits R (record { model = y.model; names = n; form = f; open-body = y.open-body }) ≡ fits R y
unfolding fits
same-room R y n f = refl

ended-fits : (R : Rooms) (m : Model) (y : State) → y.open-body ≡ none → y.model ≡ m → fits R y ≡ true → (n : Names) (f : Form)
    → fits R (at m.vertices (bare_elements m.elements) n f) ≡ true
ended-fits R m y o q h n f =
    let s = at m.vertices m.elements n f in
    let z : fits R s ≡ true =
    ap₂ (λ (k : Model) (p : Option Open). fits R (record { model = k; names = n; form = f; open-body = p })) (sym q) (sym o) ∙ same-room R y n f ∙ h in
    same-room R (bare_state s) n f ∙ fits-down R (bare_state s) s (needs-bare s).1 z

-- ---- (a) the tidy text of a model such as reading keeps finds the model's room, and is read as the same model, apart from where names stand
pub good-read : (c : Weights) (R : Rooms) (n : ℕ) (m : Model) → Came R n m → Small (seen_of m.vertices (curves m.elements)) → length (tidy_text c m) ≤ 16777216
    → (k : Model) × (read_of R (tidy_text c m) ≡ read k) × Agree k m
unfolding read_of tidy_text bare Agree
good-read c R n m r few l =
    let w = tidied-goes m r.state r.good r.model in
    let ts = tidied m in
    let T = written_lines (map (printed c) ts) in
    let u = at m.vertices (bare_elements m.elements) w.names w.form in
    let e : runs ts start ≡ u = w.goes.ends in
    let s : Small (seen_of u.model.vertices (curves u.model.elements)) = subst (λ (n : ℕ). Small (seen_of m.vertices n)) (sym (curves-bare m.elements)) few in
    let f : fits R u ≡ true = ended-fits R m r.state r.shut r.model r.room w.names w.form in
    let i = reread c R (length T) (lines_of T) ts start start refl w.goes.stand (text-back (map (printed c) ts) (stand-tokens c ts start w.goes.stand)) (ap (fits R) e ∙ f)
    (subst (λ (z : State). Small (seen_of z.model.vertices (curves z.model.elements))) (sym e) s) in
    let b : bare_state i.state ≡ u = i.is ∙ e in (
      i.state.model,
      ap (λ (b : Bool). cond b (read_lines R (length T) (lines_of T) start) (refused 1 0)) (le-leb (length T) 16777216 l)
          ∙ i.reads
          ∙ ap (λ (o : Option Open). finish (length T) o i.state.model) (no-open i.state.open-body (ap (λ (z : State). z.open-body) b)),
      ap (λ (z : State). z.model) b,
    )

-- so is the tidy text of an accepted text
pub tidy-read : (c : Weights) (R : Rooms) (t : List ℕ) (m : Model) → read_of R t ≡ read m → length (tidy_text c m) ≤ 16777216
    → (k : Model) × (read_of R (tidy_text c m) ≡ read k) × Agree k m
tidy-read c R t m h l = good-read c R (length (lines_of t)) m (read-came R t m h) (read_small R t m h) l
