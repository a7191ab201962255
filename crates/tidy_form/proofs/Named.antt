-- The names of every element of an accepted text are the words of the part of the text that its record gives. By the lines.
use Prim.Native.Nat.{ℕ, zero, suc, ◌+◌}
use mathlib.Core.Path.{◌≡◌, refl, sym, ap, ap₂, ◌∙◌, subst}
use mathlib.Core.List.{List, [], ◌∷◌, ◌++◌, map}
use mathlib.Core.Bool.{true}
use mathlib.Core.Option.{Option, none, some}
use lib.ListN.{length, drop}
use lib.Seq.{drop-drop}
use native.Mathlib.Omega.{arith}
use borrow.Author.Tests.{le-leb, eqb-true}
use Rattle.lists.proofs.Tests.{never}
use Rattle.text.specs.Lines.{Line as JoinedLine, gap, line_of, stride_of, lines_from, lines_of}
use Rattle.text.specs.Words.{Word, words, words_of, bad_of}
use Rattle.digits.specs.Degree.{name_of}
use Rattle.keywords.specs.Keywords.{statement_of}
use Rattle.tables.specs.Asking.{part_of}
use Rattle.model.specs.Model.{Free, Element, Model, Open, State, start}
use Rattle.model.specs.Statements.{Statement, vertex, element, group, smoothing, material, type, degree, body, parameters, loop, end, passed, apply, on_open, with_body, with_parameters, with_loop, ended}
use Rattle.model.specs.Parse.{fine, unless, Keyword, a-vertex, an-element, a-body, parm, trim, hole, ends, cstype, deg, g, s, usemtl, over, a-name, Value, name, Seen, said_of, placed, values_of, counted, checked, names_of, corners_of, unlike, in_force, narrow_in, range_words, complete, counts_agree, range_within, seen_in, parse, form_of, material_of}
use Rattle.model.proofs.Pieces.{finished}
use Rattle.model.specs.Room.{Rooms, fits}
use Rattle.model.specs.Read.{carried_in, statement, step, read, read_lines, read_of}
use Rattle.model.proofs.Placed.{WordsStand, NamesStand, ElementsStand}
use Rattle.tidy_form.proofs.Words.{then-fine, placed-fine, on-says}
use Rattle.tidy_form.proofs.Back.{names-of}
use Rattle.tidy_form.proofs.Ready.{must-fine, unless-fine}
use Rattle.tidy_form.proofs.Reading.{on_read, sized}
use Rattle.tidy_form.proofs.Reading as reading
use Rattle.tidy_form.proofs.Runs.{names-run}

-- ---- names that stand in the text t
module _ (t : List ℕ) where
  abbrev OpenStands : Option Open → Type 0
  OpenStands none = Unit {0}
  OpenStands (some o) = NamesStand t o.names

  record Standing (x : State) : Type 0 where
    names : NamesStand t x.names
    elements : ElementsStand t x.model.elements
    opened : OpenStands x.open-body

  -- the names that a statement sets
  abbrev Sets : Statement → Type 0
  Sets (vertex k z) = Unit {0}
  Sets (element k cs) = Unit {0}
  Sets (group ws) = WordsStand t ws
  Sets (smoothing n) = Unit {0}
  Sets (material w) = WordsStand t (w ∷ [])
  Sets (type r b) = Unit {0}
  Sets (degree m n) = Unit {0}
  Sets (body b cs) = Unit {0}
  Sets (parameters d z) = Unit {0}
  Sets (loop l) = Unit {0}
  Sets end = Unit {0}
  Sets passed = Unit {0}

  add : (es : List Element) (e : Element) → ElementsStand t es → NamesStand t e.names → ElementsStand t (es ++ e ∷ [])
  add [] e h n = (n, tt)
  add (x ∷ es) e h n = (h.0, add es e h.1 n)

  pub none-stands : WordsStand t []
  unfolding part_of
  none-stands = rw (le-leb 0 (length t) (omega arith)) refl

  -- ---- applying
  module _ (x : State) (h : Standing x) where
    abbrev holding : Option Open → State
    holding o = record { model = x.model; names = x.names; form = x.form; open-body = o }

    inside : (o : Option Open) (f : Open → Open) → ((b : Open) → (f b).names ≡ b.names) → OpenStands o → OpenStands (on_open f (holding o)).open-body
    inside none f e k = tt
    inside (some o) f e k = subst (NamesStand t) (sym (e o)) k

    close : (o : Option Open) → OpenStands o → ElementsStand t (ended o x.model).elements
    close none k = h.elements
    close (some o) k = add x.model.elements _ h.elements k

    apply-stands : (u : Statement) → Sets u → Standing (apply u x)
    apply-stands (vertex k z) w = record { names = h.names; elements = h.elements; opened = h.opened }
    apply-stands (element k cs) w = record { names = h.names; elements = add x.model.elements _ h.elements h.names; opened = h.opened }
    apply-stands (group ws) w = record { names = record { group = w; material = h.names.material }; elements = h.elements; opened = h.opened }
    apply-stands (smoothing n) w = record { names = record { group = h.names.group; material = h.names.material }; elements = h.elements; opened = h.opened }
    apply-stands (material v) w = record { names = record { group = h.names.group; material = w }; elements = h.elements; opened = h.opened }
    apply-stands (type r b) w = record { names = h.names; elements = h.elements; opened = h.opened }
    apply-stands (degree m n) w = record { names = h.names; elements = h.elements; opened = h.opened }
    apply-stands (body b cs) w = record { names = h.names; elements = h.elements; opened = h.names }
    apply-stands (parameters d z) w = record { names = h.names; elements = h.elements; opened = inside x.open-body (with_body (with_parameters d z)) (λ b. refl) h.opened }
    apply-stands (loop l) w = record { names = h.names; elements = h.elements; opened = inside x.open-body (with_body (with_loop l)) (λ b. refl) h.opened }
    apply-stands end w = record { names = h.names; elements = close x.open-body h.opened; opened = tt }
    apply-stands passed w = h

  -- ---- parsing: the names are the line's own words
  names-are : (n : Seen) (i : ℕ) (ws : List Word) (xs : List Value) → values_of n (λ j. a-name) i ws ≡ fine xs → xs ≡ map name ws
  names-are n i [] xs e = cc
  names-are n i (w ∷ ws) xs e =
      let p = then-fine (placed (said_of n a-name w) w.place) _ xs e in
      let q = then-fine (values_of n (λ j. a-name) (suc i) ws) _ xs p.2 in
      let z : p.0 ∷ q.0 ≡ xs = (let y = q.2 in cc) in
      let v = (on-says (λ b. name w) (name_of w.bytes) p.0 (placed-fine (said_of n a-name w) w.place p.0 p.1)).2 in
      sym z ∙ ap₂ (λ (a : Value) (b : List Value). a ∷ b) v (names-are n (suc i) ws q.0 q.1)

  module _ (x : State) (p : ℕ) (u : Statement) where
    put : (v : Statement) → fine v ≡ fine u → Sets v → Sets u
    put v e w = subst Sets (let z : v ≡ u = cc in z) w

    body-sets : (k : Free) (ws : List Word) (xs : List Value) → checked (a-body k) x p ws xs ≡ fine u → Sets u
    body-sets k ws xs e =
        let vs = drop (range_words k) ws in
        let a = unless-fine (unlike vs (corners_of xs)) 9 _ u e in
        let b = must-fine (in_force k x.form x.form.basis) 11 p _ u a.1 in
        let c = unless-fine (narrow_in k x.model.vertices vs (corners_of xs)) 12 _ u b.1 in
        put _ c.1 tt

    end-sets : (o : Option Open) → finished o p ≡ fine u → Sets u
    end-sets none e = absurd (let z : ◌≡◌ {A = ℕ} 0 1 = cc in omega arith)
    end-sets (some o) e =
        let a = must-fine (complete o.body.free o.body) 11 p _ u e in
        let b = must-fine (counts_agree o.body.free o.body (length o.controls)) 12 p _ u a.1 in
        let c = must-fine (range_within o.body.free o.body) 13 p _ u b.1 in
        put end c.1 tt

    material-sets : (ws : List Word) → counted usemtl (length ws) ≡ true → WordsStand t ws → fine (material_of ws) ≡ fine u → Sets u
    material-sets [] c h e = never c
    material-sets (w ∷ []) c h e = put (material w) e h
    material-sets (w ∷ v ∷ ws) c h e = absurd (let l = eqb-true (suc (suc (length ws))) 1 c in omega arith)

    sets : (k : Keyword) (ws : List Word) (xs : List Value) → WordsStand t ws → counted k (length ws) ≡ true → values_of (seen_in x) (form_of k (length ws)) 0 ws ≡ fine xs
        → checked k x p ws xs ≡ fine u → Sets u
    sets (a-vertex k) ws xs h c v e = put _ e tt
    sets (an-element k) ws xs h c v e = put _ (unless-fine (unlike ws (corners_of xs)) 9 _ u e).1 tt
    sets (a-body k) ws xs h c v e = body-sets k ws xs e
    sets parm ws xs h c v e = put _ e tt
    sets trim ws xs h c v e = put _ e tt
    sets hole ws xs h c v e = put _ e tt
    sets ends ws xs h c v e = end-sets x.open-body e
    sets cstype ws xs h c v e = put _ e tt
    sets deg ws xs h c v e = put _ e tt
    sets g ws xs h c v e =
        let q : names_of xs ≡ ws = ap names_of (names-are (seen_in x) 0 ws xs v) ∙ names-of ws in
        put (group ws) (ap (λ (y : List Word). fine (group y)) (sym q) ∙ e) h
    sets s ws xs h c v e = put _ e tt
    sets usemtl ws xs h c v e =
        let q : names_of xs ≡ ws = ap names_of (names-are (seen_in x) 0 ws xs v) ∙ names-of ws in
        material-sets ws c h (ap (λ (y : List Word). fine (material_of y)) (sym q) ∙ e)
    sets over ws xs h c v e = put _ e tt

    parse-sets : (k : Keyword) (ws : List Word) → WordsStand t ws → parse k x p ws ≡ fine u → Sets u
    unfolding parse
    parse-sets k ws h e =
        let a = must-fine (Rattle.model.specs.Parse.allowed k x.open-body ws) 10 p _ u e in
        let b = must-fine (counted k (length ws)) 5 p _ u a.1 in
        let c = then-fine (values_of (seen_in x) (form_of k (length ws)) 0 ws) _ u b.1 in
        sets k ws c.0 h b.0 c.1 c.2

  -- ---- reading
  abbrev InText : List JoinedLine → Type 0
  InText [] = Unit {0}
  InText (l ∷ ls) = (l.bytes ≡ line_of (drop l.place t)) × InText ls

  lines-in : (n p : ℕ) (l : List ℕ) → drop p t ≡ l → InText (lines_from n p l)
  lines-in zero p l d = tt
  lines-in (suc n) p [] d = tt
  lines-in (suc n) p (b ∷ bs) d =
      (ap line_of (sym d), lines-in n (p + stride_of (b ∷ bs)) (drop (stride_of (b ∷ bs)) (b ∷ bs)) (sym (drop-drop (stride_of (b ∷ bs)) p t) ∙ ap (drop (stride_of (b ∷ bs))) d))

  step-stands : (R : Rooms) (x y : State) (l : JoinedLine) (vs : List Word) → l.bytes ≡ line_of (drop l.place t) → words_of l ≡ vs → step R x vs ≡ fine y → Standing x → Standing y
  unfolding statement
  step-stands R x y l [] b q e h = subst Standing (let z : x ≡ y = cc in z) h
  step-stands R x y l (w ∷ ws) b q e h =
      let a = then-fine (carried_in (statement_of w.bytes) w.place) _ y e in
      let c = then-fine (parse a.0 x w.place ws) _ y a.2 in
      let d = must-fine (fits R (apply c.0 x)) 14 w.place _ y c.2 in
      let r = names-run t l.place w ws (ap (words gap l.place) (sym b) ∙ q) in
      subst Standing (let y' = d.1 in let z : apply c.0 x ≡ y = cc in z) (apply-stands x h c.0 (parse-sets x w.place c.0 a.0 ws r c.1))

  lines-stand : (R : Rooms) (n : ℕ) (ls : List JoinedLine) (x : State) (m : Model) → InText ls → read_lines R n ls x ≡ read m → Standing x → ElementsStand t m.elements
  lines-stand R n [] x m i e h = subst (λ (k : Model). ElementsStand t k.elements) (reading.finished n x.open-body x.model m e).1 h.elements
  lines-stand R n (l ∷ ls) x m i e h =
      let a = on_read (unless (bad_of l) 2 (step R x (words_of l))) (read_lines R n ls) m e in
      let b = unless-fine (bad_of l) 2 (step R x (words_of l)) a.0 a.1 in
      lines-stand R n ls a.0 m i.1 a.2 (step-stands R x a.0 l (words_of l) i.0 refl b.1 h)

  pub read-stands : (R : Rooms) (m : Model) → read_of R t ≡ read m → ElementsStand t m.elements
  unfolding lines_of
  read-stands R m e =
      lines-stand R (length t) (lines_from (length t) 0 t) start m (lines-in (length t) 0 t refl) (sized R t m e).1
      (record { names = record { group = none-stands; material = none-stands }; elements = tt; opened = tt })
