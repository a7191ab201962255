-- What the lines of a body's statements say by 01's order of refusals is what the code finds in its own.
use Prim.Native.Nat.{ℕ, suc, ◌*◌, ◌%◌}
use native.Mathlib.Omega.{arith}
use mathlib.Core.Path.{◌≡◌, refl, sym, ap, ◌∙◌}
use mathlib.Core.List.{List, [], ◌∷◌}
use mathlib.Core.Bool.{Bool, true, false, cond, ◌&&◌, ◌||◌, not}
use mathlib.Core.Option.{Option, none, some}
use borrow.Author.Tests.{le-leb, leb-true, lt-ltb, ltb-true, eq-eqb, eqb-true}
use lib.ListN.{length}
use lib.Dec.{eqb, ltb, eqb-suc-zero}
use lib.IntN.{ℤ}
use Rattle.lists.proofs.Tests.{and_left, and_right, and_both, never}
use Rattle.text.specs.Words.{Word}
use Rattle.text.specs.Rest.{Rest}
use Rattle.digits.specs.Said.{Said, says, wrong}
use Rattle.decimals.specs.Number.{number_of}
use Rattle.references.specs.Reference.{reference_of}
use Rattle.keywords.specs.Arguments.{argument_of}
use Rattle.model.specs.Model.{ParmDirection, Part, Open, State, curves}
use Rattle.model.specs.Statements.{Statement, parameters, loop}
use Rattle.model.specs.Parse.{Parsed, fine, fault, then, must, parm, trim, hole, is_surface, direction_of, says_v, allowed, counted, WordForm, a-number, a-curve, form_of, Value, number, whole, direction, on_said, direction_said, Seen, placed, values_of, numbers_of, wholes_of, parts_of, checked, seen_in, parse}
use Rattle.model.specs.Standing.{inside_body, is_v}
use Rattle.model.proofs.Values.{v-is}
use Rattle.read_bodies.specs.Numbers.{number_before, leading}
use Rattle.read_bodies.specs.Parm.{ParmLine}
use Rattle.read_bodies.specs.Loops.{loop_word, on_part, loop_parts, LoopLine}
use Rattle.model.proofs.Parsed.{fine-fault}

-- ---- a line that passes, and one that passed
passes : {A : Type 0} {a b : Bool} {c : Parsed (List Value)} {xs : List Value} (key : ℕ) (f : List Value → Parsed A) → a ≡ true → b ≡ true → c ≡ fine xs → must a 10 key (must b 5 key (then c f)) ≡ f xs
passes key f p q r = rw (p, q, r) refl

record Past {A : Type 0} (a b : Bool) (c : Parsed (List Value)) (f : List Value → Parsed A) (t : A) : Type 0 where
  first : a ≡ true
  second : b ≡ true
  values : List Value
  third : c ≡ fine values
  last : f values ≡ fine t

past : {A : Type 0} (a b : Bool) (c : Parsed (List Value)) (f : List Value → Parsed A) (key : ℕ) {t : A} → must a 10 key (must b 5 key (then c f)) ≡ fine t → Past a b c f t
past false b c f key h = fine-fault h
past true false c f key h = fine-fault h
past true true (fault n p) f key h = fine-fault h
past true true (fine xs) f key h = record { first = refl; second = refl; values = xs; third = refl; last = h }

rest : (v : Value) (c : Parsed (List Value)) {xs : List Value} → then c (λ vs. fine (v ∷ vs)) ≡ fine xs → (ys : List Value) × (c ≡ fine ys)
rest v (fine ys) k = (ys, refl)
rest v (fault n m) k = fine-fault k

-- ---- numbers, word by word
abbrev numbers : List ℤ → List Value
numbers [] = []
numbers (z ∷ zs) = number z ∷ numbers zs

numbers_of-map : (zs : List ℤ) → numbers_of (numbers zs) ≡ zs
numbers_of-map [] = refl
numbers_of-map (z ∷ zs) = ap (λ (l : List ℤ). z ∷ l) (numbers_of-map zs)

module _ (n : Seen) (f : ℕ → WordForm) (all : (j : ℕ) → f (suc j) ≡ a-number) where
  pub values-numbers : (i : ℕ) (ws : List Word) → length (leading ws) ≡ length ws → values_of n f (suc i) ws ≡ fine (numbers (leading ws))
  values-numbers i [] h = refl
  values-numbers i (w ∷ ws) h = rw (all i) (go (number_of w.bytes) h (values-numbers (suc i) ws))
    where
      go :
          (x : Said ℤ) → length (number_before x (leading ws)) ≡ suc (length ws) → (length (leading ws) ≡ length ws → values_of n f (suc (suc i)) ws ≡ fine (numbers (leading ws))) →
          then (placed (on_said number x) w.place) (λ v. then (values_of n f (suc (suc i)) ws) (λ vs. fine (v ∷ vs))) ≡ fine (numbers (number_before x (leading ws)))
      go (says z) k r = rw (r (omega arith)) refl
      go (wrong m) k r = absurd (omega arith)

  pub only-numbers : (i : ℕ) (ws : List Word) (xs : List Value) → values_of n f (suc i) ws ≡ fine xs → (length (leading ws) ≡ length ws) × (xs ≡ numbers (leading ws))
  only-numbers i [] xs h = let e : [] ≡ xs = cc in (refl, sym e)
  only-numbers i (w ∷ ws) xs h = go (number_of w.bytes) (values_of n f (suc (suc i)) ws) (rw (all i) at h) (only-numbers (suc i) ws)
    where
      go :
          (x : Said ℤ) (c : Parsed (List Value)) → then (placed (on_said number x) w.place) (λ v. then c (λ vs. fine (v ∷ vs))) ≡ fine xs →
          ((ys : List Value) → c ≡ fine ys → (length (leading ws) ≡ length ws) × (ys ≡ numbers (leading ws))) →
          (length (number_before x (leading ws)) ≡ suc (length ws)) × (xs ≡ numbers (number_before x (leading ws)))
      go (wrong m) c k r = fine-fault k
      go (says z) (fault m p) k r = fine-fault k
      go (says z) (fine ys) k r =
          let e = r ys refl in
          let d : number z ∷ ys ≡ xs = cc in
          (ap suc e.0, sym d ∙ ap (λ (l : List Value). number z ∷ l) e.1)

-- ---- parm
parm-numbers : (m j : ℕ) → form_of parm m (suc j) ≡ a-number
parm-numbers m j = rw (eqb-suc-zero j) refl

module _ (x : State) (o : Open) (is : x.open-body ≡ some o) (key : ℕ) (r : Rest) where
  module _ {d : ParmDirection} {zs : List ℤ} (l : ParmLine (is_surface o.body.free) r d zs) where
    may : allowed parm x.open-body (l.first ∷ l.others) ≡ true
    may =
        ap (λ (b : Option Open). inside_body b (λ k. is_surface k || not (says_v (l.first ∷ l.others)))) is
        ∙ ap (λ (v : Bool). is_surface o.body.free || not v) (v-is (argument_of l.first.bytes) ∙ ap is_v l.direction) ∙ l.belongs

    enough : counted parm (length (l.first ∷ l.others)) ≡ true
    enough = let a = l.all in let b = l.two in le-leb 3 (suc (length l.others)) (omega arith)

    said : values_of (seen_in x) (form_of parm (length (l.first ∷ l.others))) 0 (l.first ∷ l.others) ≡ fine (direction d ∷ numbers zs)
    said =
        let e = l.direction in
        let a : length (leading l.others) ≡ length l.others = ap length l.numbers ∙ l.all in
        let v = values-numbers (seen_in x) (form_of parm (length (l.first ∷ l.others))) (parm-numbers (length (l.first ∷ l.others))) 0 l.others a in
        rw (e, v, l.numbers) refl

    pub parm-says : parse parm x key r.words ≡ fine (parameters d zs)
    unfolding parse
    parm-says =
        ap (parse parm x key) l.words
        ∙ passes key (checked parm x key (l.first ∷ l.others)) may enough said
        ∙ ap (λ (z : List ℤ). fine (parameters d z)) (numbers_of-map zs)

  no-direction : (e : Option ParmDirection) (p : ℕ) {A : Type 0} (g : Value → Parsed A) {t : A} → then (placed (direction_said e) p) g ≡ fine t → (d : ParmDirection) × (e ≡ some d)
  no-direction none p g h = fine-fault h
  no-direction (some d) p g h = (d, refl)

  -- what a parm line that passes says
  pub parm-only : (t : Statement) → r.bad ≡ none → parse parm x key r.words ≡ fine t → (d : ParmDirection) × ((zs : List ℤ) × ParmLine (is_surface o.body.free) r d zs)
  unfolding parse
  parm-only t g h = go r.words refl (past (allowed parm x.open-body r.words) (counted parm (length r.words)) (values_of (seen_in x) (form_of parm (length r.words)) 0 r.words) (checked parm x key r.words) key h)
    where
      go :
          (ws : List Word) → r.words ≡ ws → Past (allowed parm x.open-body ws) (counted parm (length ws)) (values_of (seen_in x) (form_of parm (length ws)) 0 ws) (checked parm x key ws) t →
          (d : ParmDirection) × ((zs : List ℤ) × ParmLine (is_surface o.body.free) r d zs)
      go [] e p = never p.second
      go (w ∷ ws) e p =
          let k = no-direction (direction_of (argument_of w.bytes)) w.place _ p.third in
          let d = k.0 in
          let s = k.1 in
          let v = p.third in
          let y = rw s at v in
          let z = rest (direction d) (values_of (seen_in x) (form_of parm (length (w ∷ ws))) 1 ws) y in
          let a = (only-numbers (seen_in x) (form_of parm (length (w ∷ ws))) (parm-numbers (length (w ∷ ws))) 0 ws z.0 z.1).0 in
          let c = leb-true 3 (suc (length ws)) p.second in (
            d,
            (
              leading ws,
              record {
                first = w;
                others = ws;
                words = e;
                direction = s;
                belongs =
                    sym (ap (λ (b : Option Open). inside_body b (λ k. is_surface k || not (says_v (w ∷ ws)))) is ∙ ap (λ (v : Bool). is_surface o.body.free || not v) (v-is (argument_of w.bytes) ∙ ap is_v s)) ∙ p.first;
                numbers = refl;
                all = a;
                two = omega arith;
                good = g;
              },
            ),
          )

  -- a line that `take_parm` rejects is refused
  pub parm-left : (t : Statement) → ((d : ParmDirection) (zs : List ℤ) → ParmLine (is_surface o.body.free) r d zs → ⊥) → r.bad ≡ none → parse parm x key r.words ≡ fine t → ⊥
  parm-left t n g h = let p = parm-only t g h in n p.0 p.1.0 p.1.1

-- ---- trim and hole
-- the form of word i: every third is a curv2
abbrev third : ℕ → WordForm
third i = cond (eqb (i % 3) 2) a-curve a-number

abbrev triples : List Part → List Value
triples [] = []
triples (p ∷ ps) = number p.from ∷ number p.to ∷ whole p.curve ∷ triples ps

parts-of : (ps : List Part) → parts_of (numbers_of (triples ps)) (wholes_of (triples ps)) ≡ ps
parts-of [] = refl
parts-of (p ∷ ps) = ap (λ (l : List Part). p ∷ l) (parts-of ps)

form-0 : (i : ℕ) → i % 3 ≡ 0 → third i ≡ a-number
form-0 i h = rw h refl

form-1 : (i : ℕ) → i % 3 ≡ 0 → third (suc i) ≡ a-number
form-1 i h = let e : suc i % 3 ≡ 1 = omega arith in rw e refl

form-2 : (i : ℕ) → i % 3 ≡ 0 → third (suc (suc i)) ≡ a-curve
form-2 i h = let e : suc (suc i) % 3 ≡ 2 = omega arith in rw e refl

form-3 : (i : ℕ) → i % 3 ≡ 0 → suc (suc (suc i)) % 3 ≡ 0
form-3 i h = omega arith

module _ (n : Seen) where
  -- three words and those after them
  abbrev one : ℕ → Said ℤ → Said ℤ → Said ℕ → ℕ → ℕ → ℕ → Parsed (List Value) → Parsed (List Value)
  one i x y z p q r c =
      then (placed (on_said number x) p) (λ u. then (then (placed (on_said number y) q) (λ v. then (then (placed (on_said whole z) r) (λ w. then c (λ ws. fine (w ∷ ws)))) (λ ws. fine (v ∷ ws)))) (λ ws. fine (u ∷ ws)))

  three : (i : ℕ) → i % 3 ≡ 0 → (a b k : Word) (ws : List Word) →
      values_of n third i (a ∷ b ∷ k ∷ ws)
      ≡ one i (number_of a.bytes) (number_of b.bytes) (reference_of n.curves k.bytes) a.place b.place k.place (values_of n third (suc (suc (suc i))) ws)
  three i h a b k ws = rw (form-0 i h, form-1 i h, form-2 i h) refl

  pub values-parts : (i : ℕ) → i % 3 ≡ 0 → (ws : List Word) → 3 * length (loop_parts n.curves ws) ≡ length ws → values_of n third i ws ≡ fine (triples (loop_parts n.curves ws))
  values-parts i h [] e = refl
  values-parts i h (a ∷ []) e = absurd (omega arith)
  values-parts i h (a ∷ b ∷ []) e = absurd (omega arith)
  values-parts i h (a ∷ b ∷ k ∷ ws) e =
      three i h a b k ws ∙ go (number_of a.bytes) (number_of b.bytes) (reference_of n.curves k.bytes) e (values-parts (suc (suc (suc i))) (form-3 i h) ws)
    where
      go :
          (x y : Said ℤ) (z : Said ℕ) → 3 * length (on_part x y z (loop_parts n.curves ws)) ≡ suc (suc (suc (length ws))) →
          (3 * length (loop_parts n.curves ws) ≡ length ws → values_of n third (suc (suc (suc i))) ws ≡ fine (triples (loop_parts n.curves ws))) →
          one i x y z a.place b.place k.place (values_of n third (suc (suc (suc i))) ws) ≡ fine (triples (on_part x y z (loop_parts n.curves ws)))
      go (says u) (says v) (says m) d r = rw (r (omega arith)) refl
      go (says u) (says v) (wrong m) d r = absurd (omega arith)
      go (says u) (wrong m) z d r = absurd (omega arith)
      go (wrong m) y z d r = absurd (omega arith)

  pub only_parts : (i : ℕ) → i % 3 ≡ 0 → (ws : List Word) (xs : List Value) → length ws % 3 ≡ 0 → values_of n third i ws ≡ fine xs → 3 * length (loop_parts n.curves ws) ≡ length ws
  only_parts i h [] xs m e = refl
  only_parts i h (a ∷ []) xs m e = absurd (let z : ◌≡◌ {A = ℕ} 1 0 = m in omega arith)
  only_parts i h (a ∷ b ∷ []) xs m e = absurd (let z : ◌≡◌ {A = ℕ} 2 0 = m in omega arith)
  only_parts i h (a ∷ b ∷ k ∷ ws) xs m e =
      go (number_of a.bytes) (number_of b.bytes) (reference_of n.curves k.bytes) (values_of n third (suc (suc (suc i))) ws) (sym (three i h a b k ws) ∙ e) (λ ys. only_parts (suc (suc (suc i))) (form-3 i h) ws ys (omega arith))
    where
      go :
          (x y : Said ℤ) (z : Said ℕ) (c : Parsed (List Value)) → one i x y z a.place b.place k.place c ≡ fine xs →
          ((ys : List Value) → c ≡ fine ys → 3 * length (loop_parts n.curves ws) ≡ length ws) →
          3 * length (on_part x y z (loop_parts n.curves ws)) ≡ suc (suc (suc (length ws)))
      go (says u) (says v) (says l) (fine ys) d r = let j = r ys refl in omega arith
      go (says u) (says v) (says l) (fault q p) d r = fine-fault d
      go (says u) (says v) (wrong l) c d r = fine-fault d
      go (says u) (wrong l) z c d r = fine-fault d
      go (wrong l) y z c d r = fine-fault d

module _ (x : State) (o : Open) (is : x.open-body ≡ some o) (surface : is_surface o.body.free ≡ true) (key : ℕ) (r : Rest) where
  may-loop : inside_body x.open-body is_surface ≡ true
  may-loop = ap (λ (b : Option Open). inside_body b is_surface) is ∙ surface

  pub loop-says : (h : Bool) {ps : List Part} → LoopLine (curves x.model.elements) r ps → parse (loop_word h) x key r.words ≡ fine (loop (record { hole = h; parts = ps }))
  unfolding parse
  loop-says h {ps} l =
      let a = l.all in
      let s = l.some in
      let c : ltb 0 (length r.words) ≡ true = lt-ltb 0 (length r.words) (omega arith) in
      let d : length r.words % 3 ≡ 0 = omega arith in
      let v = values-parts (seen_in x) 0 refl r.words (ap (λ (ps : List Part). 3 * length ps) l.parts ∙ l.all) in
      let e : parts_of (numbers_of (triples (loop_parts (curves x.model.elements) r.words))) (wholes_of (triples (loop_parts (curves x.model.elements) r.words))) ≡ ps = parts-of (loop_parts (curves x.model.elements) r.words) ∙ l.parts in
      go h (and_both c (eq-eqb (length r.words % 3) 0 d)) v e
    where
      go :
          (h : Bool) → (ltb 0 (length r.words) && eqb (length r.words % 3) 0) ≡ true → {xs : List Value} → values_of (seen_in x) third 0 r.words ≡ fine xs → parts_of (numbers_of xs) (wholes_of xs) ≡ ps →
          parse (loop_word h) x key r.words ≡ fine (loop (record { hole = h; parts = ps }))
      go false c v e = passes key (checked trim x key r.words) may-loop c v ∙ ap (λ (ps : List Part). fine (loop (record { hole = false; parts = ps }))) e
      go true c v e = passes key (checked hole x key r.words) may-loop c v ∙ ap (λ (ps : List Part). fine (loop (record { hole = true; parts = ps }))) e

  -- what a trim or hole line that passes says
  pub loop-only : (h : Bool) (t : Statement) → r.bad ≡ none → parse (loop_word h) x key r.words ≡ fine t → LoopLine (curves x.model.elements) r (loop_parts (curves x.model.elements) r.words)
  unfolding parse
  loop-only h t g e = go h e
    where
      line : {xs : List Value} → (ltb 0 (length r.words) && eqb (length r.words % 3) 0) ≡ true → values_of (seen_in x) third 0 r.words ≡ fine xs → LoopLine (curves x.model.elements) r (loop_parts (curves x.model.elements) r.words)
      line {xs} c v =
          let a = ltb-true 0 (length r.words) (and_left (ltb 0 (length r.words)) (eqb (length r.words % 3) 0) c) in
          let b = eqb-true (length r.words % 3) 0 (and_right (ltb 0 (length r.words)) (eqb (length r.words % 3) 0) c) in
          let d = only_parts (seen_in x) 0 refl r.words xs b v in
          record { parts = refl; all = d; some = omega arith; good = g }

      go : (h : Bool) → parse (loop_word h) x key r.words ≡ fine t → LoopLine (curves x.model.elements) r (loop_parts (curves x.model.elements) r.words)
      go false e =
          let p = past (allowed trim x.open-body r.words) (counted trim (length r.words)) (values_of (seen_in x) (form_of trim (length r.words)) 0 r.words) (checked trim x key r.words) key e in
          line p.second p.third
      go true e =
          let p = past (allowed hole x.open-body r.words) (counted hole (length r.words)) (values_of (seen_in x) (form_of hole (length r.words)) 0 r.words) (checked hole x key r.words) key e in
          line p.second p.third
