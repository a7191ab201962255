-- One line: from what its statement parses to and whether there is room for it, to what the line comes to and what holds after it.
use Prim.Native.Nat.{ℕ, suc, ◌+◌, ◌-◌, ◌≤◌}
use mathlib.Core.Path.{◌≡◌, ap, ap₂, ◌∙◌}
use mathlib.Core.List.{List}
use mathlib.Core.Bool.{Bool, true, false}
use mathlib.Core.Option.{Option, none}
use native.Mathlib.Omega.{arith}
use lib.ListN.{length}
use Rattle.text.specs.Words.{Word}
use Rattle.text.specs.Rest.{Rest, rest_at, push}
use Rattle.keywords.specs.Keywords.{statement_of}
use Rattle.model.specs.Model as model
use Rattle.model.specs.Statements.{Statement, apply}
use Rattle.model.specs.Parse.{Parsed, fine, fault, then, must, unless, Keyword, parse}
use Rattle.model.specs.Room.{Rooms, fits}
use Rattle.model.specs.Read.{carried_in, statement, step}
use Rattle.read_state.specs.Bounds.{Bounded}
use Rattle.read_state.proofs.Bounds.{bounded-after}
use Rattle.read_state.proofs.Lines.{line_of, line_small}
use Rattle.read_vertex_lines.specs.Holding.{line_says}
use Rattle.read_bodies.proofs.Steps.{words-within}

-- ---- the line at p begins with the word w, which is the keyword k, and goes on at `at`
module _ (R : Rooms) (s : List ℕ) (p at : ℕ) (x : model.State) (w : Word) (k : Keyword) (opened : rest_at s p ≡ push w (rest_at s at))
    (keyword : carried_in (statement_of w.bytes) w.place ≡ fine k) where
  abbrev r : Rest
  r = rest_at s at

  line-is : line_says R s p x ≡ unless r.bad 2 (statement R x w r.words)
  line-is = ap (λ (q : Rest). unless q.bad 2 (step R x q.words)) opened

  after : (t : Statement) → parse k x w.place r.words ≡ fine t
      → statement R x w r.words ≡ must (fits R (apply t x)) 14 w.place (fine (apply t x))
  unfolding statement
  after t h =
      ap (λ (q : Parsed Keyword). then q (λ k. then (parse k x w.place r.words) (λ t. must (fits R (apply t x)) 14 w.place (fine (apply t x))))) keyword
      ∙ ap (λ (q : Parsed Statement). then q (λ t. must (fits R (apply t x)) 14 w.place (fine (apply t x)))) h

  pub line-fine : (t : Statement) → r.bad ≡ none → parse k x w.place r.words ≡ fine t → fits R (apply t x) ≡ true → line_says R s p x ≡ fine (apply t x)
  line-fine t b h f = line-is ∙ ap₂ (λ (o : Option ℕ) (q : Parsed model.State). unless o 2 q) b (after t h ∙ ap (λ (y : Bool). must y 14 w.place (fine (apply t x))) f)

  pub line-roomless : (t : Statement) → r.bad ≡ none → parse k x w.place r.words ≡ fine t → fits R (apply t x) ≡ false → line_says R s p x ≡ fault 14 w.place
  line-roomless t b h f = line-is ∙ ap₂ (λ (o : Option ℕ) (q : Parsed model.State). unless o 2 q) b (after t h ∙ ap (λ (y : Bool). must y 14 w.place (fine (apply t x))) f)

  pub line-fault : (n q : ℕ) → r.bad ≡ none → parse k x w.place r.words ≡ fault n q → line_says R s p x ≡ fault n q
  unfolding statement
  line-fault n q b h =
      line-is ∙ ap₂ (λ (o : Option ℕ) (q : Parsed model.State). unless o 2 q) b
      (ap (λ (q : Parsed Keyword). then q (λ k. then (parse k x w.place r.words) (λ t. must (fits R (apply t x)) 14 w.place (fine (apply t x))))) keyword
      ∙ ap (λ (q : Parsed Statement). then q (λ t. must (fits R (apply t x)) 14 w.place (fine (apply t x)))) h)

  -- the next line starts where this one's rest ends, and no count passes it
  pub next-is : (rest_at s p).next ≡ r.next
  next-is = ap (λ (q : Rest). q.next) opened

  pub line-bounded : {n : ℕ} (t : Statement) → parse k x w.place r.words ≡ fine t → Bounded n x → Bounded (n + (r.next - p)) (apply t x)
  line-bounded {n} t h b =
      let l = line_small k x w.place r.words t (line_of k x w.place r.words t h) in
      let v = words-within s p in
      let e : (rest_at s p).next ≡ r.next = next-is in
      let c : length (rest_at s p).words ≡ suc (length r.words) = ap (λ (q : Rest). length q.words) opened in
      bounded-after x.model x.names x.form t x.open-body (length r.words) n (n + (r.next - p)) l.0 l.1 (let g : n + suc (length r.words) ≤ n + (r.next - p) = omega arith in g) b
