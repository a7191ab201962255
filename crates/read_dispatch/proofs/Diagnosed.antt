-- A line that was rejected: what `diagnose` finds is the line's refusal, and where it finds nothing there is no room.
use Prim.Native.Nat.{ℕ}
use mathlib.Core.Path.{◌≡◌, refl, ap, ◌∙◌}
use mathlib.Core.List.{List}
use mathlib.Core.Option.{Option, none, some}
use native.Mathlib.Omega.{arith}
use Rattle.text.specs.Words.{Word}
use Rattle.text.specs.Rest.{Rest, rest_at, push}
use Rattle.tables.specs.Tables.{Tables}
use Rattle.keywords.specs.Keywords.{statement_of}
use Rattle.model.specs.Model as model
use Rattle.model.specs.Statements.{Statement, apply}
use Rattle.model.specs.Parse.{Parsed, fine, fault, then, must, unless, Keyword, parse}
use Rattle.model.specs.Room.{Rooms, fits}
use Rattle.model.specs.Read.{carried_in, statement, step}
use Rattle.model.proofs.Parsed.{fine-fault}
use Rattle.read_state.specs.declared.State.{State}
use Rattle.std.specs.Prelude.{Result}
use Rattle.refusals.specs.declared.Refusal as Placed
use Rattle.read_word_checks.specs.Faults.{Refusal, refusal_said, Refused, Nothing}
use Rattle.read_diagnosis.specs.Diagnosis.{diagnosis_of, parse_before, fault_before, GivenIn, DiagnosisIs}
use Rattle.read_diagnosis.proofs.Before.{before-fault}
use Rattle.read_vertex_lines.specs.Holding.{Holds, line_says}
use Rattle.read_vertex_lines.specs.Stepping.{Began, Left}
use Rattle.read_vertex_lines.proofs.Steps.{line-fault}

-- the line at p is refused as the code says
abbrev pub Stops : Rooms → List ℕ → ℕ → model.State → ℕ → Refusal → Type 0
Stops R s p x key (Refused n q) = line_says R s p x ≡ fault n q
Stops R s p x key Nothing = line_says R s p x ≡ fault 14 key

-- the answers of `diagnose` taken apart: 2 first, and then what is wrong with the words
module _ {A : Type 0} where
  refused-is : (y : Parsed A) (n p : ℕ) → Refused n p ≡ diagnosis_of y → y ≡ fault n p
  refused-is (fine a) n p e = absurd (let z : ◌≡◌ {A = ℕ} 0 1 = cc in omega arith)
  refused-is (fault m q) n p e = cc

  nothing_is : (y : Parsed A) → Nothing ≡ diagnosis_of y → (a : A) × (y ≡ fine a)
  nothing_is (fine a) e = (a, refl)
  nothing_is (fault m q) e = absurd (let z : ◌≡◌ {A = ℕ} 0 1 = cc in omega arith)

-- a refusal is the same, whatever would have been parsed
across : {A B : Type 0} {m j n q : ℕ} → ◌≡◌ {A = Parsed A} (fault m j) (fault n q) → ◌≡◌ {A = Parsed B} (fault m j) (fault n q)
across e = cc

same-fault : {A B : Type 0} (o : Option ℕ) (m j n q : ℕ) → unless {A = A} o 2 (fault m j) ≡ fault n q → unless {A = B} o 2 (fault m j) ≡ fault n q
same-fault none m j n q e = across e
same-fault (some i) m j n q e = across e

-- what is found in a line that begins with a word is found in what follows the keyword
words-before : (s : List ℕ) (p at : ℕ) (x : model.State) (w : Word) → rest_at s p ≡ push w (rest_at s at)
    → unless (rest_at s p).bad 2 (fault_before x (rest_at s p).words)
    ≡ unless (rest_at s at).bad 2 (then (carried_in (statement_of w.bytes) w.place) (λ k. parse_before k x w.place (rest_at s at).words))
unfolding fault_before
words-before s p at x w e = ap (λ (q : Rest). unless q.bad 2 (fault_before x q.words)) e

-- ---- a statement that is known
module _ (R : Rooms) (s : List ℕ) (p at : ℕ) {n : ℕ} (x : model.State) (c : State) (t u : Tables) (w : Word) (k : Keyword) (b : Began R s p at n x c t w k) (l : Left R s p at x u w k) where
  abbrev r : Rest
  r = rest_at s at

  -- 2, or what the parser says too
  faulted : (n q : ℕ) (o : Option ℕ) → r.bad ≡ o → unless o 2 (parse_before k x w.place r.words) ≡ fault n q → line_says R s p x ≡ fault n q
  faulted n q none o e = line-fault R s p at x w k b.begins b.keyword n q o (before-fault x w.place r.words k n q e)
  faulted n q (some i) o e =
      ap (λ (z : Rest). unless z.bad 2 (step R x z.words)) b.begins ∙ ap (λ (z : Option ℕ). unless z 2 (step R x (push w r).words)) o ∙ across e

  roomless : (o : Option ℕ) (y : Statement) → r.bad ≡ o → unless o 2 (parse_before k x w.place r.words) ≡ fine y → line_says R s p x ≡ fault 14 w.place
  roomless none y o e = l.roomless o y e
  roomless (some i) y o e = fine-fault e

  found : {A : Type 0} (d : Result A Placed.Refusal) → DiagnosisIs s p c u.vertices.vp d → refusal_said d ≡ diagnosis_of (unless r.bad 2 (parse_before k x w.place r.words))
  found d h =
      h x b.holds.state l.given
      ∙ ap diagnosis_of (words-before s p at x w b.begins ∙ ap (λ (z : Parsed Keyword). unless r.bad 2 (then z (λ k. parse_before k x w.place r.words))) b.keyword)

  by-answer : (a : Refusal) → a ≡ diagnosis_of (unless r.bad 2 (parse_before k x w.place r.words)) → Stops R s p x w.place a
  by-answer (Refused n q) e = faulted n q r.bad refl (refused-is _ n q e)
  by-answer Nothing e = let y = nothing_is _ e in roomless r.bad y.0 refl y.1

  pub diagnosed : {A : Type 0} (d : Result A Placed.Refusal) → DiagnosisIs s p c u.vertices.vp d → Stops R s p x w.place (refusal_said d)
  diagnosed d h = by-answer (refusal_said d) (found d h)

-- ---- one that is refused, or not known
module _ (R : Rooms) (s : List ℕ) (p at : ℕ) {n : ℕ} (x : model.State) (c : State) (t : Tables) (w : Word) (m j : ℕ) (h : Holds R s x c t n) (begins : rest_at s p ≡ push w (rest_at s at))
    (keyword : carried_in (statement_of w.bytes) w.place ≡ fault m j) (given : GivenIn x.model.vertices.vp t.vertices.vp) where
  line-is : line_says R s p x ≡ unless (rest_at s at).bad 2 (fault m j)
  unfolding statement
  line-is =
      ap (λ (q : Rest). unless q.bad 2 (step R x q.words)) begins
      ∙ ap (λ (q : Parsed Keyword). unless (rest_at s at).bad 2 (then q (λ k. then (parse k x w.place (rest_at s at).words) (λ t. must (fits R (apply t x)) 14 w.place (fine (apply t x)))))) keyword

  found-there : {A : Type 0} (d : Result A Placed.Refusal) → DiagnosisIs s p c t.vertices.vp d → refusal_said d ≡ diagnosis_of {A = Statement} (unless (rest_at s at).bad 2 (fault m j))
  found-there d b =
      b x h.state given
      ∙ ap diagnosis_of (words-before s p at x w begins ∙ ap (λ (z : Parsed Keyword). unless (rest_at s at).bad 2 (then z (λ k. parse_before k x w.place (rest_at s at).words))) keyword)

  never-fine : {A : Type 0} (o : Option ℕ) (y : Statement) → unless {A = Statement} o 2 (fault m j) ≡ fine y → A
  never-fine none y e = fine-fault e
  never-fine (some i) y e = fine-fault e

  unknown-answer : (key : ℕ) (a : Refusal) → a ≡ diagnosis_of {A = Statement} (unless (rest_at s at).bad 2 (fault m j)) → Stops R s p x key a
  unknown-answer key (Refused n q) e = line-is ∙ same-fault (rest_at s at).bad m j n q (refused-is _ n q e)
  unknown-answer key Nothing e = let y = nothing_is _ e in never-fine (rest_at s at).bad y.0 y.1

  pub unknown-diagnosed : {A : Type 0} (d : Result A Placed.Refusal) → DiagnosisIs s p c t.vertices.vp d → (key : ℕ) → Stops R s p x key (refusal_said d)
  unknown-diagnosed d b key = unknown-answer key (refusal_said d) (found-there d b)
