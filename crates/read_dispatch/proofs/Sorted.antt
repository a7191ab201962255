-- The line at a place, by what stands first in it: its end, a byte that is not allowed, or a keyword, whose statement decides.
use Prim.Native.Nat.{ℕ, ◌+◌, ◌-◌, ◌≤◌}
use mathlib.Core.Path.{◌≡◌, refl, sym, ap, ◌∙◌, subst}
use mathlib.Core.Logic.{◌⊎◌, inl, inr, ⊎_elim}
use mathlib.Core.List.{List}
use mathlib.Core.Bool.{Bool, true, false, cond}
use mathlib.Core.Option.{Option}
use native.Mathlib.Omega.{arith}
use lib.ListN.{length, drop}
use lib.Dec.{eqb}
use Rattle.text.specs.Words.{Word, word_of}
use Rattle.text.specs.Rest.{Rest, rest_at, word_at, end_of, WordMet, EndMet, BadMet}
use Rattle.tables.specs.Tables.{Tables}
use Rattle.keywords.specs.Keywords.{statement_of, letter_of}
use Rattle.keywords.specs.Lookup.{of_letter, keyword_at}
use Rattle.keywords.specs.declared.Keyword as spelled
use Rattle.statements.specs.declared.VertexKind.TheVariants.{Geometric, Texture, Normal, Parametric}
use Rattle.statements.specs.declared.Shape.TheVariants.{Point, Line, Face}
use Rattle.statements.specs.declared.Free.TheVariants.{Curve, Curve2, Surface}
use Rattle.statements.specs.declared.Carried as carried
use Rattle.statements.specs.declared.Carried.TheVariants.{Vertex, Element, Body, Parameters, Trim, Hole, End, BodyType, Degree, Group, Smoothing, Material, PassedOver}
use Rattle.statements.specs.declared.Statement.{Statement}
use Rattle.statements.specs.declared.Statement.TheVariants.{Carried, Refused, Unknown}
use Rattle.model.specs.Model as model
use Rattle.model.specs.Parse.{fine, fault, unless, Keyword}
use Rattle.model.specs.Room.{Rooms}
use Rattle.model.specs.Read.{carried_in, step}
use Rattle.read_state.specs.declared.State.{State}
use Rattle.read_state.proofs.Bounds.{later}
use Rattle.refusals.specs.declared.Refusal.{Refusal}
use Rattle.read_word_checks.specs.Faults.{refusal_said}
use Rattle.read_diagnosis.specs.Diagnosis.{DiagnosisIs}
use Rattle.read_dispatch.specs.declared.families.Family.{Family}
use Rattle.read_dispatch.specs.declared.keys.Key as keys
use Rattle.read_dispatch.specs.declared.keys.Key.TheVariants as found
use Rattle.std.specs.Prelude.{Result, Ok, Err}
use Rattle.refusals.specs.declared.Reason.{Reason}
use Rattle.refusals.specs.declared.Reason.TheVariants.{ByteNotAllowed, NoTableRoom}
use Rattle.text.specs.declared.Parsed.{Parsed}
use Rattle.read_vertex_lines.specs.Bounds.{InBounds}
use Rattle.read_vertex_lines.specs.Holding.{Holds, WithinLimit}
use Rattle.read_vertex_lines.specs.Stepping.{Step, refuses, rejected, Began, StepIs}
use Rattle.read_dispatch.specs.Taking.{KeyIs, LineIs, family_in, family_of, FamilyIs, goes_on, stops}
use Rattle.read_vertex_lines.proofs.Given.{given-in}
use Rattle.read_vertex_lines.proofs.Bounds as kept
use Rattle.read_dispatch.proofs.Diagnosed.{Stops, diagnosed, unknown-diagnosed}

-- ---- a statement: the step of its keyword, or rejected
record Known (s : List ℕ) (at : ℕ) (c : State) (t u : Tables) (r : Step) (k : Statement) (key : ℕ) : Type 0 where
  pub keyword : Keyword
  pub is : carried_in k key ≡ fine keyword
  pub ended : eqb (letter_of k) 32 ≡ false
  pub step : StepIs s at keyword c t u r

record Strange (t u : Tables) (r : Step) (k : Statement) (key : ℕ) : Type 0 where
  pub number : ℕ
  pub is : carried_in k key ≡ fault number key
  pub gave-up : r ≡ rejected
  pub kept : u ≡ t

-- its letter is no blank
marked : (k : carried.Carried) → eqb (letter_of (Carried k)) 32 ≡ false
marked (Vertex Geometric) = refl
marked (Vertex Texture) = refl
marked (Vertex Normal) = refl
marked (Vertex Parametric) = refl
marked (Element Point) = refl
marked (Element Line) = refl
marked (Element Face) = refl
marked (Body Curve) = refl
marked (Body Curve2) = refl
marked (Body Surface) = refl
marked Parameters = refl
marked Trim = refl
marked Hole = refl
marked End = refl
marked BodyType = refl
marked Degree = refl
marked Group = refl
marked Smoothing = refl
marked Material = refl
marked PassedOver = refl

module _ (s : List ℕ) (at : ℕ) (c : State) (t u : Tables) (r : Step) (key : ℕ) where
  carried_step : (k : carried.Carried) → FamilyIs (family_in k) s at c t u r → StepIs s at k c t u r
  carried_step (Vertex k) h = h
  carried_step (Element k) h = h
  carried_step (Body k) h = h
  carried_step Parameters h = h
  carried_step Trim h = h
  carried_step Hole h = h
  carried_step End h = h
  carried_step BodyType h = h
  carried_step Degree h = h
  carried_step Group h = h
  carried_step Smoothing h = h
  carried_step Material h = h
  carried_step PassedOver h = h

  sorted : (k : Statement) → FamilyIs (family_of k) s at c t u r → Known s at c t u r k key ⊎ Strange t u r k key
  sorted (Carried k) h = inl (record { keyword = k; is = refl; ended = marked k; step = carried_step k h })
  sorted Refused h = inr (record { number = 4; is = refl; gave-up = h.0; kept = h.1 })
  sorted Unknown h = inr (record { number = 3; is = refl; gave-up = h.0; kept = h.1 })

-- ---- the tables lent on
module _ (s : List ℕ) (at : ℕ) (c : State) (r : Step) where
  pub family-step : (t u : Tables) {f g : Family} → f ≡ g → FamilyIs g s at c t u r → FamilyIs f s at c t u r
  family-step t u e h = subst (λ (f : Family). FamilyIs f s at c t u r) (sym e) h

-- ---- what a line's key says, by its case
module _ (s : List ℕ) (at : ℕ) (k : keys.Key) (is : KeyIs s at k) where
  pub key-word : {p l e : ℕ} → k ≡ found.Word p l e → WordMet s at p × (record { statement = of_letter l; end = e } ≡ keyword_at s p)
  key-word q = subst (KeyIs s at) q is

  pub key-end : {q : ℕ} → k ≡ found.End q → EndMet s at q
  key-end e = subst (KeyIs s at) e is

  pub key-bad : {p : ℕ} → k ≡ found.Bad p → BadMet s at p
  key-bad e = subst (KeyIs s at) e is

-- ---- no keyword
module _ (s : List ℕ) (p : ℕ) (c : State) (t : Tables) where
  pub line-empty : {q : ℕ} → InBounds s p c → EndMet s p q → LineIs s p c t t (goes_on c q)
  line-empty {q} b m = (
    kept.later b m.to m.from,
    λ R n x l h. (
      record {
        after = x;
        said = ap (λ (r : Rest). unless r.bad 2 (step R x r.words)) m.rest;
        holds = record { state = h.state; image = h.image; wide = h.wide; room = h.room; bounded = later (let g : n ≤ n + (q - p) = omega arith in g) h.bounded; body = h.body };
      },
      sym (ap (λ (r : Rest). r.next) m.rest),
    ),
  )

  pub line-bad : {q : ℕ} → BadMet s p q → LineIs s p c t t (stops ByteNotAllowed q)
  line-bad m R n x l h = ap (λ (o : Option ℕ). unless o 2 (step R x (rest_at s p).words)) m.bad-at

-- ---- a keyword at `key`
module _ (s : List ℕ) (p key : ℕ) (kw : spelled.Keyword) (met : WordMet s p key) (found : kw ≡ keyword_at s key) where
  -- the words after it begin within the line
  keyword-to : (p ≤ kw.end) × (kw.end ≤ length s)
  unfolding keyword_at
  keyword-to = subst (λ (i : ℕ). (p ≤ i) × (i ≤ length s)) (sym (ap (λ (q : spelled.Keyword). q.end) found)) (go (eqb (letter_of (statement_of (word_of (drop key s)))) 32))
    where
      go : (b : Bool) → (p ≤ cond b key (end_of s key)) × (cond b key (end_of s key) ≤ length s)
      go true = (let x = met.more in let y = met.to in (met.from, omega arith))
      go false = (let x = met.more in let y = met.from in (omega arith, met.to))

  pub keyword-bounds : (c : State) → InBounds s p c → InBounds s kw.end c
  keyword-bounds c b = let w = keyword-to in kept.later b w.1 w.0

module _ (s : List ℕ) (p key : ℕ) (c : State) (t u : Tables) (kw : spelled.Keyword) (f : Family) (r : Step) (met : WordMet s p key)
    (found : kw ≡ keyword_at s key) (family : f ≡ family_of kw.statement) (done : FamilyIs f s kw.end c t u r) where
  abbrev w : Word
  w = word_at s key

  abbrev k : Statement
  k = statement_of w.bytes

  here : Known s (end_of s key) c t u r k key ⊎ Strange t u r k key
  unfolding keyword_at
  here =
      let k-is : kw.statement ≡ k = ap (λ (q : spelled.Keyword). q.statement) found in
      let e-is : kw.end ≡ cond (eqb (letter_of k) 32) key (end_of s key) = ap (λ (q : spelled.Keyword). q.end) found in
      let g : FamilyIs (family_of k) s kw.end c t u r = subst (λ (g : Family). FamilyIs g s kw.end c t u r) (family ∙ ap family_of k-is) done in
      ⊎_elim
      (λ (n : Known s kw.end c t u r k key).
      let e : kw.end ≡ end_of s key = e-is ∙ ap (λ (b : Bool). cond b key (end_of s key)) n.ended in
      inl (record { keyword = n.keyword; is = n.is; ended = n.ended; step = subst (λ (i : ℕ). StepIs s i n.keyword c t u r) e n.step }))
      (λ n. inr n)
      (sorted s kw.end c t u r key k g)

  began : (R : Rooms) (read : ℕ) (x : model.State) → WithinLimit s p read → Holds R s x c t read → (n : Keyword) → carried_in k key ≡ fine n → Began R s p (end_of s key) read x c t w n
  began R read x few h n e = record { small = few; holds = h; begins = met.rest; keyword = e }

  pub line_taken : InBounds s p c → (a : Parsed State) → r ≡ Ok a → LineIs s p c t u (Ok a)
  line_taken b a e =
      ⊎_elim
      (λ (n : Known s (end_of s key) c t u r k key).
      let taken : StepIs s (end_of s key) n.keyword c t u (Ok a) = subst (StepIs s (end_of s key) n.keyword c t u) e n.step in
      let from = met.from in
      let more = met.more in
      (taken.0 p (omega arith) b, λ R read x few h. taken.1 R p read x w (began R read x few h n.keyword n.is)))
      (λ (n : Strange t u r k key). absurd (let g = n.gave-up in let z : ◌≡◌ {A = ℕ} 0 1 = cc in omega arith))
      here

  pub line-refuses : (i : Reason) → r ≡ refuses i → LineIs s p c t u (stops i key)
  line-refuses i e R read x few h =
      ⊎_elim
      (λ (n : Known s (end_of s key) c t u r k key). subst (StepIs s (end_of s key) n.keyword c t u) e n.step R p read x w (began R read x few h n.keyword n.is))
      (λ (n : Strange t u r k key). absurd (let g = n.gave-up in let z : ◌≡◌ {A = ℕ} 0 1 = cc in omega arith))
      here

  -- a line that was rejected, by what was found wrong with it
  module _ (e : r ≡ rejected) {A : Type 0} (a : Result A Refusal) (b : DiagnosisIs s p c u.vertices.vp a) where
    found-wrong : (R : Rooms) (read : ℕ) (x : model.State) → WithinLimit s p read → Holds R s x c t read → Stops R s p x key (refusal_said a)
    found-wrong R read x few h =
        ⊎_elim
        (λ (n : Known s (end_of s key) c t u r k key).
        let v = began R read x few h n.keyword n.is in
        diagnosed R s p (end_of s key) x c t u w n.keyword v (subst (StepIs s (end_of s key) n.keyword c t u) e n.step R p read x w v) a b)
        (λ (n : Strange t u r k key).
        unknown-diagnosed R s p (end_of s key) x c t w n.number key h met.rest n.is (given-in R s x c t read h) a (subst (λ (y : Tables). DiagnosisIs s p c y.vertices.vp a) n.kept b) key)
        here

    pub line-faulted : (f : Refusal) → a ≡ Err f → LineIs s p c t u (Err f)
    line-faulted f z R read x few h = subst (λ (d : Result A Refusal). Stops R s p x key (refusal_said d)) z (found-wrong R read x few h)

    pub line-roomless : (o : A) → a ≡ Ok o → LineIs s p c t u (stops NoTableRoom key)
    line-roomless o z R read x few h = subst (λ (d : Result A Refusal). Stops R s p x key (refusal_said d)) z (found-wrong R read x few h)
