-- From what `close_body` answers to the step of an `end` line: laws over plain variables, one for each way out.
use Prim.Native.Nat.{ℕ, ◌+◌, ◌*◌, ◌≤◌, ◌<◌}
use mathlib.Core.Path.{◌≡◌, refl, sym, ap, ap₂, ◌∙◌, subst}
use mathlib.Core.List.{List, ◌∷◌}
use mathlib.Core.Bool.{Bool, true, false, cond}
use mathlib.Core.Option.{Option, none, some}
use native.Mathlib.Omega.{arith}
use borrow.Author.Tests.{le-leb, leb-true}
use lib.ListN.{length}
use lib.Dec.{eqb, leb, eqb-suc-zero}
use lib.IntN.{ℤ}
use Rattle.lists.proofs.Tests.{and_both, never}
use Rattle.text.specs.Words.{Word}
use Rattle.text.specs.Rest.{Rest, rest_at, word_at, WordMet, EndMet, BadMet, AfterBlanksIs}
use Rattle.text.specs.declared.AfterBlanks.{AfterBlanks}
use Rattle.text.specs.declared.AfterBlanks.TheVariants.{Start, End, Bad}
use Rattle.statements.specs.Rules.{allowed_by, counted_by}
use Rattle.statements.specs.Numbered.{free_numbered}
use Rattle.statements.specs.declared.rules.Rules.{Rules}
use Rattle.tables.specs.Tables.{Tables}
use Rattle.model.specs.Model as model
use Rattle.model.specs.Model.{Model}
use Rattle.model.specs.Statements.{Statement}
use Rattle.model.specs.Parse.{Parsed, fine, fault, must, ends, rules_of, allowed, counted}
use Rattle.model.specs.Room.{Rooms}
use Rattle.read_state.specs.declared.State.{State}
use Rattle.read_state.specs.declared.Open.{Open}
use Rattle.read_state.specs.declared.Form.{Form}
use Rattle.read_state.specs.Changed.{state, body_stored}
use Rattle.tables.proofs.Within.{last}
use Rattle.read_bodies.specs.Closing.{open_body_in, Stored, NotStored, ClosedIs}
use Rattle.read_bodies.specs.declared.closing.Closed.{Closed}
use Rattle.std.specs.Prelude.{Result, Ok, Err}
use Rattle.read_diagnosis.specs.Diagnosis.{parse_before}
use Rattle.read_vertex_lines.specs.Bounds.{InBounds, Keeps}
use Rattle.refusals.specs.declared.Reason.{Reason}
use Rattle.refusals.specs.Reasons.{reason_number}
use Rattle.read_vertex_lines.specs.Stepping.{accepted, rejected, refuses, Began, Left, EndStep}
use Rattle.read_vertex_lines.specs.Holding.{Holds, NextLine, line_says}
use Rattle.read_vertex_lines.proofs.Given.{given-in}
use Rattle.read_vertex_lines.proofs.Opened.{left-refused, left-barred}
use Rattle.read_vertex_lines.proofs.Bounds.{extent, later, none-waiting}
use Rattle.read_body_lines.specs.OpenBody.{curves_with, closed_with, form_for, body_lent}
use Rattle.read_body_lines.proofs.Ends.{used-bodies, bodies-room, ranges-room, bodies-lent, ranges-lent, end-next, end_refused}

-- ---- no words
wordless : (a b : Bool) (key : ℕ) (r : Parsed Statement) (y : Statement) → b ≡ false → must a 10 key (must b 5 key r) ≡ fine y → ⊥
wordless true b key r y e h = let f : must b 5 key r ≡ fine y = h in let g : fault 5 key ≡ fine y = sym (ap (λ (b : Bool). must b 5 key r) e) ∙ f in let z : ◌≡◌ {A = ℕ} 0 1 = cc in omega arith
wordless false b key r y e h = let z : ◌≡◌ {A = ℕ} 0 1 = cc in omega arith

no_word : (x : model.State) (key : ℕ) (w : Word) (ws : List Word) (y : Statement) → parse_before ends x key (w ∷ ws) ≡ fine y → ⊥
unfolding parse_before
no_word x key w ws y h = wordless (allowed ends x.open-body (w ∷ ws)) (counted ends (length (w ∷ ws))) key _ y (eqb-suc-zero (length ws)) h

-- what `close_body` asks
pub end-asks : (s : List ℕ) (at : ℕ) (c : State) (b : List ℕ) (y : List ℤ) → InBounds s at c → (c.«open».kind ≡ 0 → ⊥) → body_lent c.used.bodies (length b) (length y) ≡ true
    → ((c.«open».u_at ≤ length s) × (length s ≤ 16777216))
    × (((c.«open».v_at ≤ length s) × (length s ≤ 16777216)) × ((1 ≤ c.used.bodies) × (9 * c.used.bodies ≤ length b) × (4 * c.used.bodies ≤ length y) × (c.«open».parts ≤ c.used.loops)))
end-asks s at c b y i inside h =
    let r = last (leb (9 * c.used.bodies) (length b)) (4 * c.used.bodies) (length y) h in
    ((i.u-parm, i.limit), ((i.v-parm, i.limit), (i.body inside, leb-true (9 * c.used.bodies) (length b) r.0, r.1, i.parts)))

module _ (R : Rooms) (s : List ℕ) (p at : ℕ) {read : ℕ} (m : Model) (n : model.Names) (f : model.Form) (o : model.Open) (c : State) (t : Tables) (h : Holds R s (state m n f (some o)) c t read) where
  lent-there : body_lent c.used.bodies (length t.bodies.bodies) (length t.bodies.ranges) ≡ true
  lent-there =
      let ub = used-bodies R s p at m n f o c t h in
      let bl = bodies-lent R s p at m n f o c t h in
      let rl = ranges-lent R s p at m n f o c t h in
      let br = bodies-room R s p at m n f o c t h in
      let rr = ranges-room R s p at m n f o c t h in
      and_both (le-leb (9 * c.used.bodies) (length t.bodies.bodies) (omega arith)) (le-leb (4 * c.used.bodies) (length t.bodies.ranges) (omega arith))

-- one curv2 more at the most
one-curve : (kind n : ℕ) → curves_with kind n ≤ n + 1
one-curve kind n = go (eqb kind 5)
  where
    go : (t : Bool) → cond t (n + 1) n ≤ n + 1
    go true = omega arith
    go false = omega arith

module _ (s : List ℕ) (at : ℕ) (c : State) (b d : List ℕ) (y z v q : List ℤ) where
  abbrev InBody : Bool
  InBody = allowed_by (rules_of ends).standing (free_numbered c.«open».kind) false

  pub end-outside : InBody ≡ false → EndStep s at c b d y z v q rejected
  end-outside k t eb ey ev R p read x w g = left-barred R s p at read x c t (body_stored d z q t) w ends g (given-in R s x c t read g.holds) k

  pub end-unlent : body_lent c.used.bodies (length b) (length y) ≡ false → EndStep s at c b d y z v q rejected
  end-unlent e t eb ey ev R p read x w g = go x.model x.names x.form x.open-body g
    where
      go : (a : Model) (n : model.Names) (f : model.Form) (o : Option model.Open) → Began R s p at read (state a n f o) c t w ends → Left R s p at (state a n f o) (body_stored d z q t) w ends
      go a n f none g = left-refused R s p at read (state a n f none) c t (body_stored d z q t) w ends g (given-in R s (state a n f none) c t read g.holds) refl
      go a n f (some o) g =
          never (sym (ap₂ (λ (i : List ℕ) (j : List ℤ). body_lent c.used.bodies (length i) (length j)) eb ey ∙ e) ∙ lent-there R s p at a n f o c t g.holds)

  -- the row lets in a line without words
  pub end-uncounted : {r : Rules} {a : Bool} → r ≡ rules_of ends → a ≡ counted_by r.count 0 → a ≡ false → EndStep s at c b d y z v q rejected
  end-uncounted e f g = never (sym g ∙ f ∙ ap (λ (r : Rules). counted_by r.count 0) e)

  pub end_more : (r : AfterBlanks) (i : ℕ) → AfterBlanksIs s at r → r ≡ Start i → EndStep s at c b d y z v q rejected
  end_more r i m e t eb ey ev R p read x w g =
      let met : WordMet s at i = subst (AfterBlanksIs s at) e m in
      record {
        given = given-in R s x c t read g.holds;
        roomless = λ good u h. absurd (no_word x w.place (word_at s i) _ u (sym (ap (λ (r : Rest). parse_before ends x w.place r.words) met.rest) ∙ h));
      }

  pub end-bad : (r : AfterBlanks) (i : ℕ) → AfterBlanksIs s at r → r ≡ Bad i → EndStep s at c b d y z v q rejected
  end-bad r i m e t eb ey ev R p read x w g =
      let met : BadMet s at i = subst (AfterBlanksIs s at) e m in
      record {
        given = given-in R s x c t read g.holds;
        roomless = λ good u h. absurd (let k : none ≡ some i = sym good ∙ met.bad-at in let z : ◌≡◌ {A = ℕ} 0 1 = cc in omega arith);
      }

  module _ (met : AfterBlanks) (next : ℕ) (found : AfterBlanksIs s at met) (here : met ≡ End next) (inside : c.«open».kind ≡ 0 → ⊥)
      (f : Form) (own : f ≡ form_for c.«open».kind c.form) (r : Result Closed Reason) (is : ClosedIs f c.«open» c.used (open_body_in f c.«open» c.used s s y) b d y z v q r) where
    over : EndMet s at next
    over = subst (AfterBlanksIs s at) here found

    pub end-left : (i : Reason) → r ≡ Err i → EndStep s at c b d y z v q (refuses i)
    end-left i e t eb ey ev R p read x w g = go x.model x.names x.form x.open-body g
      where
        left : NotStored c.«open» c.used (open_body_in (form_for c.«open».kind c.form) c.«open» c.used s s t.bodies.ranges) t.bodies.bodies d t.bodies.ranges z t.bodies.parameters q (reason_number i)
        left =
            subst (λ (a : Form). NotStored c.«open» c.used (open_body_in a c.«open» c.used s s t.bodies.ranges) t.bodies.bodies d t.bodies.ranges z t.bodies.parameters q (reason_number i)) own
            (subst (λ (l : List ℕ). NotStored c.«open» c.used (open_body_in f c.«open» c.used s s t.bodies.ranges) l d t.bodies.ranges z t.bodies.parameters q (reason_number i)) (sym eb)
            (subst (λ (l : List ℤ). NotStored c.«open» c.used (open_body_in f c.«open» c.used s s l) b d l z t.bodies.parameters q (reason_number i)) (sym ey)
            (subst (λ (l : List ℤ). NotStored c.«open» c.used (open_body_in f c.«open» c.used s s y) b d y z l q (reason_number i)) (sym ev)
            (subst (ClosedIs f c.«open» c.used (open_body_in f c.«open» c.used s s y) b d y z v q) e is))))

        go : (a : Model) (n : model.Names) (f : model.Form) (o : Option model.Open) → Began R s p at read (state a n f o) c t w ends → line_says R s p (state a n f o) ≡ fault (reason_number i) w.place
        go a n f none g = absurd (inside (ap (λ (o : Open). o.kind) g.holds.state.open-body))
        go a n f (some o) g = end_refused R s p at a n f o c t g.holds w g.begins g.keyword next over d z q (reason_number i) left

    module _ (i j : ℕ) (k : r ≡ Ok (record { u = i; v = j })) where
      kept : Stored f c.«open» c.used (open_body_in f c.«open» c.used s s y) b d y z v q i j
      kept = subst (ClosedIs f c.«open» c.used (open_body_in f c.«open» c.used s s y) b d y z v q) k is

      -- the sums that the new state holds fit their 32 bits
      pub end-sums : InBounds s at c → (c.used.parameters + (i + j) < 4294967296) × (c.curves + 1 < 4294967296)
      end-sums g =
          let u = kept.count-u in
          let v = kept.count-v in
          (omega arith, omega arith)

      end-keeps : at ≤ length s → Keeps s at c (closed_with i j c) next
      end-keeps to p below g =
          let e = extent s at 0 next to (ap (λ (r : Rest). r.next) over.rest) (omega arith) in
          let ahead = e.0 in
          let a = later g e.1 (omega arith) in
          let u = kept.count-u in
          let v = kept.count-v in
          let none = none-waiting s in
          let one = one-curve c.«open».kind c.curves in
          record {
            limit = a.limit;
            to = a.to;
            v = a.v;
            vt = a.vt;
            vn = a.vn;
            vp = a.vp;
            corners = a.corners;
            elements = a.elements;
            bodies = a.bodies;
            parameters = omega arith;
            loops = a.loops;
            curves-few = omega arith;
            parts = omega arith;
            u-parm = omega arith;
            v-parm = omega arith;
            body = λ some. absurd (some refl);
          }

      pub end-took : at ≤ length s → (e : State) → e ≡ closed_with i j c → EndStep s at c b d y z v q (accepted e next)
      end-took to e a t eb ey ev = (
        λ p below g. subst (InBounds s next) (sym a) (end-keeps to p below g),
        λ R p read x w g.
            subst (λ (e : State). NextLine R s p read x e (body_stored d z q t) next × (next ≡ (rest_at s p).next)) (sym a) (go R p read w x.model x.names x.form x.open-body g),
      )
        where
          kept_there : Stored (form_for c.«open».kind c.form) c.«open» c.used (open_body_in (form_for c.«open».kind c.form) c.«open» c.used s s t.bodies.ranges) t.bodies.bodies d t.bodies.ranges z t.bodies.parameters q i j
          kept_there =
              subst (λ (a : Form). Stored a c.«open» c.used (open_body_in a c.«open» c.used s s t.bodies.ranges) t.bodies.bodies d t.bodies.ranges z t.bodies.parameters q i j) own
              (subst (λ (l : List ℕ). Stored f c.«open» c.used (open_body_in f c.«open» c.used s s t.bodies.ranges) l d t.bodies.ranges z t.bodies.parameters q i j) (sym eb)
              (subst (λ (l : List ℤ). Stored f c.«open» c.used (open_body_in f c.«open» c.used s s l) b d l z t.bodies.parameters q i j) (sym ey)
              (subst (λ (l : List ℤ). Stored f c.«open» c.used (open_body_in f c.«open» c.used s s y) b d y z l q i j) (sym ev)
              kept)))

          go : (R : Rooms) (p read : ℕ) (w : Word) (a : Model) (n : model.Names) (f : model.Form) (o : Option model.Open) → Began R s p at read (state a n f o) c t w ends
              → NextLine R s p read (state a n f o) (closed_with i j c) (body_stored d z q t) next × (next ≡ (rest_at s p).next)
          go R p read w a n f none g = absurd (inside (ap (λ (o : Open). o.kind) g.holds.state.open-body))
          go R p read w a n f (some o) g = end-next R s p at a n f o c t g.holds w g.begins g.keyword next over d z q i j kept_there
