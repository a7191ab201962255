-- From what `take_parm` and `take_loop` answer to the step of the line: laws over plain variables, one for each way out.
use Prim.Native.Nat.{ℕ, suc, ◌+◌, ◌-◌, ◌≤◌, ◌<◌}
use mathlib.Core.Path.{◌≡◌, refl, sym, ap, ◌∙◌, subst}
use mathlib.Core.List.{List, []}
use mathlib.Core.Bool.{Bool, true, false, cond}
use mathlib.Core.Option.{Option, none, some}
use native.Mathlib.Omega.{arith}
use borrow.Author.Tests.{ne_eqb}
use lib.ListN.{length}
use lib.Dec.{eqb}
use lib.IntN.{ℤ}
use Rattle.text.specs.Words.{Word}
use Rattle.text.specs.Rest.{rest_at}
use Rattle.statements.specs.Rules.{allowed_by}
use Rattle.statements.specs.Numbered.{free_numbered}
use Rattle.statements.specs.declared.rules.Standing.{Standing}
use Rattle.statements.specs.declared.rules.Standing.TheVariants as standing
use Rattle.model.specs.Model as model
use Rattle.model.specs.Model.{Free, curve, curve2, surface, Model}
use Rattle.model.specs.Parse.{parm, rules_of, is_surface}
use Rattle.model.specs.Room.{Rooms}
use Rattle.read_state.specs.declared.State.{State}
use Rattle.read_state.specs.declared.Open.{Open}
use Rattle.read_state.specs.State.{OpenBodyIs}
use Rattle.read_state.specs.Changed.{state, loops_stored}
use Rattle.read_bodies.specs.Numbers.{numbers_at}
use Rattle.read_bodies.specs.Closing.{parm_of}
use Rattle.read_bodies.specs.Parm.{ParmTaken, ParmIs}
use Rattle.std.specs.Prelude.{Option as Answer, Some, None}
use Rattle.text.specs.declared.Parsed.{Parsed}
use Rattle.read_bodies.specs.declared.parm.Parm.{Parm}
use Rattle.read_bodies.specs.Loops.{loop_word, LoopTaken, LoopLeft, LoopIs}
use Rattle.read_bodies.proofs.Says.{parm-left}
use Rattle.read_diagnosis.proofs.Parses.{open-kind}
use Rattle.read_vertex_lines.specs.Bounds.{InBounds, Keeps}
use Rattle.read_vertex_lines.specs.Holding.{NextLine}
use Rattle.read_vertex_lines.specs.Stepping.{accepted, rejected, Began, Left, QuietStep, LoopStep}
use Rattle.read_vertex_lines.proofs.Given.{given-in}
use Rattle.read_vertex_lines.proofs.Opened.{is_end, inside-some, before-parse, left-refused, left-barred}
use Rattle.read_vertex_lines.proofs.Bounds.{extent, later}
use Rattle.read_body_lines.specs.OpenBody.{keeping, looped}
use Rattle.read_body_lines.proofs.Parameters.{parm-next}
use Rattle.read_body_lines.proofs.Loops.{loop-next, loop-roomless}

-- ---- a trim and a hole have one row, and are no `end`
loop-standing : (h : Bool) → (rules_of (loop_word h)).standing ≡ standing.Surface
loop-standing false = refl
loop-standing true = refl

not_end : (h : Bool) → is_end (loop_word h) ≡ false
not_end false = refl
not_end true = refl

-- where a parm along v may stand
along-v : (k : Free) → allowed_by standing.Parameters (some k) true ≡ is_surface k
along-v curve = refl
along-v curve2 = refl
along-v surface = refl

-- what a row says of the open body's kind it says of the body
module _ (s : List ℕ) (o : model.Open) (c : Open) (is : OpenBodyIs s o c) (a : Standing) (v : Bool) where
  pub row_of : allowed_by a (free_numbered c.kind) v ≡ allowed_by a (some o.body.free) v
  row_of = ap (λ (k : Option Free). allowed_by a k v) (open-kind s (some o) c is)

-- ---- parm
module _ (s : List ℕ) (at : ℕ) (c : State) where
  abbrev Row : Bool → Bool
  Row v = allowed_by (rules_of parm).standing (free_numbered c.«open».kind) v

  pub parm-outside : Row false ≡ false → QuietStep parm s at c rejected
  parm-outside z t R p read x w b = left-barred R s p at read x c t t w parm b (given-in R s x c t read b.holds) z

  pub parm-gave : (r : Answer (Parsed Parm)) (f : Bool) → Row true ≡ f → ParmIs f s at r → r ≡ None → QuietStep parm s at c rejected
  parm-gave r f i v g t R p read x w b = go x.model x.names x.form x.open-body b
    where
      no : ParmIs f s at None
      no = subst (ParmIs f s at) g v

      go : (m : Model) (n : model.Names) (y : model.Form) (o : Option model.Open) → Began R s p at read (state m n y o) c t w parm → Left R s p at (state m n y o) t w parm
      go m n y none b = left-refused R s p at read (state m n y none) c t t w parm b (given-in R s (state m n y none) c t read b.holds) refl
      go m n y (some o) b =
          let e : f ≡ is_surface o.body.free = sym i ∙ row_of s o c.«open» b.holds.state.open-body standing.Parameters true ∙ along-v o.body.free in
          record {
            given = given-in R s (state m n y (some o)) c t read b.holds;
            roomless = λ good u h.
                absurd (parm-left (state m n y (some o)) o refl w.place (rest_at s at) u (subst (λ (f : Bool). ParmIs f s at None) e no) good
                (sym (before-parse (state m n y (some o)) w.place (rest_at s at).words parm refl) ∙ h));
          }

  module _ (f v : Bool) (i q : ℕ) (k : ParmTaken f s at v i q) where
    -- the numbers wait for the end of the body in place of those of an earlier line
    waiting : length (parm_of s i) ≤ length (rest_at s at).words
    unfolding parm_of
    waiting =
        let from = k.from in
        let e : eqb i 0 ≡ false = ne_eqb i 0 (λ z. omega arith) in
        let n : length (cond (eqb i 0) [] (numbers_at s i)) ≡ length (numbers_at s i) = ap (λ (t : Bool). length (cond t [] (numbers_at s i))) e in
        let w : length (rest_at s at).words ≡ suc (length k.line.others) = ap length k.line.words in
        let a = k.line.all in
        omega arith

    parm-keeps : at ≤ length s → Keeps s at c (keeping v i c) q
    parm-keeps to p below b =
        let e = extent s at (length (parm_of s i)) q to (sym k.next) waiting in
        let ahead = e.0 in
        let a = later b e.1 (omega arith) in
        go v a (omega arith)
      where
        go : (v : Bool) → InBounds s q c → c.used.parameters + (length (parm_of s c.«open».u_at) + length (parm_of s c.«open».v_at)) + length (parm_of s i) + (length s - q) ≤ 16777216 → InBounds s q (keeping v i c)
        go false a h =
            record {
              limit = a.limit;
              to = a.to;
              v = a.v;
              vt = a.vt;
              vn = a.vn;
              vp = a.vp;
              corners = a.corners;
              elements = a.elements;
              bodies = a.bodies;
              parameters = omega arith;
              loops = a.loops;
              curves-few = a.curves-few;
              parts = a.parts;
              u-parm = k.kept.within;
              v-parm = a.v-parm;
              body = a.body;
            }
        go true a h =
            record {
              limit = a.limit;
              to = a.to;
              v = a.v;
              vt = a.vt;
              vn = a.vn;
              vp = a.vp;
              corners = a.corners;
              elements = a.elements;
              bodies = a.bodies;
              parameters = omega arith;
              loops = a.loops;
              curves-few = a.curves-few;
              parts = a.parts;
              u-parm = a.u-parm;
              v-parm = k.kept.within;
              body = a.body;
            }

  pub parm-took : at ≤ length s → (r : Answer (Parsed Parm)) (f : Bool) (v : Bool) (i q : ℕ) (d : State) → Row true ≡ f → Row false ≡ true
      → ParmIs f s at r → r ≡ Some (record { value = record { along_v = v; numbers_at = i }; next = q }) → d ≡ keeping v i c → QuietStep parm s at c (accepted d q)
  parm-took to r f v i q d j z k g e t = (
    λ p below b. subst (InBounds s q) (sym e) (parm-keeps f v i q taken to p below b),
    λ R p read x w b. subst (λ (d : State). NextLine R s p read x d t q × (q ≡ (rest_at s p).next)) (sym e) (go R p read w x.model x.names x.form x.open-body b),
  )
    where
      taken : ParmTaken f s at v i q
      taken = subst (ParmIs f s at) g k

      go : (R : Rooms) (p read : ℕ) (w : Word) (m : Model) (n : model.Names) (y : model.Form) (o : Option model.Open) → Began R s p at read (state m n y o) c t w parm
          → NextLine R s p read (state m n y o) (keeping v i c) t q × (q ≡ (rest_at s p).next)
      go R p read w m n y none b = absurd (inside-some _ c.«open».kind z (ap (λ (o : Open). o.kind) b.holds.state.open-body))
      go R p read w m n y (some o) b =
          let e : f ≡ is_surface o.body.free = sym j ∙ row_of s o c.«open» b.holds.state.open-body standing.Parameters true ∙ along-v o.body.free in
          parm-next R s p at m n y o c t b.holds w b.begins b.keyword v i q (subst (λ (f : Bool). ParmTaken f s at v i q) e taken)

-- ---- trim, hole
module _ (hole : Bool) (s : List ℕ) (at : ℕ) (c : State) (l m : List ℕ) (y z : List ℤ) where
  abbrev InSurface : Bool
  InSurface = allowed_by standing.Surface (free_numbered c.«open».kind) false

  pub loop-shut : InSurface ≡ false → LoopStep hole s at c l m y z rejected
  loop-shut n t el ey R p read x w b =
      left-barred R s p at read x c t (loops_stored m z t) w (loop_word hole) b (given-in R s x c t read b.holds)
      (ap (λ (a : Standing). allowed_by a (free_numbered c.«open».kind) false) (loop-standing hole) ∙ n)

  surface-there : (o : model.Open) → OpenBodyIs s o c.«open» → InSurface ≡ true → is_surface o.body.free ≡ true
  surface-there o is k = sym (row_of s o c.«open» is standing.Surface false) ∙ k

  pub loop-gave : (r : Answer (Parsed ℕ)) → InSurface ≡ true → LoopIs s at hole c.curves c.used.loops l m y z r → r ≡ None → LoopStep hole s at c l m y z rejected
  loop-gave r k v g t el ey R p read x w b = go x.model x.names x.form x.open-body b
    where
      left : LoopLeft s at c.curves c.used.loops t.bodies.loops m t.bodies.spans z
      left =
          subst (λ (i : List ℤ). LoopLeft s at c.curves c.used.loops t.bodies.loops m i z) (sym ey)
          (subst (λ (i : List ℕ). LoopLeft s at c.curves c.used.loops i m y z) (sym el) (subst (LoopIs s at hole c.curves c.used.loops l m y z) g v))

      go : (a : Model) (n : model.Names) (f : model.Form) (o : Option model.Open) → Began R s p at read (state a n f o) c t w (loop_word hole) → Left R s p at (state a n f o) (loops_stored m z t) w (loop_word hole)
      go a n f none b = absurd (inside-some _ c.«open».kind k (ap (λ (o : Open). o.kind) b.holds.state.open-body))
      go a n f (some o) b =
          record {
            given = given-in R s (state a n f (some o)) c t read b.holds;
            roomless = λ good u e.
                loop-roomless R s p at a n f o c t b.holds (surface-there o b.holds.state.open-body k) w hole b.begins b.keyword m z left good u
                (sym (before-parse (state a n f (some o)) w.place (rest_at s at).words (loop_word hole) (not_end hole)) ∙ e);
          }

  module _ (r : Answer (Parsed ℕ)) (i q : ℕ) (v : LoopIs s at hole c.curves c.used.loops l m y z r) (g : r ≡ Some (record { value = i; next = q })) where
    taken : LoopTaken s at hole c.curves c.used.loops l m y z i q
    taken = subst (LoopIs s at hole c.curves c.used.loops l m y z) g v

    few : i ≤ length (rest_at s at).words
    few =
        let a = taken.line.all in
        let d = taken.count in
        omega arith

    -- the sums that the new state holds fit their 32 bits
    pub loop-sums : InBounds s at c → (c.used.loops + i < 4294967296) × (c.«open».parts + i < 4294967296)
    loop-sums b =
        let e = extent s at i q b.to (sym taken.next) few in
        let ahead = e.0 in
        let within = e.1 in
        (omega arith, omega arith)

    loop-keeps : at ≤ length s → Keeps s at c (looped i c) q
    loop-keeps to p below b =
        let e = extent s at i q to (sym taken.next) few in
        let ahead = e.0 in
        let a = later b e.1 (omega arith) in
        record {
          limit = a.limit;
          to = a.to;
          v = a.v;
          vt = a.vt;
          vn = a.vn;
          vp = a.vp;
          corners = a.corners;
          elements = a.elements;
          bodies = a.bodies;
          parameters = a.parameters;
          loops = omega arith;
          curves-few = a.curves-few;
          parts = omega arith;
          u-parm = a.u-parm;
          v-parm = a.v-parm;
          body = a.body;
        }

    pub loop-took : at ≤ length s → (d : State) → InSurface ≡ true → d ≡ looped i c → LoopStep hole s at c l m y z (accepted d q)
    loop-took to d k e t el ey = (
      λ p below b. subst (InBounds s q) (sym e) (loop-keeps to p below b),
      λ R p read x w b.
          subst (λ (d : State). NextLine R s p read x d (loops_stored m z t) q × (q ≡ (rest_at s p).next)) (sym e) (go R p read w x.model x.names x.form x.open-body b),
    )
      where
        taken-there : LoopTaken s at hole c.curves c.used.loops t.bodies.loops m t.bodies.spans z i q
        taken-there =
            subst (λ (j : List ℤ). LoopTaken s at hole c.curves c.used.loops t.bodies.loops m j z i q) (sym ey)
            (subst (λ (j : List ℕ). LoopTaken s at hole c.curves c.used.loops j m y z i q) (sym el) taken)

        go : (R : Rooms) (p read : ℕ) (w : Word) (a : Model) (n : model.Names) (f : model.Form) (o : Option model.Open) → Began R s p at read (state a n f o) c t w (loop_word hole)
            → NextLine R s p read (state a n f o) (looped i c) (loops_stored m z t) q × (q ≡ (rest_at s p).next)
        go R p read w a n f none b = absurd (inside-some _ c.«open».kind k (ap (λ (o : Open). o.kind) b.holds.state.open-body))
        go R p read w a n f (some o) b =
            loop-next R s p at a n f o c t b.holds (surface-there o b.holds.state.open-body k) w hole b.begins b.keyword m z i q taken-there
