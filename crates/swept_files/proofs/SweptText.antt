-- The tidy text of a swept model is read back: the model is such as reading keeps, with no more of anything than the model that was read.
use Prim.Native.Nat.{ℕ, suc, ◌+◌}
use mathlib.Core.Path.{◌≡◌, refl, sym, ap, ◌∙◌, subst, subst₂}
use mathlib.Core.Bool.{Bool, true, cond}
use mathlib.Core.Option.{Option, none}
use mathlib.Core.List.{List, [], ◌∷◌, map}
use native.Mathlib.Omega.{arith}
use lib.ListN.{length, length-map}
use lib.IntN.{ℤ}
use Rattle.end_to_end.specs.EntryPoints.{as_read}
use Rattle.text.specs.Lines.{lines_of}
use Rattle.tables.specs.Tables.{Tables}
use Rattle.tables.specs.declared.Used.{Used}
use Rattle.model.specs.Model.{VertexKind, geometric, texture, normal, parametric, Body, Element, Model, Open, State, is_curve2, curves}
use Rattle.model.specs.Statements.{vertex}
use Rattle.model.specs.Room.{Rooms, summed, of_kind, part_count, fits}
use Rattle.model.specs.Read.{read, read_of}
use Rattle.model.specs.Layout.{tables_of, used_of}
use Rattle.model.proofs.Rows.{bodies-summed}
use Rattle.read_lines.proofs.Cleared.{answered-same}
use Rattle.reader.specs.Reading.{rooms_of, read_into, ReadAnswer, answered}
use Rattle.tidy_form.specs.Printed.{tidy_text}
use Rattle.tidy_form.specs.Agree.{TablesAgree}
use Rattle.tidy_form.proofs.Words.{Small}
use Rattle.tidy_form.proofs.Standing.{seen_of}
use Rattle.tidy_form.proofs.Good.{Always, Good, GoodVertices, GoodElements}
use Rattle.tidy_form.proofs.Rooms.{NoMore, fits-down}
use Rattle.tidy_form.proofs.Reading.{Bounded, Came, read-came, read_small}
use Rattle.model.proofs.Placed.{Wide, PartedAll, ElementsStand, Placed}
use Rattle.tidy_form.proofs.TidyRead.{good-read}
use Rattle.tidy_form.proofs.Placed.{read-placed}
use Rattle.tidy_form.proofs.TablesAgree.{placed-agree}
use Rattle.swept_files.specs.Files.{named_in, kept_of, swept_element, swept_model, used_left, tables_left, SweptTexts}
use Rattle.swept_files.proofs.ByIndex.{kept-keeps}
use Rattle.swept_files.proofs.SweptGood.{corners-named, good-elements}
use Rattle.swept_files.proofs.Files.{kept-fewer, corners-kept, bodies_kept, swept-files}

-- ---- what the model keeps
wide-kept : (w : ℕ) (f : ℕ → Bool) (zs : List (List ℤ)) → Wide w zs → Wide w (kept_of f zs)
wide-kept w = kept-keeps (λ (z : List ℤ). length z ≡ w) (Wide w) (λ z zs h. h) (λ z zs p q. (p, q))

good-kept : (k : VertexKind) (f : ℕ → Bool) (zs : List (List ℤ)) → GoodVertices k zs → GoodVertices k (kept_of f zs)
good-kept k = kept-keeps (λ (z : List ℤ). Always (vertex k z)) (GoodVertices k) (λ z zs h. h) (λ z zs p q. (p, q))

module _ (m : Model) where
  names-kept : (s : List ℕ) (es : List Element) → ElementsStand s es → ElementsStand s (map (swept_element m) es)
  names-kept s [] h = tt
  names-kept s (e ∷ es) h = (h.0, names-kept s es h.1)

  parted-kept : (es : List Element) → PartedAll es → PartedAll (map (swept_element m) es)
  parted-kept [] h = tt
  parted-kept (e ∷ es) h = (h.0, parted-kept es h.1)

  curves-kept : (es : List Element) → curves (map (swept_element m) es) ≡ curves es
  curves-kept [] = refl
  curves-kept (e ∷ es) = ap (λ (n : ℕ). cond (is_curve2 e.kind) (suc n) n) (curves-kept es)

  summed_kept : (f : Body → ℕ) (es : List Element) → summed (λ e. of_kind f e.kind) (map (swept_element m) es) ≡ summed (λ e. of_kind f e.kind) es
  summed_kept f es = sym (bodies-summed f (map (swept_element m) es)) ∙ ap (summed f) (bodies_kept m es) ∙ bodies-summed f es

  placed-kept : (s : List ℕ) → Placed s m → Placed s (swept_model m)
  unfolding swept_model
  placed-kept s p =
      let x = m.vertices in
      record {
        rows = (
          wide-kept 4 (named_in m geometric) x.v p.rows.0,
          wide-kept 3 (named_in m texture) x.vt p.rows.1,
          wide-kept 3 (named_in m normal) x.vn p.rows.2,
          wide-kept 4 (named_in m parametric) x.vp p.rows.3,
        );
        loops = parted-kept m.elements p.loops;
        names = names-kept s m.elements p.names;
      }

  small-kept : Small (seen_of m.vertices (curves m.elements)) → Small (seen_of (swept_model m).vertices (curves (swept_model m).elements))
  unfolding swept_model
  small-kept s =
      let a = kept-fewer (named_in m geometric) m.vertices.v in
      let b = kept-fewer (named_in m texture) m.vertices.vt in
      let c = kept-fewer (named_in m normal) m.vertices.vn in
      let d = kept-fewer (named_in m parametric) m.vertices.vp in
      let e = curves-kept m.elements in
      let k = s.counts in
      record { counts = record { v = omega arith; vt = omega arith; vn = omega arith }; vp = (let q = s.vp in omega arith); curves = (let q = s.curves in omega arith) }

-- ---- the state that reading the model ends in, with the swept model
module _ (R : Rooms) (n : ℕ) (m : Model) (c : Came R n m) where
  abbrev ending : Model → State
  ending k = record { model = k; names = c.state.names; form = c.state.form; open-body = none }

  fewer : NoMore (ending (swept_model m)) (ending m)
  unfolding swept_model
  fewer =
      let es = m.elements in
      let x = m.vertices in
      record {
        v = kept-fewer (named_in m geometric) x.v;
        vt = kept-fewer (named_in m texture) x.vt;
        vn = kept-fewer (named_in m normal) x.vn;
        vp = kept-fewer (named_in m parametric) x.vp;
        corners = (let e = corners-kept m es in omega arith);
        elements = (let e = length-map es (swept_element m) in omega arith);
        bodies = (let e = summed_kept m (λ b. 1) es in omega arith);
        parameters = (let e = summed_kept m (λ b. length b.us + length b.vs) es in omega arith);
        loops = (let e = summed_kept m part_count es in omega arith);
      }

  room-kept : fits R (ending (swept_model m)) ≡ true
  room-kept =
      fits-down R (ending (swept_model m)) (ending m) fewer
      (subst₂ (λ (k : Model) (o : Option Open). fits R (record { model = k; names = c.state.names; form = c.state.form; open-body = o }) ≡ true) c.model c.shut c.room)

  good-swept : Good (swept_model m).vertices (ending (swept_model m))
  unfolding swept_model
  good-swept =
      let g = c.good in
      let e = c.model in
      let x = m.vertices in
      record {
        v = good-kept geometric (named_in m geometric) x.v (subst (λ (k : Model). GoodVertices geometric k.vertices.v) e g.v);
        vt = good-kept texture (named_in m texture) x.vt (subst (λ (k : Model). GoodVertices texture k.vertices.vt) e g.vt);
        vn = good-kept normal (named_in m normal) x.vn (subst (λ (k : Model). GoodVertices normal k.vertices.vn) e g.vn);
        vp = good-kept parametric (named_in m parametric) x.vp (subst (λ (k : Model). GoodVertices parametric k.vertices.vp) e g.vp);
        elements = good-elements m 0 none m.elements c.state.names.material (corners-named m)
            (subst (λ (k : Model). GoodElements x 0 none k.elements c.state.names.material) e g.elements);
        names = g.names;
        form = g.form;
        opened = tt;
      }

  bounded-kept : Bounded n (ending (swept_model m))
  unfolding swept_model
  bounded-kept =
      let b = subst (λ (k : Model). Bounded n (ending k)) c.model (let q = c.bounded in record { v = q.v; vt = q.vt; vn = q.vn; vp = q.vp; curves = q.curves }) in
      let f = fewer in
      record {
        v = (let i = f.v in let j = b.v in omega arith);
        vt = (let i = f.vt in let j = b.vt in omega arith);
        vn = (let i = f.vn in let j = b.vn in omega arith);
        vp = (let i = f.vp in let j = b.vp in omega arith);
        curves = (let i = curves-kept m m.elements in let j = b.curves in omega arith);
      }

  swept-came : Came R n (swept_model m)
  swept-came = record { state = ending (swept_model m); good = good-swept; bounded = bounded-kept; room = room-kept; shut = refl; model = refl }

pub swept-texts : SweptTexts
unfolding read_into
swept-texts c s S m h l T e =
    let R = rooms_of S in
    let k = swept_model m in
    let w = tidy_text c k in
    let g = good-read c R (length (lines_of s)) k (swept-came R (length (lines_of s)) m (read-came R s m h)) (small-kept m (read_small R s m h)) l in
    let r : read_into w T ≡ answered S (read g.0) = ap (answered T) (ap (λ (Q : Rooms). read_of Q w) e ∙ g.1) ∙ answered-same T S e (read g.0) in
    let f = swept-files s S m h in
    let a = placed-agree R R w s g.0 k (read-placed R w g.0 g.1) (placed-kept m s (read-placed R s m h)) g.2 in
    let b = subst (λ (u : Used). TablesAgree w (tables_of R g.0) u s (tables_of R k) (used_of k)) a.used a in
    let d = subst₂ (λ (u : Used) (t : Tables). TablesAgree w (tables_of R g.0) u s t u) (sym f.used) (sym f.tables) b in
    record {
      answer = ap (λ (q : ReadAnswer). q.answer) r ∙ ap as_read (a.used ∙ sym f.used);
      tables = subst (λ (q : ReadAnswer). TablesAgree w q.tables (used_left s S) s (tables_left s S) (used_left s S)) (sym r) d;
    }
