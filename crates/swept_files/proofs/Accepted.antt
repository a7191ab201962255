-- What reading lays obeys every rule and follows on: by the rows of the model, element by element.
use Prim.Native.Nat.{ℕ, zero, suc, ◌+◌, ◌*◌, ◌≤◌, ◌<◌}
use mathlib.Core.Path.{◌≡◌, refl, sym, ap, ◌∙◌}
use mathlib.Core.List.{List, [], ◌∷◌, ◌++◌, append-nil}
use mathlib.Core.Bool.{Bool, true, false, cond}
use mathlib.Core.Logic.{◌⊎◌, inl, inr}
use native.Mathlib.Omega.{arith}
use borrow.Author.Tests.{le-leb, lt-leb, eq-eqb}
use lib.ListN.{length, get_or, take, length-append}
use lib.Seq.{take-suc, take_at, take-length, get_or_at}
use lib.Dec.{leb, eqb}
use Rattle.lists.proofs.Tests.{and_both, test}
use Rattle.tables.specs.Tables.{Tables}
use Rattle.tables.specs.Records.{element_at, body_at}
use Rattle.tables.specs.declared.Used.{Used}
use Rattle.tables.specs.declared.Body as records
use Rattle.model.specs.Model.{geometric, texture, normal, parametric, point, line, face, Shape, Free, curve, curve2, surface, Body, Kind, plain, free, Element, Model}
use Rattle.model.specs.Room.{summed, part_count}
use Rattle.model.specs.Layout.{shape_number, free_number, kind_number, body_number, body_of_kind, bodies_of, tables_of, used_of}
use Rattle.model.proofs.Rows.{summed-append, element_rows-length, corner_rows-length, body_rows-length, range_rows-length, loop_rows-length, span_rows-length, parameter_rows-length, bodies-append}
use Rattle.model.proofs.Placed.{wide-length}
use Rattle.tidy_form.proofs.Placed.{vertices-wide}
use Rattle.record_rules.proofs.Below.{below_all}
use Rattle.table_rules.proofs.Lent.{lent_of}
use Rattle.table_rules.specs.Whole.{Ends, is_plain, ends_after, ends_before, body_follows, element_follows, follows_at, ends_used, lent_all, vertices_obey, elements_obey, runs_follow, whole_obeys}
use Rattle.model.proofs.Stands.{Among, among}
use Rattle.model.proofs.Laid.{Laid, laid}
use Rattle.tidy_form.proofs.Placed.{Kept, kept}
use Rattle.sampled_files.proofs.Vertices.{vertex-obeys, parameter-obeys}
use Rattle.model.proofs.ElementRows.{corners_in, Row, row_of}
use Rattle.model.proofs.BodyRows.{body-among, laid_body, parameters_in, body-row}
use Rattle.sampled_files.proofs.Obeyed.{each-obeys}
use Rattle.sampled_files.proofs.Never15.{used-elements}
use Rattle.reader.specs.Reading.{rooms_of, read_into}
use Rattle.end_to_end.proofs.Inside.{accepted}
use Rattle.end_to_end.proofs.Third.{shown}
use Rattle.refusals.specs.declared.Reason.TheVariants.{NoOutputRoom}
use Rattle.sweep.specs.Swept.{SweepAnswer, numbers_needed, refused_sweep, sweep_into}
use Rattle.swept_files.specs.Accepted.{AcceptedObeys, Sweeps, AcceptedSweeps}

-- ---- the ends of the runs of some elements
abbrev ends : ℕ → ℕ → ℕ → ℕ → Ends
ends c b p l = record { corners = c; bodies = b; parameters = p; parts = l }

ends_same : {c d b e p q l k : ℕ} → c ≡ d → b ≡ e → p ≡ q → l ≡ k → ends c b p l ≡ ends d e q k
ends_same x y z w = rw (x, y, z, w)

abbrev ends_of : List Element → Ends
ends_of es = ends (corners_in es) (length (bodies_of es)) (parameters_in (bodies_of es)) (summed part_count (bodies_of es))

plain-kind : (k : Shape) → leb (shape_number k) 3 ≡ true
plain-kind point = refl
plain-kind line = refl
plain-kind face = refl

free-kind : (k : Free) → leb (free_number k) 3 ≡ false
free-kind curve = refl
free-kind curve2 = refl
free-kind surface = refl

corners-more : (qs : List Element) (e : Element) → corners_in qs + 3 * length e.corners ≡ corners_in (qs ++ e ∷ [])
corners-more qs e = let k = summed-append (λ (x : Element). length x.corners) qs (e ∷ []) in omega arith

bodies-more : (qs : List Element) (e : Element) (k : Kind) → e.kind ≡ k → bodies_of (qs ++ e ∷ []) ≡ bodies_of qs ++ body_of_kind k
bodies-more qs e k q = bodies-append qs (e ∷ []) ∙ ap (λ (y : List Body). bodies_of qs ++ y) (append-nil (body_of_kind e.kind) ∙ ap body_of_kind q)

-- ---- each element begins where those before it end
module _ (u : Used) (t : Tables) (m : Model) (L : Laid u t m) where
  abbrev es : List Element
  es = m.elements

  module _ (i : ℕ) (a : Among es i) where
    abbrev qs : List Element
    qs = a.before

    abbrev w : Row t es i a
    w = row_of t es i L.elements a

    abbrev j : ℕ
    j = length (bodies_of qs)

    kind-is : (k : Kind) → a.one.kind ≡ k → (element_at t i).kind ≡ kind_number k
    kind-is k q = w.kind ∙ ap kind_number q

    count-is : corners_in qs + 3 * (element_at t i).corners.count ≡ corners_in (qs ++ a.one ∷ [])
    count-is = ap (λ (n : ℕ). corners_in qs + 3 * n) w.count ∙ corners-more qs a.one

    first-is : eqb (element_at t i).corners.first (corners_in qs) ≡ true
    first-is = eq-eqb (element_at t i).corners.first (corners_in qs) w.first

    plain-test : (k : Shape) → a.one.kind ≡ plain k → is_plain (element_at t i) ≡ true
    plain-test k q = ap (λ (n : ℕ). leb n 3) (kind-is (plain k) q) ∙ plain-kind k

    free-test : (b : Body) → a.one.kind ≡ free b → is_plain (element_at t i) ≡ false
    free-test b q = ap (λ (n : ℕ). leb n 3) (kind-is (free b) q) ∙ free-kind b.free

    body_is : (b : Body) → a.one.kind ≡ free b → body_at t j ≡ laid_body (0 + parameters_in (bodies_of qs)) (0 + summed part_count (bodies_of qs)) b
    body_is b q = (body-row u t m L j (body-among es i a b q)).is

    ends-after : (k : Kind) → a.one.kind ≡ k → ends_after (ends_of qs) (element_at t i) (body_at t j) ≡ ends_of (qs ++ a.one ∷ [])
    ends-after (plain k) q =
        let e : bodies_of (qs ++ a.one ∷ []) ≡ bodies_of qs = bodies-more qs a.one (plain k) q ∙ append-nil (bodies_of qs) in
        rw (plain-test k q, e) (ends_same count-is refl refl refl)
    ends-after (free b) q =
        let e : bodies_of (qs ++ a.one ∷ []) ≡ bodies_of qs ++ b ∷ [] = bodies-more qs a.one (free b) q in
        let n = length-append (bodies_of qs) (b ∷ []) in
        let p = summed-append (λ (x : Body). length x.us + length x.vs) (bodies_of qs) (b ∷ []) in
        let l = summed-append part_count (bodies_of qs) (b ∷ []) in
        rw (free-test b q, e)
        (ap (λ (x : records.Body). ends (corners_in qs + 3 * (element_at t i).corners.count) (suc j) (parameters_in (bodies_of qs) + (x.count_u + x.count_v)) (summed part_count (bodies_of qs) + x.loops)) (body_is b q)
        ∙ ends_same count-is (omega arith) (omega arith) (omega arith))

    parts-follow : (N n : ℕ) → cond (eqb n 0) true (eqb (cond (eqb n 0) 0 (0 + N)) N) ≡ true
    parts-follow N n = go (eqb n 0)
      where
        go : (z : Bool) → cond z true (eqb (cond z 0 (0 + N)) N) ≡ true
        go true = refl
        go false = eq-eqb (0 + N) N (omega arith)

    follows : (k : Kind) → a.one.kind ≡ k → element_follows (ends_of qs) (element_at t i) (body_at t j) ≡ true
    follows (plain k) q = rw (first-is, plain-test k q)
    follows (free b) q =
        let number : eqb (element_at t i).body (suc j) ≡ true = eq-eqb (element_at t i).body (suc j) (w.body ∙ ap (λ (x : Kind). body_number x j) q) in
        rw (first-is, free-test b q, number)
        (ap (body_follows (ends_of qs)) (body_is b q)
        ∙ and_both (eq-eqb (0 + parameters_in (bodies_of qs)) (parameters_in (bodies_of qs)) (omega arith)) (parts-follow (summed part_count (bodies_of qs)) (part_count b)))

  taken : (i : ℕ) (a : Among es i) → take i es ≡ a.before
  taken i a = ap (take i) a.is ∙ take_at a.before (a.one ∷ a.after) i a.many

  -- the ends after the first i elements
  ends-upto : (i : ℕ) → i ≤ length es → ends_before t i ≡ ends_of (take i es)
  ends-upto zero h = refl
  ends-upto (suc i) h =
      let a = among es i (omega arith) in
      let e = a.one in
      let g : get_or es i e ≡ e = ap (λ (q : List Element). get_or q i e) a.is ∙ get_or_at a.before e a.after e i a.many in
      let b = taken i a in
      let n : take (suc i) es ≡ a.before ++ e ∷ [] = take-suc es i e (omega arith) ∙ ap (λ (q : Element). take i es ++ q ∷ []) g ∙ ap (λ (q : List Element). q ++ e ∷ []) b in
      ap (λ (x : Ends). ends_after x (element_at t i) (body_at t x.bodies)) (ends-upto i (omega arith) ∙ ap ends_of b)
      ∙ ends-after i a e.kind refl ∙ ap ends_of (sym n)

  follows-at : (i : ℕ) → i < length es → follows_at t i ≡ true
  follows-at i h =
      let a = among es i h in
      ap (λ (x : Ends). element_follows x (element_at t i) (body_at t x.bodies)) (ends-upto i (omega arith) ∙ ap ends_of (taken i a)) ∙ follows i a a.one.kind refl

  module _ (n : u.elements ≡ length es) where
    ends-are : ends_before t u.elements ≡ ends_of es
    ends-are = ap (ends_before t) n ∙ ends-upto (length es) (omega arith) ∙ ap ends_of (take-length es)

    runs-follow : runs_follow u t ≡ true
    unfolding runs_follow
    runs-follow =
        let c = L.used-corners in
        let b = L.used-bodies in
        let p = L.used-parameters in
        let q = parameter_rows-length (bodies_of es) in
        let l = L.used-loops in
        and_both (below_all (follows_at t) u.elements (λ i h. follows-at i (omega arith)))
        (ap (ends_used u) ends-are
        ∙ and_both
        (and_both
        (and_both (eq-eqb (corners_in es) u.corners (omega arith)) (eq-eqb (length (bodies_of es)) u.bodies (omega arith)))
        (eq-eqb (parameters_in (bodies_of es)) u.parameters (omega arith)))
        (eq-eqb (summed part_count (bodies_of es)) u.loops (omega arith)))

    module _ (K : Kept m) where
      lent-all : lent_all u t ≡ true
      lent-all =
          let x = m.vertices in
          let bs = bodies_of es in
          lent_of u t
          (record {
            vertices = record {
              v = (let e = wide-length 4 x.v (vertices-wide geometric x.v K.v) in let k = L.v.lent in let j = L.used_v in omega arith);
              vt = (let e = wide-length 3 x.vt (vertices-wide texture x.vt K.vt) in let k = L.vt.lent in let j = L.used-vt in omega arith);
              vn = (let e = wide-length 3 x.vn (vertices-wide normal x.vn K.vn) in let k = L.vn.lent in let j = L.used-vn in omega arith);
              vp = (let e = wide-length 4 x.vp (vertices-wide parametric x.vp K.vp) in let k = L.vp.lent in let j = L.used-vp in omega arith);
            };
            elements = record {
              corners = (let e = corner_rows-length es in let k = L.corners.lent in let j = L.used-corners in omega arith);
              elements = (let e = element_rows-length 0 0 es in let k = L.elements.lent in omega arith);
            };
            bodies = record {
              bodies = (let e = body_rows-length 0 0 bs in let k = L.bodies.lent in let j = L.used-bodies in omega arith);
              ranges = (let e = range_rows-length bs in let k = L.ranges.lent in let j = L.used-bodies in omega arith);
              parameters = (let k = L.parameters.lent in let j = L.used-parameters in omega arith);
              loops = (let e = loop_rows-length bs in let k = L.loops.lent in let j = L.used-loops in omega arith);
              spans = (let e = span_rows-length bs in let k = L.spans.lent in let j = L.used-loops in omega arith);
            };
          })

      vertices-obey : vertices_obey u t ≡ true
      unfolding vertices_obey
      vertices-obey =
          let x = m.vertices in
          and_both
          (and_both
          (and_both
          (below_all _ u.v (λ k h. vertex-obeys geometric t.vertices.v x.v K.v L.v 4 u.v (suc k) refl L.used_v (omega arith) (let e = L.used_v in omega arith)))
          (below_all _ u.vt (λ k h. vertex-obeys texture t.vertices.vt x.vt K.vt L.vt 3 u.vt (suc k) refl L.used-vt (omega arith) (let e = L.used-vt in omega arith))))
          (below_all _ u.vn (λ k h. vertex-obeys normal t.vertices.vn x.vn K.vn L.vn 3 u.vn (suc k) refl L.used-vn (omega arith) (let e = L.used-vn in omega arith))))
          (below_all _ u.vp (λ k h. parameter-obeys t.vertices.vp x.vp K.vp L.vp u.vp (suc k) L.used-vp (omega arith) (let e = L.used-vp in omega arith)))

      elements-obey : elements_obey u t ≡ true
      unfolding elements_obey
      elements-obey = below_all _ u.elements (λ i h. each-obeys u t m L K i (omega arith))

      whole-obeys : whole_obeys u t ≡ true
      unfolding whole_obeys
      whole-obeys = and_both (and_both (and_both lent-all vertices-obey) elements-obey) runs-follow

pub accepted-obeys : AcceptedObeys
accepted-obeys R s m h = whole-obeys (used_of m) (tables_of R m) m (laid R m) (used-elements m) (kept R s m h)

-- ---- sweeping tables that obey
module _ (u : Used) (t : Tables) (h : whole_obeys u t ≡ true) (numbers : List ℕ) where
  has_room : leb (numbers_needed u) (length numbers) ≡ true → (sweep_into u t numbers).outcome.number ≡ 0
  unfolding sweep_into
  has_room q = rw (h, q)

  lacks-room : leb (numbers_needed u) (length numbers) ≡ false → sweep_into u t numbers ≡ refused_sweep NoOutputRoom t numbers
  unfolding sweep_into
  lacks-room q = rw (h, q)

  not-15 : (sweep_into u t numbers).outcome.number ≡ 15 → ⊥
  not-15 e = go (test (leb (numbers_needed u) (length numbers)))
    where
      go : (leb (numbers_needed u) (length numbers) ≡ true) ⊎ (leb (numbers_needed u) (length numbers) ≡ false) → ⊥
      go (inl q) = omega (arith, has_room q, e)
      go (inr q) = omega (arith, ap (λ (a : SweepAnswer). a.outcome.number) (lacks-room q), e)

obeying : (u : Used) (t : Tables) → whole_obeys u t ≡ true → Sweeps u t
obeying u t h =
    record {
      whole = h;
      given = λ numbers l. has_room u t h numbers (le-leb (numbers_needed u) (length numbers) l);
      no_room = λ numbers l. lacks-room u t h numbers (lt-leb (numbers_needed u) (length numbers) l);
      never-15 = not-15 u t h;
    }

pub accepted-sweeps : AcceptedSweeps
accepted-sweeps s S u h =
    let file = accepted s S u h in
    let m = file.model in
    obeying u (read_into s S).tables
    (shown (λ (w : Used) (x : Tables). whole_obeys w x ≡ true) s S u m h file.is_read (accepted-obeys (rooms_of S) s m file.is_read))
