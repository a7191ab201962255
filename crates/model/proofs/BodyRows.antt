-- Body j of the tables is body j of the model, with its range, its parameters and its loop parts. By its rows.
use Prim.Native.Nat.{ℕ, suc, ◌+◌, ◌*◌, ◌≤◌, ◌<◌}
use mathlib.Core.Path.{◌≡◌, refl, sym, ap, ◌∙◌, subst}
use mathlib.Core.List.{List, [], ◌∷◌, ◌++◌, append-nil}
use native.Mathlib.Omega.{arith}
use lib.ListN.{length, get_or, length-append}
use lib.IntN.{ℤ, pos}
use Rattle.lists.specs.Lists.{flat}
use Rattle.tables.specs.Tables.{Tables}
use Rattle.tables.specs.Bodies.{basis_number}
use Rattle.tables.specs.Records.{body_at, number_at, value_at, parameters_u, parameters_v, body_width, range_width, loop_width, span_width}
use Rattle.tables.specs.declared.Body as records
use Rattle.tables.specs.declared.Used.{Used}
use Rattle.model.specs.Model.{Body, Kind, free, Element, Model}
use Rattle.model.specs.Room.{summed, part_count}
use Rattle.model.specs.Layout.{first_part, flag, body_row, body_rows, range_row, body_of_kind, bodies_of, parameter_row, loop_rows, span_rows}
use Rattle.model.proofs.Rows.{body_rows-length, body_rows-append, parameter_rows-length, loop_rows-length, span_rows-length, bodies-append, summed-append}
use Rattle.model.proofs.Stands.{Stands, stands_at, stands-is, stands-part, stands-flat, stands-record, Among}
use Rattle.model.proofs.Laid.{Laid}

-- the body of an element, among the bodies
abbrev pub body-among : (es : List Element) (i : ℕ) (a : Among es i) (b : Body) → a.one.kind ≡ free b → Among (bodies_of es) (length (bodies_of a.before))
body-among es i a b q =
    record {
      before = bodies_of a.before;
      one = b;
      after = bodies_of a.after;
      is = ap bodies_of a.is ∙ bodies-append a.before (a.one ∷ a.after) ∙ ap (λ (k : Kind). bodies_of a.before ++ (body_of_kind k ++ bodies_of a.after)) q;
      many = refl;
    }

-- p parameters and l loop parts stand before it
abbrev pub laid_body : ℕ → ℕ → Body → records.Body
laid_body p l b =
    record {
      basis = basis_number b.basis;
      rational = flag b.rational;
      degree_u = b.degree-u;
      degree_v = b.degree-v;
      first_parameter = p;
      count_u = length b.us;
      count_v = length b.vs;
      first_loop = first_part l (part_count b);
      loops = part_count b;
      start_u = b.start-u;
      end_u = b.end-u;
      start_v = b.start-v;
      end_v = b.end-v;
    }

abbrev pub parameters_in : List Body → ℕ
parameters_in bs = summed (λ (b : Body). length b.us + length b.vs) bs

pub record BodyRow (u : Used) (t : Tables) (j p l : ℕ) (b : Body) : Type 0 where
  pub used : suc j ≤ u.bodies
  pub lent-body : body_width * suc j ≤ length t.bodies.bodies
  pub lent-range : range_width * suc j ≤ length t.bodies.ranges
  pub is : body_at t j ≡ laid_body p l b
  pub used-parameters : p + (length b.us + length b.vs) ≤ u.parameters
  pub used-loops : l + part_count b ≤ u.loops
  pub parameters : Stands t.bodies.parameters p (b.us ++ b.vs)
  pub loops : Stands t.bodies.loops (loop_width * l) (loop_rows b)
  pub spans : Stands t.bodies.spans (span_width * l) (span_rows b)

module _ (u : Used) (t : Tables) (m : Model) (L : Laid u t m) (j : ℕ) (a : Among (bodies_of m.elements) j) where
  abbrev bs : List Body
  bs = bodies_of m.elements

  abbrev b : Body
  b = a.one

  abbrev P : ℕ
  P = 0 + parameters_in a.before

  abbrev N : ℕ
  N = 0 + summed part_count a.before

  numbers : Stands t.bodies.bodies (body_width * j) (body_row P N b)
  numbers =
      let s = subst (Stands t.bodies.bodies 0) (ap (body_rows 0 0) a.is ∙ body_rows-append 0 0 a.before (b ∷ a.after)) L.bodies in
      stands-is t.bodies.bodies (0 + length (body_rows 0 0 a.before)) (body_width * j) (body_row P N b) (let k = body_rows-length 0 0 a.before in let i = a.many in omega arith)
      (stands-part t.bodies.bodies 0 (body_rows 0 0 a.before) (body_row P N b) (body_rows (P + (length b.us + length b.vs)) (N + part_count b) a.after) s)

  range : Stands t.bodies.ranges (range_width * j) (range_row b)
  range = stands-is t.bodies.ranges (0 + range_width * j) (range_width * j) (range_row b) (omega arith) (stands-record range_row range_width (λ b. refl) t.bodies.ranges 0 bs j a L.ranges)

  number-at : (k : ℕ) → k < body_width → number_at body_width t.bodies.bodies j k ≡ get_or (body_row P N b) k 0
  number-at k h = stands_at t.bodies.bodies (body_width * j) (body_row P N b) k 0 numbers (omega arith)

  value-at : (k : ℕ) → k < range_width → value_at range_width t.bodies.ranges j k ≡ get_or (range_row b) k (pos 0)
  value-at k h = stands_at t.bodies.ranges (range_width * j) (range_row b) k (pos 0) range (omega arith)

  body_is : body_at t j ≡ laid_body P N b
  body_is =
      rw (
        number-at 0 (omega arith),
        number-at 1 (omega arith),
        number-at 2 (omega arith),
        number-at 3 (omega arith),
        number-at 4 (omega arith),
        number-at 5 (omega arith),
        number-at 6 (omega arith),
        number-at 7 (omega arith),
        number-at 8 (omega arith),
        value-at 0 (omega arith),
        value-at 1 (omega arith),
        value-at 2 (omega arith),
        value-at 3 (omega arith),
      ) refl

  pub body-row : BodyRow u t j P N b
  body-row =
      let pr = summed-append (λ (c : Body). length c.us + length c.vs) a.before (b ∷ a.after) in
      let pt = summed-append part_count a.before (b ∷ a.after) in
      let e₁ : parameters_in bs ≡ parameters_in (a.before ++ b ∷ a.after) = ap parameters_in a.is in
      let e₂ : summed part_count bs ≡ summed part_count (a.before ++ b ∷ a.after) = ap (summed part_count) a.is in
      let e₃ = parameter_rows-length bs in
      let e₄ : length bs ≡ length (a.before ++ b ∷ a.after) = ap length a.is in
      let e₅ = length-append a.before (b ∷ a.after) in
      let e₆ = a.many in
      record {
        used = (let k = L.used-bodies in omega arith);
        lent-body = (let k = numbers.lent in omega arith);
        lent-range = (let k = range.lent in omega arith);
        is = body_is;
        used-parameters = (let k = L.used-parameters in omega arith);
        used-loops = (let k = L.used-loops in omega arith);
        parameters = stands-is t.bodies.parameters (0 + length (flat parameter_row a.before)) P (b.us ++ b.vs) (let k = parameter_rows-length a.before in omega arith)
            (stands-flat parameter_row t.bodies.parameters 0 bs j a L.parameters);
        loops = stands-is t.bodies.loops (0 + length (flat loop_rows a.before)) (loop_width * N) (loop_rows b) (let k = loop_rows-length a.before in omega arith)
            (stands-flat loop_rows t.bodies.loops 0 bs j a L.loops);
        spans = stands-is t.bodies.spans (0 + length (flat span_rows a.before)) (span_width * N) (span_rows b) (let k = span_rows-length a.before in omega arith)
            (stands-flat span_rows t.bodies.spans 0 bs j a L.spans);
      }

module _ (u : Used) (t : Tables) (j p l : ℕ) (b : Body) (r : BodyRow u t j p l b) where
  -- its parameters, read back
  pub us-are : parameters_u t (laid_body p l b) ≡ b.us
  us-are = (stands-is t.bodies.parameters (p + 0) p b.us (omega arith) (stands-part t.bodies.parameters p [] b.us b.vs r.parameters)).run

  pub vs-are : parameters_v t (laid_body p l b) ≡ b.vs
  vs-are =
      (stands-part t.bodies.parameters p b.us b.vs [] (subst (λ (q : List ℤ). Stands t.bodies.parameters p (b.us ++ q)) (sym (append-nil b.vs)) r.parameters)).run
