-- A line says a vertex exactly where `parse` reads one: the walk's numbers are the words' values, and both count them alike.
use Prim.Native.Nat.{ℕ, suc, ◌≤◌}
use mathlib.Core.Path.{◌≡◌, sym, ap, ◌∙◌}
use mathlib.Core.Bool.{true, ◌&&◌}
use mathlib.Core.List.{List, ◌++◌, map}
use mathlib.Core.Option.{none, some}
use lib.ListN.{length, drop, length-append, length-drop}
use lib.Dec.{leb}
use lib.IntN.{ℤ}
use borrow.Author.Tests.{leb-true, le-leb, eqb-true, eq-eqb}
use native.Mathlib.Omega.{arith}
use Rattle.lists.proofs.Tests.{and_left, and_right, and_both}
use Rattle.text.specs.Rest.{Rest}
use Rattle.model.specs.Model.{VertexKind, geometric, texture, normal, parametric, State}
use Rattle.model.specs.Statements.{Statement, vertex}
use Rattle.model.specs.Parse.{Parsed, fine, then, must, a-vertex, a-number, Value, number, form_of, values_of, numbers_of, defaults, vertex_record, seen_in, parse}
use Rattle.model.specs.Standing.{outside_body}
use Rattle.model.proofs.Pieces.{counted_vertex}
use Rattle.model.proofs.Parsed.{fine-is, must-fine, then-fine}
use Rattle.read_vertices.specs.Vertex.{fewest_numbers, most_numbers, width, recorded, vertex_said}
use Rattle.read_vertices.proofs.Closed.{closed_some, values-back, row-some, some-row}
use Rattle.read_vertices.proofs.Taking.{vertex-row, row-short}
use Rattle.model.proofs.Values.{numbers_of-map}

-- ---- 5, "v 3 or 4; vt, vp 1 to 3; vn 3"
counted : (k : VertexKind) (n : ℕ) → fewest_numbers k ≤ n → n ≤ most_numbers k → counted_vertex k n ≡ true
counted geometric n a b = and_both (le-leb 3 n a) (le-leb n 4 b)
counted texture n a b = and_both (le-leb 1 n a) (le-leb n 3 b)
counted normal n a b = eq-eqb n 3 (omega arith)
counted parametric n a b = and_both (le-leb 1 n a) (le-leb n 3 b)

between : (low high n : ℕ) → (leb low n && leb n high) ≡ true → (low ≤ n) × (n ≤ high)
between low high n h = (leb-true low n (and_left (leb low n) (leb n high) h), leb-true n high (and_right (leb low n) (leb n high) h))

count-in : (k : VertexKind) (n : ℕ) → counted_vertex k n ≡ true → (fewest_numbers k ≤ n) × (n ≤ most_numbers k)
count-in geometric n h = between 3 4 n h
count-in texture n h = between 1 3 n h
count-in normal n h = let e = eqb-true n 3 h in (omega arith, omega arith)
count-in parametric n h = between 1 3 n h

-- ---- every record has its table's width
filled-up : (zs ds : List ℤ) → length zs ≤ length ds → length (zs ++ drop (length zs) ds) ≡ length ds
filled-up zs ds h = simp (length-append, length-drop) (omega arith)

record-wide : (k : VertexKind) (zs : List ℤ) → length zs ≤ most_numbers k → length (vertex_record k zs) ≡ width k
record-wide geometric zs h = filled-up zs (defaults geometric) h
record-wide texture zs h = filled-up zs (defaults texture) h
record-wide normal zs h = filled-up zs (defaults normal) h
record-wide parametric zs h = ap suc (filled-up zs (defaults parametric) h)

pub vertex-wide : (k : VertexKind) (r : Rest) (z : List ℤ) (q : ℕ) → vertex_said k r ≡ some (z, q) → length z ≡ width k
vertex-wide k r z q e =
    let v = vertex-row k r z q e in
    ap length v.whole ∙ record-wide k v.numbers (row-short k r v.numbers q v.said)

-- ---- a line that says a vertex is parsed as that vertex
pub record ParsedVertex (k : VertexKind) (x : State) (r : Rest) (z : List ℤ) (q : ℕ) : Type 0 where
  pub bad : r.bad ≡ none
  pub next : r.next ≡ q
  pub parsed : (key : ℕ) → parse (a-vertex k) x key r.words ≡ fine (vertex k z)

pub taken-parse : (k : VertexKind) (x : State) (r : Rest) (z : List ℤ) (q : ℕ) → outside_body x.open-body ≡ true → vertex_said k r ≡ some (z, q) → ParsedVertex k x r z q
unfolding parse
taken-parse k x r z q out e =
    let v = vertex-row k r z q e in
    let s = row-some (fewest_numbers k) (most_numbers k) r v.numbers q v.said in
    let n = closed_some (most_numbers k) r.words r.bad r.next v.numbers q s.closes in
    let many = s.many in
    let same = n.counted in
    let short = n.short in
    let count : counted_vertex k (length r.words) ≡ true = counted k (length r.words) (omega arith) short in
    let values : values_of (seen_in x) (form_of (a-vertex k) (length r.words)) 0 r.words ≡ fine (map number v.numbers) = n.values (seen_in x) 0 in
    record {
      bad = n.bad;
      next = n.next;
      parsed = λ key.
          rw (out, count, values)
          (ap (λ (zs : List ℤ). fine (vertex k (vertex_record k zs))) (numbers_of-map v.numbers) ∙ ap (λ (y : List ℤ). fine (vertex k y)) (sym v.whole));
    }

-- ---- and back
pub record SaidVertex (k : VertexKind) (r : Rest) (t : Statement) : Type 0 where
  pub row : List ℤ
  pub is : t ≡ vertex k row
  pub said : vertex_said k r ≡ some (row, r.next)

pub parse-said : (k : VertexKind) (x : State) (r : Rest) (key : ℕ) (t : Statement) → outside_body x.open-body ≡ true → r.bad ≡ none
    → parse (a-vertex k) x key r.words ≡ fine t → SaidVertex k r t
unfolding parse
parse-said k x r key t out good e =
    let ws = r.words in
    let values = values_of (seen_in x) (λ j. a-number) 0 ws in
    let told : List Value → Parsed Statement = λ xs. fine (vertex k (vertex_record k (numbers_of xs))) in
    let a = must-fine (outside_body x.open-body) 10 key (must (counted_vertex k (length ws)) 5 key (then values told)) t e in
    let b = must-fine (counted_vertex k (length ws)) 5 key (then values told) t a.1 in
    let c = then-fine values told t b.1 in
    let count = count-in k (length ws) b.0 in
    let least-is = count.0 in
    let v = values-back (seen_in x) (most_numbers k) 0 ws r.next c.0 c.1 count.1 in
    let same = v.counted in
    let from : _ = v.from in
    record {
      row = vertex_record k (numbers_of c.0);
      is = let f : vertex k (vertex_record k (numbers_of c.0)) ≡ t = fine-is c.2 in sym f;
      said = ap (recorded k) (some-row (fewest_numbers k) (most_numbers k) r (numbers_of c.0) r.next (rw good from) (omega arith));
    }
