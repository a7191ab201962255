-- The loop over lines: what is tallied so far and what is left come to the tally of all lines before the place, and each line adds one at most.
use Prim.Native.Nat.{ℕ, ◌+◌, ◌-◌, ◌≤◌, ◌<◌}
use mathlib.Core.Path.{◌≡◌, sym, ap, ap₂, ◌∙◌}
use mathlib.Core.List.{List, [], ◌∷◌}
use mathlib.Core.Bool.{Bool, true, false, cond}
use mathlib.Core.Option.{Option, none}
use mathlib.Core.Logic.{⊎_elim}
use native.Mathlib.Omega.{arith}
use borrow.Author.Tests.{le-leb, lt-leb, leb-true, leb-false, lt-ltb, le-ltb}
use lib.ListN.{length}
use lib.Dec.{leb, ltb}
use Rattle.lists.proofs.Tests.{test}
use Rattle.text.specs.Lines.{Line as JoinedLine}
use Rattle.text.specs.Words.{Word}
use Rattle.text.specs.Rest.{Rest, rest_at, WordMet, EndMet, BadMet, scan_of, lines_at}
use Rattle.std.specs.Prelude.{Result, Ok, Err}
use Rattle.text.specs.declared.Parsed.{Parsed}
use Rattle.text.proofs.LineByLine.{lines_start, lines-on, lines_end, line-words, line-bad, next-ahead, next-to}
use Rattle.text.proofs.Scans.{scan_good, scan-fault}
use Rattle.keywords.specs.Keywords.{statement_of}
use Rattle.keywords.specs.Lookup.{keyword_at}
use Rattle.keywords.specs.declared.Keyword.{Keyword}
use Rattle.tables.specs.Records.{curve2_kind}
use Rattle.statements.specs.declared.VertexKind.{VertexKind}
use Rattle.statements.specs.declared.VertexKind.TheVariants.{Geometric, Texture, Normal, Parametric}
use Rattle.statements.specs.declared.Carried.{Carried}
use Rattle.statements.specs.declared.Carried.TheVariants.{Vertex, Element, Body, Parameters, Trim, Hole, End, BodyType, Degree, Group, Smoothing, Material, PassedOver}
use Rattle.read_advice.specs.declared.lines_before.Tally.{Tally}
use Rattle.keyword_rules.specs.Asked.{carried_of}
use Rattle.read_advice.specs.Tally.{start_tally, after_end, after_vertex, after_line, after_words, tally_up_to, start_of, tally_from, tally_of}
use Rattle.read_advice.specs.Inner.{vertex_total}

-- ---- a line adds one at most
one_more : (b : Bool) (n : ℕ) → cond b (n + 1) n ≤ n + 1
one_more true n = omega arith
one_more false n = omega arith

ending-few : (t : Tally) → vertex_total (after_end t) ≤ vertex_total t + 1
ending-few t = let x = one_more (lib.Dec.eqb t.kind curve2_kind) t.curves in omega arith

vertex-few : (k : VertexKind) (t : Tally) → vertex_total (after_vertex k t) ≤ vertex_total t + 1
vertex-few Geometric t = omega arith
vertex-few Texture t = omega arith
vertex-few Normal t = omega arith
vertex-few Parametric t = omega arith

line-few : (k : Carried) (key : ℕ) (t : Tally) → vertex_total (after_line k key t) ≤ vertex_total t + 1
line-few (Vertex k) key t = vertex-few k t
line-few (Element k) key t = omega arith
line-few (Body k) key t = omega arith
line-few Parameters key t = omega arith
line-few Trim key t = omega arith
line-few Hole key t = omega arith
line-few End key t = ending-few t
line-few BodyType key t = omega arith
line-few Degree key t = omega arith
line-few Group key t = omega arith
line-few Smoothing key t = omega arith
line-few Material key t = omega arith
line-few PassedOver key t = omega arith

words-few : (ws : List Word) (t : Tally) → vertex_total (after_words ws t) ≤ vertex_total t + 1
words-few [] t = omega arith
words-few (w ∷ ws) t = line-few (carried_of (statement_of w.bytes)) w.place t

-- ---- one line
module _ (s : List ℕ) (at : ℕ) (t : Tally) where
  pub line-none : {q : ℕ} → EndMet s at q → t ≡ after_words (rest_at s at).words t
  line-none m = sym (ap (λ (r : Rest). after_words r.words t) m.rest)

  pub line-bad-first : {p : ℕ} → BadMet s at p → t ≡ after_words (rest_at s at).words t
  line-bad-first m = sym (ap (λ (ws : List Word). after_words ws t) m.no_words)

  pub line-said : {p : ℕ} → WordMet s at p → (k : Keyword) → k ≡ keyword_at s p → (d : Carried) → d ≡ carried_of k.statement → (u : Tally) → u ≡ after_line d p t
      → u ≡ after_words (rest_at s at).words t
  unfolding keyword_at
  line-said {p} m k kw d is u e =
      e ∙ ap (λ (d : Carried). after_line d p t) is ∙ ap (λ (k : Keyword). after_line (carried_of k.statement) p t) kw ∙ sym (ap (λ (r : Rest). after_words r.words t) m.rest)

-- ---- where the next line starts
starts : (s : List ℕ) (q : ℕ) → q ≤ length s → start_of (length s) (lines_at s q) ≡ q
starts s q h =
    ⊎_elim
    (λ (b : leb (length s) q ≡ true). let g : length s ≤ q = leb-true _ _ b in ap (start_of (length s)) (lines_end s q g) ∙ (let z : length s ≡ q = omega arith in z))
    (λ (b : leb (length s) q ≡ false). let g : q < length s = leb-false _ _ b in ap (start_of (length s)) (lines-on s q g))
    (test (leb (length s) q))

-- ---- between lines
pub record Going (s : List ℕ) (p : ℕ) (t : Tally) (at : ℕ) : Type 0 where
  pub to : at ≤ length s
  pub few : vertex_total t ≤ at
  pub same : tally_of s p ≡ tally_from p (length s) (lines_at s at) t

pub going_start : (s : List ℕ) (p : ℕ) (t : Tally) → length s ≤ 16777216 → t ≡ start_tally → Going s p t 0
unfolding tally_of
going_start s p t h e =
    record {
      to = omega arith;
      few = rw e (omega arith);
      same = rw (le-leb (length s) 16777216 h, e) (ap (λ (ls : List JoinedLine). tally_from p (length s) ls start_tally) (lines_start s));
    }

pub tally-long : (s : List ℕ) (p : ℕ) (t : Tally) → 16777216 < length s → t ≡ start_tally → t ≡ tally_of s p
unfolding tally_of
tally-long s p t h e = rw (lt-leb (length s) 16777216 h) e

module _ (s : List ℕ) (p : ℕ) (t : Tally) (at : ℕ) (go : Going s p t at) where
  module _ (h : at < length s) where
    abbrev further : Tally
    further = tally_from p (length s) (lines_at s (rest_at s at).next) (after_words (rest_at s at).words t)

    first : tally_of s p ≡ tally_up_to (rest_at s at).bad t (cond (ltb p (rest_at s at).next) t further)
    first =
        go.same
        ∙ ap (λ (ls : List JoinedLine). tally_from p (length s) ls t) (lines-on s at h)
        ∙ ap₂ (λ (b : Option ℕ) (ws : List Word). tally_up_to b t (cond (ltb p (start_of (length s) (lines_at s (rest_at s at).next))) t (tally_from p (length s) (lines_at s (rest_at s at).next) (after_words ws t)))) (line-bad s at) (line-words s at)
        ∙ ap (λ (n : ℕ). tally_up_to (rest_at s at).bad t (cond (ltb p n) t further)) (starts s (rest_at s at).next (next-to s at (let g : at ≤ length s = omega arith in g)).1)

    pub going-stops : (a : Result (Parsed ℕ) ℕ) → a ≡ scan_of (rest_at s at) → (b : ℕ) → a ≡ Err b → t ≡ tally_of s p
    going-stops a is b e =
        let x = scan-fault (rest_at s at) b (sym e ∙ is) in
        sym (first ∙ ap (λ (o : Option ℕ). tally_up_to o t (cond (ltb p (rest_at s at).next) t further)) x)

    module _ (a : Result (Parsed ℕ) ℕ) (is : a ≡ scan_of (rest_at s at)) (n q : ℕ) (e : a ≡ Ok (record { value = n; next = q })) where
      read : ((rest_at s at).bad ≡ none) × (length (rest_at s at).words ≡ n) × ((rest_at s at).next ≡ q)
      read = scan_good (rest_at s at) n q (sym e ∙ is)

      second : tally_of s p ≡ cond (ltb p q) t further
      second =
          first ∙ ap₂ (λ (o : Option ℕ) (k : ℕ). tally_up_to o t (cond (ltb p k) t further)) read.0 read.2

      pub going-holds : p < q → t ≡ tally_of s p
      going-holds l = sym (second ∙ ap (λ (b : Bool). cond b t further) (lt-ltb p q l))

      pub going_on : q ≤ p → (u : Tally) → u ≡ after_words (rest_at s at).words t → Going s p u q × (length s - q < length s - at)
      going_on l u f =
          let x = next-ahead s at h in
          let b = next-to s at (let g : at ≤ length s = omega arith in g) in
          let y = b.1 in
          let k : (rest_at s at).next ≡ q = read.2 in
          let w = words-few (rest_at s at).words t in
          let d : vertex_total u ≡ vertex_total (after_words (rest_at s at).words t) = ap vertex_total f in
          let z = go.few in
          let same : tally_of s p ≡ tally_from p (length s) (lines_at s q) u =
          second ∙ ap (λ (b : Bool). cond b t further) (le-ltb p q l)
          ∙ ap₂ (λ (k : ℕ) (v : Tally). tally_from p (length s) (lines_at s k) v) k (sym f) in (
            record { to = (let g : q ≤ length s = omega arith in g); few = (let g : vertex_total u ≤ q = omega arith in g); same = same },
            (let g : length s - q < length s - at = omega arith in g),
          )

  pub going-ends : length s ≤ at → t ≡ tally_of s p
  going-ends h = sym (go.same ∙ ap (λ (ls : List JoinedLine). tally_from p (length s) ls t) (lines_end s at h))
