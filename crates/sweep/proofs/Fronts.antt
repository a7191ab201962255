-- The four tables swept one after the other: the list of new numbers grows by a kind at a time, and the rest stays.
use Prim.Native.Nat.{ℕ, ◌+◌, ◌≤◌}
use mathlib.Core.Path.{◌≡◌, refl, sym, ap, ap₂, ◌∙◌}
use mathlib.Core.List.{List, [], ◌++◌, append_assoc}
use mathlib.Core.Bool.{Bool}
use native.Mathlib.Omega.{arith}
use lib.IntN.{ℤ, pos}
use lib.ListN.{length, take, drop, length-append, length-drop}
use lib.Seq.{take_at}
use Rattle.lists.specs.Lists.{filled}
use Rattle.tables.specs.Tables.{Tables}
use Rattle.tables.specs.declared.Used.{Used}
use Rattle.model.specs.Model.{VertexKind, geometric, texture, normal, parametric}
use Rattle.sweep_marks.specs.Counting.{kept_upto, new_numbers, kept_rows}
use Rattle.sweep_marks.specs.Marks.{named_in_tables}
use Rattle.sweep_marks.proofs.Numbering.{length-numbers}
use Rattle.sweep_rows.proofs.Stored.{drop_past}
use Rattle.sweep.specs.Named.{named}
use Rattle.sweep.specs.Swept.{swept_used, swept_numbers}
use Rattle.sweep.specs.Vertices.{VerticesSwept}

-- what is named is asked of two tables alone
pub named_in : (used : Used) (t : Tables) (kind : VertexKind) → named_in_tables used.elements t.elements.elements t.elements.corners kind ≡ named used t kind
unfolding named named_in_tables
named_in used t kind = refl

-- a list of which the first a entries are xs and the rest as in l
pub record Front (l xs m : List ℕ) (a : ℕ) : Type 0 where
  pub long : length xs ≡ a
  pub is : m ≡ xs ++ drop (length xs) l

pub front-none : (l : List ℕ) → Front l [] l 0
front-none l = record { long = refl; is = refl }

module _ {l xs m : List ℕ} {a : ℕ} (c : Front l xs m a) where
  pub front_length : a ≤ length l → length m ≡ length l
  front_length h = ap length c.is ∙ length-append xs (drop (length xs) l) ∙ (let e = c.long in let d = length-drop (length xs) l in let z : length xs + length (drop (length xs) l) ≡ length l = omega arith in z)

  pub front-more : (f : ℕ → Bool) (n : ℕ) {m' : List ℕ} → m' ≡ take a m ++ (new_numbers f n ++ drop (a + n) m) → Front l (xs ++ new_numbers f n) m' (a + n)
  front-more f n e =
      let N : List ℕ = new_numbers f n in
      let many : length (xs ++ N) ≡ a + n = length-append xs N ∙ ap₂ (λ (p q : ℕ). p + q) c.long (length-numbers f n) in
      let b : length xs ≤ a + n = (let q = c.long in omega arith) in
      record {
        long = many;
        is =
            e
            ∙ ap (λ (x : List ℕ). take a x ++ (N ++ drop (a + n) x)) c.is
            ∙ ap₂ (λ (x y : List ℕ). x ++ (N ++ y)) (take_at xs (drop (length xs) l) a c.long) (drop_past xs l (a + n) b ∙ ap (λ (k : ℕ). drop k l) (sym many))
            ∙ sym (append_assoc xs N (drop (length (xs ++ N)) l));
      }

front_at : {l xs m : List ℕ} {a b : ℕ} → Front l xs m a → a ≡ b → Front l xs m b
front_at c e = record { long = c.long ∙ e; is = c.is }

-- what one call leaves: how many are kept, the list with the new numbers from entry a on, the rows
abbrev Swept : (ℕ → Bool) → (w a n kept : ℕ) (list numbers : List ℕ) (before after : List ℤ) → Type 0
Swept f w a n kept list numbers before after =
    (kept ≡ kept_upto f n) × (numbers ≡ take a list ++ (new_numbers f n ++ drop (a + n) list)) × (after ≡ filled (length before) (pos 0) (kept_rows w f before n))

module _ (used : Used) (t : Tables) (list : List ℕ) where
  abbrev test : VertexKind → ℕ → Bool
  test kind = named_in_tables used.elements t.elements.elements t.elements.corners kind

  pub vertices-swept : {k₁ k₂ k₃ k₄ : ℕ} {l₁ l₂ l₃ l₄ : List ℕ} {v vt vn vp : List ℤ}
      → Swept (test geometric) 4 0 used.v k₁ list l₁ t.vertices.v v
      → Swept (test texture) 3 used.v used.vt k₂ l₁ l₂ t.vertices.vt vt
      → Swept (test normal) 3 (used.v + used.vt) used.vn k₃ l₂ l₃ t.vertices.vn vn
      → Swept (test parametric) 4 (used.v + used.vt + used.vn) used.vp k₄ l₃ l₄ t.vertices.vp vp
      → VerticesSwept used t list (record { v = k₁; vt = k₂; vn = k₃; vp = k₄; corners = used.corners; elements = used.elements; bodies = used.bodies; parameters = used.parameters; loops = used.loops }) v vt vn vp l₄
  unfolding named named_in_tables swept_numbers swept_used
  vertices-swept p q r s =
      let one = front_at (front-more (front-none list) (test geometric) used.v p.1) (let e : 0 + used.v ≡ used.v = omega arith in e) in
      let four = front-more (front-more (front-more one (test texture) used.vt q.1) (test normal) used.vn r.1) (test parametric) used.vp s.1 in
      record {
        counts = rw (p.0, q.0, r.0, s.0);
        v-is = p.2;
        vt_is = q.2;
        vn_is = r.2;
        vp-is = s.2;
        numbers-are = four.is ∙ ap (λ (k : ℕ). swept_numbers used t ++ drop k list) four.long;
      }
