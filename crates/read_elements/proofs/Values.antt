-- The corners of a line as the code walks through them are the values of its words, all of one pattern; and back. By the words.
use Prim.Native.Nat.{ℕ, suc, ◌≤◌}
use mathlib.Core.Path.{◌≡◌, refl, sym, ap, ◌∙◌}
use mathlib.Core.Bool.{Bool, true, false, cond}
use mathlib.Core.List.{List, [], ◌∷◌, map}
use mathlib.Core.Option.{Option, none, some}
use lib.ListN.{length}
use native.Mathlib.Omega.{arith}
use Rattle.lists.specs.Lists.{all}
use Rattle.lists.proofs.Tests.{and_both}
use Rattle.std.specs.Prelude.{Option as Answer, Some, None}
use Rattle.text.specs.Words.{Word}
use Rattle.digits.specs.Said.{Said, says, wrong}
use Rattle.references.specs.Corner.{Corner, Parts, alike}
use Rattle.model.specs.Parse.{Parsed, fine, fault, then, WordForm, Value, corner, on_said, Seen, said_of, placed, values_of, differing, unlike}
use Rattle.read_vertices.proofs.Closed.{nothing}
use Rattle.read_elements.specs.Corners.{pattern_of, follows, CornersFound, ahead, on_corner, corners_from}
use Rattle.read_elements.proofs.Patterns.{follows-alike, same-pattern}
use Rattle.model.proofs.Parsed.{fine-fault}

-- a value before the others
pub record Headed {A : Type 0} (make : A → Value) (v : Said A) (y : Parsed (List Value)) (xs : List Value) : Type 0 where
  pub head : A
  pub tail : List Value
  pub said : v ≡ says head
  pub rest : y ≡ fine tail
  pub whole : xs ≡ make head ∷ tail

pub headed : {A : Type 0} (make : A → Value) (v : Said A) (p : ℕ) (y : Parsed (List Value)) (xs : List Value)
    → then (placed (on_said make v) p) (λ a. then y (λ bs. fine (a ∷ bs))) ≡ fine xs → Headed make v y xs
headed make (wrong n) p y xs e = fine-fault e
headed make (says z) p (fault n m) xs e = fine-fault e
headed make (says z) p (fine ys) xs e = record { head = z; tail = ys; said = refl; rest = refl; whole = let f : make z ∷ ys ≡ xs = cc in sym f }

module _ (h : List ℕ → Said Corner) where
  -- the words from the i-th on are read as corners by h
  pub record Reads (x : Seen) (form : ℕ → WordForm) (i : ℕ) : Type 0 where
    pub reads : (j : ℕ) → i ≤ j → (w : Word) → said_of x (form j) w ≡ on_said corner (h w.bytes)

  later : (x : Seen) (form : ℕ → WordForm) (i : ℕ) → Reads x form i → Reads x form (suc i)
  later x form i r = record { reads = λ j k w. r.reads j (omega arith) w }

  -- ---- from the walk to the values
  pub record Walked (f : Answer Parts) (ws : List Word) (b : Option ℕ) (q : ℕ) (cs : List Corner) (p : ℕ) : Type 0 where
    pub bad : b ≡ none
    pub next : q ≡ p
    pub counted : length cs ≡ length ws
    pub values : (x : Seen) (form : ℕ → WordForm) (i : ℕ) → Reads x form i → values_of x form i ws ≡ fine (map corner cs)
    pub alone : unlike ws cs ≡ none
    pub along : (d : Corner) → Some (pattern_of d) ≡ f → differing d ws cs ≡ none

  record OfAhead (t : Bool) (c : Corner) (o : CornersFound) (cs : List Corner) (p : ℕ) : Type 0 where
    pub test : t ≡ true
    pub rest : List Corner
    pub whole : cs ≡ c ∷ rest
    pub from : o ≡ some (rest, p)

  of-ahead : (t : Bool) (c : Corner) (o : CornersFound) (cs : List Corner) (p : ℕ) → cond t (ahead c o) none ≡ some (cs, p) → OfAhead t c o cs p
  of-ahead false c o cs p e = nothing e
  of-ahead true c none cs p e = nothing e
  of-ahead true c (some r) cs p e =
      let z : ◌≡◌ {A = List Corner × ℕ} (c ∷ r.0, r.1) (cs, p) = cc in
      record {
        test = refl;
        rest = r.0;
        whole = sym (ap (λ (x : List Corner × ℕ). x.0) z);
        from = ap (λ (n : ℕ). some (r.0, n)) (ap (λ (x : List Corner × ℕ). x.1) z);
      }

  walked-word : (f : Answer Parts) (w : Word) (ws : List Word) (b : Option ℕ) (q : ℕ) (cs : List Corner) (p : ℕ) (v : Said Corner) → h w.bytes ≡ v
      → ((g : Answer Parts) (ds : List Corner) → corners_from h g ws b q ≡ some (ds, p) → Walked g ws b q ds p)
      → on_corner v (λ c. cond (follows f (pattern_of c)) (ahead c (corners_from h (Some (pattern_of c)) ws b q)) none) ≡ some (cs, p)
      → Walked f (w ∷ ws) b q cs p
  walked-word f w ws b q cs p (wrong n) v ih e = nothing e
  walked-word f w ws b q cs p (says c) v ih e =
      let o = of-ahead (follows f (pattern_of c)) c (corners_from h (Some (pattern_of c)) ws b q) cs p e in
      let t = ih (Some (pattern_of c)) o.rest o.from in
      let y = o.whole in
      rw y (record {
        bad = t.bad;
        next = t.next;
        counted = ap suc t.counted;
        values = λ x form i r.
            let a = r.reads i (omega arith) w in
            let d = t.values x form (suc i) (later x form i r) in
            rw (a, v, d) refl;
        alone = t.along c refl;
        along = λ d g.
            let a : alike d c ≡ true = sym (follows-alike d c) ∙ ap (λ (k : Answer Parts). follows k (pattern_of c)) g ∙ o.test in
            ap (λ (z : Bool). cond z (differing d ws o.rest) (some w.place)) a ∙ t.along d (ap Some (sym (same-pattern d c a)));
      })

  pub walked : (f : Answer Parts) (ws : List Word) (b : Option ℕ) (q : ℕ) (cs : List Corner) (p : ℕ) → corners_from h f ws b q ≡ some (cs, p) → Walked f ws b q cs p
  walked f [] none q cs p e =
      let z : ◌≡◌ {A = List Corner × ℕ} ([], q) (cs, p) = cc in
      let y : [] ≡ cs = ap (λ (x : List Corner × ℕ). x.0) z in
      record {
        bad = refl;
        next = ap (λ (x : List Corner × ℕ). x.1) z;
        counted = ap length (sym y);
        values = λ x form i r. ap (λ (l : List Corner). fine (map corner l)) y;
        alone = refl;
        along = λ d g. refl;
      }
  walked f [] (some b) q cs p e = nothing e
  walked f (w ∷ ws) b q cs p e = walked-word f w ws b q cs p (h w.bytes) refl (λ g ds. walked g ws b q ds p) e

  -- ---- and back
  pub record Valued (ws : List Word) (q : ℕ) (xs : List Value) : Type 0 where
    pub corners : List Corner
    pub whole : xs ≡ map corner corners
    pub counted : length corners ≡ length ws
    pub each : (t : Corner → Bool) → ((w : List ℕ) (c : Corner) → h w ≡ says c → t c ≡ true) → all t corners ≡ true
    pub alone : unlike ws corners ≡ none → corners_from h None ws none q ≡ some (corners, q)
    pub along : (d : Corner) → differing d ws corners ≡ none → corners_from h (Some (pattern_of d)) ws none q ≡ some (corners, q)

  none_both : (t : Bool) (o : Option ℕ) (p : ℕ) → cond t o (some p) ≡ none → (t ≡ true) × (o ≡ none)
  none_both true o p e = (refl, e)
  none_both false o p e = nothing (sym e)

  module _ (x : Seen) (form : ℕ → WordForm) where
    pub valued : (i : ℕ) → Reads x form i → (ws : List Word) (q : ℕ) (xs : List Value) → values_of x form i ws ≡ fine xs → Valued ws q xs
    valued i r [] q xs e =
        let z : [] ≡ xs = cc in
        record { corners = []; whole = sym z; counted = refl; each = λ t k. refl; alone = λ g. refl; along = λ d g. refl }
    valued i r (w ∷ ws) q xs e =
        let y = values_of x form (suc i) ws in
        let f : then (placed (on_said corner (h w.bytes)) w.place) (λ a. then y (λ bs. fine (a ∷ bs))) ≡ fine xs =
        ap (λ (s : Said Value). then (placed s w.place) (λ a. then y (λ bs. fine (a ∷ bs)))) (sym (r.reads i (omega arith) w)) ∙ e in
        let a = headed corner (h w.bytes) w.place y xs f in
        let c = a.head in
        let t = valued (suc i) (later x form i r) ws q a.tail a.rest in
        let ds = t.corners in
        let said = a.said in
        record {
          corners = c ∷ ds;
          whole = a.whole ∙ ap (λ (l : List Value). corner c ∷ l) t.whole;
          counted = ap suc t.counted;
          each = λ p k. and_both (k w.bytes c said) (t.each p k);
          alone = λ g.
              ap (λ (v : Said Corner). on_corner v (λ d. cond (follows None (pattern_of d)) (ahead d (corners_from h (Some (pattern_of d)) ws none q)) none)) said
              ∙ ap (ahead c) (t.along c g);
          along = λ d g.
              let u = none_both (alike d c) (differing d ws ds) w.place g in
              ap (λ (v : Said Corner). on_corner v (λ b. cond (follows (Some (pattern_of d)) (pattern_of b)) (ahead b (corners_from h (Some (pattern_of b)) ws none q)) none)) said
              ∙ ap (λ (b : Bool). cond b (ahead c (corners_from h (Some (pattern_of c)) ws none q)) none) (follows-alike d c ∙ u.0)
              ∙ ap (λ (k : Parts). ahead c (corners_from h (Some k) ws none q)) (same-pattern d c u.0)
              ∙ ap (ahead c) (t.along d u.1);
        }
