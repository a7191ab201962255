-- What a put's loop has done after i turns, over the element type: the row's first i are stored from `at` on. And what a put's answer says to its caller.
use Prim.Native.Nat.{ℕ, ◌+◌, ◌≤◌, ◌<◌}
use mathlib.Core.Path.{◌≡◌, refl, sym, ap, ◌∙◌}
use mathlib.Core.List.{List, [], ◌∷◌}
use mathlib.Core.Bool.{Bool, cond}
use native.Mathlib.Numerals.{add-one}
use native.Mathlib.Omega.{arith}
use lib.Dec.{leb}
use lib.ListN.{length, get_or, set, take, length-set}
use lib.Seq.{sets, take-suc, length-take-le}
use Rattle.lists.proofs.Laws.{sets-append}

pub record StoredTo {A : Type 0} (before : List A) (at : ℕ) (row now : List A) (i : ℕ) : Type 0 where
  pub within : i ≤ length row
  pub kept : length now ≡ length before
  pub front : now ≡ sets before at (take i row)

module _ {A : Type 0} (before : List A) (at : ℕ) (row : List A) where
  pub stored-none : StoredTo before at row before 0
  stored-none = record { within = omega arith; kept = refl; front = refl }

  module _ {now : List A} {i : ℕ} (c : StoredTo before at row now i) where
    pub stored_more : {a : A} (z : A) → i < length row → a ≡ get_or row i z → StoredTo before at row (set now (at + i) a) (i + 1)
    stored_more {a} z h e =
        let same : length now ≡ length before = c.kept in
        let long : length (take i row) ≡ i = length-take-le i row c.within in
        record {
          within = omega arith;
          kept = length-set now (at + i) a ∙ same;
          front =
              ap (λ (l : List A). set l (at + i) a) c.front
              ∙ ap (λ (b : A). set (sets before at (take i row)) (at + i) b) e
              ∙ ap (λ (n : ℕ). set (sets before at (take i row)) (at + n) (get_or row i z)) (sym long)
              ∙ sym (sets-append before at (take i row) (get_or row i z ∷ []))
              ∙ ap (sets before at) (sym (take-suc row i z h))
              ∙ ap (λ (n : ℕ). sets before at (take n row)) (sym (add-one i));
        }

-- the answer to a put of a row that is vs
pub put_of : {A : Type 0} (l : List A) (n : ℕ) {m row vs : List A} {r : Bool} → row ≡ vs
    → (r ≡ leb (n + length row) (length l)) × (m ≡ cond r (sets l n row) l) → (r ≡ leb (n + length vs) (length l)) × (m ≡ cond r (sets l n vs) l)
put_of {A} l n {m} {row} {vs} {r} e h =
    (h.0 ∙ ap (λ (x : List A). leb (n + length x) (length l)) e, h.1 ∙ ap (λ (x : List A). cond r (sets l n x) l) e)
