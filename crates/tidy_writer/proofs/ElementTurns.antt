-- An element's lines as they are emitted, one part after the other, and one turn of the loop over elements.
use Prim.Native.Nat.{ℕ, zero, suc, ◌+◌, ◌≤◌, ◌<◌}
use mathlib.Core.Path.{◌≡◌, sym, ap, ◌∙◌, refl}
use mathlib.Core.List.{List, [], ◌∷◌, ◌++◌}
use mathlib.Core.Bool.{Bool, cond}
use native.Mathlib.Omega.{arith}
use borrow.Author.Tests.{le-leb, lt-leb}
use lib.Dec.{leb}
use Rattle.text.specs.Written.{written_line, written_lines}
use Rattle.tables.specs.Tables.{Tables}
use Rattle.tables.specs.declared.Used.{Used}
use Rattle.tidy_writer.specs.TidyFrom.{element_lines, elements_from}
use Rattle.tidy_writer.proofs.Turns.{one_line, lines-append}

-- ---- an element with a body and one without
pub own-plain : (A : List (List (List ℕ))) (ws : List (List ℕ)) (k : ℕ) → k < 4 → written_line ws ≡ written_lines (cond (leb 4 k) A (ws ∷ []))
own-plain A ws k h = one_line ws ∙ ap (λ (t : Bool). written_lines (cond t A (ws ∷ []))) (sym (lt-leb 4 k h))

pub own_body : (F C : List (List (List ℕ))) (ws : List (List ℕ)) (k : ℕ) → 4 ≤ k
    → written_lines F ++ (written_line ws ++ written_lines C) ≡ written_lines (cond (leb 4 k) (F ++ (ws ∷ C)) (ws ∷ []))
own_body F C ws k h = lines-append F (ws ∷ C) ∙ ap (λ (t : Bool). written_lines (cond t (F ++ (ws ∷ C)) (ws ∷ []))) (sym (le-leb 4 k h))

-- ---- the loop over elements
module _ (s : List ℕ) (used : Used) (t : Tables) where
  abbrev pub onward : ℕ → ℕ → List ℕ
  onward n number = written_lines (elements_from s used t n number)

  pub elements-turn : (n m number : ℕ) → n ≡ m + 1 → onward n number ≡ written_lines (element_lines s used t number) ++ onward m (number + 1)
  elements-turn zero m number e = absurd (omega arith)
  elements-turn (suc n) m number e =
      sym (lines-append (element_lines s used t number) (elements_from s used t n (number + 1)))
      ∙ ap (λ (k : ℕ). written_lines (element_lines s used t number) ++ onward k (number + 1)) (let d : n ≡ m = omega arith in d)

  pub elements-none : (n number : ℕ) → n ≤ 0 → onward n number ≡ []
  elements-none zero number h = refl
  elements-none (suc n) number h = absurd (omega arith)
