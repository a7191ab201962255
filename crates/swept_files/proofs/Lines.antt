-- The tidy lines of the elements of a swept model are those of the model, renumbered: line by line.
use mathlib.Core.Path.{◌≡◌, refl, sym, ap, ap₂, ◌∙◌}
use mathlib.Core.Bool.{Bool, true, false, cond}
use mathlib.Core.Option.{Option, none, some}
use mathlib.Core.List.{List, [], ◌∷◌, ◌++◌, map, map-append}
use lib.Seq.{drop-append_seam}
use lib.Dec.{eqb}
use Rattle.text.specs.Words.{Word}
use Rattle.references.specs.Corner.{Corner}
use Rattle.model.specs.Model.{Names, Free, curve, curve2, surface, Loop, Body, Kind, plain, free, Element, Model, is_curve2, start}
use Rattle.model.specs.Statements.{Statement, group, smoothing, material, type, degree, body, loop, end}
use Rattle.model.specs.Layout.{listed}
use Rattle.tidy_form.specs.Tidied.{vertex_lines, same_words, group_lines, smoothing_lines, material_lines, at_line, parameter_lines, element_lines, elements_lines, tidied}
use Rattle.swept_files.specs.Files.{swept_corner, swept_vertices, swept_element, swept_model, renumbered, SameLines}

module _ (m : Model) where
  abbrev again : List Statement → List Statement
  again ts = map (renumbered m) ts

  joined-again : (x y : List Statement) {a b : List Statement} → again x ≡ a → again y ≡ b → again (x ++ y) ≡ a ++ b
  joined-again x y f g = map-append (renumbered m) x y ∙ ap₂ (λ (p q : List Statement). p ++ q) f g

  -- ---- lines that refer to no vertex
  same_cond : (q : Bool) (x y : List Statement) → again x ≡ x → again y ≡ y → again (cond q x y) ≡ cond q x y
  same_cond true x y f g = f
  same_cond false x y f g = g

  same-material : (o : Option Word) → again (map material (listed o)) ≡ map material (listed o)
  same-material none = refl
  same-material (some w) = refl

  same-parameters : (k : Free) (b : Body) → again (parameter_lines k b) ≡ parameter_lines k b
  same-parameters curve b = refl
  same-parameters curve2 b = refl
  same-parameters surface b = refl

  same-loops : (ls : List Loop) → again (map loop ls) ≡ map loop ls
  same-loops [] = refl
  same-loops (l ∷ ls) = ap (λ (ts : List Statement). loop l ∷ ts) (same-loops ls)

  -- ---- an element's own
  pub same_kind : (b : Body) → is_curve2 (free (at_line b)) ≡ is_curve2 (free b)
  same_kind b = go b.free refl
    where
      go : (k : Free) → b.free ≡ k → is_curve2 (free (at_line b)) ≡ is_curve2 (free b)
      go curve e = rw e
      go curve2 e = rw e
      go surface e = rw e

  element-again : (k : Kind) (cs : List Corner) → element_lines k (map (swept_corner m (is_curve2 k)) cs) ≡ again (element_lines k cs)
  element-again (plain k) cs = refl
  element-again (free b) cs =
      ap₂ (λ (q : Bool) (ts : List Statement). type b.rational b.basis ∷ degree b.degree-u b.degree-v ∷ body (at_line b) (map (swept_corner m q) cs) ∷ ts) (sym (same_kind b))
      (sym (joined-again (parameter_lines b.free b) (map loop b.loops ++ end ∷ []) (same-parameters b.free b) (joined-again (map loop b.loops) (end ∷ []) (same-loops b.loops) refl)))

  elements-again : (n : Names) (es : List Element) → elements_lines n (map (swept_element m) es) ≡ again (elements_lines n es)
  elements-again n [] = refl
  elements-again n (e ∷ es) =
      sym (joined-again (group_lines n.group e.names.group) _ (same_cond (same_words n.group e.names.group) [] (group e.names.group ∷ []) refl refl)
      (joined-again (smoothing_lines n.smoothing e.names.smoothing) _ (same_cond (eqb n.smoothing e.names.smoothing) [] (smoothing e.names.smoothing ∷ []) refl refl)
      (joined-again (material_lines n.material e.names.material) _
      (same_cond (same_words (listed n.material) (listed e.names.material)) [] (map material (listed e.names.material)) refl (same-material e.names.material))
      (joined-again (element_lines e.kind e.corners) (elements_lines e.names es) (sym (element-again e.kind e.corners)) (sym (elements-again e.names es))))))

pub same_lines : SameLines
unfolding tidied swept_model
same_lines m =
    let before = vertex_lines m.vertices in
    let after = elements_lines start.names m.elements in
    ap (λ (ts : List Statement). vertex_lines (swept_vertices m) ++ ts) (elements-again m start.names m.elements ∙ ap (map (renumbered m)) (sym (drop-append_seam before after)))
