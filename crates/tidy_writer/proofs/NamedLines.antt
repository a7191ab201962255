-- The g and usemtl lines of an element whose names stand in the text, from the parts of the text alone: by the test. Each line is its keyword and its words.
use Prim.Native.Nat.{ℕ}
use mathlib.Core.Path.{◌≡◌, refl, sym, ap, ap₂, ◌∙◌, subst}
use mathlib.Core.List.{List, [], ◌∷◌, ◌++◌, map, append_assoc}
use mathlib.Core.Bool.{Bool, true, false, cond}
use mathlib.Core.Option.{Option, none, some}
use Rattle.lists.proofs.Tests.{never}
use Rattle.text.specs.Words.{Word}
use Rattle.text.specs.Written.{bytes_of, written_after, written_line}
use Rattle.keywords.specs.Keywords.{keyword_of}
use Rattle.statements.specs.declared.Carried.TheVariants.{Group, Material}
use Rattle.model.specs.Model.{Vertices, Element, Model, start}
use Rattle.model.specs.Statements.{group, material}
use Rattle.model.specs.Layout.{run_of, listed}
use Rattle.model.specs.Room.{Rooms}
use Rattle.model.specs.Read.{read, read_of}
use Rattle.tidy_form.specs.declared.Weights.{Weights}
use Rattle.tidy_form.specs.Tidied.{same_words, group_lines, material_lines}
use Rattle.tidy_form.specs.Printed.{printed}
use Rattle.tidy_form.specs.Agree.{words_at}
use Rattle.tidy_form.proofs.Good.{stays, plus, GoodElements}
use Rattle.tidy_form.proofs.Reading.{read-came}
use Rattle.model.proofs.Placed.{WordsStand, NamesStand, ElementsStand}
use Rattle.tidy_form.proofs.Named.{none-stands, read-stands}
use Rattle.tidy_words.specs.Naming.{same_bytes}
use Rattle.tidy_words.specs.Emitting.{spaced}
use Rattle.tidy_words.proofs.Naming.{named-same}

-- a line is its keyword, its words with a space before each, and LF
written_after-spaced : (ws : List (List ℕ)) → written_after ws ≡ spaced ws ++ 10 ∷ []
written_after-spaced [] = refl
written_after-spaced (w ∷ ws) = ap (λ (l : List ℕ). 32 ∷ (w ++ l)) (written_after-spaced ws) ∙ ap (λ (l : List ℕ). 32 ∷ l) (sym (append_assoc w (spaced ws) (10 ∷ [])))

pub written-spaced : (k : List ℕ) (ws : List (List ℕ)) → written_line (k ∷ ws) ≡ k ++ (spaced ws ++ 10 ∷ [])
written-spaced k ws = ap (λ (l : List ℕ). k ++ l) (written_after-spaced ws)

group-if : (c : Weights) (t : Bool) (w : List Word) → map (printed c) (cond t [] (group w ∷ [])) ≡ cond t [] ((keyword_of Group ∷ bytes_of w) ∷ [])
group-if c true w = refl
group-if c false w = refl

-- a material that is set stays set, so that a usemtl line has its one word
material-if : (c : Weights) (o x : Option Word) → stays o x ≡ true
    → map (printed c) (material_lines o x) ≡ cond (same_words (listed o) (listed x)) [] ((keyword_of Material ∷ bytes_of (listed x)) ∷ [])
material-if c none none h = refl
material-if c (some v) none h = never h
material-if c none (some w) h = refl
material-if c (some v) (some w) h = go (same_words (v ∷ []) (w ∷ []))
  where
    go : (t : Bool) → map (printed c) (cond t [] (material w ∷ [])) ≡ cond t [] ((keyword_of Material ∷ w.bytes ∷ []) ∷ [])
    go true = refl
    go false = refl

module _ (s : List ℕ) where
  -- the words of the part of s that a record gives for these names
  abbrev pub standing : List Word → List (List ℕ)
  standing ws = words_at s (run_of ws)

  pub group_lines-go : (c : Weights) (v w : List Word) → WordsStand s v → WordsStand s w → map (printed c) (group_lines v w) ≡ cond (same_bytes (standing v) (standing w)) [] ((keyword_of Group ∷ standing w) ∷ [])
  group_lines-go c v w p q =
      group-if c (same_words v w) w
      ∙ ap₂ (λ (t : Bool) (b : List (List ℕ)). cond t [] ((keyword_of Group ∷ b) ∷ [])) (named-same s v w p q) (sym (ap bytes_of q))

  pub material-lines : (c : Weights) (o x : Option Word) → stays o x ≡ true → WordsStand s (listed o) → WordsStand s (listed x)
      → map (printed c) (material_lines o x) ≡ cond (same_bytes (standing (listed o)) (standing (listed x))) [] ((keyword_of Material ∷ standing (listed x)) ∷ [])
  material-lines c o x h p q =
      material-if c o x h
      ∙ ap₂ (λ (t : Bool) (b : List (List ℕ)). cond t [] ((keyword_of Material ∷ b) ∷ [])) (named-same s (listed o) (listed x) p q) (sym (ap bytes_of q))

  -- ---- an accepted text: the names of each element stand in it, and no material is taken away
  abbrev pub NamesGo : Option Word → List Element → Type 0
  NamesGo a [] = Unit {0}
  NamesGo a (e ∷ es) = NamesStand s e.names × (stays a e.names.material ≡ true) × NamesGo e.names.material es

  both : (x : Vertices) (n : ℕ) (a : Option Word) (es : List Element) (l : Option Word) → GoodElements x n a es l → ElementsStand s es → NamesGo a es
  both x n a [] l g h = tt
  both x n a (e ∷ es) l g h = (h.0, g.2, both x (plus e.kind n) e.names.material es l g.3 h.1)

  pub names-go : (R : Rooms) (m : Model) → read_of R s ≡ read m → NamesStand s start.names × NamesGo start.names.material m.elements
  names-go R m h =
      let c = read-came R s m h in
      let g = subst (λ (i : Model). GoodElements m.vertices 0 none i.elements c.state.names.material) c.model c.good.elements in
      (record { group = none-stands s; material = none-stands s }, both m.vertices 0 none m.elements c.state.names.material g (read-stands s R m h))
