-- Demand 2: same tidy text exactly where the models agree, and what tidying twice comes to. From reading the tidy text back, and since printing looks at
-- no place and room only refuses.
use Prim.Native.Nat.{ℕ, ◌≤◌}
use mathlib.Core.Path.{◌≡◌, refl, sym, ap, ap₂, ◌∙◌}
use mathlib.Core.List.{List, [], ◌∷◌, ◌++◌, map}
use mathlib.Core.Bool.{Bool, true, false, cond, ◌&&◌}
use mathlib.Core.Option.{Option, none, some}
use lib.ListN.{length}
use Rattle.lists.specs.Lists.{same}
use Rattle.text.specs.Lines.{Line as JoinedLine, lines_of}
use Rattle.text.specs.Words.{Word, words_of, bad_of}
use Rattle.text.specs.Written.{bytes_of, written_lines}
use Rattle.keywords.specs.Keywords.{statement_of}
use Rattle.model.specs.Model.{Names, Element, Model, State, start}
use Rattle.model.specs.Statements.{Statement, group, material, apply}
use Rattle.model.specs.Parse.{fine, unless, parse}
use Rattle.model.specs.Room.{Rooms, fits}
use Rattle.model.specs.Read.{carried_in, statement, step, read, read_lines, read_of}
use Rattle.tidy_form.specs.declared.Weights.{Weights}
use Rattle.tidy_form.specs.Tidied.{vertex_lines, same_words, group_lines, smoothing_lines, material_lines, element_lines, elements_lines, tidied}
use Rattle.tidy_form.specs.Printed.{printed, tidy_text}
use Rattle.tidy_form.specs.Bare.{bare_word, bare_words, bare_option, bare_names, bare_elements, bare, Agree}
use Rattle.tidy_form.proofs.Values.{map-append}
use Rattle.tidy_form.proofs.Words.{then-fine}
use Rattle.tidy_form.proofs.Ready.{must-fine, unless-fine}
use Rattle.tidy_form.proofs.Reading.{on_read, finished, sized}
use Rattle.tidy_form.proofs.TidyRead.{tidy-read}

-- ---- printing looks at no place
pub bytes-bare : (ws : List Word) → bytes_of (bare_words ws) ≡ bytes_of ws
bytes-bare [] = refl
bytes-bare (w ∷ ws) = ap (λ (r : List (List ℕ)). w.bytes ∷ r) (bytes-bare ws)

same-bare : (vs ws : List Word) → same_words (bare_words vs) (bare_words ws) ≡ same_words vs ws
same-bare [] [] = refl
same-bare [] (w ∷ ws) = refl
same-bare (v ∷ vs) [] = refl
same-bare (v ∷ vs) (w ∷ ws) = ap (λ (b : Bool). same v.bytes w.bytes && b) (same-bare vs ws)

module _ (c : Weights) where
  abbrev lines : List Statement → List (List (List ℕ))
  lines ts = map (printed c) ts

  groups-bare : (a b : List Word) → lines (group_lines (bare_words a) (bare_words b)) ≡ lines (group_lines a b)
  groups-bare a b = rw (same-bare a b) (go (same_words a b))
    where
      go : (t : Bool) → lines (cond t [] (group (bare_words b) ∷ [])) ≡ lines (cond t [] (group b ∷ []))
      go true = refl
      go false = ap (λ (ws : List (List ℕ)). (Rattle.keywords.specs.Keywords.keyword_of (Rattle.tidy_form.specs.Printed.keyword_in (group b)) ∷ ws) ∷ []) (bytes-bare b)

  materials-bare : (a b : Option Word) → lines (material_lines (bare_option a) (bare_option b)) ≡ lines (material_lines a b)
  materials-bare none none = refl
  materials-bare none (some w) = refl
  materials-bare (some v) none = refl
  materials-bare (some v) (some w) = go (same_words (v ∷ []) (w ∷ []))
    where
      go : (t : Bool) → lines (cond t [] (material (bare_word w) ∷ [])) ≡ lines (cond t [] (material w ∷ []))
      go true = refl
      go false = refl

  elements-bare : (n : Names) (es : List Element) → lines (elements_lines (bare_names n) (bare_elements es)) ≡ lines (elements_lines n es)
  elements-bare n [] = refl
  elements-bare n (e ∷ es) =
      let m = e.names in
      let G = group_lines n.group m.group in
      let G' = group_lines (bare_words n.group) (bare_words m.group) in
      let S = smoothing_lines n.smoothing m.smoothing in
      let M = material_lines n.material m.material in
      let M' = material_lines (bare_option n.material) (bare_option m.material) in
      let E = element_lines e.kind e.corners in
      let r = elements_lines m es in
      let r' = elements_lines (bare_names m) (bare_elements es) in
      both G' G (S ++ (M' ++ (E ++ r'))) (S ++ (M ++ (E ++ r))) (groups-bare n.group m.group)
      (both S S (M' ++ (E ++ r')) (M ++ (E ++ r)) refl
      (both M' M (E ++ r') (E ++ r) (materials-bare n.material m.material)
      (both E E r' r refl (elements-bare m es))))
    where
      both : (a b x y : List Statement) → lines a ≡ lines b → lines x ≡ lines y → lines (a ++ x) ≡ lines (b ++ y)
      both a b x y p q = map-append (printed c) a x ∙ ap₂ (λ (u v : List (List (List ℕ))). u ++ v) p q ∙ sym (map-append (printed c) b y)

  tidy-bare : (m : Model) → tidy_text c (bare m) ≡ tidy_text c m
  unfolding tidy_text tidied bare
  tidy-bare m =
      ap written_lines
      (map-append (printed c) (vertex_lines m.vertices) (elements_lines start.names (bare_elements m.elements))
      ∙ ap (λ (r : List (List (List ℕ))). map (printed c) (vertex_lines m.vertices) ++ r) (elements-bare start.names m.elements)
      ∙ sym (map-append (printed c) (vertex_lines m.vertices) (elements_lines start.names m.elements)))

  pub agree-tidy : (m n : Model) → Agree m n → tidy_text c m ≡ tidy_text c n
  unfolding Agree
  agree-tidy m n h = sym (tidy-bare m) ∙ ap (tidy_text c) h ∙ tidy-bare n

-- ---- room only refuses
step_same : (R S : Rooms) (x y z : State) (ws : List Word) → step R x ws ≡ fine y → step S x ws ≡ fine z → y ≡ z
unfolding statement
step_same R S x y z [] p q = cc
step_same R S x y z (w ∷ ws) p q =
    let a = then-fine (carried_in (statement_of w.bytes) w.place) _ y p in
    let b = then-fine (parse a.0 x w.place ws) _ y a.2 in
    let c = must-fine (fits R (apply b.0 x)) 14 w.place _ y b.2 in
    let d = then-fine (carried_in (statement_of w.bytes) w.place) _ z q in
    let k : a.0 ≡ d.0 = (let u = a.1 in let v = d.1 in cc) in
    let e = then-fine (parse d.0 x w.place ws) _ z d.2 in
    let f = must-fine (fits S (apply e.0 x)) 14 w.place _ z e.2 in
    let t : fine b.0 ≡ fine e.0 = sym b.1 ∙ ap (λ j. parse j x w.place ws) k ∙ e.1 in
    let i : b.0 ≡ e.0 = cc in
    let u : apply b.0 x ≡ y = (let v = c.1 in cc) in
    let v : apply e.0 x ≡ z = (let j = f.1 in cc) in
    sym u ∙ ap (λ s. apply s x) i ∙ v

lines_same : (R S : Rooms) (n : ℕ) (ls : List JoinedLine) (x : State) (m k : Model) → read_lines R n ls x ≡ read m → read_lines S n ls x ≡ read k → m ≡ k
lines_same R S n [] x m k p q = sym (finished n x.open-body x.model m p).1 ∙ (finished n x.open-body x.model k q).1
lines_same R S n (l ∷ ls) x m k p q =
    let a = on_read (unless (bad_of l) 2 (step R x (words_of l))) (read_lines R n ls) m p in
    let b = unless-fine (bad_of l) 2 (step R x (words_of l)) a.0 a.1 in
    let c = on_read (unless (bad_of l) 2 (step S x (words_of l))) (read_lines S n ls) k q in
    let d = unless-fine (bad_of l) 2 (step S x (words_of l)) c.0 c.1 in
    let e = step_same R S x a.0 c.0 (words_of l) b.1 d.1 in
    lines_same R S n ls a.0 m k a.2 (ap (read_lines S n ls) e ∙ c.2)

pub read_same : (R S : Rooms) (t : List ℕ) (m k : Model) → read_of R t ≡ read m → read_of S t ≡ read k → m ≡ k
read_same R S t m k p q = lines_same R S (length t) (lines_of t) start m k (sized R t m p).1 (sized S t k q).1

-- ---- (b) by one choice, two accepted texts that can be tidied have the same tidy text exactly where their models agree
pub same-tidy : (c : Weights) (R S : Rooms) (t u : List ℕ) (m n : Model) → read_of R t ≡ read m → read_of S u ≡ read n → length (tidy_text c m) ≤ 16777216 → length (tidy_text c n) ≤ 16777216
    → (tidy_text c m ≡ tidy_text c n → Agree m n) × (Agree m n → tidy_text c m ≡ tidy_text c n)
unfolding Agree
same-tidy c R S t u m n p q l k = (
  λ h.
      let a = tidy-read c R t m p l in
      let b = tidy-read c S u n q k in
      let e : a.0 ≡ b.0 = read_same R S (tidy_text c m) a.0 b.0 a.1 (ap (read_of S) h ∙ b.1) in
      sym a.2 ∙ ap bare e ∙ b.2,
  λ h. agree-tidy c m n h,
)

-- ---- (c) the tidy text by the choice c, tidied by the choice d: by the same choice nothing changes, by the other it comes to the other form
pub tidy-twice : (c d : Weights) (R : Rooms) (t : List ℕ) (m k : Model) → read_of R t ≡ read m → length (tidy_text c m) ≤ 16777216 → read_of R (tidy_text c m) ≡ read k
    → tidy_text d k ≡ tidy_text d m
tidy-twice c d R t m k p l q =
    let a = tidy-read c R t m p l in
    let e : k ≡ a.0 = (let b = a.1 in cc) in
    ap (tidy_text d) e ∙ agree-tidy d a.0 m a.2
