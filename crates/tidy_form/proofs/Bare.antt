-- Places forgotten: applying, parsing and room do not look at where names stand. By cases on the statement, and by the elements.
use Prim.Native.Nat.{ℕ, suc, ◌+◌}
use mathlib.Core.Path.{◌≡◌, refl, sym, ap, ap₂, ◌∙◌}
use mathlib.Core.List.{List, [], ◌∷◌, ◌++◌}
use mathlib.Core.Bool.{Bool, true, cond}
use mathlib.Core.Option.{Option, none, some}
use lib.ListN.{length}
use native.Mathlib.Omega.{arith}
use Rattle.lists.specs.Lists.{same}
use Rattle.lists.proofs.Tests.{and_left, and_right, never}
use Rattle.lists.proofs.Laws.{same-eq}
use Rattle.text.specs.Words.{Word}
use Rattle.text.specs.Written.{bytes_of}
use Rattle.model.specs.Model.{Free, Body, plain, Element, Form, Open, State, is_curve2, curves}
use Rattle.model.specs.Statements.{Statement, vertex, element, group, smoothing, material, type, degree, body, parameters, loop, end, passed, apply, on_open, with_body, with_parameters, with_loop, closed}
use Rattle.model.specs.Standing.{outside_body, inside_body}
use Rattle.model.specs.Room.{summed, of_kind, of_open, part_count}
use Rattle.tidy_form.specs.declared.Weights.{Weights}
use Rattle.tidy_form.specs.Printed.{words_after}
use Rattle.tidy_form.specs.Tidied.{same_words}
use Rattle.tidy_form.specs.Bare.{bare_word, bare_words, bare_names, bare_element, bare_elements}
use Rattle.tidy_form.proofs.Standing.{Here, Ends}
use Rattle.tidy_form.proofs.Back.{renamed, first_or}
use Rattle.tidy_form.proofs.Rooms.{NoMore}

-- ---- states and statements
abbrev pub bare_open : Open → Open
bare_open o = record { body = o.body; controls = o.controls; names = bare_names o.names }

abbrev pub bare_opening : Option Open → Option Open
bare_opening none = none
bare_opening (some o) = some (bare_open o)

abbrev pub bare_state : State → State
bare_state x =
    record {
      model = record { vertices = x.model.vertices; elements = bare_elements x.model.elements };
      names = bare_names x.names;
      form = x.form;
      open-body = bare_opening x.open-body;
    }

abbrev pub bare_statement : Statement → Statement
bare_statement (vertex k z) = vertex k z
bare_statement (element k cs) = element k cs
bare_statement (group ws) = group (bare_words ws)
bare_statement (smoothing n) = smoothing n
bare_statement (material w) = material (bare_word w)
bare_statement (type r t) = type r t
bare_statement (degree m n) = degree m n
bare_statement (body b cs) = body b cs
bare_statement (parameters d z) = parameters d z
bare_statement (loop l) = loop l
bare_statement end = end
bare_statement passed = passed

pub bare-add : (es fs : List Element) → bare_elements (es ++ fs) ≡ bare_elements es ++ bare_elements fs
bare-add [] fs = refl
bare-add (e ∷ es) fs = ap (λ (r : List Element). bare_element e ∷ r) (bare-add es fs)

-- the same bytes, the same word
pub bare-words : (vs ws : List Word) → bytes_of vs ≡ bytes_of ws → bare_words vs ≡ bare_words ws
bare-words [] [] h = refl
bare-words [] (w ∷ ws) h = absurd (let z : ◌≡◌ {A = ℕ} 0 1 = cc in omega arith)
bare-words (v ∷ vs) [] h = absurd (let z : ◌≡◌ {A = ℕ} 0 1 = cc in omega arith)
bare-words (v ∷ vs) (w ∷ ws) h =
    let a : v.bytes ≡ w.bytes = cc in
    let b : bytes_of vs ≡ bytes_of ws = cc in
    ap₂ (λ (x : List ℕ) (y : List Word). record { place = 0; bytes = x } ∷ y) a (bare-words vs ws b)

pub same-words : (vs ws : List Word) → same_words vs ws ≡ true → bare_words vs ≡ bare_words ws
same-words [] [] h = refl
same-words [] (w ∷ ws) h = never h
same-words (v ∷ vs) [] h = never h
same-words (v ∷ vs) (w ∷ ws) h =
    ap₂ (λ (x : List ℕ) (y : List Word). record { place = 0; bytes = x } ∷ y)
    (same-eq v.bytes w.bytes (and_left (same v.bytes w.bytes) (same_words vs ws) h))
    (same-words vs ws (and_right (same v.bytes w.bytes) (same_words vs ws) h))

-- a line's own words for a statement's names
pub renamed-bare : (c : Weights) (ws : List Word) (t : Statement) → bytes_of ws ≡ words_after c t → bare_statement (renamed ws t) ≡ bare_statement t
renamed-bare c ws (vertex k z) h = refl
renamed-bare c ws (element k cs) h = refl
renamed-bare c ws (group vs) h = ap group (bare-words ws vs h)
renamed-bare c ws (smoothing n) h = refl
renamed-bare c ws (material v) h = go ws h
  where
    go : (ws : List Word) → bytes_of ws ≡ v.bytes ∷ [] → material (bare_word (first_or v ws)) ≡ material (bare_word v)
    go [] h = refl
    go (w ∷ ws) h = let e : w.bytes ≡ v.bytes = cc in ap (λ (b : List ℕ). material (record { place = 0; bytes = b })) e
renamed-bare c ws (type r t) h = refl
renamed-bare c ws (degree m n) h = refl
renamed-bare c ws (body b cs) h = refl
renamed-bare c ws (parameters d z) h = refl
renamed-bare c ws (loop l) h = refl
renamed-bare c ws end h = refl
renamed-bare c ws passed h = refl

-- ---- applying
module _ (x : State) where
  abbrev holding : Option Open → State
  holding o = record { model = x.model; names = x.names; form = x.form; open-body = o }

  add-element : (e : Element) → bare_elements (x.model.elements ++ e ∷ []) ≡ bare_elements x.model.elements ++ bare_element e ∷ []
  add-element e = bare-add x.model.elements (e ∷ [])

  abbrev listing : List Element → State
  listing es = record { model = record { vertices = x.model.vertices; elements = es }; names = bare_names x.names; form = x.form; open-body = bare_opening x.open-body }

  pub bare-apply : (t : Statement) → bare_state (apply t x) ≡ apply (bare_statement t) (bare_state x)
  bare-apply (vertex k z) = refl
  bare-apply (element k cs) = ap listing (add-element (record { kind = plain k; corners = cs; names = x.names }))
  bare-apply (group ws) = refl
  bare-apply (smoothing n) = refl
  bare-apply (material w) = refl
  bare-apply (type r t) = refl
  bare-apply (degree m n) = refl
  bare-apply (body b cs) = refl
  bare-apply (parameters d z) = go x.open-body
    where
      go : (o : Option Open) → bare_state (on_open (with_body (with_parameters d z)) (holding o)) ≡ on_open (with_body (with_parameters d z)) (bare_state (holding o))
      go none = refl
      go (some o) = refl
  bare-apply (loop l) = go x.open-body
    where
      go : (o : Option Open) → bare_state (on_open (with_body (with_loop l)) (holding o)) ≡ on_open (with_body (with_loop l)) (bare_state (holding o))
      go none = refl
      go (some o) = refl
  bare-apply end = go x.open-body
    where
      go : (o : Option Open) → bare_state (apply end (holding o)) ≡ apply end (bare_state (holding o))
      go none = refl
      go (some o) =
          ap (λ (es : List Element). record { model = record { vertices = x.model.vertices; elements = es }; names = bare_names x.names; form = x.form; open-body = none })
          (add-element (closed o))
  bare-apply passed = refl

-- ---- parsing
pub curves-bare : (es : List Element) → curves (bare_elements es) ≡ curves es
curves-bare [] = refl
curves-bare (e ∷ es) = ap (λ (n : ℕ). cond (is_curve2 e.kind) (suc n) n) (curves-bare es)

outside-bare : (o : Option Open) → outside_body (bare_opening o) ≡ outside_body o
outside-bare none = refl
outside-bare (some o) = refl

inside-bare : (o : Option Open) (f : Free → Bool) → inside_body (bare_opening o) f ≡ inside_body o f
inside-bare none f = refl
inside-bare (some o) f = refl

ends-bare : (o : Option Open) → Ends (bare_opening o) → Ends o
ends-bare none h = h
ends-bare (some o) h = h

pub here-bare : (f : Form) (o : Option Open) (t : Statement) → Here f (bare_opening o) t → Here f o t
here-bare f o (vertex k z) h = sym (outside-bare o) ∙ h
here-bare f o (element k cs) h = sym (outside-bare o) ∙ h
here-bare f o (group ws) h = sym (outside-bare o) ∙ h
here-bare f o (smoothing n) h = sym (outside-bare o) ∙ h
here-bare f o (material w) h = sym (outside-bare o) ∙ h
here-bare f o (type r t) h = sym (outside-bare o) ∙ h
here-bare f o (degree m n) h = sym (outside-bare o) ∙ h
here-bare f o (body b cs) h = (sym (outside-bare o) ∙ h.0, h.1)
here-bare f o (parameters d z) h = sym (inside-bare o _) ∙ h
here-bare f o (loop l) h = sym (inside-bare o _) ∙ h
here-bare f o end h = ends-bare o h
here-bare f o passed h = sym (outside-bare o) ∙ h

-- ---- room
pub summed-bare : (f : Element → ℕ) → ((e : Element) → f (bare_element e) ≡ f e) → (es : List Element) → summed f (bare_elements es) ≡ summed f es
summed-bare f h [] = refl
summed-bare f h (e ∷ es) = ap₂ (λ (a b : ℕ). a + b) (h e) (summed-bare f h es)

pub length-bare : (es : List Element) → length (bare_elements es) ≡ length es
length-bare [] = refl
length-bare (e ∷ es) = ap suc (length-bare es)

open-bare : (f : Open → ℕ) → ((o : Open) → f (bare_open o) ≡ f o) → (o : Option Open) → of_open f (bare_opening o) ≡ of_open f o
open-bare f h none = refl
open-bare f h (some o) = h o

-- the same model with other places, and the same body open, needs the same
pub needs-bare : (x : State) → NoMore x (bare_state x) × NoMore (bare_state x) x
needs-bare x =
    let es = x.model.elements in
    let o = x.open-body in
    let a = summed-bare (λ (e : Element). length e.corners) (λ e. refl) es in
    let a' = open-bare (λ (o : Open). length o.controls) (λ o. refl) o in
    let b = length-bare es in
    let b' = open-bare (λ (o : Open). 1) (λ o. refl) o in
    let c = summed-bare (λ (e : Element). of_kind (λ (b : Body). 1) e.kind) (λ e. refl) es in
    let d = summed-bare (λ (e : Element). of_kind (λ (b : Body). length b.us + length b.vs) e.kind) (λ e. refl) es in
    let f = summed-bare (λ (e : Element). of_kind part_count e.kind) (λ e. refl) es in
    let f' = open-bare (λ (o : Open). part_count o.body) (λ o. refl) o in (
      omega arith,
      omega arith,
    )
