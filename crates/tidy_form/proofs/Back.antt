-- The printed line of a statement, parsed where it may stand, is that statement, its names being the line's own words. By cases on the statement.
use Prim.Native.Nat.{ℕ, zero, suc}
use mathlib.Core.Path.{◌≡◌, refl, ap, ap₂, ◌∙◌}
use mathlib.Core.List.{List, [], ◌∷◌, ◌++◌, map}
use mathlib.Core.Bool.{Bool, true, false, ◌||◌, not}
use mathlib.Core.Option.{Option, none, some}
use lib.ListN.{length, length-map, drop}
use lib.IntN.{ℤ}
use native.Mathlib.Omega.{arith}
use Rattle.lists.specs.Lists.{all, flat}
use Rattle.lists.proofs.Tests.{and_left, and_right, never}
use Rattle.lists.proofs.Laws.{all_append}
use Rattle.text.specs.Words.{Word}
use Rattle.text.specs.Written.{bytes_of}
use Rattle.references.specs.Corner.{Corner, alike}
use Rattle.keywords.specs.Arguments.{argument_of, argument_bytes}
use Rattle.model.specs.Model.{Vertices, Free, curve, curve2, surface, Part, Body, Open, State, curves}
use Rattle.model.specs.Statements.{Statement, vertex, element, group, smoothing, material, type, degree, body, parameters, loop, end, passed}
use Rattle.model.specs.Parse.{fine, Value, number, corner, whole, direction, basis, name, nothing, form_of, allowed, numbers_of, wholes_of, names_of, parts_of, differing, unlike, narrow, narrow_in, checked, seen_in, parse, is_surface, says_v, range_words}
use Rattle.model.specs.Standing.{inside_body}
use Rattle.model.proofs.Pieces.{finished, opened}
use Rattle.tidy_form.specs.declared.Weights.{Weights}
use Rattle.tidy_form.specs.Printed.{coordinates, range_of, words_after, direction_argument}
use Rattle.tidy_form.proofs.Values.{key_of, loop_key, values_in, part_values, type_values, degree_values, written, words-written}
use Rattle.tidy_form.proofs.Words.{Small, stand, stands, values-back, direction-is}
use Rattle.tidy_form.proofs.Standing.{uniform, wide, wide_in, Whole, Fine, Ends, Opens, Here}
use Rattle.model.proofs.Values.{numbers_of-map, corners-of, line-numbers, line-corners, v-is}

-- the statement with the line's words for its names
abbrev pub first_or : Word → List Word → Word
first_or v [] = v
first_or v (w ∷ ws) = w

abbrev pub renamed : List Word → Statement → Statement
renamed ws (vertex k z) = vertex k z
renamed ws (element k cs) = element k cs
renamed ws (group vs) = group ws
renamed ws (smoothing n) = smoothing n
renamed ws (material v) = material (first_or v ws)
renamed ws (type r t) = type r t
renamed ws (degree m n) = degree m n
renamed ws (body b cs) = body b cs
renamed ws (parameters d z) = parameters d z
renamed ws (loop l) = loop l
renamed ws end = end
renamed ws passed = passed

-- ---- values that are no names stand as they are
abbrev nameless : Value → Bool
nameless (number z) = true
nameless (corner c) = true
nameless (whole k) = true
nameless (direction d) = true
nameless (basis t) = true
nameless (name w) = false
nameless nothing = true

stand-same : (w : Word) (x : Value) → nameless x ≡ true → stand w x ≡ x
stand-same w (number z) h = refl
stand-same w (corner c) h = refl
stand-same w (whole k) h = refl
stand-same w (direction d) h = refl
stand-same w (basis t) h = refl
stand-same w (name v) h = never h
stand-same w nothing h = refl

stands_same : (ws : List Word) (xs : List Value) → all nameless xs ≡ true → stands ws xs ≡ xs
stands_same [] xs h = refl
stands_same (w ∷ ws) [] h = refl
stands_same (w ∷ ws) (x ∷ xs) h =
    ap₂ (λ (a : Value) (b : List Value). a ∷ b) (stand-same w x (and_left (nameless x) (all nameless xs) h)) (stands_same ws xs (and_right (nameless x) (all nameless xs) h))

numbers-nameless : (z : List ℤ) → all nameless (map number z) ≡ true
numbers-nameless [] = refl
numbers-nameless (a ∷ z) = numbers-nameless z

corners-nameless : (cs : List Corner) → all nameless (map corner cs) ≡ true
corners-nameless [] = refl
corners-nameless (c ∷ cs) = corners-nameless cs

parts-nameless : (ps : List Part) → all nameless (flat part_values ps) ≡ true
parts-nameless [] = refl
parts-nameless (p ∷ ps) = parts-nameless ps

-- ---- what the values of a line tell
pub names-of : (ws : List Word) → names_of (map name ws) ≡ ws
names-of [] = refl
names-of (w ∷ ws) = ap (λ (r : List Word). w ∷ r) (names-of ws)

pub parts-of : (ps : List Part) → parts_of (numbers_of (flat part_values ps)) (wholes_of (flat part_values ps)) ≡ ps
parts-of [] = refl
parts-of (p ∷ ps) = ap (λ (r : List Part). p ∷ r) (parts-of ps)

stands-names : (ws vs : List Word) → length ws ≡ length vs → stands ws (map name vs) ≡ map name ws
stands-names [] [] l = refl
stands-names [] (v ∷ vs) l = absurd (omega arith)
stands-names (w ∷ ws) [] l = absurd (omega arith)
stands-names (w ∷ ws) (v ∷ vs) l = ap (λ (r : List Value). name w ∷ r) (stands-names ws vs (omega arith))

-- ---- 9 and 12 of a word
differing-none : (c : Corner) (ws : List Word) (cs : List Corner) → all (alike c) cs ≡ true → differing c ws cs ≡ none
differing-none c [] cs h = refl
differing-none c (w ∷ ws) [] h = refl
differing-none c (w ∷ ws) (d ∷ cs) h = rw (and_left (alike c d) (all (alike c) cs) h) (differing-none c ws cs (and_right (alike c d) (all (alike c) cs) h))

unlike-none : (ws : List Word) (cs : List Corner) → uniform cs ≡ true → unlike ws cs ≡ none
unlike-none [] cs h = refl
unlike-none (w ∷ ws) [] h = refl
unlike-none (w ∷ ws) (c ∷ cs) h = differing-none c ws cs h

narrow-none : (x : Vertices) (ws : List Word) (cs : List Corner) → all (wide x) cs ≡ true → narrow x.vp ws cs ≡ none
narrow-none x [] cs h = refl
narrow-none x (w ∷ ws) [] h = refl
narrow-none x (w ∷ ws) (c ∷ cs) h = rw (and_left (wide x c) (all (wide x) cs) h) (narrow-none x ws cs (and_right (wide x c) (all (wide x) cs) h))

narrow_in-none : (k : Free) (x : Vertices) (ws : List Word) (cs : List Corner) → wide_in k x cs ≡ true → narrow_in k x ws cs ≡ none
narrow_in-none curve x ws cs h = refl
narrow_in-none curve2 x ws cs h = narrow-none x ws cs h
narrow_in-none surface x ws cs h = refl

-- ---- the statement
module _ (c : Weights) (x : State) (p : ℕ) (ws : List Word) where
  opened-back : (b : Body) (cs : List Corner) (vs : List Word)
      → Whole x.model.vertices (body b cs) → Opens x.form b → opened b.free x p vs cs (range_of b.free b) ≡ fine (body b cs)
  opened-back b cs vs h o =
      rw (unlike-none vs cs h.0, o.force, narrow_in-none b.free x.model.vertices vs cs h.1) (ap (λ (c : Body). fine (body c cs)) o.gives)

  finished-back : (o : Option Open) → Ends o → finished o p ≡ fine end
  finished-back none h = never h
  finished-back (some o) h = rw (h.complete, h.counts, h.range) refl

  same_length : (t : Statement) → bytes_of ws ≡ words_after c t → length ws ≡ length (values_in c t)
  same_length t e = bytes-length ws ∙ ap length (e ∙ words-written c t) ∙ length-map (values_in c t) written
    where
      bytes-length : (vs : List Word) → length vs ≡ length (bytes_of vs)
      bytes-length [] = refl
      bytes-length (v ∷ vs) = ap suc (bytes-length vs)

  checked-back : (t : Statement) → bytes_of ws ≡ words_after c t → Whole x.model.vertices t → Here x.form x.open-body t
      → checked (key_of t) x p ws (stands ws (values_in c t)) ≡ fine (renamed ws t)
  checked-back (vertex k z) e w h = rw (stands_same ws (map number (coordinates c k z)) (numbers-nameless (coordinates c k z)), numbers_of-map (coordinates c k z)) (ap (λ (r : List ℤ). fine (vertex k r)) (w c))
  checked-back (element k cs) e w h = rw (stands_same ws (map corner cs) (corners-nameless cs), corners-of cs, unlike-none ws cs w) refl
  checked-back (group vs) e w h =
      rw (stands-names ws vs (same_length (group vs) e ∙ length-map vs name), names-of ws) refl
  checked-back (smoothing n) e w h = rw (stands_same ws (whole n ∷ []) refl) refl
  checked-back (material v) e w h = go ws (same_length (material v) e)
    where
      go : (ws : List Word) → length ws ≡ 1 → checked (key_of (material v)) x p ws (stands ws (name v ∷ [])) ≡ fine (material (first_or v ws))
      go [] l = absurd (omega arith)
      go (w ∷ []) l = refl
      go (w ∷ u ∷ ws) l = absurd (omega arith)
  checked-back (type true t) e w h = rw (stands_same ws (type_values true t) refl) refl
  checked-back (type false t) e w h = rw (stands_same ws (type_values false t) refl) refl
  checked-back (degree m zero) e w h = rw (stands_same ws (degree_values m zero) refl) refl
  checked-back (degree m (suc n)) e w h = rw (stands_same ws (degree_values m (suc n)) refl) refl
  checked-back (body b cs) e w h =
      let r = range_of b.free b in
      rw (stands_same ws (map number r ++ map corner cs) (all_append nameless (map number r) (map corner cs) (numbers-nameless r) (corners-nameless cs)), line-corners r cs, line-numbers r cs)
      (opened-back b cs (drop (range_words b.free) ws) w h.1)
  checked-back (parameters d z) e w h = rw (stands_same ws (direction d ∷ map number z) (numbers-nameless z), numbers_of-map z) refl
  checked-back (loop l) e w h = go l.hole refl
    where
      go : (b : Bool) → l.hole ≡ b → checked (loop_key b) x p ws (stands ws (flat part_values l.parts)) ≡ fine (loop l)
      go true q = rw (stands_same ws (flat part_values l.parts) (parts-nameless l.parts), parts-of l.parts, ← q) refl
      go false q = rw (stands_same ws (flat part_values l.parts) (parts-nameless l.parts), parts-of l.parts, ← q) refl
  checked-back end e w h = finished-back x.open-body h
  checked-back passed e w h = refl

  allowed-back : (t : Statement) → bytes_of ws ≡ words_after c t → Here x.form x.open-body t → allowed (key_of t) x.open-body ws ≡ true
  allowed-back (vertex k z) e h = h
  allowed-back (element k cs) e h = h
  allowed-back (group vs) e h = h
  allowed-back (smoothing n) e h = h
  allowed-back (material v) e h = h
  allowed-back (type r t) e h = h
  allowed-back (degree m n) e h = h
  allowed-back (body b cs) e h = h.0
  allowed-back (parameters d z) e h = go ws e
    where
      go : (ws : List Word) → bytes_of ws ≡ words_after c (parameters d z) → inside_body x.open-body (λ k. is_surface k || not (says_v ws)) ≡ true
      go [] e = absurd (let y : ◌≡◌ {A = ℕ} 0 1 = cc in omega arith)
      go (w ∷ ws) e =
          let q : w.bytes ≡ argument_bytes (direction_argument d) = cc in
          rw (q, v-is (argument_of (argument_bytes (direction_argument d))), direction-is d) h
  allowed-back (loop l) e h = go l.hole
    where
      go : (b : Bool) → allowed (loop_key b) x.open-body ws ≡ true
      go true = h
      go false = h
  allowed-back end e h = go x.open-body h
    where
      go : (o : Option Open) → Ends o → inside_body o (λ k. true) ≡ true
      go none h = never h
      go (some o) h = refl
  allowed-back passed e h = h

-- ---- the local lemma of every kind of statement
pub back : (c : Weights) (x : State) (p : ℕ) (ws : List Word) (t : Statement)
    → Small (seen_in x) → Fine x.model.vertices (curves x.model.elements) t → Here x.form x.open-body t → bytes_of ws ≡ words_after c t
    → parse (key_of t) x p ws ≡ fine (renamed ws t)
unfolding parse
back c x p ws t s f h e =
    let l = same_length c x p ws t e in
    rw (allowed-back c x p ws t e h, l, f.many c, values-back (seen_in x) (form_of (key_of t) (length (values_in c t))) 0 ws (values_in c t) s (f.fits c) (e ∙ words-written c t))
    (checked-back c x p ws t e f.whole h)
