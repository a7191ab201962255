-- A statement's line as values: the values of its words, each written. By cases on the statement.
use Prim.Native.Nat.{ℕ, zero, suc}
use mathlib.Core.Path.{◌≡◌, refl, sym, ap, ap₂, ◌∙◌}
use mathlib.Core.List.{List, [], ◌∷◌, ◌++◌, map}
use mathlib.Core.Bool.{Bool, true, false}
use lib.IntN.{ℤ}
use Rattle.lists.specs.Lists.{flat}
use Rattle.text.specs.Words.{Word}
use Rattle.text.specs.Written.{bytes_of}
use Rattle.references.specs.Corner.{Corner}
use Rattle.references.specs.Written.{written_whole, written_number, written_corner}
use Rattle.keywords.specs.Keywords.{keyword_of, statement_of, keywords}
use Rattle.keywords.specs.Arguments.{argument_bytes}
use Rattle.keywords.specs.declared.Argument.TheVariants.{Rational}
use Rattle.tables.specs.Bodies.{Basis}
use Rattle.model.specs.Model.{geometric, texture, normal, parametric, point, line, face, Free, curve, curve2, surface, Part}
use Rattle.model.specs.Statements.{Statement, vertex, element, group, smoothing, material, type, degree, body, parameters, loop, end, passed}
use Rattle.model.specs.Parse.{Keyword, a-vertex, an-element, a-body, parm, trim, hole, ends, cstype, deg, g, s, usemtl, over, fine, Value, number, corner, whole, direction, basis, name, nothing}
use Rattle.model.specs.Read as reading
use Rattle.tidy_form.specs.declared.Weights.{Weights}
use Rattle.tidy_form.specs.Printed.{keyword_in, coordinates, basis_argument, direction_argument, range_of, part_words, words_after}

-- ---- the keyword that opens a statement
abbrev pub loop_key : Bool → Keyword
loop_key false = trim
loop_key true = hole

abbrev pub key_of : Statement → Keyword
key_of (vertex k z) = a-vertex k
key_of (element k cs) = an-element k
key_of (group ws) = g
key_of (smoothing n) = s
key_of (material w) = usemtl
key_of (type r t) = cstype
key_of (degree m n) = deg
key_of (body b cs) = a-body b.free
key_of (parameters d z) = parm
key_of (loop l) = loop_key l.hole
key_of end = ends
key_of passed = over

-- its spelling is read as it
pub key_back : (t : Statement) (p : ℕ) → reading.carried_in (statement_of (keyword_of (keyword_in t))) p ≡ fine (key_of t)
unfolding statement_of keyword_of keywords
key_back (vertex geometric z) p = refl
key_back (vertex texture z) p = refl
key_back (vertex normal z) p = refl
key_back (vertex parametric z) p = refl
key_back (element point cs) p = refl
key_back (element line cs) p = refl
key_back (element face cs) p = refl
key_back (group ws) p = refl
key_back (smoothing n) p = refl
key_back (material w) p = refl
key_back (type r t) p = refl
key_back (degree m n) p = refl
key_back (body b cs) p = go b.free
  where
    go : (k : Free) → reading.carried_in (statement_of (keyword_of (a-body k))) p ≡ fine (a-body k)
    go curve = refl
    go curve2 = refl
    go surface = refl
key_back (parameters d z) p = refl
key_back (loop l) p = go l.hole
  where
    go : (h : Bool) → reading.carried_in (statement_of (keyword_of (Rattle.tidy_form.specs.Printed.loop_keyword h))) p ≡ fine (loop_key h)
    go true = refl
    go false = refl
key_back end p = refl
key_back passed p = refl

-- ---- the values of the words after it
abbrev pub part_values : Part → List Value
part_values p = number p.from ∷ number p.to ∷ whole p.curve ∷ []

abbrev pub type_values : Bool → Basis → List Value
type_values true t = nothing ∷ basis t ∷ []
type_values false t = basis t ∷ []

abbrev pub degree_values : ℕ → ℕ → List Value
degree_values m zero = whole m ∷ []
degree_values m (suc n) = whole m ∷ whole (suc n) ∷ []

abbrev pub values_in : Weights → Statement → List Value
values_in c (vertex k z) = map number (coordinates c k z)
values_in c (element k cs) = map corner cs
values_in c (group ws) = map name ws
values_in c (smoothing n) = whole n ∷ []
values_in c (material w) = name w ∷ []
values_in c (type r t) = type_values r t
values_in c (degree m n) = degree_values m n
values_in c (body b cs) = map number (range_of b.free b) ++ map corner cs
values_in c (parameters d z) = direction d ∷ map number z
values_in c (loop l) = flat part_values l.parts
values_in c end = []
values_in c passed = []

-- how a value is written; `nothing` is what rat says
abbrev pub written : Value → List ℕ
written (number z) = written_number z
written (corner c) = written_corner c
written (whole k) = written_whole k
written (direction d) = argument_bytes (direction_argument d)
written (basis t) = argument_bytes (basis_argument t)
written (name w) = w.bytes
written nothing = argument_bytes Rational

numbers-written : (z : List ℤ) → map written_number z ≡ map written (map number z)
numbers-written [] = refl
numbers-written (x ∷ z) = ap (λ (r : List (List ℕ)). written_number x ∷ r) (numbers-written z)

corners-written : (cs : List Corner) → map written_corner cs ≡ map written (map corner cs)
corners-written [] = refl
corners-written (c ∷ cs) = ap (λ (r : List (List ℕ)). written_corner c ∷ r) (corners-written cs)

names-written : (ws : List Word) → bytes_of ws ≡ map written (map name ws)
names-written [] = refl
names-written (w ∷ ws) = ap (λ (r : List (List ℕ)). w.bytes ∷ r) (names-written ws)

pub map-append : {A C : Type 0} (f : A → C) (a b : List A) → map f (a ++ b) ≡ map f a ++ map f b
map-append f [] b = refl
map-append f (x ∷ a) b = ap (λ r. f x ∷ r) (map-append f a b)

parts-written : (ps : List Part) → flat part_words ps ≡ map written (flat part_values ps)
parts-written [] = refl
parts-written (p ∷ ps) = ap (λ (r : List (List ℕ)). written_number p.from ∷ written_number p.to ∷ written_whole p.curve ∷ r) (parts-written ps)

pub words-written : (c : Weights) (t : Statement) → words_after c t ≡ map written (values_in c t)
words-written c (vertex k z) = numbers-written (coordinates c k z)
words-written c (element k cs) = corners-written cs
words-written c (group ws) = names-written ws
words-written c (smoothing n) = refl
words-written c (material w) = refl
words-written c (type true t) = refl
words-written c (type false t) = refl
words-written c (degree m zero) = refl
words-written c (degree m (suc n)) = refl
words-written c (body b cs) =
    ap₂ (λ (x y : List (List ℕ)). x ++ y) (numbers-written (range_of b.free b)) (corners-written cs)
    ∙ sym (map-append written (map number (range_of b.free b)) (map corner cs))
words-written c (parameters d z) = ap (λ (r : List (List ℕ)). argument_bytes (direction_argument d) ∷ r) (numbers-written z)
words-written c (loop l) = parts-written l.parts
words-written c end = refl
words-written c passed = refl
