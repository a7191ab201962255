-- Every printed line is a line of tokens: by the values of its words.
use Prim.Native.Nat.{ℕ, suc}
use mathlib.Core.Path.{◌≡◌, refl, ap, ◌∙◌}
use mathlib.Core.List.{List, [], ◌∷◌, map}
use mathlib.Core.Bool.{Bool, true, false}
use lib.ListN.{length}
use lib.Dec.{leb}
use Rattle.lists.specs.Lists.{all}
use Rattle.lists.proofs.Tests.{and_left, and_both}
use Rattle.text.specs.Tokens.{is_token}
use Rattle.references.proofs.Tokens.{number-token, whole-token, corner-token}
use Rattle.keywords.specs.Keywords.{keyword_of, keywords}
use Rattle.keywords.specs.Arguments.{argument_bytes, arguments}
use Rattle.keywords.specs.declared.Argument.TheVariants.{Rational}
use Rattle.tables.specs.Bodies.{Basis, bezier, bspline, cardinal, taylor}
use Rattle.model.specs.Model.{geometric, texture, normal, parametric, Vertices, point, line, face, Free, curve, curve2, surface, ParmDirection, along-u, along-v}
use Rattle.model.specs.Statements.{Statement, vertex, element, group, smoothing, material, type, degree, body, parameters, loop, end, passed}
use Rattle.model.specs.Parse.{a-body, WordForm, a-number, a-corner, a-control, a-curve, a-direction, a-type, a-rational, a-degree, a-smoothing, a-name, anything, Value, Seen, form_of}
use Rattle.tidy_form.specs.declared.Weights.{Weights}
use Rattle.tidy_form.specs.Printed.{keyword_in, loop_keyword, basis_argument, direction_argument, printed}
use Rattle.tidy_form.proofs.Values.{key_of, values_in, written, words-written}
use Rattle.tidy_form.proofs.Words.{is_name, Fits, Fitting}
use Rattle.tidy_form.proofs.Standing.{seen_of, Fine}

keyword-token : (t : Statement) → is_token (keyword_of (keyword_in t)) ≡ true
unfolding keyword_of keywords
keyword-token (vertex geometric z) = refl
keyword-token (vertex texture z) = refl
keyword-token (vertex normal z) = refl
keyword-token (vertex parametric z) = refl
keyword-token (element point cs) = refl
keyword-token (element line cs) = refl
keyword-token (element face cs) = refl
keyword-token (group ws) = refl
keyword-token (smoothing n) = refl
keyword-token (material w) = refl
keyword-token (type r t) = refl
keyword-token (degree m n) = refl
keyword-token (body b cs) = go b.free
  where
    go : (k : Free) → is_token (keyword_of (a-body k)) ≡ true
    go curve = refl
    go curve2 = refl
    go surface = refl
keyword-token (parameters d z) = refl
keyword-token (loop l) = go l.hole
  where
    go : (h : Bool) → is_token (keyword_of (loop_keyword h)) ≡ true
    go true = refl
    go false = refl
keyword-token end = refl
keyword-token passed = refl

direction-token : (d : ParmDirection) → is_token (argument_bytes (direction_argument d)) ≡ true
unfolding argument_bytes arguments
direction-token along-u = refl
direction-token along-v = refl

basis-token : (t : Basis) → is_token (argument_bytes (basis_argument t)) ≡ true
unfolding argument_bytes arguments
basis-token bezier = refl
basis-token bspline = refl
basis-token cardinal = refl
basis-token taylor = refl

rational-token : is_token (argument_bytes Rational) ≡ true
unfolding argument_bytes arguments
rational-token = refl

name-token : (w : List ℕ) → is_name w ≡ true → is_token w ≡ true
unfolding is_name
name-token w h = and_left (is_token w) (leb (length w) 255) h

value-token : (n : Seen) (f : WordForm) (x : Value) → Fits n f x → is_token (written x) ≡ true
value-token n a-number x q = ap (λ (v : Value). is_token (written v)) q.1 ∙ number-token q.0
value-token n (a-corner k) x q = ap (λ (v : Value). is_token (written v)) q.1 ∙ corner-token q.0
value-token n a-control x q = ap (λ (v : Value). is_token (written v)) q.1 ∙ whole-token q.0
value-token n a-curve x q = ap (λ (v : Value). is_token (written v)) q.1 ∙ whole-token q.0
value-token n a-direction x q = ap (λ (v : Value). is_token (written v)) q.1 ∙ direction-token q.0
value-token n a-type x q = ap (λ (v : Value). is_token (written v)) q.1 ∙ basis-token q.0
value-token n a-rational x q = ap (λ (v : Value). is_token (written v)) q ∙ rational-token
value-token n a-degree x q = ap (λ (v : Value). is_token (written v)) q.1 ∙ whole-token q.0
value-token n a-smoothing x q = ap (λ (v : Value). is_token (written v)) q.1 ∙ whole-token q.0
value-token n a-name x q = ap (λ (v : Value). is_token (written v)) q.1 ∙ name-token q.0.bytes q.2
value-token n anything x q = ap (λ (v : Value). is_token (written v)) q ∙ rational-token

values-tokens : (n : Seen) (f : ℕ → WordForm) (i : ℕ) (xs : List Value) → Fitting n f i xs → all is_token (map written xs) ≡ true
values-tokens n f i [] q = refl
values-tokens n f i (x ∷ xs) q = and_both (value-token n (f i) x q.0) (values-tokens n f (suc i) xs q.1)

pub line-tokens : (c : Weights) (x : Vertices) (n : ℕ) (t : Statement) → Fine x n t → all is_token (printed c t) ≡ true
line-tokens c x n t f =
    and_both (keyword-token t)
    (ap (all is_token) (words-written c t) ∙ values-tokens (seen_of x n) (form_of (key_of t) (length (values_in c t))) 0 (values_in c t) (f.fits c))
