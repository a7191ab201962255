-- Parsing a line never refuses it with 14.
use Prim.Native.Nat.{ℕ, suc}
use mathlib.Core.Path.{◌≡◌, refl}
use mathlib.Core.List.{List, [], ◌∷◌}
use mathlib.Core.Bool.{Bool, true, false, cond, ◌&&◌}
use mathlib.Core.Option.{Option, none, some}
use lib.Dec.{eqb, leb}
use lib.ListN.{length, drop}
use Rattle.text.specs.Words.{Word}
use Rattle.digits.specs.Said.{Said, says, wrong}
use Rattle.digits.specs.Said as said
use Rattle.lists.specs.Lists.{same}
use Rattle.digits.specs.Digits.{nat_of, is_whole, negative}
use Rattle.digits.specs.Degree.{degree_of, smoothing_of, name_of}
use Rattle.lists.specs.Signs.{with_sign}
use Rattle.decimals.specs.Number.{unsigned, mantissa, exponent, is_exponent, decimal, value_of, number_of}
use Rattle.references.specs.Reference.{is_reference, refer, reference_of}
use Rattle.references.specs.Corner.{Counts, Parts, split, patterned, corner_of}
use Rattle.keywords.specs.declared.Argument.{Argument}
use Rattle.keywords.specs.declared.Argument.TheVariants.{Rational, BasisMatrix, Bezier, Bspline, Cardinal, Taylor, DirectionU, DirectionV, Off, Other}
use Rattle.keywords.specs.Arguments.{argument_of, argument_bytes}
use Rattle.statements.specs.declared.Statement.{Statement}
use Rattle.statements.specs.declared.Statement.TheVariants.{Carried, Refused, Unknown}
use Rattle.model.specs.Model.{ParmDirection, Open, State}
use Rattle.model.specs.Parse.{Parsed, fine, fault, then, must, unless, Keyword, a-vertex, an-element, a-body, parm, trim, hole, ends, cstype, deg, g, s, usemtl, over, allowed, counted, WordForm, a-number, a-corner, a-control, a-curve, a-direction, a-type, a-rational, a-degree, a-smoothing, a-name, anything, form_of, on_said, type_said, rational_said, direction_said, direction_of, Seen, said_of, placed, values_of, Value, corners_of, range_words, unlike, in_force, narrow_in, complete, counts_agree, range_within, checked, seen_in, parse}
use Rattle.model.proofs.Pieces.{finished}
use Rattle.model.specs.Read.{carried_in}

-- refused with 14
abbrev pub lacking : {A : Type 0} → Parsed A → Bool
lacking (fine a) = false
lacking (fault n p) = eqb n 14

abbrev mistaken : {A : Type 0} → Said A → Bool
mistaken (says a) = false
mistaken (wrong n) = eqb n 14

module _ {A : Type 0} where
  pub then-lacking : {C : Type 0} (r : Parsed C) (k : C → Parsed A) → lacking r ≡ false → ((c : C) → lacking (k c) ≡ false) → lacking (then r k) ≡ false
  then-lacking (fine c) k h f = f c
  then-lacking (fault n p) k h f = h

  must-lacking : (t : Bool) (n p : ℕ) (r : Parsed A) → eqb n 14 ≡ false → lacking r ≡ false → lacking (must t n p r) ≡ false
  must-lacking true n p r e h = h
  must-lacking false n p r e h = e

  unless-lacking : (o : Option ℕ) (n : ℕ) (r : Parsed A) → eqb n 14 ≡ false → lacking r ≡ false → lacking (unless o n r) ≡ false
  unless-lacking none n r e h = h
  unless-lacking (some p) n r e h = e

  placed-lacking : (x : Said A) (p : ℕ) → mistaken x ≡ false → lacking (placed x p) ≡ false
  placed-lacking (says a) p h = refl
  placed-lacking (wrong n) p h = h

  must-mistaken : (t : Bool) (n : ℕ) (x : Said A) → eqb n 14 ≡ false → mistaken x ≡ false → mistaken (said.must t n x) ≡ false
  must-mistaken true n x e h = h
  must-mistaken false n x e h = e

  on-mistaken : {C : Type 0} (f : C → A) (x : Said C) → mistaken x ≡ false → mistaken (on_said f x) ≡ false
  on-mistaken f (says c) h = refl
  on-mistaken f (wrong n) h = h

-- ---- words
-- a form, and then a range or a reference
twice : {A : Type 0} (t u : Bool) (n : ℕ) (a : A) → eqb n 14 ≡ false → mistaken (said.must t 6 (said.must u n (says a))) ≡ false
twice t u n a e = must-mistaken t 6 (said.must u n (says a)) refl (must-mistaken u n (says a) e refl)

number-said : (w : List ℕ) → mistaken (number_of w) ≡ false
unfolding number_of
number-said w =
    let u : List ℕ = unsigned w in
    let m : ℕ = value_of u in
    twice (leb (length w) 64 && (decimal (mantissa u) && is_exponent (exponent u))) (leb m 2000000000) 7 (with_sign (negative w) m) refl

reference-said : (n : ℕ) (w : List ℕ) → mistaken (reference_of n w) ≡ false
unfolding reference_of
reference-said n w = twice (is_reference w) (leb 1 (refer n w)) 8 (refer n w) refl

module _ (c : Counts) (k : Parts) where
  pattern-said : (ps : List (List ℕ)) → mistaken (patterned c k ps) ≡ false
  pattern-said [] = refl
  pattern-said (a ∷ []) = twice (is_reference a) (leb 1 (refer c.v a)) 8 (record { v = refer c.v a; vt = 0; vn = 0 }) refl
  pattern-said (a ∷ b ∷ []) =
      twice (is_reference a && (k.vt && is_reference b)) (leb 1 (refer c.v a) && leb 1 (refer c.vt b)) 8
      (record { v = refer c.v a; vt = refer c.vt b; vn = 0 }) refl
  pattern-said (a ∷ [] ∷ d ∷ []) =
      twice (is_reference a && (k.vn && is_reference d)) (leb 1 (refer c.v a) && leb 1 (refer c.vn d)) 8
      (record { v = refer c.v a; vt = 0; vn = refer c.vn d }) refl
  pattern-said (a ∷ (x ∷ b) ∷ d ∷ []) =
      twice (is_reference a && ((k.vt && is_reference (x ∷ b)) && (k.vn && is_reference d)))
      (leb 1 (refer c.v a) && (leb 1 (refer c.vt (x ∷ b)) && leb 1 (refer c.vn d))) 8
      (record { v = refer c.v a; vt = refer c.vt (x ∷ b); vn = refer c.vn d }) refl
  pattern-said (a ∷ b ∷ d ∷ e ∷ ps) = refl

degree-said : (w : List ℕ) → mistaken (degree_of w) ≡ false
unfolding degree_of
degree-said w = twice (is_whole 3 w) (leb 1 (nat_of 0 w) && leb (nat_of 0 w) 20) 7 (nat_of 0 w) refl

smoothing-said : (w : List ℕ) → mistaken (smoothing_of w) ≡ false
unfolding smoothing_of
smoothing-said w = go (same w (argument_bytes Off))
  where
    go : (t : Bool) → mistaken (cond t (says 0) (said.must (is_whole 5 w) 6 (said.must (leb (nat_of 0 w) 65535) 7 (says (nat_of 0 w))))) ≡ false
    go true = refl
    go false = twice (is_whole 5 w) (leb (nat_of 0 w) 65535) 7 (nat_of 0 w) refl

name-said : (w : List ℕ) → mistaken (name_of w) ≡ false
unfolding name_of
name-said w = must-mistaken (leb 1 (length w) && leb (length w) 255) 6 (says w) refl refl

type-said : (a : Argument) → mistaken (type_said a) ≡ false
type-said Rational = refl
type-said BasisMatrix = refl
type-said Bezier = refl
type-said Bspline = refl
type-said Cardinal = refl
type-said Taylor = refl
type-said DirectionU = refl
type-said DirectionV = refl
type-said Off = refl
type-said Other = refl

rational-said : (a : Argument) → mistaken (rational_said a) ≡ false
rational-said Rational = refl
rational-said BasisMatrix = refl
rational-said Bezier = refl
rational-said Bspline = refl
rational-said Cardinal = refl
rational-said Taylor = refl
rational-said DirectionU = refl
rational-said DirectionV = refl
rational-said Off = refl
rational-said Other = refl

direction-said : (o : Option ParmDirection) → mistaken (direction_said o) ≡ false
direction-said none = refl
direction-said (some d) = refl

word-said : (n : Seen) (f : WordForm) (w : Word) → mistaken (said_of n f w) ≡ false
unfolding corner_of
word-said n a-number w = on-mistaken _ (number_of w.bytes) (number-said w.bytes)
word-said n (a-corner k) w = on-mistaken _ (corner_of n.counts k w.bytes) (pattern-said n.counts k (split w.bytes))
word-said n a-control w = on-mistaken _ (reference_of n.vp w.bytes) (reference-said n.vp w.bytes)
word-said n a-curve w = on-mistaken _ (reference_of n.curves w.bytes) (reference-said n.curves w.bytes)
word-said n a-direction w = direction-said (direction_of (argument_of w.bytes))
word-said n a-type w = on-mistaken _ (type_said (argument_of w.bytes)) (type-said (argument_of w.bytes))
word-said n a-rational w = rational-said (argument_of w.bytes)
word-said n a-degree w = on-mistaken _ (degree_of w.bytes) (degree-said w.bytes)
word-said n a-smoothing w = on-mistaken _ (smoothing_of w.bytes) (smoothing-said w.bytes)
word-said n a-name w = on-mistaken _ (name_of w.bytes) (name-said w.bytes)
word-said n anything w = refl

values-said : (n : Seen) (f : ℕ → WordForm) (i : ℕ) (ws : List Word) → lacking (values_of n f i ws) ≡ false
values-said n f i [] = refl
values-said n f i (w ∷ ws) =
    then-lacking (placed (said_of n (f i) w) w.place) _ (placed-lacking (said_of n (f i) w) w.place (word-said n (f i) w))
    (λ x. then-lacking (values_of n f (suc i) ws) _ (values-said n f (suc i) ws) (λ xs. refl))

-- ---- lines
finished-said : (o : Option Open) (key : ℕ) → lacking (finished o key) ≡ false
finished-said none key = refl
finished-said (some o) key =
    must-lacking (complete o.body.free o.body) 11 key _ refl
    (must-lacking (counts_agree o.body.free o.body (length o.controls)) 12 key _ refl
    (must-lacking (range_within o.body.free o.body) 13 key _ refl refl))

checked-said : (k : Keyword) (x : State) (key : ℕ) (ws : List Word) (xs : List Value) → lacking (checked k x key ws xs) ≡ false
checked-said (a-vertex k) x key ws xs = refl
checked-said (an-element k) x key ws xs = unless-lacking (unlike ws (corners_of xs)) 9 _ refl refl
checked-said (a-body k) x key ws xs =
    unless-lacking (unlike (drop (range_words k) ws) (corners_of xs)) 9 _ refl
    (must-lacking (in_force k x.form x.form.basis) 11 key _ refl
    (unless-lacking (narrow_in k x.model.vertices (drop (range_words k) ws) (corners_of xs)) 12 _ refl refl))
checked-said parm x key ws xs = refl
checked-said trim x key ws xs = refl
checked-said hole x key ws xs = refl
checked-said ends x key ws xs = finished-said x.open-body key
checked-said cstype x key ws xs = refl
checked-said deg x key ws xs = refl
checked-said g x key ws xs = refl
checked-said s x key ws xs = refl
checked-said usemtl x key ws xs = refl
checked-said over x key ws xs = refl

pub parse-said : (k : Keyword) (x : State) (key : ℕ) (ws : List Word) → lacking (parse k x key ws) ≡ false
unfolding parse
parse-said k x key ws =
    must-lacking (allowed k x.open-body ws) 10 key _ refl
    (must-lacking (counted k (length ws)) 5 key _ refl
    (then-lacking (values_of (seen_in x) (form_of k (length ws)) 0 ws) _ (values-said (seen_in x) (form_of k (length ws)) 0 ws)
    (λ xs. checked-said k x key ws xs)))

pub keyword-said : (k : Statement) (key : ℕ) → lacking (carried_in k key) ≡ false
keyword-said (Carried k) key = refl
keyword-said Refused key = refl
keyword-said Unknown key = refl
