-- Every refusal of a text has a number of 01's table, 1 to 14: by the shape of each definition, from a word's form up to all lines.
use Prim.Native.Nat.{ℕ, suc}
use mathlib.Core.Path.{◌≡◌, refl, sym, ap, ◌∙◌}
use mathlib.Core.Bool.{Bool, true, false, cond, ◌&&◌}
use mathlib.Core.List.{List, [], ◌∷◌}
use mathlib.Core.Option.{Option, none, some}
use borrow.Author.Tests.{leb-true}
use lib.ListN.{length, drop}
use lib.Dec.{leb}
use lib.IntN.{ℤ}
use Rattle.lists.proofs.Tests.{and_left, and_right}
use Rattle.lists.specs.Lists.{same}
use Rattle.text.specs.Words.{Word, words_of, bad_of}
use Rattle.text.specs.Lines.{Line as JoinedLine, lines_of}
use Rattle.digits.specs.Said.{Said, says, wrong}
use Rattle.digits.specs.Said as said
use Rattle.digits.specs.Degree.{degree_of, smoothing_of, name_of}
use Rattle.digits.specs.Digits.{nat_of, is_whole, negative}
use Rattle.lists.specs.Signs.{with_sign}
use Rattle.decimals.specs.Number.{unsigned, mantissa, exponent, is_exponent, decimal, value_of, number_of}
use Rattle.references.specs.Reference.{is_reference, refer, reference_of}
use Rattle.references.specs.Corner.{Corner, Counts, Parts, split, formed, patterned, corner_of}
use Rattle.keywords.specs.Keywords.{statement_of}
use Rattle.keywords.specs.Arguments.{argument_of, argument_bytes}
use Rattle.statements.specs.declared.Statement.{Statement}
use Rattle.statements.specs.declared.Statement.TheVariants as keyword
use Rattle.keywords.specs.declared.Argument.{Argument}
use Rattle.keywords.specs.declared.Argument.TheVariants as argument
use Rattle.model.specs.Model.{Free, ParmDirection, Model, Open, State, start}
use Rattle.model.specs.Statements.{apply}
use Rattle.model.specs.Statements as statements
use Rattle.model.specs.Parse.{Parsed, fine, fault, then, must, unless, Keyword, a-vertex, an-element, a-body, parm, trim, hole, ends, cstype, deg, g, s, usemtl, over, WordForm, a-number, a-corner, a-control, a-curve, a-direction, a-type, a-rational, a-degree, a-smoothing, a-name, anything, Value, number, corner, whole as whole-value, basis, name, on_said, direction_of, type_said, rational_said, direction_said, Seen, said_of, placed, values_of, form_of, seen_in, unlike, narrow_in, corners_of, numbers_of, range_words, allowed, counted, in_force, opened_body, complete, counts_agree, range_within, checked, parse}
use Rattle.model.proofs.Pieces.{opened, finished}
use Rattle.model.specs.Room.{Rooms, fits}
use Rattle.model.specs.Read.{carried_in, statement, step, Answer, read, refused, finish, on_parsed, read_lines, read_of}
use Rattle.end_to_end.specs.Demand1.{Between}

abbrev in_table : ℕ → Bool
in_table n = leb 1 n && leb n 14

-- ---- a word
abbrev said_well : {A : Type 0} → Said A → Bool
said_well (says a) = true
said_well (wrong n) = in_table n

said-must : {A : Type 0} (t : Bool) (n : ℕ) (x : Said A) → in_table n ≡ true → said_well x ≡ true → said_well (said.must t n x) ≡ true
said-must true n x h k = k
said-must false n x h k = h

-- 6 first, then n
two-tests : {A : Type 0} (t q : Bool) (n : ℕ) (a : A) → in_table n ≡ true → said_well (said.must t 6 (said.must q n (says a))) ≡ true
two-tests t q n a h = said-must t 6 (said.must q n (says a)) refl (said-must q n (says a) h refl)

said-on : {A C : Type 0} (f : A → C) (x : Said A) → said_well x ≡ true → said_well (on_said f x) ≡ true
said-on f (says a) h = refl
said-on f (wrong n) h = h

number-well : (w : List ℕ) → said_well (number_of w) ≡ true
unfolding number_of
number-well w =
    let u = unsigned w in
    let m = value_of u in
    two-tests (leb (length w) 64 && (decimal (mantissa u) && is_exponent (exponent u))) (leb m 2000000000) 7 (with_sign (negative w) m) refl

reference-well : (n : ℕ) (w : List ℕ) → said_well (reference_of n w) ≡ true
unfolding reference_of
reference-well n w = two-tests (is_reference w) (leb 1 (refer n w)) 8 (refer n w) refl

degree-well : (w : List ℕ) → said_well (degree_of w) ≡ true
unfolding degree_of
degree-well w = two-tests (is_whole 3 w) (leb 1 (nat_of 0 w) && leb (nat_of 0 w) 20) 7 (nat_of 0 w) refl

smoothing-well : (w : List ℕ) → said_well (smoothing_of w) ≡ true
unfolding smoothing_of
smoothing-well w = go (same w (argument_bytes argument.Off)) (said.must (is_whole 5 w) 6 (said.must (leb (nat_of 0 w) 65535) 7 (says (nat_of 0 w)))) (two-tests (is_whole 5 w) (leb (nat_of 0 w) 65535) 7 (nat_of 0 w) refl)
  where
    go : (b : Bool) (x : Said ℕ) → said_well x ≡ true → said_well (cond b (says 0) x) ≡ true
    go true x h = refl
    go false x h = h

name-well : (w : List ℕ) → said_well (name_of w) ≡ true
unfolding name_of
name-well w = said-must (leb 1 (length w) && leb (length w) 255) 6 (says w) refl refl

formed-well : (form there : Bool) (c : Corner) → said_well (formed form there c) ≡ true
formed-well form there c = two-tests form there 8 c refl

patterned-well : (c : Counts) (k : Parts) (ps : List (List ℕ)) → said_well (patterned c k ps) ≡ true
patterned-well c k [] = refl
patterned-well c k (a ∷ []) = formed-well (is_reference a) (leb 1 (refer c.v a)) (record { v = refer c.v a; vt = 0; vn = 0 })
patterned-well c k (a ∷ b ∷ []) =
    formed-well (is_reference a && (k.vt && is_reference b)) (leb 1 (refer c.v a) && leb 1 (refer c.vt b)) (record { v = refer c.v a; vt = refer c.vt b; vn = 0 })
patterned-well c k (a ∷ [] ∷ d ∷ []) =
    formed-well (is_reference a && (k.vn && is_reference d)) (leb 1 (refer c.v a) && leb 1 (refer c.vn d)) (record { v = refer c.v a; vt = 0; vn = refer c.vn d })
patterned-well c k (a ∷ (x ∷ b) ∷ d ∷ []) =
    formed-well (is_reference a && ((k.vt && is_reference (x ∷ b)) && (k.vn && is_reference d))) (leb 1 (refer c.v a) && (leb 1 (refer c.vt (x ∷ b)) && leb 1 (refer c.vn d)))
    (record { v = refer c.v a; vt = refer c.vt (x ∷ b); vn = refer c.vn d })
patterned-well c k (a ∷ b ∷ d ∷ e ∷ ps) = refl

corner-well : (c : Counts) (k : Parts) (w : List ℕ) → said_well (corner_of c k w) ≡ true
unfolding corner_of
corner-well c k w = patterned-well c k (split w)

type-well : (a : Argument) → said_well (type_said a) ≡ true
type-well argument.Rational = refl
type-well argument.BasisMatrix = refl
type-well argument.Bezier = refl
type-well argument.Bspline = refl
type-well argument.Cardinal = refl
type-well argument.Taylor = refl
type-well argument.DirectionU = refl
type-well argument.DirectionV = refl
type-well argument.Off = refl
type-well argument.Other = refl

rational-well : (a : Argument) → said_well (rational_said a) ≡ true
rational-well argument.Rational = refl
rational-well argument.BasisMatrix = refl
rational-well argument.Bezier = refl
rational-well argument.Bspline = refl
rational-well argument.Cardinal = refl
rational-well argument.Taylor = refl
rational-well argument.DirectionU = refl
rational-well argument.DirectionV = refl
rational-well argument.Off = refl
rational-well argument.Other = refl

direction-well : (d : Option ParmDirection) → said_well (direction_said d) ≡ true
direction-well none = refl
direction-well (some d) = refl

word-well : (n : Seen) (f : WordForm) (w : Word) → said_well (said_of n f w) ≡ true
word-well n a-number w = said-on number (number_of w.bytes) (number-well w.bytes)
word-well n (a-corner k) w = said-on corner (corner_of n.counts k w.bytes) (corner-well n.counts k w.bytes)
word-well n a-control w = said-on (λ k. corner (record { v = k; vt = 0; vn = 0 })) (reference_of n.vp w.bytes) (reference-well n.vp w.bytes)
word-well n a-curve w = said-on whole-value (reference_of n.curves w.bytes) (reference-well n.curves w.bytes)
word-well n a-direction w = direction-well (direction_of (argument_of w.bytes))
word-well n a-type w = said-on basis (type_said (argument_of w.bytes)) (type-well (argument_of w.bytes))
word-well n a-rational w = rational-well (argument_of w.bytes)
word-well n a-degree w = said-on whole-value (degree_of w.bytes) (degree-well w.bytes)
word-well n a-smoothing w = said-on whole-value (smoothing_of w.bytes) (smoothing-well w.bytes)
word-well n a-name w = said-on (λ b. name w) (name_of w.bytes) (name-well w.bytes)
word-well n anything w = refl

-- ---- a line
abbrev well : {A : Type 0} → Parsed A → Bool
well (fine a) = true
well (fault n p) = in_table n

well-then : {A C : Type 0} (x : Parsed A) (f : A → Parsed C) → well x ≡ true → ((a : A) → well (f a) ≡ true) → well (then x f) ≡ true
well-then (fine a) f h k = k a
well-then (fault n p) f h k = h

well-must : {A : Type 0} (b : Bool) (n p : ℕ) (r : Parsed A) → in_table n ≡ true → well r ≡ true → well (must b n p r) ≡ true
well-must true n p r h k = k
well-must false n p r h k = h

well-unless : {A : Type 0} (o : Option ℕ) (n : ℕ) (r : Parsed A) → in_table n ≡ true → well r ≡ true → well (unless o n r) ≡ true
well-unless none n r h k = k
well-unless (some p) n r h k = h

placed-well : {A : Type 0} (x : Said A) (p : ℕ) → said_well x ≡ true → well (placed x p) ≡ true
placed-well (says a) p h = refl
placed-well (wrong n) p h = h

values-well : (n : Seen) (f : ℕ → WordForm) (i : ℕ) (ws : List Word) → well (values_of n f i ws) ≡ true
values-well n f i [] = refl
values-well n f i (w ∷ ws) =
    well-then (placed (said_of n (f i) w) w.place) (λ x. then (values_of n f (suc i) ws) (λ xs. fine (x ∷ xs))) (placed-well (said_of n (f i) w) w.place (word-well n (f i) w))
    (λ x. well-then (values_of n f (suc i) ws) (λ xs. fine (x ∷ xs)) (values-well n f (suc i) ws) (λ xs. refl))

opened-well : (k : Free) (x : State) (key : ℕ) (ws : List Word) (cs : List Corner) (z : List ℤ) → well (opened k x key ws cs z) ≡ true
opened-well k x key ws cs z =
    let last = fine (statements.body (opened_body k x.form z) cs) in
    let narrower = unless (narrow_in k x.model.vertices ws cs) 12 last in
    let in-force = in_force k x.form x.form.basis in
    well-unless (unlike ws cs) 9 (must in-force 11 key narrower) refl
    (well-must in-force 11 key narrower refl (well-unless (narrow_in k x.model.vertices ws cs) 12 last refl refl))

finished-well : (o : Option Open) (key : ℕ) → well (finished o key) ≡ true
finished-well none key = refl
finished-well (some o) key =
    let f = o.body.free in
    let thirteen = must (range_within f o.body) 13 key (fine statements.end) in
    let twelve = must (counts_agree f o.body (length o.controls)) 12 key thirteen in
    well-must (complete f o.body) 11 key twelve refl
    (well-must (counts_agree f o.body (length o.controls)) 12 key thirteen refl (well-must (range_within f o.body) 13 key (fine statements.end) refl refl))

checked-well : (k : Keyword) (x : State) (key : ℕ) (ws : List Word) (xs : List Value) → well (checked k x key ws xs) ≡ true
checked-well (a-vertex k) x key ws xs = refl
checked-well (an-element k) x key ws xs = well-unless (unlike ws (corners_of xs)) 9 (fine (statements.element k (corners_of xs))) refl refl
checked-well (a-body k) x key ws xs = opened-well k x key (drop (range_words k) ws) (corners_of xs) (numbers_of xs)
checked-well parm x key ws xs = refl
checked-well trim x key ws xs = refl
checked-well hole x key ws xs = refl
checked-well ends x key ws xs = finished-well x.open-body key
checked-well cstype x key ws xs = refl
checked-well deg x key ws xs = refl
checked-well g x key ws xs = refl
checked-well s x key ws xs = refl
checked-well usemtl x key ws xs = refl
checked-well over x key ws xs = refl

parse-well : (k : Keyword) (x : State) (key : ℕ) (ws : List Word) → well (parse k x key ws) ≡ true
unfolding parse
parse-well k x key ws =
    let values = values_of (seen_in x) (form_of k (length ws)) 0 ws in
    let words = then values (λ xs. checked k x key ws xs) in
    well-must (allowed k x.open-body ws) 10 key (must (counted k (length ws)) 5 key words) refl
    (well-must (counted k (length ws)) 5 key words refl
    (well-then values (λ xs. checked k x key ws xs) (values-well (seen_in x) (form_of k (length ws)) 0 ws) (λ xs. checked-well k x key ws xs)))

keyword-well : (k : Statement) (key : ℕ) → well (carried_in k key) ≡ true
keyword-well (keyword.Carried k) key = refl
keyword-well keyword.Refused key = refl
keyword-well keyword.Unknown key = refl

step-well : (R : Rooms) (x : State) (ws : List Word) → well (step R x ws) ≡ true
unfolding statement
step-well R x [] = refl
step-well R x (w ∷ ws) =
    let roomy : statements.Statement → Parsed State = λ t. must (fits R (apply t x)) 14 w.place (fine (apply t x)) in
    well-then (carried_in (statement_of w.bytes) w.place) (λ k. then (parse k x w.place ws) roomy) (keyword-well (statement_of w.bytes) w.place)
    (λ k. well-then (parse k x w.place ws) roomy (parse-well k x w.place ws) (λ t. well-must (fits R (apply t x)) 14 w.place (fine (apply t x)) refl refl))

-- ---- a text
abbrev answer_well : Answer → Bool
answer_well (read m) = true
answer_well (refused n p) = in_table n

finish-well : (n : ℕ) (o : Option Open) (m : Model) → answer_well (finish n o m) ≡ true
finish-well n none m = refl
finish-well n (some o) m = refl

on-well : (x : Parsed State) (f : State → Answer) → well x ≡ true → ((y : State) → answer_well (f y) ≡ true) → answer_well (on_parsed x f) ≡ true
on-well (fine y) f h k = k y
on-well (fault n p) f h k = h

lines-well : (R : Rooms) (n : ℕ) (ls : List JoinedLine) (x : State) → answer_well (read_lines R n ls x) ≡ true
lines-well R n [] x = finish-well n x.open-body x.model
lines-well R n (l ∷ ls) x =
    on-well (unless (bad_of l) 2 (step R x (words_of l))) (read_lines R n ls) (well-unless (bad_of l) 2 (step R x (words_of l)) refl (step-well R x (words_of l))) (lines-well R n ls)

text-well : (R : Rooms) (t : List ℕ) → answer_well (read_of R t) ≡ true
unfolding read_of
text-well R t = go (leb (length t) 16777216) (read_lines R (length t) (lines_of t) start) (lines-well R (length t) (lines_of t) start)
  where
    go : (b : Bool) (x : Answer) → answer_well x ≡ true → answer_well (cond b x (refused 1 0)) ≡ true
    go true x h = h
    go false x h = refl

pub refusal-number : (R : Rooms) (t : List ℕ) (n p : ℕ) → read_of R t ≡ refused n p → Between 1 14 n
refusal-number R t n p e =
    let h : in_table n ≡ true = sym (ap answer_well e) ∙ text-well R t in
    record { least = leb-true 1 n (and_left (leb 1 n) (leb n 14) h); most = leb-true n 14 (and_right (leb 1 n) (leb n 14) h) }
