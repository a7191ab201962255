-- What the code finds wrong with a line's words, from the numbers that it holds and in its own order.
use Rattle.std.specs.Prelude.{ℕ, suc, ◌-◌, ◌*◌, List, [], ◌∷◌, Bool, true, false, cond, ◌&&◌, ◌||◌, not, drop, get_or, leb, eqb, ℤ, pos, nat_abs, Result, Ok, Err}
use Rattle.text.specs.Words.{Word}
use Rattle.digits.specs.Said.{Said, says, wrong}
use Rattle.references.specs.Corner.{Corner, Counts, corner_of, agree}
use Rattle.references.specs.Reference.{reference_of}
use Rattle.model.specs.Parse as parse
use Rattle.read_state.specs.declared.Form.{Form}
use Rattle.read_word_checks.specs.declared.word.Seen.{Seen}
use Rattle.read_word_checks.specs.declared.tests.Test.{Test}
use Rattle.read_word_checks.specs.declared.tests.Test.TheVariants as test
use Rattle.read_word_checks.specs.declared.tests.Tests.{Tests}
use Rattle.read_word_checks.specs.declared.tests.Tests.TheVariants as tests
use Rattle.statements.specs.declared.Free.{Free}
use Rattle.statements.specs.declared.Free.TheVariants.{Curve, Curve2, Surface}
use Rattle.statements.specs.declared.rules.Held.{Held}
use Rattle.statements.specs.declared.rules.Held.TheVariants as held
use Rattle.refusals.specs.declared.Reason.{Reason}
use Rattle.refusals.specs.declared.Refusal as Placed
use Rattle.refusals.specs.Reasons.{reason_number}
use Rattle.statements.specs.Rules.{range_words, form_by}

-- ---- one word: nothing is wrong with it, or what 01's number says
pub data WordCheck : Type 0 where
  Valid : WordCheck
  Fault : ℕ → WordCheck

-- what an answer of the code says
abbrev pub check_said : {A : Type 0} → Result A Reason → WordCheck
check_said (Ok a) = Valid
check_said (Err r) = Fault (reason_number r)

abbrev pub check_of : {A : Type 0} → Said A → WordCheck
check_of (says a) = Valid
check_of (wrong n) = Fault n

abbrev pub counts_by : Seen → Counts
counts_by n = record { v = n.counts.v; vt = n.counts.vt; vn = n.counts.vn }

abbrev pub seen_by : Seen → parse.Seen
seen_by n = record { counts = counts_by n; vp = n.vp; curves = n.curves }

-- 9: a corner has no vt where the first has none, and so with its vn
abbrev pub alike_said : Bool → Bool → Said Corner → Said parse.Value
alike_said bare flat (says c) = cond (agree bare (eqb c.vt 0)) (cond (agree flat (eqb c.vn 0)) (says (parse.corner c)) (wrong 9)) (wrong 9)
alike_said bare flat (wrong m) = wrong m

-- 12: whether the k-th record of the vp table t begins with a count of two or more
abbrev pub given_by : List ℤ → ℕ → Bool
given_by t k = cond (eqb k 0) false (leb 2 (nat_abs (get_or t (4 * (k - 1)) (pos 0))))

abbrev pub wide_said : List ℤ → Said ℕ → Said parse.Value
wide_said t (says k) = cond (given_by t k) (says (parse.whole k)) (wrong 12)
wide_said t (wrong m) = wrong m

-- the word w by the test
abbrev pub tested_by : parse.Seen → List ℤ → Test → Word → Said parse.Value
tested_by n t (test.Form f) w = parse.said_of n f w
tested_by n t (test.Alike k bare flat) w = alike_said bare flat (corner_of n.counts k w.bytes)
tested_by n t test.Wide w = wide_said t (reference_of n.vp w.bytes)

-- the test of word i of n
abbrev pub test_by : Tests → ℕ → ℕ → Test
test_by (tests.Each f) n i = test.Form (form_by f n i)
test_by (tests.All x) n i = x

-- ---- the words of a line: nothing is wrong with them, or a number and a place
pub data Refusal : Type 0 where
  Nothing : Refusal
  Refused : ℕ → ℕ → Refusal

-- what an answer of the code says
abbrev pub refusal_said : {A : Type 0} → Result A Placed.Refusal → Refusal
refusal_said (Ok a) = Nothing
refusal_said (Err f) = Refused (reason_number f.reason) f.place

abbrev pub on_check : WordCheck → ℕ → Refusal → Refusal
on_check Valid p b = b
on_check (Fault n) p b = Refused n p

-- the first of the words, from the i-th of m on, that fails its test
abbrev pub fault_in : parse.Seen → List ℤ → Tests → ℕ → ℕ → List Word → Refusal
fault_in n t f m i [] = Nothing
fault_in n t f m i (w ∷ ws) = on_check (check_of (tested_by n t (test_by f m i) w)) w.place (fault_in n t f m (suc i) ws)

-- 9, of words that are corners
abbrev pub alike_tests : Bool → Bool → Corner → Tests
alike_tests a b c = tests.All (test.Alike (record { vt = a; vn = b }) (eqb c.vt 0) (eqb c.vn 0))

abbrev pub on_first : Said Corner → (Corner → Refusal) → Refusal
on_first (says c) f = f c
on_first (wrong m) f = Nothing

abbrev pub pattern_fault : parse.Seen → List ℤ → Bool → Bool → List Word → Refusal
pattern_fault n t a b [] = Nothing
pattern_fault n t a b (w ∷ ws) = on_first (corner_of n.counts (record { vt = a; vn = b }) w.bytes) (λ c. fault_in n t (alike_tests a b c) 0 0 ws)

-- ---- what is held against a line whose words have their forms
-- 11, by a type's number: "Cardinal needs no deg"
abbrev pub in_force_by : Bool → Form → Bool
in_force_by surface f =
    not (eqb f.basis 0)
    && (eqb f.basis 3 || cond surface (leb 1 f.degree_u && leb 1 f.degree_v) (leb 1 f.degree_u))

abbrev pub owed : Bool → ℕ → ℕ → Refusal → Refusal
owed true n p b = b
owed false n p b = Refused n p

abbrev pub or_else : Refusal → Refusal → Refusal
or_else Nothing b = b
or_else (Refused n p) b = Refused n p

abbrev pub body_fault : parse.Seen → List ℤ → Form → ℕ → Bool → List Word → Refusal
body_fault n t f key surface ws = or_else (pattern_fault n t surface surface ws) (owed (in_force_by surface f) 11 key Nothing)

abbrev pub curve2_fault : parse.Seen → List ℤ → Form → ℕ → List Word → Refusal
curve2_fault n t f key ws = owed (in_force_by false f) 11 key (fault_in n t (tests.All test.Wide) 0 0 ws)

-- of a body's element, by its controls ws
abbrev pub free_fault : parse.Seen → List ℤ → Form → ℕ → Free → List Word → Refusal
free_fault n t f key Curve ws = body_fault n t f key false ws
free_fault n t f key Curve2 ws = curve2_fault n t f key ws
free_fault n t f key Surface ws = body_fault n t f key true ws

-- what `end` finds in its body, it finds itself
abbrev pub held_fault : parse.Seen → List ℤ → Form → ℕ → Held → List Word → Refusal
held_fault n t f key held.Nothing ws = Nothing
held_fault n t f key (held.Corners k) ws = pattern_fault n t k.vt k.vn ws
held_fault n t f key (held.Body k) ws = free_fault n t f key k (drop (range_words k) ws)
held_fault n t f key held.End ws = Nothing
