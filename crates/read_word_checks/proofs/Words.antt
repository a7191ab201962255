-- What an answer of a reader says of its word: by its cases; the end that comes with a value is of no account here.
use Prim.Native.Nat.{ℕ}
use mathlib.Core.Path.{◌≡◌, refl, ap, ◌∙◌}
use mathlib.Core.List.{List}
use mathlib.Core.Bool.{Bool, true, false, cond, ◌&&◌}
use lib.ListN.{drop}
use lib.Dec.{eqb}
use lib.IntN.{ℤ}
use Rattle.std.specs.Prelude.{Result, Ok, Err}
use Rattle.refusals.specs.declared.Reason.{Reason}
use Rattle.text.specs.declared.Parsed.{Parsed}
use Rattle.text.specs.Words.{Word, word_of}
use Rattle.digits.specs.Said.{Said, says, wrong}
use Rattle.digits.specs.Answers.{said, said_name, ends_at}
use Rattle.references.specs.Corner.{Corner, agree}
use Rattle.digits.proofs.Saids.{ended-says, ended-wrong}
use Rattle.keywords.specs.Arguments.{argument_of}
use Rattle.keywords.specs.Lookup.{argument_at}
use Rattle.keywords.specs.declared.Argument.{Argument}
use Rattle.model.specs.Parse as parse
use Rattle.statements.specs.declared.rules.WordForm.{WordForm}
use Rattle.read_word_checks.specs.declared.tests.Test.{Test}
use Rattle.read_word_checks.specs.Faults.{WordCheck, Valid, Fault, check_said, check_of, alike_said, given_by, wide_said, tested_by}

heard-ended : {A : Type 0} (x : Said A) (e : ℕ) → check_of (ends_at x e) ≡ check_of x
heard-ended (says a) e = refl
heard-ended (wrong n) e = refl

said-check : {A : Type 0} (r : Result (Parsed A) Reason) → check_said r ≡ check_of (said r)
said-check (Ok p) = refl
said-check (Err n) = refl

pub told : {A : Type 0} (x : Said A) (e : ℕ) (r : Result (Parsed A) Reason) → said r ≡ ends_at x e → check_said r ≡ check_of x
told x e r h = said-check r ∙ ap check_of h ∙ heard-ended x e

name-check : (w : List ℕ) (r : Result ℕ Reason) → check_said r ≡ check_of (said_name w r)
name-check w (Ok e) = refl
name-check w (Err n) = refl

pub told-name : (w : List ℕ) (x : Said (List ℕ)) (e : ℕ) (r : Result ℕ Reason) → said_name w r ≡ ends_at x e → check_said r ≡ check_of x
told-name w x e r h = name-check w r ∙ ap check_of h ∙ heard-ended x e

-- ---- 9
module _ (bare flat : Bool) (x : Said Corner) (e : ℕ) where
  pub alike-is : (b : Bool) {c : Corner} {z : ℕ} → says (c, z) ≡ ends_at x e → b ≡ (agree bare (eqb c.vt 0) && agree flat (eqb c.vn 0)) → cond b Valid (Fault 9) ≡ check_of (alike_said bare flat x)
  alike-is b {c} {z} h k = rw ((ended-says x c e z h).0, k) (go (agree bare (eqb c.vt 0)) (agree flat (eqb c.vn 0)))
    where
      go : (p q : Bool) → cond (p && q) Valid (Fault 9) ≡ check_of (cond p (cond q (says (parse.corner c)) (wrong 9)) (wrong 9))
      go true true = refl
      go true false = refl
      go false true = refl
      go false false = refl

  pub alike-wrong : {n : ℕ} → wrong n ≡ ends_at x e → Fault n ≡ check_of (alike_said bare flat x)
  alike-wrong {n} h = rw (ended-wrong x n e h) refl

-- ---- 12
module _ (t : List ℤ) (x : Said ℕ) (e : ℕ) where
  pub wide_is : (b : Bool) {k z : ℕ} → says (k, z) ≡ ends_at x e → b ≡ given_by t k → cond b Valid (Fault 12) ≡ check_of (wide_said t x)
  wide_is true {k} {z} i b = rw ((ended-says x k e z i).0, ← b) refl
  wide_is false {k} {z} i b = rw ((ended-says x k e z i).0, ← b) refl

  pub wide-wrong : {n : ℕ} → wrong n ≡ ends_at x e → Fault n ≡ check_of (wide_said t x)
  wide-wrong {n} h = rw (ended-wrong x n e h) refl

-- ---- the form that is asked for
pub heard-on : {A C : Type 0} (g : A → C) (x : Said A) → check_of x ≡ check_of (parse.on_said g x)
heard-on g (says a) = refl
heard-on g (wrong n) = refl

pub by_form : (n : parse.Seen) (w : Word) {f g : WordForm} {h : WordCheck} → f ≡ g → h ≡ check_of (parse.said_of n g w) → h ≡ check_of (parse.said_of n f w)
by_form n w e k = rw e k

pub by-test : (n : parse.Seen) (t : List ℤ) (w : Word) {f g : Test} {h : WordCheck} → f ≡ g → h ≡ check_of (tested_by n t g w) → h ≡ check_of (tested_by n t f w)
by-test n t w e k = rw e k

pub by-argument : (s : List ℕ) (at : ℕ) (f : Argument → WordCheck) {a : Argument} {h : WordCheck} → a ≡ argument_at s at → h ≡ f a → h ≡ f (argument_of (word_of (drop at s)))
unfolding argument_at
by-argument s at f e k = k ∙ ap f e
