-- By the arm, and by the place of the word.
use mathlib.Core.Path.{◌≡◌, refl}
use borrow.Author.Tests.{eq-eqb, ne_eqb, lt-ltb, le-ltb}
use native.Mathlib.Omega.{arith}
use Prim.Native.Nat.{◌+◌}
use Rattle.statements.proofs.rules.form_at.Goals as goal

pub returns-then-index-range : goal.returns-then-index-range
returns-then-index-range c = let a = c.args in rw (c.in-Range.is, lt-ltb a.index _ c.if-index-range.true) refl

pub returns-then-index-eq0 : goal.returns-then-index-eq0
returns-then-index-eq0 c = rw (c.in-Parameters.is, c.if-index-eq0.true) refl

pub returns-then-index-eq2 : goal.returns-then-index-eq2
returns-then-index-eq2 c = rw (c.in-Loop.is, c.if-index-eq2.true) refl

pub returns-then-words-eq0 : goal.returns-then-words-eq0
returns-then-words-eq0 c = let a = c.args in let n : a.index + 1 ≡ a.words → ⊥ = λ e. omega arith in rw (c.in-Type.is, ne_eqb (a.index + 1) a.words n) refl

pub returns-then-index-words : goal.returns-then-index-words
returns-then-index-words c = let a = c.args in let n : a.index + 1 ≡ a.words = omega arith in rw (c.in-Type.is, eq-eqb (a.index + 1) a.words n) refl

pub returns-else-index-range : goal.returns-else-index-range
returns-else-index-range c = let a = c.args in rw (c.in-Range.is, le-ltb a.index _ c.if-index-range.false) refl

pub returns-else-index-eq0 : goal.returns-else-index-eq0
returns-else-index-eq0 c = let a = c.args in rw (c.in-Parameters.is, ne_eqb a.index 0 c.if-index-eq0.false) refl

pub returns-else-index-eq2 : goal.returns-else-index-eq2
returns-else-index-eq2 c = rw (c.in-Loop.is, ne_eqb _ 2 c.if-index-eq2.false) refl

pub returns-else-index-words : goal.returns-else-index-words
returns-else-index-words c = let a = c.args in let n : a.index + 1 ≡ a.words → ⊥ = λ e. omega arith in rw (c.in-Type.is, ne_eqb (a.index + 1) a.words n) refl
