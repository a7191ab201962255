-- By the arm, and by the tests.
use mathlib.Core.Path.{refl}
use borrow.Author.Tests.{le-leb, lt-leb, lt-ltb}
use native.Mathlib.Omega.{arith}
use Prim.Native.Nat.{◌<◌}
use Rattle.statements.proofs.rules.counted.Goals as goal

pub returns-then-words-least : goal.returns-then-words-least
returns-then-words-least c = rw (c.in-Within.is, lt-leb _ _ c.if-words-least.true) refl

pub returns-then-words-eq0 : goal.returns-then-words-eq0
returns-then-words-eq0 c = rw (c.in-Threes.is, c.if-words-eq0.true) refl

pub returns-in-AtLeast : goal.returns-in-AtLeast
returns-in-AtLeast c = rw c.in-AtLeast.is refl

pub returns-else-words-least : goal.returns-else-words-least
returns-else-words-least c = rw (c.in-Within.is, le-leb _ _ c.if-words-least.false) refl

pub returns-in-Exactly : goal.returns-in-Exactly
returns-in-Exactly c = rw c.in-Exactly.is refl

pub returns-else-words-eq0 : goal.returns-else-words-eq0
returns-else-words-eq0 c = let a = c.args in let l : 0 < a.words = omega arith in rw (c.in-Threes.is, lt-ltb 0 a.words l) refl
