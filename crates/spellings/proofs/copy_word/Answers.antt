-- What is left of the word comes to what all of it comes to.
use Prim.Native.Nat.{◌<◌}
use mathlib.Core.Path.{◌≡◌, refl, sym, ◌∙◌}
use mathlib.Core.Bool.{true}
use native.Mathlib.Omega.{arith}
use lib.ListN.{length, drop}
use Rattle.spellings.specs.Lookup.{word_ahead}
use Rattle.spellings.proofs.Compare.{ahead_within}
use Rattle.spellings.proofs.Write.{room, copy, copied}
use Rattle.spellings.proofs.copy_word.Goals as goal
use Rattle.spellings.proofs.copy_word.Goals.{After-shared_slice_known-in-loop-out-1}

pub loop-out-init : goal.loop-out-init
loop-out-init c = record { rest = refl; end = refl; size = refl }

ahead : (c : After-shared_slice_known-in-loop-out-1) → word_ahead (drop c.loop-out.i c.args.source.now) ≡ true
ahead c = sym c.word_ahead.ensures ∙ c.loop-out-test.true

within : (c : After-shared_slice_known-in-loop-out-1) → c.loop-out.i < length c.args.source.now
within c = ahead_within c.args.source.now c.loop-out.i (ahead c)

pub bounds-source-i : goal.bounds-source-i
bounds-source-i c = within c

space : (c : After-shared_slice_known-in-loop-out-1) → c.loop-out.j < length c.loop-out.out
space c = room c.loop-out.invariant c.requires (ahead c)

pub bounds-out-j : goal.bounds-out-j
bounds-out-j c = space c

pub overflow_add-i : goal.overflow_add-i
overflow_add-i c = omega (arith, within c)

pub overflow_add-j : goal.overflow_add-j
overflow_add-j c = omega (arith, space c)

pub loop-out-smaller : goal.loop-out-smaller
loop-out-smaller c = omega (arith, within c)

pub loop-out-preserved : goal.loop-out-preserved
loop-out-preserved c = copy c.loop-out.invariant (ahead c)

pub shape_of-out : goal.shape_of-out
shape_of-out c = c.loop-out.invariant.size

pub returns : goal.returns
returns c = copied c.loop-out.invariant (sym c.word_ahead.ensures ∙ c.loop-out-test.false)
