-- Each arm's letter is computed through the rows; the last arm's is none of them.
use mathlib.Core.Path.{refl}
use borrow.Author.Tests.{ne_eqb}
use Rattle.keywords.specs.Keywords.{keywords}
use Rattle.keywords.specs.Lookup.{of_letter}
use Rattle.read_dispatch.proofs.families.family_of.Goals as goal

pub returns-in-65 : goal.returns-in-65
unfolding keywords of_letter
returns-in-65 c = rw c.in-65.is refl

pub returns-in-66 : goal.returns-in-66
unfolding keywords of_letter
returns-in-66 c = rw c.in-66.is refl

pub returns-in-67 : goal.returns-in-67
unfolding keywords of_letter
returns-in-67 c = rw c.in-67.is refl

pub returns-in-68 : goal.returns-in-68
unfolding keywords of_letter
returns-in-68 c = rw c.in-68.is refl

pub returns-in-69 : goal.returns-in-69
unfolding keywords of_letter
returns-in-69 c = rw c.in-69.is refl

pub returns-in-70 : goal.returns-in-70
unfolding keywords of_letter
returns-in-70 c = rw c.in-70.is refl

pub returns-in-71 : goal.returns-in-71
unfolding keywords of_letter
returns-in-71 c = rw c.in-71.is refl

pub returns-in-72 : goal.returns-in-72
unfolding keywords of_letter
returns-in-72 c = rw c.in-72.is refl

pub returns-in-73 : goal.returns-in-73
unfolding keywords of_letter
returns-in-73 c = rw c.in-73.is refl

pub returns-in-74 : goal.returns-in-74
unfolding keywords of_letter
returns-in-74 c = rw c.in-74.is refl

pub returns-in-75 : goal.returns-in-75
unfolding keywords of_letter
returns-in-75 c = rw c.in-75.is refl

pub returns-in-76 : goal.returns-in-76
unfolding keywords of_letter
returns-in-76 c = rw c.in-76.is refl

pub returns-in-77 : goal.returns-in-77
unfolding keywords of_letter
returns-in-77 c = rw c.in-77.is refl

pub returns-in-78 : goal.returns-in-78
unfolding keywords of_letter
returns-in-78 c = rw c.in-78.is refl

pub returns-in-79 : goal.returns-in-79
unfolding keywords of_letter
returns-in-79 c = rw c.in-79.is refl

pub returns-in-80 : goal.returns-in-80
unfolding keywords of_letter
returns-in-80 c = rw c.in-80.is refl

pub returns-in-81 : goal.returns-in-81
unfolding keywords of_letter
returns-in-81 c = rw c.in-81.is refl

pub returns-in-82 : goal.returns-in-82
unfolding keywords of_letter
returns-in-82 c = rw c.in-82.is refl

pub returns-in-83 : goal.returns-in-83
unfolding keywords of_letter
returns-in-83 c = rw c.in-83.is refl

pub returns-in-45 : goal.returns-in-45
unfolding keywords of_letter
returns-in-45 c = rw c.in-45.is refl

pub returns-in-33 : goal.returns-in-33
unfolding keywords of_letter
returns-in-33 c = rw c.in-33.is refl

pub returns-in_default : goal.returns-in_default
unfolding keywords of_letter
returns-in_default c =
    let k = c.args.letter in
    let r21 = c.in_default.in_default-own.rest in
    let r20 = r21.0 in
    let r19 = r20.0 in
    let r18 = r19.0 in
    let r17 = r18.0 in
    let r16 = r17.0 in
    let r15 = r16.0 in
    let r14 = r15.0 in
    let r13 = r14.0 in
    let r12 = r13.0 in
    let r11 = r12.0 in
    let r10 = r11.0 in
    let r9 = r10.0 in
    let r8 = r9.0 in
    let r7 = r8.0 in
    let r6 = r7.0 in
    let r5 = r6.0 in
    let r4 = r5.0 in
    let r3 = r4.0 in
    let r2 = r3.0 in
    let r1 = r2.0 in
    simp (ne_eqb k 65 r1.1, ne_eqb k 66 r2.1, ne_eqb k 67 r3.1, ne_eqb k 68 r4.1, ne_eqb k 69 r5.1, ne_eqb k 70 r6.1, ne_eqb k 71 r7.1, ne_eqb k 72 r8.1, ne_eqb k 73 r9.1, ne_eqb k 74 r10.1, ne_eqb k 75 r11.1, ne_eqb k 76 r12.1, ne_eqb k 77 r13.1, ne_eqb k 78 r14.1, ne_eqb k 79 r15.1, ne_eqb k 80 r16.1, ne_eqb k 81 r17.1, ne_eqb k 82 r18.1, ne_eqb k 83 r19.1, ne_eqb k 45 r20.1, ne_eqb k 33 r21.1)
