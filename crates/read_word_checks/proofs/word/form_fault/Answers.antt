-- By the form: what its reader answers says whether the word has it.
use mathlib.Core.Path.{refl, ◌∙◌}
use lib.ListN.{drop}
use Rattle.text.specs.Words.{word_of}
use Rattle.text.specs.Rest.{word_at, end_of}
use Rattle.decimals.specs.Number.{number_of}
use Rattle.references.specs.Corner.{corner_of}
use Rattle.references.specs.Reference.{reference_of}
use Rattle.digits.specs.Degree.{degree_of, smoothing_of, name_of}
use Rattle.keywords.specs.Arguments.{argument_of}
use Rattle.model.specs.Parse as parse
use Rattle.read_word_checks.specs.Faults.{check_of, counts_by, seen_by}
use Rattle.read_word_checks.proofs.Words.{told, told-name, heard-on, by_form, by-argument}
use Rattle.read_word_checks.proofs.word.form_fault.Goals as goal

pub returns-in-Number : goal.returns-in-Number
returns-in-Number c =
    let a = c.args in
    let w = word_of (drop a.at a.text.now) in
    by_form (seen_by a.seen) (word_at a.text.now a.at) c.in-Number.is (c.fault_of.ensures ∙ told (number_of w) (end_of a.text.now a.at) _ c.number_at.ensures ∙ heard-on parse.number (number_of w))

pub returns-in-Corner : goal.returns-in-Corner
returns-in-Corner c =
    let a = c.args in
    let w = word_of (drop a.at a.text.now) in
    by_form (seen_by a.seen) (word_at a.text.now a.at) c.in-Corner.is (c.fault_of-in-Corner.ensures ∙ told (corner_of (counts_by a.seen) _ w) (end_of a.text.now a.at) _ c.corner_at.ensures ∙ heard-on parse.corner (corner_of (counts_by a.seen) _ w))

pub returns-in-Control : goal.returns-in-Control
returns-in-Control c =
    let a = c.args in
    let w = word_of (drop a.at a.text.now) in
    by_form (seen_by a.seen) (word_at a.text.now a.at) c.in-Control.is (c.fault_of-in-Control.ensures ∙ told (reference_of a.seen.vp w) (end_of a.text.now a.at) _ c.reference_at.ensures ∙ heard-on (λ k. parse.corner (record { v = k; vt = 0; vn = 0 })) (reference_of a.seen.vp w))

pub returns-in-Curve : goal.returns-in-Curve
returns-in-Curve c =
    let a = c.args in
    let w = word_of (drop a.at a.text.now) in
    by_form (seen_by a.seen) (word_at a.text.now a.at) c.in-Curve.is (c.fault_of-in-Curve.ensures ∙ told (reference_of a.seen.curves w) (end_of a.text.now a.at) _ c.reference_at-in-Curve.ensures ∙ heard-on parse.whole (reference_of a.seen.curves w))

pub returns-in-Degree : goal.returns-in-Degree
returns-in-Degree c =
    let a = c.args in
    let w = word_of (drop a.at a.text.now) in
    by_form (seen_by a.seen) (word_at a.text.now a.at) c.in-Degree.is (c.fault_of-in-Degree.ensures ∙ told (degree_of w) (end_of a.text.now a.at) _ c.degree_at.ensures ∙ heard-on parse.whole (degree_of w))

pub returns-in-Smoothing : goal.returns-in-Smoothing
returns-in-Smoothing c =
    let a = c.args in
    let w = word_of (drop a.at a.text.now) in
    by_form (seen_by a.seen) (word_at a.text.now a.at) c.in-Smoothing.is (c.fault_of-in-Smoothing.ensures ∙ told (smoothing_of w) (end_of a.text.now a.at) _ c.smoothing_at.ensures ∙ heard-on parse.whole (smoothing_of w))

pub returns-in-Direction : goal.returns-in-Direction
returns-in-Direction c =
    let a = c.args in
    let w = word_of (drop a.at a.text.now) in
    by_form (seen_by a.seen) (word_at a.text.now a.at) c.in-Direction.is (by-argument a.text.now a.at (λ y. check_of (parse.direction_said (parse.direction_of y))) c.argument_at.ensures c.direction_fault.ensures)

pub returns-in-Type : goal.returns-in-Type
returns-in-Type c =
    let a = c.args in
    let w = word_of (drop a.at a.text.now) in
    by_form (seen_by a.seen) (word_at a.text.now a.at) c.in-Type.is (by-argument a.text.now a.at (λ y. check_of (parse.type_said y)) c.argument_at-in-Type.ensures c.type_fault.ensures ∙ heard-on parse.basis (parse.type_said (argument_of w)))

pub returns-in-Rational : goal.returns-in-Rational
returns-in-Rational c =
    let a = c.args in
    let w = word_of (drop a.at a.text.now) in
    by_form (seen_by a.seen) (word_at a.text.now a.at) c.in-Rational.is (by-argument a.text.now a.at (λ y. check_of (parse.rational_said y)) c.argument_at-in-Rational.ensures c.rational_fault.ensures)

pub returns-in-Name : goal.returns-in-Name
returns-in-Name c =
    let a = c.args in
    let w = word_of (drop a.at a.text.now) in
    by_form (seen_by a.seen) (word_at a.text.now a.at) c.in-Name.is (c.fault_of-in-Name.ensures ∙ told-name w (name_of w) (end_of a.text.now a.at) _ c.name_at.ensures ∙ heard-on (λ b. parse.name (word_at a.text.now a.at)) (name_of w))

pub returns-in-Anything : goal.returns-in-Anything
returns-in-Anything c = by_form (seen_by c.args.seen) (word_at c.args.text.now c.args.at) c.in-Anything.is refl
