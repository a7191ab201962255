-- By the arm.
use Rattle.keyword_rules.proofs.FormLimits.{corner-limits}
use Rattle.keyword_rules.proofs.limits_of.Goals as goal

pub returns-in-Anything : goal.returns-in-Anything
returns-in-Anything c = rw c.in-Anything.is c.limits_from.ensures

pub returns-in-Number : goal.returns-in-Number
returns-in-Number c = rw c.in-Number.is c.limits_from-in-Number.ensures

pub returns-in-Corner : goal.returns-in-Corner
returns-in-Corner c = corner-limits c.in-Corner.is c.limits_from-in-Corner.ensures

pub returns-in-Control : goal.returns-in-Control
returns-in-Control c = rw c.in-Control.is c.limits_from-in-Control.ensures

pub returns-in-Curve : goal.returns-in-Curve
returns-in-Curve c = rw c.in-Curve.is c.limits_from-in-Curve.ensures

pub returns-in-Direction : goal.returns-in-Direction
returns-in-Direction c = rw c.in-Direction.is c.limits_from-in-Direction.ensures

pub returns-in-Type : goal.returns-in-Type
returns-in-Type c = rw c.in-Type.is c.limits_from-in-Type.ensures

pub returns-in-Rational : goal.returns-in-Rational
returns-in-Rational c = rw c.in-Rational.is c.limits_from-in-Rational.ensures

pub returns-in-Degree : goal.returns-in-Degree
returns-in-Degree c = rw c.in-Degree.is c.limits_from-in-Degree.ensures

pub returns-in-Smoothing : goal.returns-in-Smoothing
returns-in-Smoothing c = rw c.in-Smoothing.is c.limits_from-in-Smoothing.ensures

pub returns-in-Name : goal.returns-in-Name
returns-in-Name c = rw c.in-Name.is c.limits_from-in-Name.ensures
