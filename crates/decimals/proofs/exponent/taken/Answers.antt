-- Up to the point, after it, or with zeros.
use Rattle.decimals.proofs.Exponents.{taken-before, taken-after, taken-padded}
use Rattle.decimals.proofs.exponent.taken.Goals as goal

pub returns-then-count-whole : goal.returns-then-count-whole
returns-then-count-whole c =
    taken-before c.requires c.args.count c.first_digits.result c.if-count-whole.true c.first_digits.ensures

pub returns-then-rest-most : goal.returns-then-rest-most
returns-then-rest-most c =
    taken-after c.requires c.args.count c.first_digits-then-rest-most.result c.first_digits-value.result c.first_digits-value.ensures c.if-count-whole.false c.if-rest-most.true c.first_digits-then-rest-most.ensures

pub returns : goal.returns
returns c =
    taken-padded c.requires c.args.count c.padded.result c.first_digits-value.result c.first_digits-value.ensures c.if-count-whole.false c.if-rest-most.false c.first_digits-2.result c.first_digits-2.ensures c.padded.ensures
