-- Without an exponent, else with one.
use lib.ListN.{drop}
use Rattle.text.specs.Words.{word_of}
use Rattle.text.specs.Rest.{end_of}
use Rattle.digits.specs.Answers.{said}
use Rattle.word_numbers.proofs.Decimals.{size-plain, size-scaled}
use Rattle.word_numbers.proofs.size.Goals as goal

pub returns-in-Ok : goal.returns-in-Ok
returns-in-Ok c =
    let a = c.args in
    size-plain (word_of (drop a.at a.text.now)) c.in-Ok.size.value c.in-Ok.size.next (end_of a.text.now a.at) c.in-Ok.ensures

pub returns-in-Err : goal.returns-in-Err
returns-in-Err c =
    let a = c.args in
    size-scaled (word_of (drop a.at a.text.now)) _ (end_of a.text.now a.at) (said c.scaled.result) c.in-Err.ensures c.scaled.ensures
