-- No keyword is longer than the buffer.
use Rattle.std.proofs.Common.{arith, ◌≡◌, length, sym, ap, ◌∙◌}
use lib.Seq.{length-sets, length-take-le}
use Rattle.keywords.proofs.KeywordTable.{short}
use Rattle.keywords_cases.proofs.put_keyword.Goals as goal

pub write_keyword-n-requires : goal.write_keyword-n-requires
write_keyword-n-requires g c = let n = short c.args.statement in omega arith

pub slice_bounds-out-end : goal.slice_bounds-out-end
slice_bounds-out-end g c =
    let l : length c.write_keyword-n.new.out ≡ 10 = ap length c.write_keyword-n.ensures.1 ∙ simp length-sets in
    let n = short c.args.statement in
    omega (arith, c.write_keyword-n.ensures.0)

pub slice_bounds-write_all-end : goal.slice_bounds-write_all-end
slice_bounds-write_all-end g c =
    let l : length c.write_keyword-n.new.out ≡ 10 = ap length c.write_keyword-n.ensures.1 ∙ simp length-sets in
    let n = short c.args.statement in
    sym (length-take-le c.write_keyword-n.result c.write_keyword-n.new.out (omega (arith, c.write_keyword-n.ensures.0)))
