-- The room is as long as it says; with its arguments written out, nobody counts it byte by byte.
use Rattle.std.proofs.Common.{sym, ℕ}
use Rattle.std.proofs.lemmas.List.{length-replicate}
use Rattle.reader_cases.proofs.main.Goals as goal

pub slice_bounds-read_input-end : goal.slice_bounds-read_input-end
slice_bounds-read_input-end c = sym (length-replicate {0} {A = ℕ} 524288 0)
