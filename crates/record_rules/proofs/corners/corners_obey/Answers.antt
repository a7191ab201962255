-- The shorter walk answers the same where the corners name a v alone.
use Rattle.std.proofs.Common.{◌≡◌, sym, ◌∙◌, rules}
use Rattle.tables.specs.Lent.{lent}
use Rattle.record_rules.specs.Corners.{each_corner, corners_obey}
use Rattle.record_rules.proofs.EachBare.{each_bare-corners}
use Rattle.record_rules.proofs.corners.corners_obey.Goals as goal

pub returns-then-is_bare : goal.returns-then-is_bare
unfolding corners_obey
returns-then-is_bare c =
    let s = c.args in
    let bare = sym (rw c.corner_at.ensures at c.is_bare.ensures) ∙ c.if-is_bare.true in
    let same : c.each_bare.result ≡ each_corner s.used (lent s.t.now) s.kind s.run = c.each_bare.ensures ∙ each_bare-corners s.used (lent s.t.now) s.kind s.run bare in
    search rules
