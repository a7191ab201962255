-- The part of each table after the used entries is cleared and put back.
use Rattle.std.proofs.Common.{◌≡◌, ◌*◌, ◌-◌, pos, length, rules}
use Rattle.std.proofs.Math.ListN.{replicate}
use borrow.Rule.Slice.PartMut.{mid_of}
use Rattle.sweep_rows.proofs.Stored.{rest-cleared}
use Rattle.sweep.proofs.rest.clear_rest.Goals as goal

pub returns-clause-corners : goal.returns-clause-corners
returns-clause-corners c =
    let used = c.args.used in
    let l = c.args.t.now.corners.now in
    let cleared : c.fill.new.self ≡ replicate (length (mid_of (used.corners) (length l - used.corners) l)) 0 = search rules in
    rest-cleared l 0 (used.corners) c.requires.0 cleared

pub returns-clause-elements : goal.returns-clause-elements
returns-clause-elements c =
    let used = c.args.used in
    let l = c.args.t.now.elements.now in
    let cleared : c.fill-2.new.self ≡ replicate (length (mid_of (9 * used.elements) (length l - (9 * used.elements)) l)) 0 = search rules in
    rest-cleared l 0 (9 * used.elements) c.requires.1 cleared

pub returns-clause-bodies : goal.returns-clause-bodies
returns-clause-bodies c =
    let used = c.args.used in
    let l = c.args.t.now.bodies.now in
    let cleared : c.fill-3.new.self ≡ replicate (length (mid_of (9 * used.bodies) (length l - (9 * used.bodies)) l)) 0 = search rules in
    rest-cleared l 0 (9 * used.bodies) c.requires.2 cleared

pub returns-clause-ranges : goal.returns-clause-ranges
returns-clause-ranges c =
    let used = c.args.used in
    let l = c.args.t.now.ranges.now in
    let cleared : c.fill-4.new.self ≡ replicate (length (mid_of (4 * used.bodies) (length l - (4 * used.bodies)) l)) (pos 0) = search rules in
    rest-cleared l (pos 0) (4 * used.bodies) c.requires.3 cleared

pub returns-clause-parameters : goal.returns-clause-parameters
returns-clause-parameters c =
    let used = c.args.used in
    let l = c.args.t.now.parameters.now in
    let cleared : c.fill-5.new.self ≡ replicate (length (mid_of (used.parameters) (length l - used.parameters) l)) (pos 0) = search rules in
    rest-cleared l (pos 0) (used.parameters) c.requires.4 cleared

pub returns-clause-loops : goal.returns-clause-loops
returns-clause-loops c =
    let used = c.args.used in
    let l = c.args.t.now.loops.now in
    let cleared : c.fill-6.new.self ≡ replicate (length (mid_of (2 * used.loops) (length l - (2 * used.loops)) l)) 0 = search rules in
    rest-cleared l 0 (2 * used.loops) c.requires.5 cleared

pub returns-clause-spans : goal.returns-clause-spans
returns-clause-spans c =
    let used = c.args.used in
    let l = c.args.t.now.spans.now in
    let cleared : c.fill-7.new.self ≡ replicate (length (mid_of (2 * used.loops) (length l - (2 * used.loops)) l)) (pos 0) = search rules in
    rest-cleared l (pos 0) (2 * used.loops) c.requires.6 cleared
