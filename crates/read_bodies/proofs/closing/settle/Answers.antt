-- Along u, then along v where there is one (`Closings`).
use mir.Facts.{to_z-of_z}
use Rattle.tables.proofs.Bits.{fitted, passed}
use Rattle.basis.proofs.Tests as T
use Rattle.read_bodies.proofs.Closings as C
use mathlib.Core.Path.{ap}
use mathlib.Core.Bool.{not}
use Rattle.read_bodies.proofs.closing.settle.Goals as goal

pub returns-then-not-holds : goal.returns-then-not-holds
returns-then-not-holds c =
    let a = c.args in
    let hs = passed c.end_of-start.type_inv (rw (fitted {z = a.along_u.low} c.struct_told-1.given.1.1.1.0.1, to_z-of_z c.ranges.start_u) at c.end_of-start.ensures) in
    let he = passed c.end_of-end.type_inv (rw (fitted {z = a.along_u.high} c.struct_told-2-1.given.1.1.1.1.0.1, to_z-of_z c.ranges.end_u) at c.end_of-end.ensures) in
    C.not-held a.kind a.u a.v a.along_u a.along_v a.start_u a.end_u a.start_v a.end_v hs he (T.failed c.holds.ensures (ap not c.if-not-holds.true))

pub returns-then-not-holds-2 : goal.returns-then-not-holds-2
returns-then-not-holds-2 c =
    let a = c.args in
    let hs = passed c.end_of-start.type_inv (rw (fitted {z = a.along_u.low} c.struct_told-1.given.1.1.1.0.1, to_z-of_z c.ranges.start_u) at c.end_of-start.ensures) in
    let he = passed c.end_of-end.type_inv (rw (fitted {z = a.along_u.high} c.struct_told-2-1.given.1.1.1.1.0.1, to_z-of_z c.ranges.end_u) at c.end_of-end.ensures) in
    (C.not-along-v a.kind a.u a.v a.along_u a.along_v a.start_u a.end_u a.start_v a.end_v hs he (T.passed c.holds.ensures (ap not c.if-not-holds.false)) c.if-kind-eq-SURFACE.true (T.failed (rw (to_z-of_z c.ranges.start_v, to_z-of_z c.ranges.end_v) at c.holds-then-kind-eq-SURFACE.ensures) (ap not c.if-not-holds-2.true)))

pub returns-else-not-holds-2 : goal.returns-else-not-holds-2
returns-else-not-holds-2 c =
    let a = c.args in
    let hs = passed c.end_of-start.type_inv (rw (fitted {z = a.along_u.low} c.struct_told-1.given.1.1.1.0.1, to_z-of_z c.ranges.start_u) at c.end_of-start.ensures) in
    let he = passed c.end_of-end.type_inv (rw (fitted {z = a.along_u.high} c.struct_told-2-1.given.1.1.1.1.0.1, to_z-of_z c.ranges.end_u) at c.end_of-end.ensures) in
    C.along-both a.kind a.u a.v a.along_u a.along_v a.start_u a.end_u a.start_v a.end_v hs he (T.passed c.holds.ensures (ap not c.if-not-holds.false)) c.if-kind-eq-SURFACE.true (T.passed (rw (to_z-of_z c.ranges.start_v, to_z-of_z c.ranges.end_v) at c.holds-then-kind-eq-SURFACE.ensures) (ap not c.if-not-holds-2.false))

pub returns-else-kind-eq-SURFACE : goal.returns-else-kind-eq-SURFACE
returns-else-kind-eq-SURFACE c =
    let a = c.args in
    let hs = passed c.end_of-start.type_inv (rw (fitted {z = a.along_u.low} c.struct_told-1.given.1.1.1.0.1, to_z-of_z c.ranges.start_u) at c.end_of-start.ensures) in
    let he = passed c.end_of-end.type_inv (rw (fitted {z = a.along_u.high} c.struct_told-2-1.given.1.1.1.1.0.1, to_z-of_z c.ranges.end_u) at c.end_of-end.ensures) in
    C.along_one a.kind a.u a.v a.along_u a.along_v a.start_u a.end_u a.start_v a.end_v hs he (T.passed c.holds.ensures (ap not c.if-not-holds.false)) c.if-kind-eq-SURFACE.false
