use Rattle.std.proofs.Common.{arith, ◌<◌, ◌≤◌, length}
use Rattle.station_c.proofs.Restores.{read_gap, read_next}
use Rattle.station_c.proofs.saving.restored.Goals as goal

pub loop-record-preserved : goal.loop-record-preserved
loop-record-preserved c =
    let low : c.loop-record.record-index < length c.args.frames.now = omega arith in
    read_next c.take.result c.is_err.result _ _ _ _ _ _ _ _ low c.in-Ok.ensures.ok.0 c.is_err.ensures.value c.if-is_err.false
    (c.take.ensures.stands, c.take.ensures.lists, c.take.ensures.keep) c.loop-record.invariant

pub returns-clause-stands : goal.returns-clause-stands
returns-clause-stands c =
    let all : length c.args.frames.now ≤ c.loop-record.record-index = omega arith in
    (read_gap c.take-2.result c.is_err-2.result _ c.args.keep _ _ _ _ all c.is_err-2.ensures.value c.if-is_err-2.false
    (c.take-2.ensures.stands, c.take-2.ensures.lists, c.take-2.ensures.keep) c.loop-record.invariant).0

pub returns-clause-lists : goal.returns-clause-lists
returns-clause-lists c =
    let all : length c.args.frames.now ≤ c.loop-record.record-index = omega arith in
    (read_gap c.take-2.result c.is_err-2.result _ c.args.keep _ _ _ _ all c.is_err-2.ensures.value c.if-is_err-2.false
    (c.take-2.ensures.stands, c.take-2.ensures.lists, c.take-2.ensures.keep) c.loop-record.invariant).1
