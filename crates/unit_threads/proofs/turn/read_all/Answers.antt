use Rattle.unit_threads.proofs.Reading.{leaves_more, reads_more}
use Rattle.unit_threads.proofs.turn.read_all.Goals as goal

pub loop-preserved : goal.loop-preserved
loop-preserved c = (
  reads_more c.args.station c.args.garage.now c.loop.garage c.read_at.new.self c.in_ok-read_at.field-0 c.loop.invariant.0 c.in_ok-read_at.ensures.ok,
  leaves_more c.args.station c.args.garage.now c.loop.garage c.read_at.new.self c.in_ok-read_at.field-0 c.loop.invariant.1 c.in_ok-read_at.ensures.ok,
)
