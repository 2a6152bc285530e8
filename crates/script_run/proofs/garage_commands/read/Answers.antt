use Rattle.std.proofs.Common.{refl}
use Rattle.script_run.proofs.Stations.{still_there}
use Rattle.script_run.proofs.Stepping.{reads_more, reads_none}
use Rattle.script_run.proofs.garage_commands.read.Goals as goal

pub loop-count-init : goal.loop-count-init
loop-count-init c = (reads_none c.args.station c.args.garage.now, c.requires)

pub loop-count-preserved : goal.loop-count-preserved
loop-count-preserved c = (
  reads_more c.args.station c.loop-count.count _ c.in_ok-read_at.field-0 c.args.garage.now c.loop-count.garage c.read_at.new.self refl c.loop-count.invariant.0
      (λ none. c.in_default.not-Empty (let y = c.in_ok-read_at.ensures.empty.1 none in cc)) c.in_ok-read_at.ensures.ok,
  still_there c.args.station c.loop-count.garage c.read_at.new.self c.in_ok-read_at.field-0 c.in_ok-read_at.ensures.ok c.loop-count.invariant.1,
)
