use Rattle.std.proofs.Common.{refl}
use Rattle.garage.proofs.Crew.{read_untouched, station_still, untouched_both, untouched_none}
use Rattle.garage.proofs.ReadLemmas.{reads_come, reads_more, reads_none}
use Rattle.garage.proofs.garage.Garage.read_rest_at.Goals as goal

pub loop-init : goal.loop-init
loop-init c = (reads_none c.args.station c.args.self.now, untouched_none c.args.self.now c.args.self.now refl)

pub read_at-requires : goal.read_at-requires
read_at-requires c = station_still c.args.station c.args.self.now c.loop.self (reads_come c.args.station c.args.self.now c.loop.self c.loop.invariant.0) c.requires

pub loop-preserved : goal.loop-preserved
loop-preserved c = (
  reads_more c.args.station c.args.self.now c.loop.self c.read_at.new.self c.in_ok-read_at.field-0 c.loop.invariant.0 c.in_ok-read_at.ensures.ok,
  untouched_both c.args.self.now c.loop.self c.read_at.new.self c.loop.invariant.1 (λ k l. read_untouched c.args.station k c.loop.self c.read_at.new.self c.in_ok-read_at.field-0 c.in_ok-read_at.ensures.ok l),
)
