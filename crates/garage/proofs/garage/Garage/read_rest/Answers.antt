use Rattle.std.proofs.Common.{arith, refl}
use Rattle.garage.proofs.Crew.{untouched_both, untouched_none}
use Rattle.garage.proofs.ReadLemmas.{turn_more, turn_none, turn_there}
use Rattle.garage.proofs.garage.Garage.read_rest.Goals as goal

pub loop-station-init : goal.loop-station-init
loop-station-init c = (turn_none c.args.self.now, untouched_none c.args.self.now c.args.self.now refl)

pub read_rest_at-requires : goal.read_rest_at-requires
read_rest_at-requires c = turn_there c.loop-station.station c.loop-station.station c.args.self.now c.loop-station.self c.loop-station.invariant.0 (omega (arith, c.loop-station-test.true, c.stations-station-end.ensures.count))

pub loop-station-preserved : goal.loop-station-preserved
loop-station-preserved c = (
  turn_more c.loop-station.station _ c.args.self.now c.loop-station.self c.read_rest_at.new.self refl c.loop-station.invariant.0 c.in_ok-read_rest_at.ensures.reads c.in_ok-read_rest_at.ensures.all,
  untouched_both c.args.self.now c.loop-station.self c.read_rest_at.new.self c.loop-station.invariant.1 c.read_rest_at.ensures.untouched,
)
