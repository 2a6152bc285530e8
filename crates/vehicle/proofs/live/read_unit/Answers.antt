use Rattle.vehicle.proofs.UnitLemmas.{as_live_unit}
use Rattle.vehicle.proofs.live.read_unit.Goals as goal

pub returns-in-Ok : goal.returns-in-Ok
returns-in-Ok c = as_live_unit _ c.in-Ok.unit c.read_rest.result c.in-Ok.ensures c.read_rest.ensures
