use Rattle.garage.proofs.InHand.{station_on_bus}
use Rattle.garage.proofs.garage.Garage.read_at.Goals as goal

pub is_tap_empty_at-requires : goal.is_tap_empty_at-requires
is_tap_empty_at-requires c = station_on_bus c.self.inside c.args.self.now c.args.station c.self.view_is c.self.invariant c.requires

pub tap_peek_at-reading-requires : goal.tap_peek_at-reading-requires
tap_peek_at-reading-requires c = station_on_bus c.self.inside c.args.self.now c.args.station c.self.view_is c.self.invariant c.requires
