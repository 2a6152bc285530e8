use Rattle.std.proofs.Common.{◌≡◌, map, take}
use Rattle.garage.specs.Opening.{station_seat_of}
use Rattle.garage.proofs.opening.seats_of.Given as goal

abbrev pub invariant-loop-setting : goal.invariant-loop-setting
invariant-loop-setting l = l.seats.items ≡ map station_seat_of (take l.setting-index l.settings)
