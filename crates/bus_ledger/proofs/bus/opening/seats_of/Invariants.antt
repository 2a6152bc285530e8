use Rattle.bus_ledger.specs.Inside.{AreSeatsOf}
use Rattle.bus_ledger.proofs.bus.opening.seats_of.Given as goal

-- one seat for each station before the index
abbrev pub invariant-loop-station : goal.invariant-loop-station
invariant-loop-station l = AreSeatsOf l.seats.items l.stations l.station-index
