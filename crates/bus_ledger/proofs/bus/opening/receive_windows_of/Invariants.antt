use Rattle.bus_ledger.specs.Inside.{AreTapsOf}
use Rattle.bus_ledger.proofs.bus.opening.receive_windows_of.Given as goal

-- one window for each station before the index
abbrev pub invariant-loop-station : goal.invariant-loop-station
invariant-loop-station l = AreTapsOf l.receive_windows.items l.stations l.station-index
