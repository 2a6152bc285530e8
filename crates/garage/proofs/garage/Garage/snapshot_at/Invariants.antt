use Rattle.std.proofs.Common.{◌≡◌, map, take}
use Rattle.bus_model.specs.Heard.{names_heard}
use Rattle.journal.specs.Journal.{readings_at}
use Rattle.garage.specs.Snapshots.{line_at}
use Rattle.garage.proofs.garage.Garage.snapshot_at.Given as goal

abbrev pub invariant-loop-place : goal.invariant-loop-place
invariant-loop-place l = l.rows.items ≡ map (line_at l.self l.station) (take l.place (names_heard (readings_at l.station l.self.journal)))
