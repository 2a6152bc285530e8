use Rattle.std.proofs.Common.{rules}
use Rattle.bus_model.specs.Heard.{names_heard}
use Rattle.journal.specs.Journal.{readings_at}
use Rattle.garage.proofs.Lines.{line_more, name_is_there}
use Rattle.garage.proofs.garage.Garage.snapshot_at.Goals as goal
use Rattle.garage.proofs.garage.Garage.snapshot_at.Goals.{in-Some+in_ok-push, in_default}

pub loop-place-preserved : goal.loop-place-preserved
loop-place-preserved c = elim c.match-name_at.branch [
  | in-Some+in_ok-push w ↦ line_more c.args.self.now c.args.station (names_heard (readings_at c.args.station c.args.self.now.journal)) c.loop-place.place w.in-Some.name c.loop-place.rows.items c.match-name_at.rows.items (search rules) c.loop-place.invariant (search rules)
  | in_default w ↦ name_is_there (names_heard (readings_at c.args.station c.args.self.now.journal)) c.loop-place.place _ c.loop-place-test.true c.names_at-place-end.ensures (search rules)
]
