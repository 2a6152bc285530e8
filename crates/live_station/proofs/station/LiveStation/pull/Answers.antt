use Rattle.std.proofs.Common.{sym, ◌∙◌}
use Rattle.live_station.proofs.Writing.{writes_due}
use Rattle.live_station.proofs.station.LiveStation.pull.Goals as goal

pub write_waiting-requires : goal.write_waiting-requires
write_waiting-requires c = record { due = writes_due c.args.now c.args.self.now c.in-Writes.lane (sym c.turn.ensures ∙ c.in-Writes.is) }
