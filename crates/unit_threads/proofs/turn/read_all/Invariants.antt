use Rattle.std.proofs.Common.{◌-◌, ◌^◌, length}
use Rattle.garage.specs.Rounds.{IsReadOf}
use Rattle.unit_threads.specs.Turns.{GrowsBy, LeavesOthers}
use Rattle.unit_threads.proofs.turn.read_all.Given as goal

abbrev pub invariant-loop : goal.invariant-loop
invariant-loop l = GrowsBy (IsReadOf l.station) l.initial.garage l.garage × LeavesOthers l.station l.initial.garage l.garage

abbrev pub decreases-loop : goal.decreases-loop
decreases-loop l = 2 ^ 32 - length l.garage.journal
