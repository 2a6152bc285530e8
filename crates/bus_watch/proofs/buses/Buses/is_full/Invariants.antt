use Rattle.std.proofs.Common.{◌≡◌, drop}
use Rattle.bus_watch.specs.Held.{held_by, nothing_held}
use Rattle.bus_watch.proofs.buses.Buses.is_full.Given as goal

-- with the rest, what is held is what all hold
abbrev pub invariant-loop-one : goal.invariant-loop-one
invariant-loop-one l = held_by (drop l.one-index l.self.watches) l.held ≡ held_by l.self.watches nothing_held
