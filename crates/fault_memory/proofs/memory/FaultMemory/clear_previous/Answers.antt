use Rattle.fault_memory.proofs.Lawful.{cleared_previous_is_lawful}
use Rattle.fault_memory.proofs.memory.FaultMemory.clear_previous.Goals as goal

pub invariant_of-self : goal.invariant_of-self
invariant_of-self c =
    cleared_previous_is_lawful c.self.inside.lamps c.self.inside.active.items c.clear.new.self.items c.self.inside.previous.items c.self.inside.pending.items
    c.clear.ensures.items c.self.invariant
