use Rattle.std.proofs.Common.{◌≡◌, false}
use Rattle.std.specs.List.{list_any}
use Rattle.fault_memory.specs.Changes.{is_fault}
use Rattle.fault_memory.specs.Memory.{all_codes}
use Rattle.fault_memory.proofs.Lawful.{pended_is_lawful}
use Rattle.fault_memory.proofs.Outcomes.{room_from_false}
use Rattle.fault_memory.proofs.memory.FaultMemory.pend.Goals as goal

pub invariant_of-self-2 : goal.invariant_of-self-2
invariant_of-self-2 c =
    let s = c.self.inside in
    let none : list_any (is_fault c.args.first.spn c.args.first.fmi) (all_codes c.args.self.now) ≡ false = cc in
    pended_is_lawful s.lamps s.active.items s.previous.items s.pending.items _ c.args.first c.requires.first.1 (rw (← c.self.view_is) at none)
    (room_from_false _ _ _ c.self.view_is c.is_full.ensures c.if-is_full.false) c.in_ok-push.ensures.items c.self.invariant
