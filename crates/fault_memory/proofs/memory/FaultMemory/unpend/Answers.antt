use Rattle.std.proofs.Common.{◌≡◌, Some, None}
use Rattle.std.specs.List.{position}
use Rattle.fault_memory.specs.Changes.{is_fault, fault_unpended}
use Rattle.fault_memory.proofs.Lawful.{unpended_is_lawful}
use Rattle.fault_memory.proofs.Places.{place_within}
use Rattle.fault_memory.proofs.Outcomes.{did, refused_it, unpend_pending, unpend_none}
use Rattle.fault_memory.proofs.memory.FaultMemory.unpend.Goals as goal

pub returns-in_default : goal.returns-in_default
returns-in_default c =
    let s = c.self.inside in
    let none : position (is_fault c.args.first.spn c.args.first.fmi) s.pending.items ≡ None = cc in
    refused_it (fault_unpended c.args.first.spn c.args.first.fmi) _ _ _ c.self.view_is (unpend_none c.args.first.spn c.args.first.fmi _ none)

pub invariant_of-self : goal.invariant_of-self
invariant_of-self c =
    let s = c.self.inside in
    let found : position (is_fault c.args.first.spn c.args.first.fmi) s.pending.items ≡ Some c.in-Some.place = cc in
    unpended_is_lawful s.lamps s.active.items s.previous.items s.pending.items _ c.in-Some.place c.args.first (place_within _ _ _ found)
    c.remove.ensures.items c.self.invariant

pub returns : goal.returns
returns c =
    let s = c.self.inside in
    let found : position (is_fault c.args.first.spn c.args.first.fmi) s.pending.items ≡ Some c.in-Some.place = cc in
    did (fault_unpended c.args.first.spn c.args.first.fmi) _ _ _ c.self.view_is
    (unpend_pending c.args.first.spn c.args.first.fmi s.lamps s.active.items s.previous.items s.pending.items _ c.in-Some.place found c.remove.ensures.items
    c.self.invariant)
