use Rattle.std.proofs.Common.{◌≡◌, inl, inr, ap, refl, List, Some, None}
use Rattle.std.specs.List.{position}
use Rattle.std.proofs.lemmas.Result.{err_from_is_err_and}
use Rattle.trouble_code.specs.Code.{Code}
use Rattle.fault_memory.specs.Changes.{is_fault, fault_healed}
use Rattle.fault_memory.proofs.Lawful.{memory, healed_is_lawful}
use Rattle.fault_memory.proofs.Places.{place_within}
use Rattle.fault_memory.proofs.Outcomes.{did, refused_it, wanted_memory, longer, heal_active, heal_none}
use Rattle.fault_memory.proofs.memory.FaultMemory.heal.Goals as goal

pub returns-in_default : goal.returns-in_default
returns-in_default c =
    let s = c.self.inside in
    let none : position (is_fault c.args.first.spn c.args.first.fmi) s.active.items ≡ None = cc in
    refused_it (fault_healed c.args.first.spn c.args.first.fmi) _ _ _ c.self.view_is (heal_none c.args.first.spn c.args.first.fmi _ none)

pub returns-in_err-push : goal.returns-in_err-push
returns-in_err-push c =
    let exit = err_from_is_err_and c.from_residual.result c.from_residual.ensures.1 in
    let s = c.self.inside in
    let x = c.index-code.result.now in
    let found : position (is_fault c.args.first.spn c.args.first.fmi) s.active.items ≡ Some c.in-Some.place = cc in
    rw (exit.1, exit.2)
    (wanted_memory (fault_healed c.args.first.spn c.args.first.fmi) _ _ _ _ c.self.view_is
    (heal_active c.args.first.spn c.args.first.fmi s.lamps s.active.items s.previous.items s.pending.items _ _ c.in-Some.place x found c.index-code.ensures refl refl
    c.self.invariant)
    (inr (inl (longer s.previous.items x)))
    (ap (λ (r : List Code). memory s.lamps s.active.items r s.pending.items) c.in_err-push.ensures.items))

pub invariant_of-self-2 : goal.invariant_of-self-2
invariant_of-self-2 c =
    let s = c.self.inside in
    let found : position (is_fault c.args.first.spn c.args.first.fmi) s.active.items ≡ Some c.in-Some.place = cc in
    healed_is_lawful s.lamps s.active.items s.previous.items s.pending.items _ _ c.in-Some.place c.index-code.result.now (place_within _ _ _ found)
    c.index-code.ensures c.remove.ensures.items c.in_ok-push.ensures.items c.self.invariant

pub returns : goal.returns
returns c =
    let s = c.self.inside in
    let found : position (is_fault c.args.first.spn c.args.first.fmi) s.active.items ≡ Some c.in-Some.place = cc in
    did (fault_healed c.args.first.spn c.args.first.fmi) _ _ _ c.self.view_is
    (heal_active c.args.first.spn c.args.first.fmi s.lamps s.active.items s.previous.items s.pending.items _ _ c.in-Some.place c.index-code.result.now found
    c.index-code.ensures c.remove.ensures.items c.in_ok-push.ensures.items c.self.invariant)
