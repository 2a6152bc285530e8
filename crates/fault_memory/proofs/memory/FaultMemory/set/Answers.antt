use Rattle.std.proofs.Common.{◌≡◌, ◌++◌, ◌∷◌, [], false, inl, ap, refl, List, Some, None}
use Rattle.std.specs.List.{list_any, position}
use Rattle.std.proofs.lemmas.Result.{err_from_is_err_and}
use Rattle.trouble_code.specs.Code.{Code, code, occurred_again}
use Rattle.fault_memory.specs.Changes.{is_fault, fault_set}
use Rattle.fault_memory.proofs.Lawful.{memory, reactivated_is_lawful, confirmed_is_lawful, added_is_lawful}
use Rattle.fault_memory.proofs.Places.{place_within, none_of_three}
use Rattle.fault_memory.proofs.Outcomes.{did, refused_it, wanted_memory, longer, set_previous, set_pending, set_new, set_full, full_from_true, room_from_false}
use Rattle.fault_memory.proofs.memory.FaultMemory.set.Goals as goal

-- ---- a previous code

pub returns-in_err-push : goal.returns-in_err-push
returns-in_err-push c =
    let exit = err_from_is_err_and c.from_residual.result c.from_residual.ensures.1 in
    let s = c.self.inside in
    let x = c.index-code.result.now in
    let absent : list_any (is_fault c.args.first.spn c.args.first.fmi) s.active.items ≡ false = cc in
    let found : position (is_fault c.args.first.spn c.args.first.fmi) s.previous.items ≡ Some c.in-Some.place = cc in
    rw (exit.1, exit.2)
    (wanted_memory (fault_set c.args.first.spn c.args.first.fmi) _ _ _ _ c.self.view_is
    (set_previous c.args.first.spn c.args.first.fmi s.lamps s.active.items s.previous.items s.pending.items _ _ c.in-Some.place x absent found
    c.index-code.ensures refl refl c.self.invariant)
    (inl (longer s.active.items (occurred_again x)))
    (ap (λ (b : List Code). memory s.lamps b s.previous.items s.pending.items) c.in_err-push.ensures.items))

pub invariant_of-self-in-Some : goal.invariant_of-self-in-Some
invariant_of-self-in-Some c =
    let s = c.self.inside in
    let x = c.index-code.result.now in
    let found : position (is_fault c.args.first.spn c.args.first.fmi) s.previous.items ≡ Some c.in-Some.place = cc in
    let again : c.occurred_again.result ≡ occurred_again x = c.occurred_again.ensures in
    let pushed : c.push.new.self.items ≡ s.active.items ++ occurred_again x ∷ [] = rw again at c.in_ok-push.ensures.items in
    reactivated_is_lawful s.lamps s.active.items s.previous.items s.pending.items _ _ c.in-Some.place x (place_within _ _ _ found) c.index-code.ensures
    pushed c.remove.ensures.items c.self.invariant

pub returns-in-Some : goal.returns-in-Some
returns-in-Some c =
    let s = c.self.inside in
    let x = c.index-code.result.now in
    let absent : list_any (is_fault c.args.first.spn c.args.first.fmi) s.active.items ≡ false = cc in
    let found : position (is_fault c.args.first.spn c.args.first.fmi) s.previous.items ≡ Some c.in-Some.place = cc in
    let again : c.occurred_again.result ≡ occurred_again x = c.occurred_again.ensures in
    let pushed : c.push.new.self.items ≡ s.active.items ++ occurred_again x ∷ [] = rw again at c.in_ok-push.ensures.items in
    did (fault_set c.args.first.spn c.args.first.fmi) _ _ _ c.self.view_is
    (set_previous c.args.first.spn c.args.first.fmi s.lamps s.active.items s.previous.items s.pending.items _ _ c.in-Some.place x absent found
    c.index-code.ensures pushed c.remove.ensures.items c.self.invariant)

-- ---- a pending code

pub returns-in_err-push-2 : goal.returns-in_err-push-2
returns-in_err-push-2 c =
    let exit = err_from_is_err_and c.from_residual-in_err-push-2.result c.from_residual-in_err-push-2.ensures.1 in
    let s = c.self.inside in
    let x = c.index-code-in-Some-place_of.result.now in
    let absent : list_any (is_fault c.args.first.spn c.args.first.fmi) s.active.items ≡ false = cc in
    let none : position (is_fault c.args.first.spn c.args.first.fmi) s.previous.items ≡ None = cc in
    let found : position (is_fault c.args.first.spn c.args.first.fmi) s.pending.items ≡ Some c.in-Some-place_of.place = cc in
    rw (exit.1, exit.2)
    (wanted_memory (fault_set c.args.first.spn c.args.first.fmi) _ _ _ _ c.self.view_is
    (set_pending c.args.first.spn c.args.first.fmi s.lamps s.active.items s.previous.items s.pending.items _ _ c.in-Some-place_of.place x absent none found
    c.index-code-in-Some-place_of.ensures refl refl c.self.invariant)
    (inl (longer s.active.items x))
    (ap (λ (b : List Code). memory s.lamps b s.previous.items s.pending.items) c.in_err-push-2.ensures.items))

pub invariant_of-self-in-Some-place_of : goal.invariant_of-self-in-Some-place_of
invariant_of-self-in-Some-place_of c =
    let s = c.self.inside in
    let found : position (is_fault c.args.first.spn c.args.first.fmi) s.pending.items ≡ Some c.in-Some-place_of.place = cc in
    confirmed_is_lawful s.lamps s.active.items s.previous.items s.pending.items _ _ c.in-Some-place_of.place c.index-code-in-Some-place_of.result.now
    (place_within _ _ _ found) c.index-code-in-Some-place_of.ensures c.in_ok-push-2.ensures.items c.remove-in-Some-place_of.ensures.items c.self.invariant

pub returns-in-Some-place_of : goal.returns-in-Some-place_of
returns-in-Some-place_of c =
    let s = c.self.inside in
    let absent : list_any (is_fault c.args.first.spn c.args.first.fmi) s.active.items ≡ false = cc in
    let none : position (is_fault c.args.first.spn c.args.first.fmi) s.previous.items ≡ None = cc in
    let found : position (is_fault c.args.first.spn c.args.first.fmi) s.pending.items ≡ Some c.in-Some-place_of.place = cc in
    did (fault_set c.args.first.spn c.args.first.fmi) _ _ _ c.self.view_is
    (set_pending c.args.first.spn c.args.first.fmi s.lamps s.active.items s.previous.items s.pending.items _ _ c.in-Some-place_of.place
    c.index-code-in-Some-place_of.result.now absent none found c.index-code-in-Some-place_of.ensures c.in_ok-push-2.ensures.items
    c.remove-in-Some-place_of.ensures.items c.self.invariant)

-- ---- a new code

pub returns-then-is_full : goal.returns-then-is_full
returns-then-is_full c =
    let s = c.self.inside in
    let absent : list_any (is_fault c.args.first.spn c.args.first.fmi) s.active.items ≡ false = cc in
    let none : position (is_fault c.args.first.spn c.args.first.fmi) s.previous.items ≡ None = cc in
    let none_pending : position (is_fault c.args.first.spn c.args.first.fmi) s.pending.items ≡ None = cc in
    refused_it (fault_set c.args.first.spn c.args.first.fmi) _ _ _ c.self.view_is
    (set_full c.args.first.spn c.args.first.fmi s.lamps s.active.items s.previous.items s.pending.items absent none none_pending
    (full_from_true _ _ _ c.self.view_is c.is_full.ensures c.if-is_full.true))

pub invariant_of-self-2 : goal.invariant_of-self-2
invariant_of-self-2 c =
    let s = c.self.inside in
    let absent : list_any (is_fault c.args.first.spn c.args.first.fmi) s.active.items ≡ false = cc in
    let none : position (is_fault c.args.first.spn c.args.first.fmi) s.previous.items ≡ None = cc in
    let none_pending : position (is_fault c.args.first.spn c.args.first.fmi) s.pending.items ≡ None = cc in
    added_is_lawful s.lamps s.active.items s.previous.items s.pending.items _ c.args.first c.requires.first.1
    (none_of_three (is_fault c.args.first.spn c.args.first.fmi) s.active.items s.previous.items s.pending.items absent none none_pending)
    (room_from_false _ _ _ c.self.view_is c.is_full.ensures c.if-is_full.false) c.in_ok-push-3.ensures.items c.self.invariant

pub returns : goal.returns
returns c =
    let s = c.self.inside in
    let absent : list_any (is_fault c.args.first.spn c.args.first.fmi) s.active.items ≡ false = cc in
    let none : position (is_fault c.args.first.spn c.args.first.fmi) s.previous.items ≡ None = cc in
    let none_pending : position (is_fault c.args.first.spn c.args.first.fmi) s.pending.items ≡ None = cc in
    let first : c.args.first ≡ code c.args.first.spn c.args.first.fmi 1 = c.requires.first.0 in
    let pushed : c.push-2.new.self.items ≡ s.active.items ++ code c.args.first.spn c.args.first.fmi 1 ∷ [] = cc (c.in_ok-push-3.ensures.items) in
    did (fault_set c.args.first.spn c.args.first.fmi) _ _ _ c.self.view_is
    (set_new c.args.first.spn c.args.first.fmi s.lamps s.active.items s.previous.items s.pending.items _ absent none none_pending
    (room_from_false _ _ _ c.self.view_is c.is_full.ensures c.if-is_full.false) pushed)

pub returns-in_err-push-3 : goal.returns-in_err-push-3
returns-in_err-push-3 c =
    let exit = err_from_is_err_and c.from_residual-in_err-push-3.result c.from_residual-in_err-push-3.ensures.1 in
    let s = c.self.inside in
    let absent : list_any (is_fault c.args.first.spn c.args.first.fmi) s.active.items ≡ false = cc in
    let none : position (is_fault c.args.first.spn c.args.first.fmi) s.previous.items ≡ None = cc in
    let none_pending : position (is_fault c.args.first.spn c.args.first.fmi) s.pending.items ≡ None = cc in
    rw (exit.1, exit.2)
    (wanted_memory (fault_set c.args.first.spn c.args.first.fmi) _ _ _ _ c.self.view_is
    (set_new c.args.first.spn c.args.first.fmi s.lamps s.active.items s.previous.items s.pending.items _ absent none none_pending
    (room_from_false _ _ _ c.self.view_is c.is_full.ensures c.if-is_full.false) refl)
    (inl (longer s.active.items (code c.args.first.spn c.args.first.fmi 1)))
    (ap (λ (b : List Code). memory s.lamps b s.previous.items s.pending.items) c.in_err-push-3.ensures.items))
