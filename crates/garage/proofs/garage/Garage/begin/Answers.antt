use Rattle.garage.proofs.BeginLemmas.{begins_with, full_unbegun}
use Rattle.std.proofs.Common.{◌≡◌, Err, ap, ◌∙◌, rules}
use Rattle.garage.proofs.Standing.{place_node, place_within, unit_now}
use Rattle.garage.proofs.CarryLemmas.{full_told}
use Rattle.garage.proofs.garage.Garage.begin.Goals as goal

pub begin_message-requires-clause-begins : goal.begin_message-requires-clause-begins
begin_message-requires-clause-begins g c =
    let a = c.self.inside in
    let h = place_within a c.args.seat c.self.invariant (unit_now a c.args.self.now c.args.seat c.self.view_is c.requires) in
    begins_with a c.args.self.now c.args.seat c.index-place.result.now ((goal.Unit-dyn g c.args.unit.now).memory_of c.args.unit.now.1) c.in-Ok.started c.in-Begun.begun c.in-Begun.put c.self.view_is c.self.invariant h c.index-place.ensures c.in-Begun.is c.in-Ok.ensures.unclaimed
    c.in-Ok.ensures.started

pub returns-in_err-check_room-in-Err-OutOfMemory-clause-full : goal.returns-in_err-check_room-in-Err-OutOfMemory-clause-full
returns-in_err-check_room-in-Err-OutOfMemory-clause-full g c =
    let at = place_node c.self.inside c.args.self.now c.args.seat c.index-place.result.now c.self.view_is c.self.invariant c.requires c.index-place.ensures in
    let refused : c.check_room.result ≡ Err c.in_err-check_room-in-Err-OutOfMemory.field-0.0 = search rules in
    let told : c.from_residual.result ≡ Err c.in_err-check_room-in-Err-OutOfMemory.field-0.0 = search rules in
    full_unbegun c.args.self.now c.args.seat c.index-place.result.now.node c.begin.result c.from_residual.result at (c.in-Err-OutOfMemory.is ∙ ap Err c.in-Err-OutOfMemory.field-0-is) c.begin.ensures.unclaimed c.begin.ensures.held
    (full_told c.self.inside c.args.self.now c.check_room.result c.from_residual.result c.in_err-check_room-in-Err-OutOfMemory.field-0.0 c.self.view_is c.self.invariant refused told c.check_room.ensures.full)
