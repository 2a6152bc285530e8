use Rattle.std.proofs.Common.{arith, refl}
use Rattle.std.proofs.lemmas.Grind.{common_steps}
use Rattle.std.specs.Vec.{with_items}
use Rattle.bus_ledger.proofs.Kept.{inject_kept, inject_traffic}
use Rattle.bus_ledger.proofs.Taps.{pushes_of}
use Rattle.bus_ledger.proofs.bus.Bus.inject.Goals as goal

pub invariant_of-self-2 : goal.invariant_of-self-2
invariant_of-self-2 c =
    inject_kept c.self.inside _ c.args.self.now c.args.frame c.self.view_is c.self.invariant (grind (arith, common_steps)) refl refl
    (pushes_of _ c.as_mut_slice.result.now c.push.new.receive_windows _ c.args.frame c.as_mut_slice.ensures.value c.push.auto.receive_windows (grind (arith, common_steps)) c.push.ensures) c.requires

pub returns-clause-ok : goal.returns-clause-ok
returns-clause-ok c =
    inject_traffic c.self.inside (record { wire = c.push_reserved.new.self; seats = c.self.inside.seats; live = c.self.inside.live; receive_windows = with_items c.self.inside.receive_windows c.push.new.receive_windows }) c.args.self.now c.args.frame c.self.view_is (grind (arith, common_steps)) refl
    (pushes_of _ c.as_mut_slice.result.now c.push.new.receive_windows _ c.args.frame c.as_mut_slice.ensures.value c.push.auto.receive_windows (grind (arith, common_steps)) c.push.ensures)
