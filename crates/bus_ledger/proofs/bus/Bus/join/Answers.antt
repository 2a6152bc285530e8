use Rattle.std.proofs.Common.{arith, refl}
use Rattle.std.proofs.lemmas.Grind.{common_steps}
use Rattle.bus_ledger.proofs.Kept.{join_kept, seat_count}
use Rattle.bus_ledger.proofs.bus.Bus.join.Goals as goal

pub invariant_of-self-2 : goal.invariant_of-self-2
invariant_of-self-2 c =
    join_kept c.self.inside _ c.args.name c.len-number.result c.in_ok-seat.seat c.self.invariant (grind (arith, common_steps)) refl (grind (arith, common_steps)) (grind (arith, common_steps)) refl
    (grind (arith, common_steps)) (omega (arith, seat_count c.self.inside c.args.self.now c.self.view_is))
