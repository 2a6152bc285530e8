use Rattle.std.proofs.Common.{refl}
use Rattle.bus_ledger.proofs.Offering.{in_order_of, idle_is}
use Rattle.bus_ledger.proofs.bus.Bus.without_sender.Goals as goal

pub is_any_waiting-requires : goal.is_any_waiting-requires
is_any_waiting-requires c = in_order_of c.self.inside _ _ c.self.invariant c.as_slice.ensures.value c.as_slice-2.ensures.value

pub returns-else-is_any_waiting-clause-choice : goal.returns-else-is_any_waiting-clause-choice
returns-else-is_any_waiting-clause-choice c =
    idle_is c.self.inside c.args.self.now c.as_slice.result.now c.as_slice-2.result.now c.self.view_is c.self.invariant c.as_slice.ensures.value c.as_slice-2.ensures.value c.if-is_any_waiting.ensures

pub returns-else-is_any_waiting-clause-stays : goal.returns-else-is_any_waiting-clause-stays
returns-else-is_any_waiting-clause-stays c =
    (idle_is c.self.inside c.args.self.now c.as_slice.result.now c.as_slice-2.result.now c.self.view_is c.self.invariant c.as_slice.ensures.value c.as_slice-2.ensures.value c.if-is_any_waiting.ensures, refl)
