use Rattle.std.proofs.Common.{arith}
use Rattle.bus_ledger.proofs.Offering.{in_order_of, sender_is}
use Rattle.bus_ledger.proofs.bus.Bus.next_sender.Goals as goal

pub best_offer-requires-clause-order : goal.best_offer-requires-clause-order
best_offer-requires-clause-order c = in_order_of c.self.inside _ _ c.self.invariant c.as_slice.ensures.value c.as_slice-2.ensures.value

pub returns : goal.returns
returns c = sender_is c.self.inside c.args.self.now c.len-wire_len.result c.as_slice.result.now c.as_slice-2.result.now c.best_offer.result c.self.view_is c.self.invariant c.as_slice.ensures.value c.as_slice-2.ensures.value (omega (arith, c.len-wire_len.ensures)) c.best_offer.ensures
