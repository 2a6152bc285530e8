use Rattle.std.proofs.Common.{arith}
use Rattle.bus_ledger.proofs.Offering.{in_order_of, next_seat_is}
use Rattle.bus_ledger.proofs.bus.Bus.next_seat.Goals as goal

pub best_seat-requires-clause-order : goal.best_seat-requires-clause-order
best_seat-requires-clause-order c = in_order_of c.self.inside _ _ c.self.invariant c.as_slice.ensures.value c.as_slice-2.ensures.value

pub returns : goal.returns
returns c =
    next_seat_is c.self.inside c.args.self.now c.len-wire_len.result c.best_seat.ensures.0 c.as_slice.result.now c.as_slice-2.result.now c.best_seat.result c.self.view_is c.self.invariant c.as_slice.ensures.value c.as_slice-2.ensures.value
    (omega (arith, c.len-wire_len.ensures)) c.best_seat.ensures.1
