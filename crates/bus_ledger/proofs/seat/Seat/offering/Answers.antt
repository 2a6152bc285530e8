use Rattle.std.proofs.Common.{slice_get, refl, sym, ap, ◌∙◌, arith}
use Rattle.bus_ledger.specs.BusValue.{SeatBook}
use Rattle.bus_ledger.specs.Places.{frames_at}
use Rattle.bus_ledger.proofs.Queues.{first_in, offers_first}
use Rattle.bus_ledger.proofs.seat.Seat.offering.Goals as goal

pub returns-in_ok-first : goal.returns-in_ok-first
returns-in_ok-first c =
    let q = c.self.inside.queue in
    let first = first_in q.items c.in_ok-first.first.now c.self.invariant.2 (omega (arith, c.in_ok-first.ensures.variant.0 refl, q.ok.0)) c.in_ok-first.ensures.lookup in
    sym (offers_first c.args.wire_len c.args.self.now.seat (slice_get (frames_at c.in_ok-first.first.now) 0) (ap (λ (b : SeatBook). b.seat.live) (sym c.self.view_is) ∙ c.if-self.true)
    (ap (λ (b : SeatBook). b.seat.heard) (sym c.self.view_is) ∙ c.if-self-wire_len.true) (first ∙ ap (λ (b : SeatBook). slice_get b.seat.queue 0) c.self.view_is))
