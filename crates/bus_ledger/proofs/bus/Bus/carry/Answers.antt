use Rattle.std.proofs.Common.{arith, refl}
use Rattle.std.proofs.lemmas.Grind.{common_steps}
use Rattle.std.specs.Vec.{with_item, with_items}
use Rattle.bus_ledger.proofs.Kept.{carry_kept, carry_traffic, next_within, send_waits, send_few, sent_is}
use Rattle.bus_ledger.proofs.Seats.{changed_spares}
use Rattle.bus_ledger.proofs.Taps.{takes_of}
use Rattle.bus_ledger.proofs.bus.Bus.carry.Goals as goal

pub send-sent-requires : goal.send-sent-requires
send-sent-requires c =
    let q = c.in-Some.ensures.0 in
    let next = c.in-Some.ensures.1 in
    record {
      waits = send_waits c.self.inside c.args.self.now c.in-Some.seat q c.index_mut-place.result.now c.self.view_is next c.index_mut-place.ensures.value;
      few = send_few c.self.inside c.args.self.now c.in-Some.seat q c.index_mut-place.result.now c.self.view_is next c.index_mut-place.ensures.value c.requires;
    }

pub invariant_of-self-2 : goal.invariant_of-self-2
invariant_of-self-2 c =
    let sent = sent_is c.self.inside c.args.self.now c.in-Some.seat c.in-Some.ensures.0 c.send-sent.result c.index_mut-place.result.now c.self.view_is c.in-Some.ensures.1 c.index_mut-place.ensures.value c.send-sent.ensures.first in
    carry_kept c.self.inside _ c.args.self.now c.in-Some.seat c.send-sent.result c.index_mut-place.result.now c.send-sent.new.self c.self.view_is c.self.invariant sent c.index_mut-place.ensures.value c.send-sent.ensures.seat
    (grind (arith, common_steps)) refl refl
    (takes_of _ c.as_mut_slice.result.now c.receive.new.receive_windows _ c.in-Some.seat c.send-sent.result.frame c.as_mut_slice.ensures.value c.receive.auto.receive_windows (grind (arith, common_steps)) c.receive.ensures) c.requires

pub returns-clause-ok : goal.returns-clause-ok
returns-clause-ok c =
    let sent = sent_is c.self.inside c.args.self.now c.in-Some.seat c.in-Some.ensures.0 c.send-sent.result c.index_mut-place.result.now c.self.view_is c.in-Some.ensures.1 c.index_mut-place.ensures.value c.send-sent.ensures.first in (
      c.send-sent.result,
      sent,
      refl,
      carry_traffic c.self.inside (record { wire = c.push_reserved.new.self; seats = with_item c.self.inside.seats c.in-Some.seat c.send-sent.new.self; live = c.self.inside.live; receive_windows = with_items c.self.inside.receive_windows c.receive.new.receive_windows }) c.args.self.now c.in-Some.seat c.send-sent.result c.index_mut-place.result.now c.send-sent.new.self c.self.view_is
          (next_within c.args.self.now.traffic c.in-Some.seat c.send-sent.result sent) c.index_mut-place.ensures.value c.send-sent.ensures.seat (grind (arith, common_steps)) refl
          (takes_of _ c.as_mut_slice.result.now c.receive.new.receive_windows _ c.in-Some.seat c.send-sent.result.frame c.as_mut_slice.ensures.value c.receive.auto.receive_windows (grind (arith, common_steps)) c.receive.ensures),
    )

pub returns-clause-spares : goal.returns-clause-spares
returns-clause-spares c =
    changed_spares c.self.inside c.args.self.now c.in-Some.seat c.index_mut-place.result.now c.send-sent.new.self c.self.view_is (next_within c.args.self.now.traffic c.in-Some.seat c.in-Some.ensures.0 c.in-Some.ensures.1) c.index_mut-place.ensures.value c.send-sent.ensures.spare
