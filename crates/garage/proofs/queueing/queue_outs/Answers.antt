use Rattle.std.proofs.Common.{List, map, length, arith, ap, ◌∙◌, sym, subst, length-append}
use Rattle.std.proofs.lemmas.List.{length-map}
use Rattle.bus_ledger.specs.BusValue.{Traffic, IsLive, seat_at}
use Rattle.node_core.specs.Pieces.{outs_of}
use Rattle.node_core.specs.declared.out.Out.{Out}
use Rattle.journal.specs.Steps.{put_all, tagged}
use Rattle.garage.proofs.Traffics.{live_put, put_count}
use Rattle.garage.proofs.Pieces.{put_piece}
use Rattle.garage.proofs.queueing.queue_outs.Goals as goal

pub queue_piece-requires : goal.queue_piece-requires
queue_piece-requires c =
    let old = c.loop-piece.invariant in
    let spare = old.spare in
    let few = old.few in
    let long = ap length c.in-Some.ensures.pieces ∙ length-append (outs_of c.in-Some.piece) c.take_piece.new.self in
    let some = c.in-Some.ensures.some in
    record { live = old.live; spare = omega arith; few = omega arith }

pub loop-piece-preserved : goal.loop-piece-preserved
loop-piece-preserved c =
    let tag = tagged c.args.numbering.begun c.args.numbering.is_session c.args.numbering.session in
    let seat = c.args.seat in
    let piece = c.in-Some.piece in
    let t = c.loop-piece.bus.traffic in
    let old = c.loop-piece.invariant in
    let spare = old.spare in
    let few = old.few in
    let long = ap length c.in-Some.ensures.pieces ∙ length-append (outs_of piece) c.take_piece.new.self in
    let some = c.in-Some.ensures.some in
    let now = c.queue_piece.ensures.traffic in
    let room = c.queue_piece.ensures.spare in
    let tags = length-map (outs_of piece) tag in
    let count = ap (λ (u : Traffic). (seat_at u seat).queued) now ∙ put_count seat (map tag (outs_of piece)) t old.live.0 in
    record {
      traffic = put_piece tag seat c.loop-piece.put piece c.take_piece.new.self t c.queue_piece.new.bus.traffic c.in-Some.ensures.pieces now ∙ old.traffic;
      spare = omega arith;
      live = subst (λ (u : Traffic). IsLive u seat) (sym now) (live_put seat seat (map tag (outs_of piece)) t old.live);
      few = omega arith;
    }

pub loop-piece-smaller : goal.loop-piece-smaller
loop-piece-smaller c =
    let long = ap length c.in-Some.ensures.pieces ∙ length-append (outs_of c.in-Some.piece) c.take_piece.new.self in
    let some = c.in-Some.ensures.some in
    omega arith

pub returns : goal.returns
returns c =
    let tag = tagged c.args.numbering.begun c.args.numbering.is_session c.args.numbering.session in
    sym (ap (λ (l : List Out). put_all c.args.seat (map tag l) c.loop-piece.bus.traffic) c.in_default.ensures.pieces) ∙ c.loop-piece.invariant.traffic
