use Rattle.std.proofs.Common.{ap, sym, ◌∙◌}
use Rattle.reassembly.specs.Pairs.{pair_at}
use Rattle.reassembly.specs.Partials.{answer_to}
use Rattle.bus_watch.specs.Identified.{IdentifiedValue}
use Rattle.bus_watch.proofs.IdentifiedTables.{answered_so}
use Rattle.bus_watch.proofs.watch.Watch.take_packet.Goals as goal

pub read_text-requires : goal.read_text-requires
read_text-requires c =
    ap (λ (v : IdentifiedValue). answer_to c.args.bytes.now (pair_at v.half c.args.route.source c.args.route.dest)) c.in_ok-changes.ensures.identified
    ∙ answered_so c.args.self.now.followed.silence c.args.time c.args.bytes.now (pair_at c.args.self.now.followed.packets c.args.route.source c.args.route.dest)
    (pair_at c.args.self.now.identified.half c.args.route.source c.args.route.dest) c.in-Some.packet (sym c.in-Some.is ∙ c.text_packet.ensures)
