use Rattle.std.proofs.Common.{[], refl, rules, arith, ◌∙◌}
use Rattle.std.proofs.lemmas.List.{take_all, length-drop}
use Rattle.node_core.proofs.CommandPackets.{first_broken, first_taken}
use Rattle.node_core.proofs.commanding.first.Goals as goal

pub returns-then-not-is_packet : goal.returns-then-not-is_packet
returns-then-not-is_packet c = first_broken c.is_packet.result c.args.bytes.now (c.is_packet.ensures.next [] refl) (search rules)

pub returns-in-Ok : goal.returns-in-Ok
returns-in-Ok c =
    first_taken c.is_packet.result c.args.bytes.now c.in-Ok.piece (c.is_packet.ensures.next [] refl) (search rules)
    (c.in-Ok.ensures.1.same ∙ take_all _ _ (let n = length-drop 1 c.args.bytes.now in omega arith))
