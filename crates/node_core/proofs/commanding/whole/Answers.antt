use Rattle.std.proofs.Common.{[], ◌∷◌, refl, rules}
use Rattle.node_core.proofs.CommandPackets.{second_broken, second_taken}
use Rattle.node_core.proofs.commanding.whole.Goals as goal

pub returns-then-not-is_packet : goal.returns-then-not-is_packet
returns-then-not-is_packet c = second_broken c.is_packet.result c.args.piece c.args.bytes.now (c.is_packet.ensures.next (c.args.piece ∷ []) refl) (search rules)

pub returns : goal.returns
returns c =
    second_taken c.is_packet.result c.args.piece c.args.bytes.now c.nine_bytes.result _ (c.is_packet.ensures.next (c.args.piece ∷ []) refl) (search rules) (search rules) (search rules)
    (search rules) (search rules)
