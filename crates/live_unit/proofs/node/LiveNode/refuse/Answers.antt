use Rattle.std.proofs.Common.{false, List, [], ◌∷◌, ap, ◌∙◌}
use Rattle.can_frame.specs.FrameValue.{FrameValue}
use Rattle.node_core.specs.Deed.{plain}
use Rattle.node_core.specs.Requested.{acknowledgment}
use Rattle.node_core.specs.declared.out.Out.{Out}
use Rattle.requests.specs.declared.acknowledgment.TheConstants.Ack.{CANNOT_RESPOND}
use Rattle.live_unit.specs.Queue.{putting}
use Rattle.live_unit.proofs.node.LiveNode.refuse.Goals as goal

-- what is put is that acknowledgment, from the address held
pub returns-clause-refused : goal.returns-clause-refused
returns-clause-refused c =
    c.put.ensures ∙ ap (λ (outs : List Out). putting false outs c.args.self.now.queue)
    (c.plain.ensures ∙ ap (λ (f : FrameValue). plain f ∷ []) (c.refusal-ack.ensures ∙ ap (acknowledgment CANNOT_RESPOND c.args.asker c.args.pgn) c.source_of.ensures))
