use Rattle.std.proofs.Common.{ℕ, ap, ◌∙◌}
use Rattle.node_core.specs.NodeValue.{new_node}
use Rattle.live_unit.proofs.unit.LiveUnit.new.Goals as goal

-- the NAME that the node has is the one in the box
pub returns-clause-node : goal.returns-clause-node
returns-clause-node g c = c.in_ok-live.ensures.node ∙ ap (λ (n : ℕ). new_node n c.args.want) c.name_in.ensures
