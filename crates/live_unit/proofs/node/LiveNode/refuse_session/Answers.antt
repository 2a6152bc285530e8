use Rattle.std.proofs.Common.{◌≡◌, ◌∙◌, refl}
use Rattle.live_unit.proofs.node.LiveNode.refuse_session.Goals as goal

-- what is put is that abort, from the address held
pub returns-clause-refused : goal.returns-clause-refused
returns-clause-refused c = c.put.ensures ∙ rw (c.plain.ensures, c.abort_of-abort.ensures, c.refused_beside.ensures, c.source_of.ensures) refl
