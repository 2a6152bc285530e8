use Rattle.std.proofs.Common.{rules}
use Rattle.reassembly.proofs.PartialLemmas.{none_grown}
use Rattle.reassembly.proofs.table.AddressTable+Partial+T.grow.Goals as goal

pub returns-then-is_empty : goal.returns-then-is_empty
returns-then-is_empty g c = rw (← c.self.view_is) (none_grown c.self.inside.slots.len c.self.inside.slots.items c.args.address c.args.packet.now c.self.inside.slots.ok.0 (search rules))
