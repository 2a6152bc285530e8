use Rattle.std.proofs.Common.{rules}
use Rattle.reassembly.proofs.TableLemmas.{none_there}
use Rattle.reassembly.proofs.table.AddressTable.get.Goals as goal

pub returns-then-is_empty : goal.returns-then-is_empty
returns-then-is_empty g c = rw (← c.self.view_is) (none_there c.self.inside.slots.len c.self.inside.slots.items c.args.address c.self.inside.slots.ok.0 (search rules))
