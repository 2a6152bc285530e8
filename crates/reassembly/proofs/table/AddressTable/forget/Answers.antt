use Rattle.std.proofs.Common.{rules}
use Rattle.reassembly.proofs.TableLemmas.{none_left}
use Rattle.reassembly.proofs.table.AddressTable.forget.Goals as goal

pub returns-else-not-is_empty : goal.returns-else-not-is_empty
returns-else-not-is_empty g c = rw (← c.self.view_is) (none_left c.self.inside.slots.len c.self.inside.slots.items c.args.address c.self.inside.slots.ok.0 (search rules))
