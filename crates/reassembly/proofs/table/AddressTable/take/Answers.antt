use Rattle.std.proofs.Common.{rules}
use Rattle.reassembly.proofs.TableLemmas.{none_left, none_there}
use Rattle.reassembly.proofs.table.AddressTable.take.Goals as goal

pub returns-then-is_empty-clause-taken : goal.returns-then-is_empty-clause-taken
returns-then-is_empty-clause-taken g c = rw (← c.self.view_is) (none_there c.self.inside.slots.len c.self.inside.slots.items c.args.address c.self.inside.slots.ok.0 (search rules))

pub returns-then-is_empty-clause-left : goal.returns-then-is_empty-clause-left
returns-then-is_empty-clause-left g c = rw (← c.self.view_is) (none_left c.self.inside.slots.len c.self.inside.slots.items c.args.address c.self.inside.slots.ok.0 (search rules))
