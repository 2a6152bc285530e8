use Rattle.std.proofs.Common.{rules}
use Rattle.reassembly.proofs.TableLemmas.{made_anew}
use Rattle.reassembly.proofs.table.AddressTable.make.Goals as goal

pub returns-in_ok-fill-clause-slots : goal.returns-in_ok-fill-clause-slots
returns-in_ok-fill-clause-slots g c =
    rw (← c.self.view_is) (made_anew c.self.inside.slots.len c.self.inside.slots.items c.fill.new.slots.items c.self.inside.slots.ok.0 (search rules) c.in_ok-fill.ensures.ok)
