use Rattle.std.proofs.Common.{ℕ, ap}
use Rattle.reassembly.specs.Tables.{TableValue}
use Rattle.station_table.proofs.Stands.{stands_new_parts}
use Rattle.station_table.proofs.station.Station.new.Goals as goal

pub returns-clause-stands : goal.returns-clause-stands
returns-clause-stands c =
    stands_new_parts _ _ _ _ _ _ _ _ _ c.requires.address_fits c.new.ensures (ap (λ (t : TableValue ℕ). t.slots) c.new-2.ensures) c.new-3.ensures c.new-4.ensures c.new-5.ensures
    c.no_limits.ensures
