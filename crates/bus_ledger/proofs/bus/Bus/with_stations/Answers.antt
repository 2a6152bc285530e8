use Rattle.bus_ledger.proofs.Opening.{opened_kept, opened_room, opened_traffic}
use Rattle.bus_ledger.proofs.bus.Bus.with_stations.Goals as goal

pub invariant_of-result : goal.invariant_of-result
invariant_of-result c =
    opened_kept _ c.args.stations.now c.requires.some c.requires.few c.requires.windows c.new.ensures (c.in_ok-seats_of.ensures).ok (c.in_ok-numbers_below.ensures).ok (c.in_ok-receive_windows_of.ensures).ok

pub returns-clause-ok : goal.returns-clause-ok
returns-clause-ok c = opened_traffic (record { wire = c.new.result; seats = c.in_ok-seats_of.field-0; live = c.in_ok-numbers_below.field-0; receive_windows = c.in_ok-receive_windows_of.field-0 }) c.args.stations.now c.new.ensures (c.in_ok-seats_of.ensures).ok (c.in_ok-receive_windows_of.ensures).ok

pub returns-clause-room : goal.returns-clause-room
returns-clause-room c = λ y h. opened_room (record { wire = c.new.result; seats = c.in_ok-seats_of.field-0; live = c.in_ok-numbers_below.field-0; receive_windows = c.in_ok-receive_windows_of.field-0 }) c.args.stations.now y (c.in_ok-seats_of.ensures).ok h
