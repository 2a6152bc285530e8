use Rattle.bus_model.specs.Machine.{names_of, new_stations, start}
use Rattle.bus_model.proofs.Whose.{from_its_seat, numbers_run, numbers_start}
use Rattle.bus_model.proofs.Worlds.{law_start}
use Rattle.bus_model.proofs.frames_come_from_their_seats.Goals as goal

pub returns : goal.returns
returns c = λ rs fit events w run after before e i.
    let st = names_of (new_stations 0 rs) in
    let numbers = numbers_run st (start rs) events w (law_start rs fit) (numbers_start st rs) run in
    from_its_seat st w after before e numbers i
