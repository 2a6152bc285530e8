use Rattle.bus_model.specs.Machine.{names_of, new_stations, start}
use Rattle.bus_model.proofs.Whose.{numbers_run, numbers_start}
use Rattle.bus_model.proofs.Worlds.{law_start}
use Rattle.bus_model.proofs.seats_are_numbered.Goals as goal

pub returns : goal.returns
returns c = λ rs fit events w run x s at.
    let st = names_of (new_stations 0 rs) in
    let numbers = numbers_run st (start rs) events w (law_start rs fit) (numbers_start st rs) run in
    numbers.numbers x s at
