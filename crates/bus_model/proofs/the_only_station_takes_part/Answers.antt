use Rattle.bus_model.proofs.Beside.{listed_beside}
use Rattle.bus_model.proofs.TakingPart.{takes_part}
use Rattle.bus_model.proofs.the_only_station_takes_part.Goals as goal

pub returns-clause-takes_part : goal.returns-clause-takes_part
returns-clause-takes_part c = takes_part

pub returns-clause-lists : goal.returns-clause-lists
returns-clause-lists c settings fit events w run y s at alone aborts = listed_beside settings fit s.path (takes_part settings fit events w run y s at alone aborts)
