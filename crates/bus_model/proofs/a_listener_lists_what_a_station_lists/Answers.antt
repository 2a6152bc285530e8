use Rattle.bus_model.proofs.Beside.{listed_beside}
use Rattle.bus_model.proofs.a_listener_lists_what_a_station_lists.Goals as goal

pub returns : goal.returns
returns c = listed_beside
