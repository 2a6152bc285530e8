use Rattle.bus_model.proofs.Only.{meant_for_it}
use Rattle.bus_model.proofs.meant_for_the_only_station.Goals as goal

pub returns : goal.returns
returns c = λ r fit events w run y s at after before e t is tag first. meant_for_it r fit events w run y s at after before e is t tag first
