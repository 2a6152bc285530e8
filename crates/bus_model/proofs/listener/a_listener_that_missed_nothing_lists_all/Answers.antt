use Rattle.bus_model.proofs.OverheardAll.{all_listed}
use Rattle.bus_model.proofs.listener.a_listener_that_missed_nothing_lists_all.Goals as goal

pub returns : goal.returns
returns c = all_listed
