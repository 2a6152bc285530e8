use Rattle.live_station.proofs.Asking.{given_up_behind_two}
use Rattle.live_station.proofs.laws.a_packet_is_asked_for_again_twice.Goals as goal

pub returns : goal.returns
returns c = given_up_behind_two
