use Rattle.station_c.proofs.Begun.{room_without}
use Rattle.station_c.proofs.listed_station.ListedStation.anew.Goals as goal

pub returns-clause-room : goal.returns-clause-room
returns-clause-room c = room_without c.with_nobody.result _ _ _ c.args.most c.with_nobody.ensures c.requires.some
