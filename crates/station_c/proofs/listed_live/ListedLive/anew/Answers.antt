use Rattle.std.proofs.Common.{rules}
use Rattle.station_c.proofs.BegunLive.{anew_without, room_without}
use Rattle.station_c.proofs.listed_live.ListedLive.anew.Goals as goal

pub returns-clause-anew : goal.returns-clause-anew
returns-clause-anew c =
    anew_without c.with_nobody.result c.args.self.now c.in_ok-fresh.fresh c.args.address c.args.most c.in_ok-fresh.ensures.stands (search rules) c.with_nobody.ensures

pub returns-clause-room : goal.returns-clause-room
returns-clause-room c = room_without c.with_nobody.result c.args.self.now c.args.address c.args.most c.with_nobody.ensures c.requires.some
