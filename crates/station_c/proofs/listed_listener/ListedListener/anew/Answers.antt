use Rattle.station_c.proofs.BegunListening.{anew_without}
use Rattle.station_c.proofs.listed_listener.ListedListener.anew.Goals as goal

pub returns-clause-anew : goal.returns-clause-anew
returns-clause-anew c =
    anew_without c.with_nobody.result c.args.self.now c.in_ok-fresh.fresh c.args.most c.in_ok-fresh.ensures.heard (c.has_room.ensures.no c.if-has_room.false)
    c.with_nobody.ensures.heard c.with_nobody.ensures.quiet
