use Rattle.parameter_group.specs.Said.{said}
use Rattle.station_c.proofs.Hearing.{takes_frame}
use Rattle.station_c.proofs.listed_listener.ListedListener.take_frame.Goals as goal

pub returns-clause-ok : goal.returns-clause-ok
returns-clause-ok c =
    let heard = c.in_ok-change.ensures in let noted = c.in_ok-expect.ensures in
    takes_frame c.args.self.now c.self.inside.ear c.take_group_at.new.self c.self.inside.lists c.take_group_at.new.lists c.self.inside.broken c.expect.new.self c.settle.new.self
    c.args.now (said c.read-group.result) c.args.frame.now c.fate-fate.result c.in_ok-change.change c.was_whole.result
    c.self.view_is c.read-group.ensures.value c.fate-fate.ensures noted.suspects noted.count heard.heard heard.paces heard.silence c.was_whole.ensures c.settle.ensures.newest c.settle.ensures.count
