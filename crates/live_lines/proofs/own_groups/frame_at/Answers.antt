use Rattle.std.proofs.Common.{rules}
use Rattle.live_lines.proofs.OwnLemmas.{frame_there}
use Rattle.live_lines.proofs.own_groups.frame_at.Goals as goal

pub returns-in-Some-clause-frame : goal.returns-in-Some-clause-frame
returns-in-Some-clause-frame c =
    frame_there c.args.all.now c.args.place c.args.source c.args.dest c.args.number c.in-Some.one.now c.frame.result (search rules) (search rules) c.frame.ensures.frame
