use Rattle.std.proofs.Common.{rules}
use Rattle.live_lines.proofs.OwnLemmas.{begins_there}
use Rattle.live_lines.proofs.own_groups.first_frame.Goals as goal

pub returns-in-Some-clause-begins : goal.returns-in-Some-clause-begins
returns-in-Some-clause-begins c =
    begins_there c.args.may_begin c.args.all.now c.args.place c.args.source c.in-Some.one.now c.frame.result (search rules) (search rules) (search rules) c.frame.ensures.frame
