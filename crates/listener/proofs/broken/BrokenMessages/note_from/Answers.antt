use Rattle.std.proofs.Common.{◌≡◌, ◌∙◌, arith}
use Rattle.listener.proofs.Breaking.{all_noted, more_noted}
use Rattle.listener.proofs.broken.BrokenMessages.note_from.Goals as goal

pub loop-dest-preserved : goal.loop-dest-preserved
loop-dest-preserved c =
    let before = c.loop-dest.invariant in let noted = c.in_ok-note.ensures in (
      more_noted c.args.ear.now c.args.source c.loop-dest.dest _ _ _ before.0 noted.suspects,
      (c.note.ensures.newest ∙ before.1.0, c.note.ensures.count ∙ before.1.1),
    )

pub returns-clause-suspects : goal.returns-clause-suspects
returns-clause-suspects c =
    let all : c.loop-dest.dest ≡ 256 = omega arith in all_noted c.args.ear.now c.args.source c.loop-dest.dest _ _ c.loop-dest.invariant.0 all
