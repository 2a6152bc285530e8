use Rattle.std.proofs.Common.{sym, subst, ◌∙◌}
use Rattle.live_station.specs.Working.{OwesAll}
use Rattle.live_station.proofs.Owing.{owes_after_withdrawing}
use Rattle.live_station.proofs.waiting.take_in.Goals as goal
use Rattle.live_station.proofs.waiting.take_in.Goals.{then-reaction, else-reaction}

pub put_first-requires-clause-owes : goal.put_first-requires-clause-owes
put_first-requires-clause-owes c =
    elim c.if-reaction.branch [
      | then-reaction w ↦ subst OwesAll (sym (w.queue-is ∙ w.withdraw.ensures)) (owes_after_withdrawing w.source_of.result c.args.queue.now)
      | else-reaction w ↦ subst OwesAll (sym w.queue-is) c.requires.owes
    ]
