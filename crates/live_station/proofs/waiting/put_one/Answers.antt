use Rattle.std.proofs.Common.{rules, List, ap, sym, ◌∙◌, false, subst, [], ◌∷◌}
use Rattle.std.proofs.lemmas.List.Elements.{All-cons, All-nil}
use Rattle.live_unit.specs.Queue.{IsSentFrom, putting}
use Rattle.node_core.specs.Deed.{plain}
use Rattle.node_core.specs.declared.out.Out.{Out}
use Rattle.live_station.specs.Working.{OwesAll}
use Rattle.live_station.proofs.Owing.{owes_after_putting}
use Rattle.live_station.proofs.waiting.put_one.Goals as goal

pub returns-clause-owes : goal.returns-clause-owes
returns-clause-owes c =
    subst OwesAll (sym (c.put.ensures ∙ ap (λ (o : List Out). putting false o c.args.queue.now) c.plain.ensures))
    (owes_after_putting c.args.frame c.args.queue.now c.requires.owes c.requires.from.owed)
