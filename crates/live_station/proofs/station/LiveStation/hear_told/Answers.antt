use Rattle.std.proofs.Common.{rules, ap, sym, subst, ◌∙◌}
use Rattle.parameter_group.specs.Said.{said}
use Rattle.station_table.specs.StandsFor.{StandsFor}
use Rattle.live_station.specs.Working.{WorkingValue}
use Rattle.live_station.proofs.Sources.{reacts_from_holder, reacts_from_source}
use Rattle.live_station.proofs.station.LiveStation.hear_told.Goals as goal

pub take_in-requires-clause-source : goal.take_in-requires-clause-source
take_in-requires-clause-source g c =
    reacts_from_source c.self.inside.station (said c.args.group.now) c.in_ok-reaction.field-0.reaction c.self.inside.queue.source c.held-after.result
    (search rules) c.self.invariant.0 (search rules)

pub take_in-requires-clause-from : goal.take_in-requires-clause-from
take_in-requires-clause-from g c =
    reacts_from_holder c.self.inside.station (said c.args.group.now) c.in_ok-reaction.field-0.reaction c.held-before.result c.held-after.result
    (search rules) (search rules) (search rules) c.held-before.ensures.bound c.held-after.ensures.bound

pub returns-clause-stands : goal.returns-clause-stands
returns-clause-stands g c = λ f e r grant h st. c.in_ok-reaction.ensures.stands f e r grant h (subst (λ (v : WorkingValue). StandsFor r grant v.station h) (sym c.self.view_is) st)

pub returns-clause-listed : goal.returns-clause-listed
returns-clause-listed g c = λ f e r grant h st. c.in_ok-reaction.ensures.listed f e r grant h (subst (λ (v : WorkingValue). StandsFor r grant v.station h) (sym c.self.view_is) st)
