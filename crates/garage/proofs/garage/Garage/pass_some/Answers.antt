use Rattle.std.proofs.Common.{ℕ, ◌+◌, refl, ap, ◌∙◌}
use Rattle.garage.proofs.HearLemmas.{hearing_many, many_same}
use Rattle.garage.proofs.garage.Garage.pass_some.Goals as goal

pub events_of-parked-requires : goal.events_of-parked-requires
events_of-parked-requires g c =
    let p = c.args.parked.now in
    let n = c.pass_run-passed.result in
    (hearing_many _ _ n c.args.self.now p c.pass_run-passed.new.self (record p { events = p.events + n }) c.pass_run-passed.ensures.heard c.requires).sits.unit

pub returns-clause-heard : goal.returns-clause-heard
returns-clause-heard g c =
    let p = c.args.parked.now in
    let n = c.pass_run-passed.result in
    let heard = c.pass_run-passed.ensures.heard in
    let counted = c.events_of-parked.ensures.count ∙ (hearing_many _ _ n c.args.self.now p c.pass_run-passed.new.self (record p { events = p.events + n }) heard c.requires).sits.counted in
    many_same _ _ n c.args.self.now c.pass_run-passed.new.self c.pass_run-passed.new.self p (record p { events = p.events + n }) (record p { events = c.events_of-parked.result }) heard refl (ap (λ (k : ℕ). record p { events = k }) counted)
