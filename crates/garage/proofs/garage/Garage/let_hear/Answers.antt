use Rattle.garage.proofs.Crew.{lists_come}
use Rattle.garage.proofs.HearLemmas.{hearing_many}
use Rattle.garage.proofs.garage.Garage.let_hear.Goals as goal

pub returns-in_err-heard-clause-kept : goal.returns-in_err-heard-clause-kept
returns-in_err-heard-clause-kept g c =
    let cut = c.in_err-heard.ensures.cut in
    let so = hearing_many _ _ cut.0 c.args.self.now c.args.parked.now c.hear_some.new.self c.hear_some.new.parked cut.2.heard (c.knows.ensures.0 c.if-not-knows.false) in
    (so.seat, so.name)

pub returns-in_err-heard-clause-seated : goal.returns-in_err-heard-clause-seated
returns-in_err-heard-clause-seated g c =
    let cut = c.in_err-heard.ensures.cut in
    let so = hearing_many _ _ cut.0 c.args.self.now c.args.parked.now c.hear_some.new.self c.hear_some.new.parked cut.2.heard (c.knows.ensures.0 c.if-not-knows.false) in
    λ s. so.sits

pub returns-in_err-heard-clause-comes : goal.returns-in_err-heard-clause-comes
returns-in_err-heard-clause-comes g c =
    let cut = c.in_err-heard.ensures.cut in
    let so = hearing_many _ _ cut.0 c.args.self.now c.args.parked.now c.hear_some.new.self c.hear_some.new.parked cut.2.heard (c.knows.ensures.0 c.if-not-knows.false) in
    so.comes

pub returns-in_err-heard-clause-lists : goal.returns-in_err-heard-clause-lists
returns-in_err-heard-clause-lists g c =
    let cut = c.in_err-heard.ensures.cut in
    let so = hearing_many _ _ cut.0 c.args.self.now c.args.parked.now c.hear_some.new.self c.hear_some.new.parked cut.2.heard (c.knows.ensures.0 c.if-not-knows.false) in
    lists_come c.args.self.now c.hear_some.new.self so.comes

pub returns-clause-kept : goal.returns-clause-kept
returns-clause-kept g c =
    let so = hearing_many _ _ c.in_ok-heard.heard c.args.self.now c.args.parked.now c.hear_some.new.self c.hear_some.new.parked c.in_ok-heard.ensures.heard (c.knows.ensures.0 c.if-not-knows.false) in
    (so.seat, so.name)

pub returns-clause-seated : goal.returns-clause-seated
returns-clause-seated g c =
    let so = hearing_many _ _ c.in_ok-heard.heard c.args.self.now c.args.parked.now c.hear_some.new.self c.hear_some.new.parked c.in_ok-heard.ensures.heard (c.knows.ensures.0 c.if-not-knows.false) in
    λ s. so.sits

pub returns-clause-comes : goal.returns-clause-comes
returns-clause-comes g c =
    let so = hearing_many _ _ c.in_ok-heard.heard c.args.self.now c.args.parked.now c.hear_some.new.self c.hear_some.new.parked c.in_ok-heard.ensures.heard (c.knows.ensures.0 c.if-not-knows.false) in
    so.comes

pub returns-clause-lists : goal.returns-clause-lists
returns-clause-lists g c =
    let so = hearing_many _ _ c.in_ok-heard.heard c.args.self.now c.args.parked.now c.hear_some.new.self c.hear_some.new.parked c.in_ok-heard.ensures.heard (c.knows.ensures.0 c.if-not-knows.false) in
    lists_come c.args.self.now c.hear_some.new.self so.comes

pub returns-clause-counted : goal.returns-clause-counted
returns-clause-counted g c =
    let so = hearing_many _ _ c.in_ok-heard.heard c.args.self.now c.args.parked.now c.hear_some.new.self c.hear_some.new.parked c.in_ok-heard.ensures.heard (c.knows.ensures.0 c.if-not-knows.false) in
    so.events
