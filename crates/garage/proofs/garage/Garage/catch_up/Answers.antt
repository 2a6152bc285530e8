use Rattle.std.proofs.Common.{◌≡◌, ◌+◌, Err, Option, length, arith, rules, subst, sym}
use Rattle.unit_trait.specs.declared.question.Question.{Question}
use Rattle.bus_ledger.specs.BusValue.{seat_at}
use Rattle.node_core.specs.declared.heard.Answer.{Answer as UnitAnswer}
use Rattle.journal.specs.Journal.{GarageValue, state_of}
use Rattle.garage.specs.Crew.{Sits, Sitting}
use Rattle.garage.specs.Hearing.{HasHeardAll, HearsNext, HearsOut}
use Rattle.garage.specs.declared.answers.HeardOne.{HeardOne}
use Rattle.garage.specs.declared.answers.HeardOne.TheVariants as heard
use Rattle.garage.proofs.HearLemmas.{cut_next, many_none, many_same, out_one, out_some}
use Rattle.garage.proofs.Lent.{if_err_is}
use Rattle.garage.proofs.garage.Garage.catch_up.Goals as goal

-- one that heard its only one
out_next : {P : Type 0} (sitting : P → Sitting) (asked : P → P → Option Question → UnitAnswer → Type 0) (h : HeardOne) (g : GarageValue) (p : P) (g' : GarageValue) (p' : P)
    → HearsNext sitting asked h g p g' p' → Sits g (sitting p) → (seat_at (state_of g).traffic (sitting p).seat).heard + 1 ≡ length (state_of g).traffic.wire → HearsOut sitting asked g p g' p'
out_next sitting asked (heard.Frame f) g p g' p' h sits e = out_one sitting asked f g p g' p' h sits e
out_next {P} sitting asked heard.Nothing g p g' p' h sits e =
    record { count = 0; heard = many_same sitting asked 0 g g g' p p p' (many_none sitting asked g p) h.1 h.2; all = subst (λ (v : GarageValue). HasHeardAll (sitting p).seat v) (sym h.1) h.0 }

pub returns-in_err-hear_seated-clause-cut : goal.returns-in_err-hear_seated-clause-cut
returns-in_err-hear_seated-clause-cut g c =
    let e = c.in_err-hear_seated.field-0.0 in
    let told : c.from_residual.result ≡ Err e = search rules in
    let err = c.in_err-hear_seated.ensures in
    if_err_is c.from_residual.result _ e told (
      0,
      cut_next _ _ 0 e c.args.self.now c.args.self.now c.hear_seated.new.self c.args.parked.now c.args.parked.now c.hear_seated.new.parked (many_none _ _ c.args.self.now c.args.parked.now) c.requires
          err.err.0 err.err.1 err.nothing err.full err.only,
    )

pub returns-then-unheard-eq1-clause-heard : goal.returns-then-unheard-eq1-clause-heard
returns-then-unheard-eq1-clause-heard g c =
    out_next _ _ c.in_ok-hear_seated.field-0 c.args.self.now c.args.parked.now c.hear_seated.new.self c.hear_seated.new.parked c.in_ok-hear_seated.ensures.heard c.requires
    (let count = c.unheard-unheard.ensures in let one = c.if-unheard-eq1.true in omega arith)

pub returns-clause-heard : goal.returns-clause-heard
returns-clause-heard g c =
    out_some _ _ c.in_ok-hear_some.field-0 c.unheard-unheard.result c.args.self.now c.args.parked.now c.hear_some.new.self c.hear_some.new.parked c.in_ok-hear_some.ensures.heard c.requires
    c.in_ok-hear_some.ensures.most c.in_ok-hear_some.ensures.all (let count = c.unheard-unheard.ensures in omega arith)
