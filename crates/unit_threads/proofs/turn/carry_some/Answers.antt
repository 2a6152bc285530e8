use Rattle.std.proofs.Common.{rules, inl, inr}
use Rattle.unit_threads.specs.Turns.{CarriesSome}
use Rattle.unit_threads.proofs.Turning.{carried_eight, carried_none, carried_some, carry_goes_on, carry_stops, keeps_none, on_err}
use Rattle.unit_threads.proofs.turn.carry_some.Goals as goal

pub loop-turn-init : goal.loop-turn-init
loop-turn-init c = record { carried = carried_none c.args.garage.now; seats = keeps_none c.args.garage.now }

pub returns-in_err-carry-clause-err : goal.returns-in_err-carry-clause-err
returns-in_err-carry-clause-err c =
    on_err c.from_residual.result (CarriesSome c.args.garage.now c.carry.new.self)
    (carried_some _ _ _ _ c.loop-turn.invariant.carried c.loop-turn-test.true c.in_err-carry.ensures.err.0)

pub returns-in-Idle : goal.returns-in-Idle
returns-in-Idle c =
    let done = carry_stops _ _ _ _ _ (inl c.in-Idle.is) c.loop-turn.invariant.carried c.loop-turn.invariant.seats c.loop-turn-test.true c.in_ok-carry.ensures.ok in
    record { ok = done.0; err = tt; seats = done.1; want = tt }

pub returns-in-Waiting : goal.returns-in-Waiting
returns-in-Waiting c =
    let done = carry_stops _ _ _ _ _ (inr c.in-Waiting.is) c.loop-turn.invariant.carried c.loop-turn.invariant.seats c.loop-turn-test.true c.in_ok-carry.ensures.ok in
    record { ok = done.0; err = tt; seats = done.1; want = tt }

pub loop-turn-preserved : goal.loop-turn-preserved
loop-turn-preserved c =
    let more = carry_goes_on _ _ _ _ _ _ _ c.in-Frame.is c.loop-turn.invariant.carried c.loop-turn.invariant.seats c.in_ok-carry.ensures.ok in
    record { carried = more.0; seats = more.1 }

pub returns-clause-ok : goal.returns-clause-ok
returns-clause-ok c = carried_eight _ _ _ c.loop-turn.invariant.carried (search rules)
