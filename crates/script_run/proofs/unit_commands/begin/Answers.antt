use Rattle.std.proofs.Common.{◌≡◌, Err, rules}
use Rattle.script_answer.specs.declared.refusal.Refusal.TheVariants.{Garage}
use Rattle.script_run.proofs.Refusing.{begin_refused}
use Rattle.script_run.proofs.unit_commands.begin.Goals as goal

pub returns-in_err-let_begin-clause-did : goal.returns-in_err-let_begin-clause-did
returns-in_err-let_begin-clause-did g c =
    let told : c.from_residual.result ≡ Err (Garage c.in_err-let_begin.field-0.0) = search rules in
    let err = c.in_err-let_begin.ensures in
    rw told (begin_refused
    (λ p. record { seat = p.seat; name = (goal.Unit-dyn g (p.unit.vtable, p.unit.value)).name_of p.unit.value; events = p.events; memory = (goal.Unit-dyn g (p.unit.vtable, p.unit.value)).memory_of p.unit.value })
    _ _ c.args.garage.now c.let_begin.new.self c.args.parked.now c.let_begin.new.parked c.in_err-let_begin.field-0.0
    err.stranger err.unclaimed err.held err.full err.only err.err.0 err.err.1)
