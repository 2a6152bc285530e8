use Rattle.std.proofs.Common.{◌≡◌, None, Some, Err, ap, rules, subst, sym, refl}
use Rattle.script_answer.specs.declared.refusal.Refusal.TheVariants.{Garage}
use Rattle.script_run.specs.Steps.{CarriesSo, end_told}
use Rattle.script_run.proofs.Stepping.{carries_cut, carries_end, carries_next, carries_none}
use Rattle.script_run.proofs.garage_commands.carry.Goals as goal

pub loop-count-init : goal.loop-count-init
loop-count-init c = carries_none c.args.garage.now

pub returns-in_err-carry : goal.returns-in_err-carry
returns-in_err-carry c =
    let e = c.in_err-carry.field-0.0 in
    let told : c.from_residual.result ≡ Err (Garage e) = search rules in
    let err = c.in_err-carry.ensures in
    subst (λ r. CarriesSo c.args.most r c.args.garage.now c.carry.new.self) (sym told)
    (carries_cut c.loop-count.count c.args.most e c.args.garage.now c.loop-count.garage c.carry.new.self c.loop-count-test.true c.loop-count.invariant err.err.0 err.could
    (λ b. (err.full.0 (ap Err b)).1) (λ f. (let y = err.full.1 f in cc)) err.err.1)

pub returns-in-Some : goal.returns-in-Some
returns-in-Some c =
    let told : end_told (Some c.in_ok-carry.field-0) ≡ Some c.in-Some.end = search rules in
    carries_end c.loop-count.count c.args.most c.in_ok-carry.field-0 c.in-Some.end c.args.garage.now c.loop-count.garage c.carry.new.self c.loop-count-test.true told c.loop-count.invariant c.in_ok-carry.ensures.ok

pub loop-count-preserved : goal.loop-count-preserved
loop-count-preserved c =
    let told : end_told (Some c.in_ok-carry.field-0) ≡ None = search rules in
    carries_next c.loop-count.count _ c.in_ok-carry.field-0 c.args.garage.now c.loop-count.garage c.carry.new.self refl told c.loop-count.invariant c.in_ok-carry.ensures.ok
