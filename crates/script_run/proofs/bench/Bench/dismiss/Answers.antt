use Rattle.std.proofs.Common.{◌≡◌, Err, rules}
use Rattle.garage.specs.declared.error.GarageError.TheVariants.{Stranger}
use Rattle.script_answer.specs.declared.refusal.Refusal.TheVariants.{Garage}
use Rattle.script_run.proofs.AtBench.{left, not_left, stands}
use Rattle.script_run.proofs.bench.Bench.dismiss.Goals as goal

pub returns-in_err-dismiss : goal.returns-in_err-dismiss
returns-in_err-dismiss g c =
    let stranger : c.from_residual.result ≡ Err (Garage Stranger) = search rules in
    let at = stands _ c.args.self.now.units.items c.as_slice.result.now c.in-Some.place c.args.seat c.remove.result c.as_slice.ensures.value c.in-Some.ensures.within c.in-Some.ensures.its c.remove.ensures.value in
    not_left _ _ _ c.in-Some.place c.args.seat _ _ _ c.remove.result at c.remove.ensures.items stranger c.in_err-dismiss.ensures.err.1

pub returns : goal.returns
returns g c =
    let at = stands _ c.args.self.now.units.items c.as_slice.result.now c.in-Some.place c.args.seat c.remove.result c.as_slice.ensures.value c.in-Some.ensures.within c.in-Some.ensures.its c.remove.ensures.value in
    left _ _ _ c.in-Some.place c.args.seat _ _ c.remove.result at c.remove.ensures.items c.in_ok-dismiss.ensures.ok
