use Rattle.std.proofs.Common.{◌-◌, refl, rules, arith}
use Rattle.std.specs.Vec.{vec_len}
use Rattle.std.proofs.lemmas.Grind.{common_steps}
use Rattle.bus_watch.proofs.Runs.{newest_does_not, newest_goes_on}
use Rattle.bus_watch.proofs.run.lengthen.Goals as goal

pub returns-clause-came : goal.returns-clause-came
returns-clause-came c goes =
    newest_goes_on c.args.runs.now.items (vec_len c.args.runs.now - 1) c.in-Some.newest.now _ (record { what = c.args.what.now; time = c.args.time; contested = c.args.contested })
    (grind (arith, common_steps)) c.in-Some.ensures.value (search rules) refl

pub returns-then-not-goes_on-clause-begins : goal.returns-then-not-goes_on-clause-begins
returns-then-not-goes_on-clause-begins c goes =
    newest_does_not c.args.runs.now.items (vec_len c.args.runs.now - 1) c.in-Some.newest.now (record { what = c.args.what.now; time = c.args.time; contested = c.args.contested })
    (grind (arith, common_steps)) c.in-Some.ensures.value (search rules)
