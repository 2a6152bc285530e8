use Rattle.unit_threads.specs.Written.{IsRunTold}
use Rattle.unit_threads.proofs.Writing.{spelled_told}
use Rattle.unit_threads.proofs.command.threads.Goals as goal

pub returns-in-Ok-clause-told : goal.returns-in-Ok-clause-told
returns-in-Ok-clause-told g c =
    spelled_told _ c.in_ok-vehicle.vehicle (λ v. IsRunTold c.args.turns v c.args.report (g.W.Write.contents c.args.writer.now) (g.W.Write.contents c.run_vehicle.new.writer)) c.in_ok-vehicle.ensures.spelled c.in-Ok.ensures.told
