use Rattle.std.proofs.Common.{arith}
use Rattle.std.proofs.lemmas.Grind.{common_steps}
use Rattle.std.proofs.lemmas.Option.{gets}
use Rattle.bus_ledger.proofs.Ledgers.{counts_balanced, counts_carried}
use Rattle.bus_ledger.proofs.bus.Bus.counts.Goals as goal

pub returns-clause-balanced : goal.returns-clause-balanced
returns-clause-balanced c = counts_balanced c.self.inside c.args.self.now c.args.seat c.counts.result c.self.view_is c.self.invariant (grind (arith, common_steps, gets))

pub returns-clause-carried : goal.returns-clause-carried
returns-clause-carried c = counts_carried c.self.inside c.args.self.now c.args.seat c.counts.result c.self.view_is c.self.invariant (grind (arith, common_steps, gets))
