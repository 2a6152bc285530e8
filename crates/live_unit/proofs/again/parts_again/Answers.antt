use Rattle.std.proofs.Common.{arith}
use Rattle.node_core.specs.declared.out.Part.TheVariants as part
use Rattle.node_core.proofs.PartLists.{few_in_run}
use Rattle.live_unit.proofs.again.parts_again.Goals as goal

pub returns-clause-few : goal.returns-clause-few
returns-clause-few c = few_in_run (part.Session c.from.result) c.new-run.result c.run.result _ _ _ _ _ _ c.new-run.ensures.run (omega arith) c.run.ensures
