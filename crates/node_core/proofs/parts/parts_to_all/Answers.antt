use Rattle.std.proofs.Common.{arith}
use Rattle.node_core.specs.declared.out.Part.TheVariants.{Begun}
use Rattle.node_core.proofs.PartLists.{few_in_run}
use Rattle.node_core.proofs.parts.parts_to_all.Goals as goal

pub returns-clause-few : goal.returns-clause-few
returns-clause-few c =
    few_in_run (Begun 0) c.new-run.result c.run.result c.args.payload c.pgn-pgn.result c.args.begun.source 255 0 c.packets-end.result c.new-run.ensures.run
    (omega (arith, c.packets-end.ensures.count)) c.run.ensures
