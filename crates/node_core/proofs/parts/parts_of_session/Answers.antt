use Rattle.std.proofs.Common.{◌+◌, ◌-◌, length, ap, arith}
use Rattle.node_core.specs.declared.out.Part.TheVariants.{Session}
use Rattle.node_core.proofs.PartLists.{few_in_run}
use Rattle.node_core.proofs.parts.parts_of_session.Goals as goal

pub returns-clause-few : goal.returns-clause-few
returns-clause-few c =
    let first = c.next_unsent-first.result in
    few_in_run (Session first) c.new-run.result c.run.result c.in_ok-payload.payload c.pgn.result c.args.source c.dest.result first (first - 1 + c.args.count) c.new-run.ensures.run
    (omega (arith, ap length c.payload-bytes.ensures.value)) c.run.ensures
