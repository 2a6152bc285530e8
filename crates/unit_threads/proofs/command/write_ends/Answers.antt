use Rattle.std.proofs.Common.{IsOk, rules}
use Rattle.unit_threads.proofs.Writing.{end_more, of_ok}
use Rattle.unit_threads.proofs.command.write_ends.Goals as goal

pub loop-unit-preserved : goal.loop-unit-preserved
loop-unit-preserved g c =
    let ok : IsOk c.write_end.result = search rules in
    end_more c.args.garage.now _ _ _ c.args.ended.now c.loop-unit.unit _ (search rules) c.loop-unit.invariant (of_ok c.write_end.result ok c.write_end.ensures)
