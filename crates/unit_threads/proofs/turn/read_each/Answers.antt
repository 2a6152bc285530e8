use Rattle.std.proofs.Common.{IfErr, arith, rules}
use Rattle.garage.specs.Calls.{IsNoMemoryOrFull}
use Rattle.unit_threads.specs.Turns.{IsPartOfReading}
use Rattle.unit_threads.proofs.Reading.{read_part, wants_and}
use Rattle.unit_threads.proofs.turn.read_each.Goals as goal

pub returns-in_err-read_all-clause-err : goal.returns-in_err-read_all-clause-err
returns-in_err-read_all-clause-err c =
    let part : IsPartOfReading c.args.garage.now c.read_all.new.garage =
    read_part c.loop-station.station c.args.garage.now c.loop-station.garage c.read_all.new.garage (omega (arith, c.loop-station-test.true, c.stations-station-end.ensures.count)) c.loop-station.invariant c.in_err-read_all.ensures.reads in
    let want : IfErr c.from_residual.result IsNoMemoryOrFull = search rules in
    wants_and c.from_residual.result (IsPartOfReading c.args.garage.now c.read_all.new.garage) want part
