use Rattle.std.proofs.Common.{◌≡◌, length}
use Rattle.script_run.proofs.Stepping.{whole_slice}
use Rattle.script_run.proofs.bench.Bench.round.Goals as goal

pub returns : goal.returns
returns g c =
    let kept : length c.run_rounds.new.units ≡ c.args.self.now.units.len = cc (c.run_rounds.auto.units, c.deref_mut.ensures.len) in
    rw (whole_slice _ c.run_rounds.new.units c.args.self.now.units.items kept) (rw c.deref_mut.ensures.value at c.run_rounds.ensures)
