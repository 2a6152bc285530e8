use Rattle.script_run.proofs.AtBench.{by_unit}
use Rattle.script_run.proofs.bench.Bench.carry_out.Goals as goal

pub returns-in-Change-clause-did : goal.returns-in-Change-clause-did
returns-in-Change-clause-did g c = by_unit _ _ c.args.station c.in-Change.seat _ _ _ _ _ _ _ c.in-Change.is (λ h. h) c.act.ensures

pub returns-in-Lamps-clause-did : goal.returns-in-Lamps-clause-did
returns-in-Lamps-clause-did g c = by_unit _ _ c.args.station c.in-Lamps.seat _ _ _ _ _ _ _ c.in-Lamps.is (λ h. h) c.act-in-Lamps.ensures

pub returns-in-Think-clause-did : goal.returns-in-Think-clause-did
returns-in-Think-clause-did g c = by_unit _ _ c.args.station c.in-Think.seat _ _ _ _ _ _ _ c.in-Think.is (λ h. h) c.act-in-Think.ensures

pub returns-in-Turn-clause-did : goal.returns-in-Turn-clause-did
returns-in-Turn-clause-did g c = by_unit _ _ c.args.station c.in-Turn.seat _ _ _ _ _ _ _ c.in-Turn.is (λ h. h) c.act-in-Turn.ensures

pub returns-in-Hear-clause-did : goal.returns-in-Hear-clause-did
returns-in-Hear-clause-did g c = by_unit _ _ c.args.station c.in-Hear.seat _ _ _ _ _ _ _ c.in-Hear.is (λ h. h) c.act-in-Hear.ensures

pub returns-in-Dm1-clause-did : goal.returns-in-Dm1-clause-did
returns-in-Dm1-clause-did g c = by_unit _ _ c.args.station c.in-Dm1.seat _ _ _ _ _ _ _ c.in-Dm1.is (λ h. h) c.act-in-Dm1.ensures
