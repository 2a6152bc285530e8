use Rattle.std.proofs.Common.{refl}
use Rattle.live_lines.proofs.FaultLemmas.{met_as, nothing_met}
use Rattle.live_lines.proofs.faults.Faults.carry.Goals as goal

pub returns-in-Some-clause-without : goal.returns-in-Some-clause-without
returns-in-Some-clause-without c = λ e.
    absurd (nothing_met c.args.self.now.all.items c.in-Some.deviation c.args.now c.args.frame.now
    (met_as _ c.args.self.now.all.items c.in-Some.deviation c.in-Some.deviation c.args.now c.args.frame.now c.as_mut_slice.ensures.value refl c.in-Some.ensures.met) e)

pub returns-in-Some-clause-changed : goal.returns-in-Some-clause-changed
returns-in-Some-clause-changed c = λ d e. let h = c.change.ensures.changed d e in (h.1, h.2)

pub returns-in-Some-clause-met : goal.returns-in-Some-clause-met
returns-in-Some-clause-met c = λ d e.
    met_as _ c.args.self.now.all.items c.in-Some.deviation d c.args.now c.args.frame.now c.as_mut_slice.ensures.value (c.change.ensures.changed d e).0 c.in-Some.ensures.met
