use Rattle.std.proofs.Common.{◌≡◌}
use Rattle.live_lines.proofs.member.Member.act.Given as goal

abbrev pub invariant-loop : goal.invariant-loop
invariant-loop g l = l.self.faults ≡ l.initial.self.faults
