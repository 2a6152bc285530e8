use Rattle.std.proofs.Common.{◌≡◌, []}
use Rattle.live_lines.proofs.member.Member.step.Given as goal

-- without faults none comes
abbrev pub invariant-loop : goal.invariant-loop
invariant-loop g l = l.fn.self.faults.all.items ≡ [] → l.self.faults.all.items ≡ []
