use Rattle.std.proofs.Common.{◌≡◌, ◌-◌, ◌^◌, take}
use Rattle.std.specs.Prelude.{min, sum_by}
use Rattle.log_lines.proofs.bad_lines.BadLines.untold.Given as goal

abbrev pub invariant-loop-count : goal.invariant-loop-count
invariant-loop-count l = l.total ≡ min (sum_by (λ count. count - 10) (take l.count-index l.self.counts)) (2 ^ 64 - 1)
