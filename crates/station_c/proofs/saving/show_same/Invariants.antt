use Rattle.std.proofs.Common.{◌<◌, ℕ}
use Rattle.station_c.specs.Saving.{ShowSameAt}
use Rattle.station_c.proofs.saving.show_same.Given as goal

-- the rows before the place show the same
abbrev pub invariant-loop-place : goal.invariant-loop-place
invariant-loop-place l = (k : ℕ) → k < l.place → ShowSameAt k l.station l.other l.lists l.others
