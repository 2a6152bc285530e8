use Rattle.std.proofs.Common.{◌≡◌, take}
use Rattle.entry_lists.specs.Newest.{newest_under}
use Rattle.station_c.proofs.saving.keep_same.Given as goal

-- the entries before the place are the same
abbrev pub invariant-loop-place : goal.invariant-loop-place
invariant-loop-place l = take l.place (newest_under l.others l.name l.kind).entries ≡ take l.place (newest_under l.lists l.name l.kind).entries
