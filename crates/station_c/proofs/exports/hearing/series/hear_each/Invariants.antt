use Rattle.std.proofs.Common.{◌≡◌, take, drop, true}
use Rattle.std.specs.List.{list_all}
use Rattle.station_c.specs.HeardSeries.{HearsFrames, tells_all}
use Rattle.station_c.proofs.exports.hearing.series.hear_each.Given as goal

-- the frames before the place were taken, and all was told of each; what stands from there on is untouched
abbrev pub invariant-loop-place : goal.invariant-loop-place
invariant-loop-place l =
    HearsFrames l.fn.listener (take l.place l.frames) (take l.place l.logged) (take l.place l.heard) l.listener
    × ((drop l.place l.heard ≡ drop l.place l.initial.heard) × (list_all tells_all (take l.place l.heard) ≡ true))
