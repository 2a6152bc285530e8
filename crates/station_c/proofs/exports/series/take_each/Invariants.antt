use Rattle.std.proofs.Common.{◌≡◌, take, drop}
use Rattle.station_table.specs.Reactions.{silent}
use Rattle.station_c.specs.Series.{TakesFrames, reaction_told}
use Rattle.station_c.proofs.exports.series.take_each.Given as goal

-- the frames before the place were taken, and none was replied to; the changes from there on are untouched
abbrev pub invariant-loop-place : goal.invariant-loop-place
invariant-loop-place l =
    TakesFrames l.fn.station (take l.place l.frames) (take l.place l.changes) silent l.station
    × (reaction_told l.reply ≡ silent) × (drop l.place l.changes ≡ drop l.place l.initial.changes)
