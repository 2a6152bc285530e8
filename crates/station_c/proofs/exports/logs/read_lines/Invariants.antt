use Rattle.std.proofs.Common.{◌-◌, ◌≡◌, ◌≤◌, drop, length, take}
use Rattle.station_c.specs.Lines.{ReadsLines}
use Rattle.station_c.specs.declared.told.LineContent.TheVariants.{Nothing}
use Rattle.station_c.proofs.exports.logs.read_lines.Given as goal

-- the lines before the place were read, and the last one told nothing beside; what stands behind their frames is untouched
abbrev pub invariant-loop-count : goal.invariant-loop-count
invariant-loop-count l = record {
  lines : ReadsLines l.text l.bus l.from l.lines (take l.count l.frames) (take l.count l.logged) Nothing;
  within : l.from ≤ length l.text;
  few : l.lines ≤ l.from;
  room : l.count ≤ l.room;
  frames : drop l.count l.frames ≡ drop l.count l.initial.frames;
  logged : drop l.count l.logged ≡ drop l.count l.initial.logged;
}

-- each line has a byte at least
abbrev pub decreases-loop-count : goal.decreases-loop-count
decreases-loop-count l = length l.text - l.from
