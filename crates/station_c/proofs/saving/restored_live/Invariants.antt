use Rattle.std.proofs.Common.{take}
use Rattle.station_c.specs.ListedLives.{StandsLive}
use Rattle.station_c.specs.Saving.{frames_read}
use Rattle.station_c.proofs.saving.restored_live.Given as goal

-- the station heard the frames before the index
abbrev pub invariant-loop-record : goal.invariant-loop-record
invariant-loop-record l = StandsLive (record { name = l.fn.name; address = l.fn.address }) 1 l.fn.keep l.station (frames_read (take l.record-index l.frames))
