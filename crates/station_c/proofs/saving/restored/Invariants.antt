use Rattle.std.proofs.Common.{◌≡◌, take}
use Rattle.entry_lists.specs.Newest.{KeepsNewest}
use Rattle.station_table.specs.Listing.{lists_heard}
use Rattle.station_table.specs.StandsFor.{StandsFor}
use Rattle.station_c.specs.Saving.{frames_read}
use Rattle.station_c.proofs.saving.restored.Given as goal

-- the station read the frames before the index
abbrev pub invariant-loop-record : goal.invariant-loop-record
invariant-loop-record l =
    StandsFor (record { name = l.fn.name; address = l.fn.address }) 1 l.station.station (frames_read (take l.record-index l.frames))
    × KeepsNewest l.station.lists (lists_heard (record { name = l.fn.name; address = l.fn.address }) (frames_read (take l.record-index l.frames)))
    × (l.station.lists.keep ≡ l.fn.keep)
