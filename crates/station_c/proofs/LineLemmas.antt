-- Lines that were read one after the other, and one more.
use Rattle.std.proofs.Common.{◌≡◌, ◌+◌, ◌<◌, ℕ, List, set, take, length}
use Rattle.std.proofs.lemmas.List.{take_more_set}
use Rattle.can_frame.specs.FrameValue.{FrameValue}
use Rattle.station_c.specs.Lines.{ReadsLines, ReadsFrame, TellsAt}
use Rattle.station_c.specs.Records.{frame_recorded}
use Rattle.station_c.specs.declared.log_records.LoggedRecord.{LoggedRecord}
use Rattle.station_c.specs.declared.records.FrameRecord.{FrameRecord}
use Rattle.station_c.specs.declared.told.LineContent.TheVariants as told

-- the frame of one more line stands behind those of the lines before
pub one_frame_more : (text wanted : List ℕ) (from to lines time i : ℕ) (fs : List FrameRecord) (ls : List LoggedRecord) (f : FrameValue) (r : FrameRecord)
    → ReadsLines text wanted from lines (take i fs) (take i ls) told.Nothing → TellsAt text wanted from to (told.Frame time f) → frame_recorded r ≡ f
    → i < length fs → i < length ls
    → ReadsLines text wanted to (lines + 1) (take (i + 1) (set fs i r)) (take (i + 1) (set ls i (record { time = time; line = lines + 1 }))) told.Nothing
one_frame_more text wanted from to lines time i fs ls f r before tells is low high =
    rw (take_more_set fs i r low, take_more_set ls i (record { time = time; line = lines + 1 }) high)
    (ReadsFrame text wanted from to lines time (take i fs) (take i ls) f r before tells is)
