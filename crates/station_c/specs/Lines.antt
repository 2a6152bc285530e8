-- Lines of a log, which were read one after the other.
use Rattle.std.specs.Borrow.{Bor}
use Rattle.std.specs.Prelude.{◌≡◌, ◌⊎◌, ◌+◌, ◌<◌, ◌^◌, ◌==◌, ℕ, List, [], ◌∷◌, ◌++◌, Option, Some, None, drop, take, if◌then◌else◌}
use Rattle.can_frame.specs.FrameValue.{FrameValue}
use Rattle.candump_line.specs.LineText.{IsBusName, IsDataFrame, IsFraction, IsLineEnd, micros_of_ticks, ticks_text, timed_line}
use Rattle.candump_line.specs.Logged.{frame_read}
use Rattle.candump_line.specs.declared.line.Line.{Line}
use Rattle.candump_line.specs.declared.line.Line.TheVariants as line
use Rattle.candump_line.specs.declared.reason.Reason.{Reason}
use Rattle.candump_line.specs.declared.reason.Reason.TheVariants.{TooLong, NotText, NoTime, NoBus, NoFrame, NoHash, IdDigits, IdTooLarge, TooManyBytes, ByteCount, OddDigits, NoDigit, ControlCharacter, WordsBehind}
use Rattle.memchr.specs.Find.{IsFirstByte, is_byte}
use Rattle.station_c.specs.Records.{frame_recorded}
use Rattle.station_c.specs.declared.log_records.LoggedRecord.{LoggedRecord}
use Rattle.station_c.specs.declared.log_records.ReadRecord.{ReadRecord}
use Rattle.station_c.specs.declared.records.FrameRecord.{FrameRecord}
use Rattle.station_c.specs.declared.told.LineContent.{LineContent}
use Rattle.station_c.specs.declared.told.LineContent.TheVariants as told
use Rattle.station_c.specs.declared.told.TheConstants.{NO_TIME}

-- the number of the reason why a line is bad
abbrev pub why_told : Reason → ℕ
why_told TooLong = 1
why_told NotText = 2
why_told NoTime = 3
why_told NoBus = 4
why_told NoFrame = 5
why_told NoHash = 6
why_told (IdDigits found) = 7
why_told IdTooLarge = 8
why_told TooManyBytes = 9
why_told (ByteCount there found) = 10
why_told OddDigits = 11
why_told (NoDigit c) = 12
why_told (ControlCharacter c) = 12
why_told WordsBehind = 13

-- the microseconds that are told of a time
abbrev pub micros_told : Option ℕ → ℕ
micros_told None = NO_TIME
micros_told (Some time) = time

-- what a line was read as: one that was written as candump -L writes it, as that time, bus and frame
pub record ReadsAs (text : List ℕ) (said : Line) : Type 0 where
  pub logged : (digits ticks : ℕ) (bus : List ℕ) (f : FrameValue) (end : List ℕ) → IsFraction digits → ticks < 10 ^ (10 + digits) → IsBusName bus → IsDataFrame f → IsLineEnd end
      → text ≡ timed_line (ticks_text digits ticks) bus f ++ end → frame_read said ≡ Some (micros_of_ticks digits ticks, bus, f)

-- a line that names this bus is of the one that is wanted, and one that names none is of no bus; every one is where that is empty
abbrev pub IsOf : List ℕ → Option (Bor (List ℕ)) → Type 0
IsOf wanted None = wanted ≡ []
IsOf wanted (Some bus) = (wanted ≡ []) ⊎ (bus.now ≡ wanted)

-- frames that were dropped may be of it where no bus is named, too
abbrev pub MayBeOf : List ℕ → Option (Bor (List ℕ)) → Type 0
MayBeOf wanted None = Unit {0}
MayBeOf wanted (Some bus) = IsOf wanted (Some bus)

-- what is told of a line: this, where it is of the bus, else nothing
pub record IsToldWhere (here : Type 0) (it result : LineContent) : Type 0 where
  pub of : here → result ≡ it
  pub other : ¬ here → result ≡ told.Nothing

-- what a line tells of a bus
abbrev pub LineTells : List ℕ → Line → LineContent → Type 0
LineTells wanted (line.Frame time bus f) result = IsToldWhere (IsOf wanted bus) (told.Frame (micros_told time) f) result
LineTells wanted (line.Dropped bus count) result = IsToldWhere (MayBeOf wanted bus) (told.Missed count) result
LineTells wanted (line.Overflow time bus) result = IsToldWhere (IsOf wanted bus) (told.Missed 1) result
LineTells wanted (line.Foreign bus what) result = result ≡ told.Nothing
LineTells wanted line.Note result = result ≡ told.Nothing
LineTells wanted (line.Bad reason) result = result ≡ told.Bad (why_told reason)

-- the line that begins at a place of a text and ends before another one, with its end, which is the first line feed there, tells this
pub record TellsAt (text wanted : List ℕ) (from to : ℕ) (result : LineContent) : Type 0 where
  pub end : ℕ
  pub first : IsFirstByte (is_byte 10) (drop from text) (Some end)
  pub behind : to ≡ from + end + 1
  pub said : Line
  pub reads : ReadsAs (take (end + 1) (drop from text)) said
  pub tells : LineTells wanted said result

-- no whole line begins at a place of a text
abbrev pub HasNoLine : List ℕ → ℕ → Type 0
HasNoLine text from = IsFirstByte (is_byte 10) (drop from text) None

-- it is no frame
abbrev pub IsNoFrame : LineContent → Type 0
IsNoFrame (told.Frame time f) = ⊥
IsNoFrame _ = Unit {0}

-- so many bytes of a text were read, of so many lines, one after the other, with the frames that they told, when and in which line; and
-- what the last one told beside: each line is read once, in its order, and none behind one that told of missed frames or was bad
pub data ReadsLines : List ℕ → List ℕ → ℕ → ℕ → List FrameRecord → List LoggedRecord → LineContent → Type 0 where
  ReadsNone : (text wanted : List ℕ) → ReadsLines text wanted 0 0 [] [] told.Nothing
  ReadsFrame : (text wanted : List ℕ) (from to lines time : ℕ) (fs : List FrameRecord) (ls : List LoggedRecord) (f : FrameValue) (r : FrameRecord)
      → ReadsLines text wanted from lines fs ls told.Nothing → TellsAt text wanted from to (told.Frame time f) → frame_recorded r ≡ f
      → ReadsLines text wanted to (lines + 1) (fs ++ r ∷ []) (ls ++ (record { time = time; line = lines + 1 }) ∷ []) told.Nothing
  ReadsOther : (text wanted : List ℕ) (from to lines : ℕ) (fs : List FrameRecord) (ls : List LoggedRecord) (result : LineContent)
      → ReadsLines text wanted from lines fs ls told.Nothing → TellsAt text wanted from to result → IsNoFrame result
      → ReadsLines text wanted to (lines + 1) fs ls result

-- what a record says that the last line told beside frames
abbrev pub told_beside : ReadRecord → LineContent
told_beside read = if read.what == 1 then told.Missed read.missed else (if read.what == 2 then told.Bad read.why else told.Nothing)

-- lines with so many frames were read, and the last one told nothing beside
abbrev pub read_frames : ℕ → ℕ → ℕ → ReadRecord
read_frames bytes lines frames = record { bytes = bytes; frames = frames; lines = lines; missed = 0; what = 0; why = 0 }
