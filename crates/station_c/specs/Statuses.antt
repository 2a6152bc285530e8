-- What a call from C answers, as a number.
use Rattle.std.specs.Prelude.{◌≡◌, ◌⊎◌, ℕ, Result, Ok, Err}
use Rattle.can_frame.specs.declared.frame.FrameError.{FrameError}
use Rattle.can_frame.specs.declared.frame.FrameError.TheVariants as frame
use Rattle.fault_memory.specs.declared.error.FaultError.{FaultError}
use Rattle.fault_memory.specs.declared.error.FaultError.TheVariants as fault
use Rattle.live_station.specs.declared.error.HearError.{HearError}
use Rattle.live_station.specs.declared.error.HearError.TheVariants as hearing
use Rattle.live_station.specs.declared.error.OrderError.{OrderError}
use Rattle.live_station.specs.declared.error.OrderError.TheVariants as order
use Rattle.live_unit.specs.declared.error.LiveError.{LiveError}
use Rattle.live_unit.specs.declared.error.LiveError.TheVariants as live
use Rattle.shared_groups.specs.declared.error.SharedError.{SharedError}
use Rattle.shared_groups.specs.declared.error.SharedError.TheVariants as shared
use Rattle.station_table.specs.declared.error.StationError.{StationError}
use Rattle.station_table.specs.declared.error.StationError.TheVariants as station
use Rattle.station_c.specs.declared.status.Status.{Status}
use Rattle.station_c.specs.declared.status.Status.TheVariants.{Done, IdTooLarge, TooLong, NotAnAddress, NoAddress, NotHeld, BadSetting, PgnTooLarge, NoStation, HasStation, NoPlace, NoKind, OutOfMemory, NotKept, SpnTooLarge, FmiTooLarge, MemoryFull, NotActive, NoUnit, HasUnit, QueueFull, SessionOpen, NotPending, NoListener, HasListener, OrderOpen, NoGroup, NoRoom, NotSaved}

-- the number of each
abbrev pub status_number : Status → ℕ
status_number Done = 0
status_number IdTooLarge = 1
status_number TooLong = 2
status_number NotAnAddress = 7
status_number NoAddress = 22
status_number NotHeld = 23
status_number BadSetting = 24
status_number PgnTooLarge = 28
status_number NoStation = 29
status_number HasStation = 30
status_number NoPlace = 31
status_number NoKind = 32
status_number OutOfMemory = 33
status_number NotKept = 34
status_number SpnTooLarge = 9
status_number FmiTooLarge = 10
status_number MemoryFull = 13
status_number NotActive = 14
status_number NoUnit = 35
status_number HasUnit = 36
status_number QueueFull = 37
status_number SessionOpen = 38
status_number NotPending = 39
status_number NoListener = 40
status_number HasListener = 41
status_number OrderOpen = 42
status_number NoGroup = 43
status_number NoRoom = 44
status_number NotSaved = 45

-- the refusal of a frame
abbrev pub status_of_frame : FrameError → Status
status_of_frame frame.IdTooLarge = IdTooLarge
status_of_frame frame.TooLong = TooLong

-- a refusal of the station
abbrev pub status_of_station : StationError → Status
status_of_station station.OutOfMemory = OutOfMemory
status_of_station station.NotAnAddress = NotAnAddress
status_of_station station.NoAddress = NoAddress
status_of_station station.NotHeld = NotHeld

-- the refusal of a change by a fault memory
abbrev pub status_of_fault : FaultError → Status
status_of_fault fault.OutOfMemory = OutOfMemory
status_of_fault fault.SpnTooLarge = SpnTooLarge
status_of_fault fault.FmiTooLarge = FmiTooLarge
status_of_fault fault.Full = MemoryFull
status_of_fault fault.NotActive = NotActive
status_of_fault fault.NotPending = NotPending

-- a refusal of a unit that takes part in a bus
abbrev pub status_of_live : LiveError → Status
status_of_live live.OutOfMemory = OutOfMemory
status_of_live live.Unclaimed = NotHeld
status_of_live live.Full = QueueFull

-- the refusal of a frame by a live station
abbrev pub status_of_hearing : HearError → Status
status_of_hearing hearing.OutOfMemory = OutOfMemory
status_of_hearing hearing.Full = QueueFull

-- the refusal of an order
abbrev pub status_of_order : OrderError → Status
status_of_order order.Open = OrderOpen
status_of_order order.NotAnAddress = NotAnAddress

-- a refusal of groups that a program shares
abbrev pub status_of_shared : SharedError → Status
status_of_shared shared.OutOfMemory = OutOfMemory
status_of_shared shared.Full = QueueFull
status_of_shared shared.NoGroup = NoGroup
status_of_shared shared.NotHeld = NotHeld
status_of_shared shared.TooLong = TooLong
status_of_shared shared.NotAnAddress = NotAnAddress
status_of_shared shared.SessionOpen = SessionOpen

abbrev pub status_of_sharing : Result (Unit {0}) SharedError → Status
status_of_sharing (Ok x) = Done
status_of_sharing (Err refusal) = status_of_shared refusal

-- the number that a call answered is this one's
abbrev pub Answers : ℕ → Status → Type 0
Answers number status = number ≡ status_number status

-- a call with a station and lawful arguments: it was done, or memory was refused
abbrev pub DoneUnlessMemory : ℕ → Type 0
DoneUnlessMemory number = Answers number Done ⊎ Answers number OutOfMemory
