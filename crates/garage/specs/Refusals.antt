use Rattle.std.specs.Prelude.{ℕ, ◌≡◌, ◌⊎◌}
use Rattle.garage.specs.declared.error.GarageError.{GarageError}
use Rattle.garage.specs.declared.error.GarageError.TheVariants.{OutOfMemory, NotAnAddress, NameInUse, TooManySeats, BookFull, NoAddress, NotHeld, BadSetting, Stranger, Unclaimed}
use Rattle.bus_ledger.specs.declared.error.BusError.{BusError}
use Rattle.bus_ledger.specs.declared.error.BusError.TheVariants as bus
use Rattle.node_core.specs.declared.error.NodeError.{NodeError}
use Rattle.node_core.specs.declared.error.NodeError.TheVariants as node
use Rattle.station_table.specs.declared.error.StationError.{StationError}
use Rattle.station_table.specs.declared.error.StationError.TheVariants as station

-- the number that a refusal is written with
abbrev pub garage_error_number : GarageError → ℕ
garage_error_number OutOfMemory = 0
garage_error_number NotAnAddress = 7
garage_error_number NameInUse = 19
garage_error_number TooManySeats = 20
garage_error_number BookFull = 21
garage_error_number NoAddress = 22
garage_error_number NotHeld = 23
garage_error_number BadSetting = 24
garage_error_number Stranger = 25
garage_error_number Unclaimed = 26

-- the bus's refusals under the garage's names
abbrev pub of_bus : BusError → GarageError
of_bus bus.OutOfMemory = OutOfMemory
of_bus bus.NameInUse = NameInUse
of_bus bus.TooManySeats = TooManySeats

-- a unit's
abbrev pub of_node : NodeError → GarageError
of_node node.OutOfMemory = OutOfMemory
of_node node.Unclaimed = Unclaimed

-- the station's
abbrev pub of_station : StationError → GarageError
of_station station.OutOfMemory = OutOfMemory
of_station station.NotAnAddress = NotAnAddress
of_station station.NoAddress = NoAddress
of_station station.NotHeld = NotHeld

-- what a join may be refused with
abbrev pub IsJoinRefusal : GarageError → Type 0
IsJoinRefusal e = (e ≡ NameInUse) ⊎ (e ≡ TooManySeats) ⊎ (e ≡ BookFull) ⊎ (e ≡ OutOfMemory)
