use Rattle.std.specs.Prelude.{ℕ}
use Rattle.bus_ledger.specs.declared.error.BusError.{BusError}
use Rattle.bus_ledger.specs.declared.error.BusError.TheVariants.{OutOfMemory, NameInUse, TooManySeats}

-- the number that a refusal is written with
abbrev pub bus_error_number : BusError → ℕ
bus_error_number OutOfMemory = 0
bus_error_number NameInUse = 19
bus_error_number TooManySeats = 20
