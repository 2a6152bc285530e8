use Rattle.std.specs.Prelude.{ℕ}
use Rattle.station_table.specs.declared.error.StationError.{StationError}
use Rattle.station_table.specs.declared.error.StationError.TheVariants.{OutOfMemory, NotAnAddress, NoAddress, NotHeld}

-- the number of the station's refusal
abbrev pub station_error_number : StationError → ℕ
station_error_number OutOfMemory = 0
station_error_number NotAnAddress = 7
station_error_number NoAddress = 22
station_error_number NotHeld = 23
