use Rattle.std.specs.Prelude.{ℕ}
use Rattle.transport.specs.declared.control.ControlError.{ControlError}
use Rattle.transport.specs.declared.control.ControlError.TheVariants.{BadControl, BadSize}

-- the number of a refusal
abbrev pub control_error_number : ControlError → ℕ
control_error_number BadControl = 5
control_error_number BadSize = 6
