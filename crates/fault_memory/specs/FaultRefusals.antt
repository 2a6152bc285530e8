use Rattle.std.specs.Prelude.{ℕ}
use Rattle.fault_memory.specs.declared.error.FaultError.{FaultError}
use Rattle.fault_memory.specs.declared.error.FaultError.TheVariants.{OutOfMemory, SpnTooLarge, FmiTooLarge, Full, NotActive, NotPending}

-- the number of each refusal
abbrev pub fault_error_number : FaultError → ℕ
fault_error_number OutOfMemory = 0
fault_error_number SpnTooLarge = 9
fault_error_number FmiTooLarge = 10
fault_error_number Full = 13
fault_error_number NotActive = 14
fault_error_number NotPending = 29
