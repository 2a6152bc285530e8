use Rattle.std.specs.Prelude.{ℕ}
use Rattle.trouble_code.specs.declared.error.DtcError.{DtcError}
use Rattle.trouble_code.specs.declared.error.DtcError.TheVariants.{SpnTooLarge, FmiTooLarge, CountTooLarge, NoCode, OldConversion}

-- the number of each refusal
abbrev pub dtc_error_number : DtcError → ℕ
dtc_error_number SpnTooLarge = 9
dtc_error_number FmiTooLarge = 10
dtc_error_number CountTooLarge = 11
dtc_error_number NoCode = 12
dtc_error_number OldConversion = 16
