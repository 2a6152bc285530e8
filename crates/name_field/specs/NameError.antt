use Rattle.std.specs.Prelude.{ℕ}
use Rattle.name_field.specs.declared.error.NameError.{NameError}
use Rattle.name_field.specs.declared.error.NameError.TheVariants.{FieldTooLarge, BadName}

-- the number of a refusal
abbrev pub name_error_number : NameError → ℕ
name_error_number FieldTooLarge = 3
name_error_number BadName = 4
