-- The class of the colour of how bad something is.
use Rattle.std.specs.Prelude.{ℕ, List, codes}
use Rattle.picture.specs.Severities.{of_lamp}
use Rattle.picture.specs.declared.severity.Severity.{Severity}
use Rattle.picture.specs.declared.severity.Severity.TheVariants as bad
use Rattle.trouble_code.specs.declared.lamps.LampName.{LampName}

abbrev pub colour : Severity → List ℕ
colour bad.Fine = codes "fine"
colour bad.Partly = codes "changing"
colour bad.Codes = codes "codes"
colour bad.Protect = codes "protect"
colour bad.Malfunction = codes "mil"
colour bad.Amber = codes "amber"
colour bad.Red = codes "red"

-- of a lamp that is on: of how bad that is
abbrev pub lamp_colour : LampName → List ℕ
lamp_colour name = colour (of_lamp name)
