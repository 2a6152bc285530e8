-- What units told by DM1 at any time of a log, as far as that is kept.
use Rattle.std.specs.Prelude.{ℕ, ◌-◌, ◌&&◌, Bool, if◌then◌else◌, nat_lt, List, [], ◌∷◌, Option, None, Some, length, option_map}
use Rattle.std.specs.Map.{lookup}
use Rattle.std.specs.Option.{option_map_or}
use Rattle.picture.specs.Severities.{rank, worst_shown}
use Rattle.picture.specs.Units.{same_drawn_key}
use Rattle.picture.specs.declared.appearance.Appearance.{Appearance}
use Rattle.picture.specs.declared.ever.Ever.{Ever}
use Rattle.picture.specs.declared.ever_in_log.EverInLog.{EverInLog}
use Rattle.picture.specs.declared.ever_lamps.EverLamps.{EverLamps}
use Rattle.picture.specs.declared.ever_in_log.TheConstants.{SILENCE}
use Rattle.picture.specs.declared.severity.Severity.{Severity}
use Rattle.picture.specs.declared.severity.Severity.TheVariants as bad
use Rattle.picture.specs.declared.unit.DrawnUnit.{DrawnUnit}

abbrev pub active_of : EverInLog → DrawnUnit → Option Ever
active_of log unit = option_map (λ one. one.dm1) (lookup (same_drawn_key unit) log.units.entries)

-- whether something came, and how bad each is that may
abbrev pub came : Appearance → Bool
came a = nat_lt 0 a.times

abbrev pub may_have_come : EverLamps → Bool → List (Bool × Severity)
may_have_come lamps with_codes =
    (came lamps.protect, bad.Protect) ∷ (came lamps.malfunction, bad.Malfunction) ∷ (came lamps.amber, bad.Amber) ∷ (came lamps.red, bad.Red)
    ∷ (with_codes, bad.Codes) ∷ []

abbrev pub worst_came : Ever → ℕ
worst_came e = worst_shown (may_have_come e.lamps (nat_lt 0 (length e.codes.items)))

-- how bad the worst is that a unit told
abbrev pub worst_in : EverInLog → DrawnUnit → ℕ
worst_in log unit = option_map_or worst_came (active_of log unit) (rank bad.Fine)

-- how long it was not heard at the end, where that is too long and the newest told of a fault
abbrev pub silent_from : Option ℕ → Option ℕ → Severity → Option ℕ
silent_from (Some last) (Some end) newest = if nat_lt SILENCE (end - last) && nat_lt (rank bad.Fine) (rank newest) then Some (end - last) else None
silent_from _ _ newest = None

abbrev pub silence_of : Option Ever → Option ℕ → Option ℕ
silence_of None end = None
silence_of (Some e) end = silent_from e.last_heard end e.newest

abbrev pub silence_in : EverInLog → DrawnUnit → Option ℕ
silence_in log unit = silence_of (active_of log unit) log.end
