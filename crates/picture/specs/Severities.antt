-- How bad it is what a diagnostic message shows.
use Rattle.std.specs.Prelude.{ℕ, ◌==◌, max, Bool, if◌then◌else◌, nat_lt, List, [], ◌∷◌}
use Rattle.trouble_code.specs.LampBytes.{LampsValue, two_bits_of}
use Rattle.trouble_code.specs.declared.lamps.LampName.{LampName}
use Rattle.trouble_code.specs.declared.lamps.LampName.TheVariants.{Malfunction, RedStop, Amber, Protect}
use Rattle.picture.specs.declared.severity.Severity.{Severity}
use Rattle.picture.specs.declared.severity.Severity.TheVariants as bad

-- from the least bad on
abbrev pub rank : Severity → ℕ
rank bad.Fine = 0
rank bad.Partly = 1
rank bad.Codes = 2
rank bad.Protect = 3
rank bad.Malfunction = 4
rank bad.Amber = 5
rank bad.Red = 6

-- a lamp is on in state 1 (J1939-73, 5.7.1)
abbrev pub is_lit : LampName → LampsValue → Bool
is_lit name l = two_bits_of name l.lamps == 1

-- how bad it is that a lamp is on
abbrev pub of_lamp : LampName → Severity
of_lamp Protect = bad.Protect
of_lamp Malfunction = bad.Malfunction
of_lamp Amber = bad.Amber
of_lamp RedStop = bad.Red

abbrev pub lit : LampName → LampsValue → Bool × Severity
lit name l = (is_lit name l, of_lamp name)

-- what a message may show, and how bad each is: its lamps, codes that can be read, a part that cannot
abbrev pub may_show : LampsValue → ℕ → Bool → List (Bool × Severity)
may_show lamps codes partly =
    lit Protect lamps ∷ lit Malfunction lamps ∷ lit Amber lamps ∷ lit RedStop lamps ∷ (nat_lt 0 codes, bad.Codes) ∷ (partly, bad.Partly) ∷ []

-- how bad the worst of what is shown is
abbrev pub worst_shown : List (Bool × Severity) → ℕ
worst_shown [] = rank bad.Fine
worst_shown (s ∷ ss) = max (if s.0 then rank s.1 else rank bad.Fine) (worst_shown ss)
