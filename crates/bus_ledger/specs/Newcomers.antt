-- Who may join.
use Rattle.std.specs.Prelude.{ℕ, ◌-◌, Bool, ◌&&◌, ◌==◌, nat_le, length, Option, Some, None, if◌then◌else◌, count_by}
use Rattle.std.specs.List.{list_any, count_by}
use Rattle.bus_ledger.specs.declared.bus.TheConstants.{MOST_UNITS}
use Rattle.bus_ledger.specs.BusValue.{Traffic}
use Rattle.bus_ledger.specs.declared.error.BusError.{BusError}
use Rattle.bus_ledger.specs.declared.error.BusError.TheVariants.{NameInUse, TooManySeats}

-- whether a live seat, a station's included, has this NAME
abbrev pub is_in_use : ℕ → Traffic → Bool
is_in_use name t = list_any (λ s. s.live && (s.name == name)) t.seats

-- how many units are live beside the stations
abbrev pub live_units : Traffic → ℕ
live_units t = count_by (λ s. s.live) t.seats - length t.windows

-- why a NAME may not join, want of memory aside
abbrev pub join_refusal : ℕ → Traffic → Option BusError
join_refusal name t = if is_in_use name t then Some NameInUse else (if nat_le MOST_UNITS (live_units t) then Some TooManySeats else None)
