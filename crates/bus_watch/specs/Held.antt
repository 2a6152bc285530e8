-- How much all watches keep together, and when that is as much as may be.
use Rattle.std.specs.Prelude.{ℕ, ◌+◌, Bool, ◌||◌, nat_le, nat_lt, List, [], ◌∷◌, length, if◌then◌else◌}
use Rattle.bus_model.specs.Heard.{counted}
use Rattle.bus_watch.specs.WatchValue.{WatchValue}
use Rattle.bus_watch.specs.declared.buses.BusWatch.{BusWatch}
use Rattle.bus_watch.specs.declared.held.Held.{Held}
use Rattle.bus_watch.specs.declared.held.Limits.{Limits}
use Rattle.bus_watch.specs.declared.held.TheConstants.{MOST_PAIRS, ROOM_OF_A_BUS}

abbrev pub nothing_held : Held
nothing_held = record { names = 0; units = 0; runs = 0; pairs = 0; room = 0 }

-- with what one more watch keeps. A bus has room for two NAMEs at each address in any case
abbrev pub held_with : Held → WatchValue → Held
held_with h w = record {
  names = counted (h.names + length w.listener.rows);
  units = counted (h.units + length w.lists.units.order);
  runs = counted (h.runs + w.lists.kept);
  pairs = counted (h.pairs + w.pairs);
  room = counted (h.room + ROOM_OF_A_BUS);
}

abbrev pub held_by : List BusWatch → Held → Held
held_by [] h = h
held_by (one ∷ rest) h = held_by rest (held_with h one.watch)

-- how many NAMEs, and how many units, there may be
abbrev pub most_of : Limits → Held → ℕ
most_of limits h = if nat_lt limits.most h.room then h.room else limits.most

abbrev pub is_filled : Limits → Held → Bool
is_filled limits h = ((nat_le (most_of limits h) h.names || nat_le (most_of limits h) h.units) || nat_le limits.keep h.runs) || nat_le MOST_PAIRS h.pairs

-- all buses together keep as much as may be
abbrev pub is_full_by : Limits → List BusWatch → Bool
is_full_by limits watches = is_filled limits (held_by watches nothing_held)
