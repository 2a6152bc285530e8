-- Which entries are contested: those that came within a quarter of a second of a claim that displaced another NAME. So long a unit waits for a contender
-- before it sends (SAE J1939-81).
use Rattle.std.specs.Prelude.{ℕ, Bool, false, ◌-◌, ◌==◌, nat_lt, List, Option, Some, None, if◌then◌else◌, replicate, slice_set}
use Rattle.bus_model.specs.declared.overheard.Overheard.{Overheard}
use Rattle.bus_model.specs.declared.overheard.Overheard.TheVariants as heard

-- what came at this time, where a claim of its address last displaced another NAME at that one; of what has no time it is not said
abbrev pub is_contested : Option ℕ → Option ℕ → Bool
is_contested (Some displaced) (Some time) = nat_lt (time - displaced) 250000
is_contested _ _ = false

-- of no address it is known when a claim displaced another NAME there
unfoldable pub no_contests : List (Option ℕ)
no_contests = replicate 256 None

-- of each address, after what was heard at this time: missed frames may have been claims
abbrev pub contests_after : Option ℕ → Overheard → List (Option ℕ) → List (Option ℕ)
contests_after time (heard.Claimed name address (Some displaced)) contests = slice_set contests address time
contests_after time (heard.Missed count) contests = if count == 0 then contests else no_contests
contests_after time _ contests = contests
