-- How lines and messages are counted.
use Rattle.std.specs.Prelude.{ℕ, ◌+◌, ◌-◌, ◌^◌, min}
use Rattle.bus_model.specs.Heard.{counted}
use Rattle.bus_model.specs.declared.overheard.Overheard.{Overheard}
use Rattle.bus_model.specs.declared.overheard.Overheard.TheVariants.{ListedInPart}
use Rattle.candump_line.specs.declared.line.Foreign.{Foreign as AnyForeign}
use Rattle.candump_line.specs.declared.line.Foreign.TheVariants.{StandardId, Remote, Fd, Error}
use Rattle.bus_watch.specs.declared.counts.WatchCounts.{WatchCounts}

-- one more, up to the greatest 64-bit number
abbrev pub one_line_more : ℕ → ℕ
one_line_more n = min (n + 1) (2 ^ 64 - 1)

-- each sort of frames that are none of SAE J1939 has a count of its own
abbrev pub with_foreign : AnyForeign → WatchCounts → WatchCounts
with_foreign StandardId counts = record counts { short = one_line_more counts.short }
with_foreign Remote counts = record counts { remote = one_line_more counts.remote }
with_foreign Fd counts = record counts { fd = one_line_more counts.fd }
with_foreign Error counts = record counts { error = one_line_more counts.error }

-- how many messages were read in part, after what was heard
abbrev pub partly_after : Overheard → ℕ → ℕ
partly_after (ListedInPart who kind source to) n = counted (n + 1)
partly_after _ n = n
