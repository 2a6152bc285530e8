-- What is answered at a place of a list of which the newest entries are kept.
use Rattle.std.specs.Prelude.{ℕ, ◌+◌, ◌-◌, List, Option, Some, None, Result, Ok, Err, length, nat_lt, if◌then◌else◌}
use Rattle.dm_messages.specs.declared.shown.Shown.{Shown}
use Rattle.station_c.specs.Records.{code_told, entry_told}
use Rattle.station_c.specs.declared.records.CodeRecord.{CodeRecord}
use Rattle.station_c.specs.declared.records.EntryRecord.{EntryRecord}
use Rattle.station_c.specs.declared.absent.Absent.{Absent}
use Rattle.station_c.specs.declared.absent.Absent.TheVariants.{NotKept, NeverCame}

-- where an entry stands among the newest of a list of which so many came
abbrev pub place_kept : ℕ → ℕ → ℕ → Result ℕ Absent
place_kept count keep place = if nat_lt (place + keep) count then Err NotKept else (if nat_lt place count then Ok (place - (count - keep)) else Err NeverCame)

-- what is told, where there is something
abbrev pub told_or_never : {T : Type 0} → Option T → Result T Absent
told_or_never None = Err NeverCame
told_or_never (Some it) = Ok it

-- at an entry that came before the newest ones nothing is kept
abbrev pub if_kept : {E T : Type 0} → ℕ → List E → ℕ → Option T → Result T Absent
if_kept keep list entry told = if nat_lt (entry + keep) (length list) then Err NotKept else told_or_never told

-- the entry at a place
abbrev pub entry_answered : ℕ → List Shown → ℕ → Result EntryRecord Absent
entry_answered keep list place = if_kept keep list place (entry_told list place)

-- the code at a place of an entry
abbrev pub code_answered : ℕ → List Shown → ℕ → ℕ → Result CodeRecord Absent
code_answered keep list entry place = if_kept keep list entry (code_told list entry place)
