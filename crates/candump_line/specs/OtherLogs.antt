-- What a line of a log in another form looks like.
use Rattle.std.specs.Prelude.{ℕ, Bool, ◌||◌, ◌==◌, nat_le, if◌then◌else◌, List, Option, Some, None, codes, count_by}
use Rattle.std.specs.List.{starts_with}
use Rattle.candump_line.specs.declared.other.OtherLog.{OtherLog}
use Rattle.candump_line.specs.declared.other.OtherLog.TheVariants.{Asc, Blf, Trc, Csv}

-- the line has this character three times at least
abbrev pub is_in_columns : ℕ → List ℕ → Bool
is_in_columns character line = nat_le 3 (count_by (λ c. c == character) line)

-- the first of these that fits
abbrev pub other_log : List ℕ → Option OtherLog
other_log line = if starts_with (λ a b. a == b) line (codes "LOGG")
    then Some Blf
    else if starts_with (λ a b. a == b) line (codes ";")
    then Some Trc
    else if starts_with (λ a b. a == b) line (codes "date ") || starts_with (λ a b. a == b) line (codes "base ")
    then Some Asc
    else if is_in_columns 44 line || is_in_columns 59 line
    then Some Csv
    else None
