-- What an input looks like by the first bytes of one of its lines.
use Rattle.std.specs.Prelude.{ℕ, Bool, ◌||◌, ◌==◌, if◌then◌else◌, List, [], ◌∷◌, Option, Some, codes}
use Rattle.std.specs.List.{starts_with, list_any}
use Rattle.std.specs.Option.{option_map}
use Rattle.candump_line.specs.OtherLogs.{other_log}
use Rattle.candump_line.specs.declared.other.OtherLog.TheVariants.{Blf}
use Rattle.log_lines.specs.declared.looks.Looks.{Looks}
use Rattle.log_lines.specs.declared.looks.Looks.TheVariants.{Gzip, Xz, Zstd, Zip, Bzip2, Utf16, Binary, Log}

abbrev pub opens_with : List ℕ → List ℕ → Bool
opens_with line first = starts_with (λ a b. a == b) line first

-- of a line that begins with no mark: a byte that no text has goes before what other programs write in text
abbrev pub unmarked_looks : List ℕ → Option Looks
unmarked_looks line = if opens_with line (codes "LOGG")
    then Some (Log Blf)
    else if list_any (λ c. c == 0) line
    then Some Binary
    else option_map Log (other_log line)

-- the first of these that fits: what programs that compress begin with, and the marks of UTF-16
abbrev pub looks_of : List ℕ → Option Looks
looks_of line = if opens_with line (0x1F ∷ 0x8B ∷ [])
    then Some Gzip
    else if opens_with line (0xFD ∷ 0x37 ∷ 0x7A ∷ 0x58 ∷ 0x5A ∷ [])
    then Some Xz
    else if opens_with line (0x28 ∷ 0xB5 ∷ 0x2F ∷ 0xFD ∷ [])
    then Some Zstd
    else if opens_with line (0x50 ∷ 0x4B ∷ 0x03 ∷ 0x04 ∷ [])
    then Some Zip
    else if opens_with line (codes "BZh")
    then Some Bzip2
    else if opens_with line (0xFF ∷ 0xFE ∷ []) || opens_with line (0xFE ∷ 0xFF ∷ [])
    then Some Utf16
    else unmarked_looks line
