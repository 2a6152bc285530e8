-- What stands in a line of plain candump, and in one that tells of dropped frames, as candump's source writes it.
use Rattle.std.specs.Prelude.{ℕ, Bool, ◌&&◌, ◌==◌, nat_le, List, length, slice_index}
use Rattle.candump_line.specs.Places.{is_at, digit_is_at}

-- `[%d]`: the number of bytes of a frame, 0 to 8
abbrev pub is_count : List ℕ → Bool
is_count word = (length word == 3) && is_at word 0 91 && nat_le 48 (slice_index word 1) && nat_le (slice_index word 1) 56 && is_at word 2 93

-- `[%02d]`: the number of bytes of a CAN FD frame
abbrev pub is_fd_count : List ℕ → Bool
is_fd_count word = (length word == 4) && is_at word 0 91 && digit_is_at word 1 && digit_is_at word 2 && is_at word 3 93
