-- Waits: they are added to the time that is handed in.
use Rattle.std.specs.Prelude.{ℕ, ◌+◌, ◌-◌, ◌^◌, min}

-- a time and a wait; times end at 2^64 - 1
abbrev pub later : ℕ → ℕ → ℕ
later now wait = min (now + wait) (2 ^ 64 - 1)
