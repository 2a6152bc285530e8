-- How the time is written that a line begins with.
use Rattle.std.specs.Prelude.{ℕ, Bool, ◌&&◌, if◌then◌else◌, List, Option, Some, None, drop}
use Rattle.candump_line.specs.Places.{is_at, digit_is_at}
use Rattle.candump_line.specs.declared.time_form.TimeForm.{TimeForm}
use Rattle.candump_line.specs.declared.time_form.TimeForm.TheVariants.{Seconds, Date, Relative}

-- three digits before the point, of which the first is 0
abbrev pub is_relative : List ℕ → Bool
is_relative text = is_at text 0 40 && is_at text 1 48 && digit_is_at text 2 && digit_is_at text 3 && is_at text 4 46

-- four digits before a hyphen
abbrev pub is_dated : List ℕ → Bool
is_dated text = is_at text 0 40 && digit_is_at text 1 && digit_is_at text 2 && digit_is_at text 3 && digit_is_at text 4 && is_at text 5 45

-- a digit behind the parenthesis
abbrev pub is_timed : List ℕ → Bool
is_timed text = is_at text 0 40 && digit_is_at text 1

abbrev pub form_of : List ℕ → Option TimeForm
form_of text = if is_relative text then Some Relative else if is_dated text then Some Date else if is_timed text then Some Seconds else None

-- a blank before the parenthesis is left out
abbrev pub time_form : List ℕ → Option TimeForm
time_form line = if is_at line 0 32 then form_of (drop 1 line) else form_of line
