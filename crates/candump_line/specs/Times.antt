-- Whether the times of a log count.
use Rattle.std.specs.Prelude.{ℕ, Bool, true, false, ◌+◌, nat_lt, if◌then◌else◌, Option, Some}
use Rattle.candump_line.specs.declared.time_form.TimeForm.{TimeForm}
use Rattle.candump_line.specs.declared.time_form.TimeForm.TheVariants.{Relative}
use Rattle.candump_line.specs.declared.times.Times.{Times}
use Rattle.candump_line.specs.declared.times.Times.TheVariants.{Unseen, Undecided, Counted, Passed}

-- after a relative time, behind so many of which none was less than the one before it: one that is less says that they are since the line
-- before; and so does the tenth, where it is not above the second
abbrev pub after_relative : ℕ → ℕ → ℕ → ℕ → Times
after_relative seen second newest time = if nat_lt time newest
    then Passed
    else if nat_lt seen 2
    then Undecided 2 time time
    else if nat_lt seen 9
    then Undecided (seen + 1) second time
    else if nat_lt second time
    then Counted
    else Passed

-- after a line with a time of this form: the first one says whether all are relative
abbrev pub times_after : Times → Option TimeForm → ℕ → Times
times_after Unseen (Some Relative) time = Undecided 1 time time
times_after Unseen _ time = Counted
times_after (Undecided seen second newest) form time = after_relative seen second newest time
times_after Counted form time = Counted
times_after Passed form time = Passed

abbrev pub is_counted : Times → Bool
is_counted Counted = true
is_counted _ = false
