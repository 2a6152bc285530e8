-- What is remembered of the changes of a log.
use Rattle.std.specs.Prelude.{◌≡◌, ℕ, ◌-◌, ◌^◌, ◌<◌, min, List, [], ◌++◌, length}
use Rattle.picture.specs.declared.history.Happened.{Happened}
use Rattle.picture.specs.declared.history.TheConstants.{FIRST, LAST}

pub record HistoryValue : Type 0 where
  pub first : List Happened
  pub last : List Happened
  pub left_out : ℕ

-- all that was told is the first changes, those that are left out, and the last; none is left out as long as there is room
pub record Remembers (told : List Happened) (history : HistoryValue) : Type 0 where
  pub between : List Happened
  pub parts : told ≡ history.first ++ (between ++ history.last)
  pub counted : history.left_out ≡ min (length between) (2 ^ 64 - 1)
  pub early : length history.first < FIRST → between ++ history.last ≡ []
  pub full : 0 < length between → length history.last ≡ LAST
