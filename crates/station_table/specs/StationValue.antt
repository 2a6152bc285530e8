-- What the station holds in its tables.
use Rattle.std.specs.Prelude.{ℕ, List, Option}
use Rattle.address_claim.specs.Claiming.{ClaimerValue}
use Rattle.bus_model.specs.Heard.{Joining}
use Rattle.entry_lists.specs.KeptValue.{KeptValue}

-- the station's own claims and its grant; by source address the owner, the broadcast and the session half joined, and how many
-- packets the sender of the last session takes at once; the rows by NAME in the order of their first claim; the counts
pub record StationValue : Type 0 where
  pub claimer : ClaimerValue
  pub grant : ℕ
  pub owners : List (Option ℕ)
  pub rows : List (ℕ × KeptValue)
  pub broadcasts : List (Option Joining)
  pub sessions : List (Option Joining)
  pub most : List ℕ
  pub missed : ℕ
  pub unread : ℕ
