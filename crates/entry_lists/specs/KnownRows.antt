-- What a row says of a NAME, beside the owners of addresses.
use Rattle.std.specs.Prelude.{ℕ, List, Option, Some, None, if◌then◌else◌}
use Rattle.address_claim.specs.Claiming.{is_held}
use Rattle.reassembly.specs.Tables.{at}
use Rattle.bus_model.specs.Heard.{AckHeard, RowHeard}
use Rattle.entry_lists.specs.declared.row.AckSeen.{AckSeen}
use Rattle.entry_lists.specs.declared.row.Row.{Row}
use Rattle.entry_lists.specs.KeptValue.{KeptValue}

-- the claimed address, where it is still the NAME's
abbrev pub still_owned : List (Option ℕ) → ℕ → Option ℕ → Option ℕ
still_owned owners name None = None
still_owned owners name (Some a) = if is_held (at owners a) name then Some a else None

abbrev pub ack_known : Option AckSeen → Option AckHeard
ack_known None = None
ack_known (Some ack) = Some (record { control = ack.control; pgn = ack.pgn })

-- a NAME's row as the tables have it
abbrev pub row_known : List (Option ℕ) → ℕ → Option KeptValue → Option RowHeard
row_known owners name None = None
row_known owners name (Some kept) = Some (record { address = still_owned owners name kept.claimed; ack = ack_known kept.ack })

-- the row that is shown of a NAME
abbrev pub row_of : List (Option ℕ) → ℕ → Option KeptValue → Option Row
row_of owners name None = None
row_of owners name (Some kept) = Some (record { address = still_owned owners name kept.claimed; ack = kept.ack })

-- that row in the words of what was heard
abbrev pub row_heard_as : Row → RowHeard
row_heard_as row = record { address = row.address; ack = ack_known row.ack }

-- the address in a row, if there is one
abbrev pub address_in : Option Row → Option ℕ
address_in None = None
address_in (Some row) = row.address
