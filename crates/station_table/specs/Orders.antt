-- What the station answers to each order, memory aside.
use Rattle.std.specs.Prelude.{◌≡◌, ◌↔◌, ◌≤◌, ◌<◌, ℕ, List, Option, Some, None, IsSome, IsNone, Result, Ok, Err, IsOk, nat_lt, if◌then◌else◌}
use Rattle.can_frame.specs.declared.reading.Reading.{Reading}
use Rattle.can_frame.specs.declared.address.TheConstants.{GREATEST_ADDRESS, GLOBAL_ADDRESS}
use Rattle.bus_model.specs.Heard.{StationSettings, address_heard, address_known}
use Rattle.station_table.specs.declared.error.StationError.{StationError}
use Rattle.station_table.specs.declared.error.StationError.TheVariants.{NotAnAddress, NoAddress, NotHeld}
use Rattle.station_table.specs.declared.reaction.Ask.{Ask}
use Rattle.station_table.specs.declared.reaction.Reaction.{Reaction}
use Rattle.entry_lists.specs.KeptValue.{kept_under}
use Rattle.station_table.specs.Reactions.{asking, commanding}
use Rattle.station_table.specs.StationValue.{StationValue}
use Rattle.entry_lists.specs.KnownRows.{address_in, row_of}

-- a request from the station's address to the NAME's
abbrev pub ask_from : Option ℕ → Option ℕ → Ask → Result Reaction StationError
ask_from None to ask = Err NotHeld
ask_from (Some own) None ask = Err NoAddress
ask_from (Some own) (Some address) ask = Ok (asking own ask address)

-- the unit of a NAME is asked
abbrev pub ask_answer : StationValue → ℕ → Ask → Result Reaction StationError
ask_answer s name ask = ask_from s.claimer.held (address_in (row_of s.owners name (kept_under s.rows name))) ask

-- all are asked
abbrev pub ask_all_answer : StationValue → Ask → Result Reaction StationError
ask_all_answer s ask = ask_from s.claimer.held (Some GLOBAL_ADDRESS) ask

-- a command from the station's address
abbrev pub command_from : Option ℕ → ℕ → ℕ → Result Reaction StationError
command_from None name address = Err NotHeld
command_from (Some own) name address = Ok (commanding own name address)

-- the unit of a NAME is commanded to hold an address
abbrev pub command_answer : StationValue → ℕ → ℕ → Result Reaction StationError
command_answer s name address = if nat_lt GREATEST_ADDRESS address then Err NotAnAddress else command_from s.claimer.held name address

-- what was heard decides whether a NAME is asked: the station holds an address, and one of that NAME is known
pub record AnswersAsk (r : StationSettings) (h : List Reading) (name : ℕ) (answer : Result Reaction StationError) : Type 0 where
  pub not_held : (answer ≡ Err NotHeld) ↔ IsNone (address_heard r h)
  pub no_address : (answer ≡ Err NoAddress) ↔ (IsSome (address_heard r h) × IsNone (address_known r name h))
  pub asked : IsOk answer ↔ (IsSome (address_heard r h) × IsSome (address_known r name h))

-- and whether all are asked: the station holds an address
pub record AnswersAskAll (r : StationSettings) (h : List Reading) (answer : Result Reaction StationError) : Type 0 where
  pub not_held : (answer ≡ Err NotHeld) ↔ IsNone (address_heard r h)
  pub asked : IsOk answer ↔ IsSome (address_heard r h)

-- and whether a NAME is commanded to an address: it can be held, and the station holds one itself
pub record AnswersCommand (r : StationSettings) (h : List Reading) (address : ℕ) (answer : Result Reaction StationError) : Type 0 where
  pub not_an_address : (answer ≡ Err NotAnAddress) ↔ (GREATEST_ADDRESS < address)
  pub not_held : (answer ≡ Err NotHeld) ↔ ((address ≤ GREATEST_ADDRESS) × IsNone (address_heard r h))
  pub commanded : IsOk answer ↔ ((address ≤ GREATEST_ADDRESS) × IsSome (address_heard r h))
