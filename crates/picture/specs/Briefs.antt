-- What is kept of a diagnostic message.
use Rattle.std.specs.Prelude.{◌≡◌, ℕ, ◌-◌, ◌^◌, ◌<◌, min, Bool, if◌then◌else◌, nat_lt, IfSome, List, get_or, length, slice_get}
use Rattle.std.specs.Option.{option_map_or}
use Rattle.trouble_code.specs.Code.{Code, IsCode}
use Rattle.trouble_code.specs.LampBytes.{LampsValue, lamps_bytes}
use Rattle.trouble_code.specs.Numbers.{number_of_code}
use Rattle.picture.specs.declared.brief.Brief.{Brief}
use Rattle.picture.specs.declared.brief.TheConstants.{LISTED}

-- a message: its lamps, its readable codes, whether it is in doubt whose it is, and whether it was read in part
pub record MessageTold : Type 0 where
  pub lamps : LampsValue
  pub codes : List Code
  pub contested : Bool
  pub partly : Bool

-- the number of the code at a place, 0 where there is none
abbrev pub number_at_place : List Code → ℕ → ℕ
number_at_place codes place = option_map_or number_of_code (slice_get codes place) 0

-- the first codes stand in these places, in their order
abbrev pub StandIn : List ℕ → List Code → Type 0
StandIn places codes = (place : ℕ) → place < LISTED → (get_or places place 0 ≡ number_at_place codes place) × IfSome (slice_get codes place) IsCode

-- a message in short: how many codes it has up to the greatest 16-bit number, and the first of them
pub record IsBriefOf (m : MessageTold) (b : Brief) : Type 0 where
  pub lamps : b.lamps ≡ lamps_bytes m.lamps
  pub counted : b.count ≡ min (length m.codes) (2 ^ 16 - 1)
  pub first : StandIn b.places m.codes
  pub contested : b.contested ≡ m.contested
  pub partly : b.partly ≡ m.partly

-- how many of so many codes are told one by one: all that are kept, or one fewer where there are more
abbrev pub one_by_one : ℕ → ℕ
one_by_one count = if nat_lt LISTED count then LISTED - 1 else count
