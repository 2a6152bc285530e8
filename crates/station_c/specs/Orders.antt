-- What the number that an order answers says of what was heard.
use Rattle.std.specs.Prelude.{◌↔◌, ◌<◌, ◌≤◌, ℕ, Option, IsSome, IsNone}
use Rattle.can_frame.specs.declared.address.TheConstants.{GREATEST_ADDRESS}
use Rattle.station_c.specs.Statuses.{Answers, DoneUnlessMemory}
use Rattle.station_c.specs.declared.status.Status.TheVariants.{NotAnAddress, NoAddress, NotHeld}

-- a NAME is asked: the station holds an address of its own, and knows one of that NAME
abbrev pub OrderAsks : Option ℕ → Option ℕ → ℕ → Type 0
OrderAsks own to number =
    (Answers number NotHeld ↔ IsNone own) × (Answers number NoAddress ↔ (IsSome own × IsNone to)) × (IsSome own → IsSome to → DoneUnlessMemory number)

-- all are asked: the station holds an address
abbrev pub OrderAsksAll : Option ℕ → ℕ → Type 0
OrderAsksAll own number = (Answers number NotHeld ↔ IsNone own) × (IsSome own → DoneUnlessMemory number)

-- a NAME is commanded to an address: it can be held, and the station holds one itself
abbrev pub OrderCommands : Option ℕ → ℕ → ℕ → Type 0
OrderCommands own address number =
    (Answers number NotAnAddress ↔ (GREATEST_ADDRESS < address)) × (Answers number NotHeld ↔ ((address ≤ GREATEST_ADDRESS) × IsNone own))
    × (address ≤ GREATEST_ADDRESS → IsSome own → DoneUnlessMemory number)
