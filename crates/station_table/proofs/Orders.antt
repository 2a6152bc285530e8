-- What was heard decides what the station answers to an order.
use Rattle.std.proofs.Common.{◌≡◌, ◌↔◌, ◌≤◌, ◌<◌, ℕ, List, Option, Some, None, IsSome, IsNone, Err, IsOk, Bool, true, false, nat_lt, if◌then◌else◌, refl, ap, ◌∙◌, arith, rules}
use Rattle.std.proofs.lemmas.Bool.{ltb-true, ltb-false}
use Rattle.can_frame.specs.declared.reading.Reading.{Reading}
use Rattle.bus_model.specs.Heard.{StationSettings, address_heard, address_in_row, address_known}
use Rattle.entry_lists.specs.KeptValue.{KeptValue, kept_under}
use Rattle.station_table.specs.Orders.{AnswersAskAll, AnswersAsk, AnswersCommand, ask_all_answer, ask_answer, ask_from, command_answer, command_from}
use Rattle.entry_lists.specs.KnownRows.{address_in, row_known, row_of}
use Rattle.station_table.specs.StandsFor.{StandsFor}
use Rattle.station_table.specs.StationValue.{StationValue}
use Rattle.station_table.specs.declared.error.StationError.TheVariants.{NotAnAddress, NoAddress, NotHeld}
use Rattle.station_table.specs.declared.reaction.Ask.{Ask}
use Rattle.station_table.specs.declared.reaction.Reaction.{Reaction}
use Rattle.station_table.proofs.Lines.{held_same}

row_address : (owners : List (Option ℕ)) (name : ℕ) (kept : Option KeptValue) → address_in (row_of owners name kept) ≡ address_in_row (row_known owners name kept)
row_address owners name None = refl
row_address owners name (Some kept) = refl

-- what an answer that depends on two addresses says of them
from_two : (own to : Option ℕ) (ask : Ask)
    → ((ask_from own to ask ≡ Err NotHeld) ↔ IsNone own) × ((ask_from own to ask ≡ Err NoAddress) ↔ (IsSome own × IsNone to)) × (IsOk (ask_from own to ask) ↔ (IsSome own × IsSome to))
from_two None to ask = search rules
from_two (Some own) None ask = search rules
from_two (Some own) (Some address) ask = search rules

pub asked_as_heard : (r : StationSettings) (grant : ℕ) (s : StationValue) (h : List Reading) (name : ℕ) (ask : Ask) → StandsFor r grant s h → AnswersAsk r h name (ask_answer s name ask)
asked_as_heard r grant s h name ask st =
    let own = held_same r grant s h st in
    let to : address_in (row_of s.owners name (kept_under s.rows name)) ≡ address_known r name h = row_address s.owners name (kept_under s.rows name) ∙ ap address_in_row (st.rows name) in
    let parts = from_two (address_heard r h) (address_known r name h) ask in
    rw (own, to) (record { not_held = parts.0; no_address = parts.1; asked = parts.2 })

from_one : (own : Option ℕ) (ask : Ask) (to : ℕ) → ((ask_from own (Some to) ask ≡ Err NotHeld) ↔ IsNone own) × (IsOk (ask_from own (Some to) ask) ↔ IsSome own)
from_one None ask to = search rules
from_one (Some own) ask to = search rules

pub all_asked_as_heard : (r : StationSettings) (grant : ℕ) (s : StationValue) (h : List Reading) (ask : Ask) → StandsFor r grant s h → AnswersAskAll r h (ask_all_answer s ask)
all_asked_as_heard r grant s h ask st =
    let own = held_same r grant s h st in
    let parts = from_one (address_heard r h) ask 255 in
    rw own (record { not_held = parts.0; asked = parts.1 })

commands_from : (own : Option ℕ) (name address : ℕ) (b : Bool) → nat_lt 253 address ≡ b
    → (((if b then Err NotAnAddress else command_from own name address) ≡ Err NotAnAddress) ↔ (253 < address))
    × (((if b then Err NotAnAddress else command_from own name address) ≡ Err NotHeld) ↔ ((address ≤ 253) × IsNone own))
    × (IsOk (if b then Err NotAnAddress else command_from own name address) ↔ ((address ≤ 253) × IsSome own))
commands_from own name address true e = let far : 253 < address = ltb-true 253 address e in ((λ x. far, λ x. refl), (λ x. absurd cc, λ x. absurd (let l = x.0 in omega arith)), (λ x. absurd (none x), λ x. absurd (let l = x.0 in omega arith)))
  where
    none : IsOk {T = Reaction} (Err NotAnAddress) → ⊥
    none x = search rules
commands_from None name address false e = let near : address ≤ 253 = ltb-false 253 address e in search rules
commands_from (Some own) name address false e = let near : address ≤ 253 = ltb-false 253 address e in search rules

pub commanded_as_heard : (r : StationSettings) (grant : ℕ) (s : StationValue) (h : List Reading) (name address : ℕ) → StandsFor r grant s h → AnswersCommand r h address (command_answer s name address)
commanded_as_heard r grant s h name address st =
    let own = held_same r grant s h st in
    let parts = commands_from (address_heard r h) name address (nat_lt 253 address) refl in
    rw own (record { not_an_address = parts.0; not_held = parts.1; commanded = parts.2 })
