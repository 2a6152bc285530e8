-- What is told of the end of a unit's thread.
use Rattle.std.specs.Prelude.{ℕ, ◌≡◌, ◌≢◌, ◌⊎◌, ◌+◌, ◌<◌, ◌≤◌, ◌&&◌, nat_le, nat_lt, if◌then◌else◌, List, Option, Some, None, codes, length, slice_index_or}
use Rattle.journal.specs.Journal.{GarageValue, joins, tally_of}
use Rattle.journal.specs.declared.tally.Tally.{Tally}
use Rattle.garage.specs.Calls.{IsNoMemoryOrFull}
use Rattle.garage.specs.Opening.{no_events}
use Rattle.garage.specs.Refusals.{IsJoinRefusal, garage_error_number}
use Rattle.garage.specs.declared.error.GarageError.{GarageError}
use Rattle.garage.specs.declared.error.GarageError.TheVariants.{NotAnAddress, Stranger, TooManySeats}
use Rattle.script_answer.specs.Refused.{garage_word}
use Rattle.unit_threads.specs.declared.ended.Ended.{Ended}
use Rattle.unit_threads.specs.declared.ended.EndReason.{EndReason}
use Rattle.unit_threads.specs.declared.ended.EndReason.TheVariants as reason

-- the number that a reason is written with
abbrev pub number_of_end : EndReason → ℕ
number_of_end (reason.Garage e) = garage_error_number e
number_of_end reason.NoThread = 27

-- and its name
abbrev pub word_of_end : EndReason → List ℕ
word_of_end (reason.Garage e) = garage_word e
word_of_end reason.NoThread = codes "NoThread"

-- what a mount is refused with
abbrev pub IsMountRefusal : GarageError → Type 0
IsMountRefusal e = (e ≡ NotAnAddress) ⊎ IsJoinRefusal e

-- the counts of a seat in the journal; none where no unit got that number
abbrev pub counts_told : ℕ → GarageValue → Tally
counts_told k g =
    if nat_le (length g.settings.stations) k && nat_lt k (length g.settings.stations + joins g.journal) then tally_of k g.journal else no_events

-- a seat that ended without a refusal: it joined, had all its turns and left, and these are its events
abbrev pub IsWhole : ℕ → Tally → ℕ → Type 0
IsWhole turns t events = (t.joined ≡ 1) × (t.turned ≡ turns) × (t.left ≡ 1) × (events ≡ t.events)

-- one that was refused for want of room or memory: it joined, had no more than its turns and left
abbrev pub IsCutShort : ℕ → Tally → ℕ → Type 0
IsCutShort turns t events = (t.joined ≡ 1) × (t.turned ≤ turns) × (t.left ≡ 1) × (events ≡ t.events)

-- what is told of a seat agrees with its counts, by the refusal. A unit that joined had a thread
abbrev pub AgreesAt : ℕ → Tally → ℕ → Option EndReason → Type 0
AgreesAt turns t events None = IsWhole turns t events
AgreesAt turns t events (Some (reason.Garage Stranger)) = events ≡ t.events
AgreesAt turns t events (Some (reason.Garage e)) = IsNoMemoryOrFull e × IsCutShort turns t events
AgreesAt turns t events (Some reason.NoThread) = ⊥

-- a unit that never joined was refused by the mount, or its thread was not started
abbrev pub IsUnseated : Option EndReason → Type 0
IsUnseated None = ⊥
IsUnseated (Some reason.NoThread) = Unit {0}
IsUnseated (Some (reason.Garage e)) = IsMountRefusal e

abbrev pub AgreesWith : ℕ → GarageValue → Option ℕ → ℕ → Option EndReason → Type 0
AgreesWith turns g (Some k) events refusal = AgreesAt turns (counts_told k g) events refusal
AgreesWith turns g None events refusal = (events ≡ 0) × IsUnseated refusal

-- the end of a unit for which no seat was left
abbrev pub IsSeatless : Ended → Type 0
IsSeatless e = (e.seat ≡ None) × (e.refusal ≡ Some (reason.Garage TooManySeats))

-- what is told of an end is what the journal of the garage says
pub record Agrees (turns : ℕ) (g : GarageValue) (e : Ended) : Type 0 where
  pub agrees : AgreesWith turns g e.seat e.events e.refusal

-- an end with the seat that the comparison refused
abbrev pub IsStrangerAt : ℕ → Ended → Type 0
IsStrangerAt k e = (e.seat ≡ Some k) × (e.refusal ≡ Some (reason.Garage Stranger))

abbrev pub nothing : Ended
nothing = record { seat = None; events = 0; refusal = None }

abbrev pub end_at : List Ended → ℕ → Ended
end_at es i = slice_index_or es i nothing

-- from this place on, each end is one for which no seat was left
abbrev pub AreSeatlessFrom : ℕ → List Ended → Type 0
AreSeatlessFrom n es = (i : ℕ) → n ≤ i → i < length es → IsSeatless (end_at es i)

-- those that were so still are
abbrev pub StaySeatless : List Ended → List Ended → Type 0
StaySeatless before after = (i : ℕ) → i < length before → IsSeatless (end_at before i) → IsSeatless (end_at after i)

-- an end with a seat that the comparison did not refuse
abbrev pub IsCounted : Ended → Type 0
IsCounted e = (e.seat ≢ None) × (e.refusal ≢ Some (reason.Garage Stranger))

-- among the first n, one that is counted names another seat than those before it
abbrev pub HaveOwnSeatsTo : ℕ → List Ended → Type 0
HaveOwnSeatsTo n es = (i j : ℕ) → i < n → j < i → IsCounted (end_at es i) → (end_at es j).seat ≢ (end_at es i).seat

abbrev pub HaveOwnSeats : List Ended → Type 0
HaveOwnSeats es = HaveOwnSeatsTo (length es) es
