-- What the handle of a C program holds of its live station, before and after a call.
use Rattle.std.specs.Prelude.{◌≡◌, ◌↔◌, ◌⊎◌, ℕ, List, Bool, true, false, Option, Some, None, IfSome, IsSome, IsNone}
use Rattle.bus_model.specs.Heard.{StationSettings}
use Rattle.can_frame.specs.FrameValue.{FrameValue}
use Rattle.can_frame.specs.declared.reading.Reading.{Reading}
use Rattle.live_station.specs.OpenOrders.{commands_too_far}
use Rattle.live_station.specs.Working.{DoesTurn, HearsOnBus, MissesFrames, turn_at}
use Rattle.live_station.specs.declared.order.Order.{Order}
use Rattle.live_station.specs.declared.pulled.Pulled.{Pulled}
use Rattle.live_station.specs.declared.pulled.Told.{Told}
use Rattle.station_c.specs.Held.{is_there}
use Rattle.shared_groups.specs.Sending.{after_due, frame_due}
use Rattle.shared_groups.specs.declared.error.SharedError.{SharedError}
use Rattle.station_c.specs.ListedLives.{ListedLiveValue, SharesFrame, StandsLive, is_barred, newer_verdict, shared_goes, verdict_pulled, with_order}
use Rattle.station_c.specs.LiveRecords.{TellsPulled, TellsShared, change_told_on_bus}
use Rattle.station_c.specs.Records.{flag}
use Rattle.station_c.specs.Statuses.{Answers, DoneUnlessMemory, status_of_shared}
use Rattle.station_c.specs.declared.changes.ChangeRecord.{ChangeRecord}
use Rattle.station_c.specs.declared.live_handle.LiveHandle.{LiveHandle}
use Rattle.station_c.specs.declared.records.FrameRecord.{FrameRecord}
use Rattle.station_c.specs.declared.status.Status.TheVariants.{Done, NoGroup, NoStation, NotAnAddress, OrderOpen}

-- it has a station: its pointer is not null, whatever its flag says
abbrev pub has_live : LiveHandle → Bool
has_live handle = is_there handle.at

-- it holds what it held: none, or the same station with the same lists and the same verdict
abbrev pub HoldsSameLive : LiveHandle → LiveHandle → Type 0
HoldsSameLive before after = (has_live after ≡ has_live before) × (has_live before ≡ true → after.value ≡ before.value)

-- it holds a station that stands for what it was told of these readings, and so many of the newest entries of each list
abbrev pub HoldsLive : StationSettings → ℕ → ℕ → LiveHandle → List Reading → Type 0
HoldsLive r grant keep handle h = (has_live handle ≡ true) × StandsLive r grant keep handle.value h

-- it heard a frame, and told what came of it
abbrev pub HearsTelling : FrameValue → ℕ → ListedLiveValue → ChangeRecord → ListedLiveValue → Type 0
HearsTelling f now before told after =
    (t : Told) × HearsOnBus f now t before.live after.live × (told ≡ change_told_on_bus t) × (after.last ≡ newer_verdict t.verdict before.last)

-- it was told that frames were missed, and told what came of it
abbrev pub MissesTelling : ℕ → ℕ → ListedLiveValue → ChangeRecord → ListedLiveValue → Type 0
MissesTelling count now before told after =
    (t : Told) × MissesFrames count now t before.live after.live × (told ≡ change_told_on_bus t) × (after.last ≡ newer_verdict t.verdict before.last)

-- what goes at a time went: a frame, which the record has then; or a verdict, which is kept; or nothing
abbrev pub PullsTelling : ℕ → ListedLiveValue → ℕ → FrameRecord → FrameRecord → ListedLiveValue → Type 0
PullsTelling now before has was frame after =
    (p : Pulled) × DoesTurn (turn_at now before.live) now p before.live after.live × TellsPulled has was frame p
    × (after.last ≡ newer_verdict (verdict_pulled p) before.last)

-- groups that are shared heard a frame, and told whether it is theirs alone, and whether a message is whole with it
abbrev pub SharesTelling : FrameValue → ListedLiveValue → ℕ → ℕ → ListedLiveValue → Type 0
SharesTelling f before withheld whole after =
    (w m : Bool) × SharesFrame f w m before after × (withheld ≡ flag w) × (whole ≡ flag m)

-- the frame that goes at a time for them went, and the record has it then; or nothing goes
abbrev pub PullsShared : ℕ → ListedLiveValue → ℕ → FrameRecord → FrameRecord → ListedLiveValue → Type 0
PullsShared now before has was it after =
    (f : Option FrameValue) × TellsShared has was it f × (shared_goes now before ≡ false → IsNone f)
    × (shared_goes now before ≡ false → after ≡ before)
    × (shared_goes now before ≡ true → (f ≡ frame_due now before.shared) × (after ≡ record before { shared = after_due now before.shared }))

-- a message is sent, or is not, for a reason; or memory was refused
abbrev pub IsSentUnless : Option SharedError → ℕ → Type 0
IsSentUnless None number = DoneUnlessMemory number
IsSentUnless (Some refusal) number = Answers number (status_of_shared refusal)

-- an order, if it is one, is barred by what is under way
abbrev pub is_order_barred : Option Order → ListedLiveValue → Bool
is_order_barred None v = false
is_order_barred (Some order) v = is_barred order v

-- an order commands an address that nobody can hold
abbrev pub CommandsTooFar : Option Order → Type 0
CommandsTooFar None = ⊥
CommandsTooFar (Some order) = commands_too_far order ≡ true

-- an order was given, where the words spell one: it is open, and the verdict before is forgotten; refused, all is as it was, and why
pub record TakesOrder (order : Option Order) (before after : LiveHandle) (number : ℕ) : Type 0 where
  pub ordered : Answers number Done → IfSome order (λ o. after.value ≡ with_order o before.value)
  pub has : has_live after ≡ has_live before
  pub kept : ¬ Answers number Done → HoldsSameLive before after
  pub no_group : Answers number NoGroup ↔ IsNone order
  pub no_station : Answers number NoStation ↔ (IsSome order × (has_live before ≡ false))
  pub order_open : Answers number OrderOpen ↔ ((has_live before ≡ true) × (is_order_barred order before.value ≡ true))
  pub not_an_address : Answers number NotAnAddress ↔ ((has_live before ≡ true) × (is_order_barred order before.value ≡ false) × CommandsTooFar order)
  pub only : Answers number Done
      ⊎ (Answers number NoGroup ⊎ (Answers number NoStation ⊎ (Answers number OrderOpen ⊎ Answers number NotAnAddress)))
