-- A live station, the lists that it fills, and the verdict of the newest order that ended.
use Rattle.std.specs.Prelude.{◌≡◌, ◌&&◌, ◌||◌, ◌==◌, ℕ, Bool, true, false, nat_lt, List, Option, Some, None, is_some, option_map, unwrap_or, if◌then◌else◌}
use Rattle.bus_model.specs.Heard.{StationSettings}
use Rattle.can_frame.specs.FrameValue.{FrameValue}
use Rattle.can_frame.specs.declared.address.TheConstants.{GLOBAL_ADDRESS}
use Rattle.can_frame.specs.declared.reading.Reading.{Reading}
use Rattle.entry_lists.specs.Newest.{KeepsNewest, NewestLists}
use Rattle.live_station.specs.Ear.{frames_told}
use Rattle.live_station.specs.OpenOrders.{begun_order, order_cut_off}
use Rattle.live_station.specs.Turns.{has_come}
use Rattle.live_station.specs.Working.{WorkingValue, settled_since}
use Rattle.live_station.specs.declared.open.OpenOrder.{OpenOrder}
use Rattle.live_station.specs.declared.order.Order.{Order}
use Rattle.live_station.specs.declared.order.Order.TheVariants.{Command}
use Rattle.live_station.specs.declared.pulled.Pulled.{Pulled}
use Rattle.live_station.specs.declared.pulled.Pulled.TheVariants.{Verdict as PulledVerdict}
use Rattle.live_station.specs.declared.verdict.Verdict.{Verdict}
use Rattle.parameter_group.specs.Group.{group_of}
use Rattle.shared_groups.specs.Outgoing.{is_broadcasting}
use Rattle.shared_groups.specs.Sending.{has_to_do, why_unsent}
use Rattle.shared_groups.specs.Sharing.{HearsBeside, SharedValue, after_frame, brings_message, is_for_program}
use Rattle.shared_groups.specs.declared.error.SharedError.{SharedError}
use Rattle.shared_groups.specs.declared.error.SharedError.TheVariants.{SessionOpen}
use Rattle.station_table.specs.Listing.{lists_heard}
use Rattle.station_table.specs.StandsFor.{StandsFor}

-- the station; which entries are kept; the verdict of the newest order, once it ended; and the groups that the program shares
pub record ListedLiveValue : Type 0 where
  pub live : WorkingValue
  pub lists : NewestLists
  pub last : Option Verdict
  pub shared : SharedValue

-- of two verdicts the newer one, if there is one
abbrev pub newer_verdict : Option Verdict → Option Verdict → Option Verdict
newer_verdict None before = before
newer_verdict (Some verdict) before = Some verdict

-- it stands for what it was told of these readings, newest first, and keeps so many of the newest entries of each list that was heard of them
pub record StandsLive (r : StationSettings) (grant keep : ℕ) (v : ListedLiveValue) (h : List Reading) : Type 0 where
  pub station : StandsFor r grant v.live.station (frames_told r h)
  pub lists : KeepsNewest v.lists (lists_heard r (frames_told r h))
  pub keep_is : v.lists.keep ≡ keep

-- an order was opened; the verdict of the one before is forgotten
abbrev pub with_order : Order → ListedLiveValue → ListedLiveValue
with_order order v = record v { live = record v.live { order = Some (begun_order order) }; last = None }

-- an order is a command, which goes in packets to all
abbrev pub is_command : Order → Bool
is_command (Command name address) = true
is_command _ = false

-- a message of the program's in packets to all is under way: a command waits for its end
abbrev pub is_barred : Order → ListedLiveValue → Bool
is_barred order v = is_some v.live.order || (is_command order && is_broadcasting v.shared.outgoing)

-- the open order, if one is open, was cut off
abbrev pub with_order_ended : ℕ → ListedLiveValue → ListedLiveValue
with_order_ended now v = record v { live = record v.live { order = None }; last = newer_verdict (option_map (order_cut_off now) v.live.order) v.last }

-- what goes is the verdict of an order
abbrev pub verdict_pulled : Pulled → Option Verdict
verdict_pulled (PulledVerdict verdict) = Some verdict
verdict_pulled _ = None

-- ---- the groups that the program shares

-- they heard a frame; it is withheld from the station, or not; a message is whole with it, or not; nothing else changed
pub record SharesFrame (f : FrameValue) (withheld whole : Bool) (v v' : ListedLiveValue) : Type 0 where
  pub withholds : withheld ≡ is_for_program v.shared f (group_of f)
  pub alone : withheld ≡ true → (v'.shared ≡ after_frame f (group_of f) v.shared) × (whole ≡ brings_message f (group_of f) v.shared)
  pub beside : withheld ≡ false → HearsBeside f (group_of f) whole v.shared v'.shared
  pub rest : v' ≡ record v { shared = v'.shared }

-- something is to be done for them, and the station has settled
abbrev pub shared_goes : ℕ → ListedLiveValue → Bool
shared_goes now v = has_to_do now v.shared && has_come (settled_since v.live) now

-- a command is under way
abbrev pub is_commanding_by : Option OpenOrder → Bool
is_commanding_by None = false
is_commanding_by (Some o) = is_command o.order

-- why a message of so many bytes is not sent, memory aside: one in packets to all waits for the end of a command
abbrev pub why_not_sent : ListedLiveValue → ℕ → ℕ → ℕ → Option SharedError
why_not_sent v pgn size to =
    if is_commanding_by v.live.order && nat_lt 8 size && (to == GLOBAL_ADDRESS)
    then Some (unwrap_or (why_unsent v.shared pgn size to) SessionOpen)
    else why_unsent v.shared pgn size to
