-- How an open order goes on, and how it ends.
use Rattle.std.specs.Prelude.{ℕ, ◌-◌, min, Bool, true, false, not, ◌&&◌, ◌||◌, ◌==◌, nat_lt, is_some, Option, Some, None, if◌then◌else◌}
use Rattle.address_claim.specs.Claiming.{is_held}
use Rattle.can_frame.specs.declared.address.TheConstants.{GLOBAL_ADDRESS, GREATEST_ADDRESS}
use Rattle.can_frame.specs.declared.group_numbers.TheConstants.{ADDRESS_CLAIMED, COMMANDED_ADDRESS, DM3, DM11}
use Rattle.dm_messages.specs.View.{pgn_of_kind}
use Rattle.dm_messages.specs.declared.kind.Kind.{Kind}
use Rattle.dm_messages.specs.declared.kind.Kind.TheVariants.{Dm1, Dm2}
use Rattle.live_unit.specs.Waits.{later}
use Rattle.live_station.specs.declared.order.Clearing.{Clearing}
use Rattle.live_station.specs.declared.order.Clearing.TheVariants.{Dm3 as ClearsDm3, Dm11 as ClearsDm11}
use Rattle.live_station.specs.declared.order.Order.{Order}
use Rattle.live_station.specs.declared.order.Order.TheVariants.{Ask, AskClaim, AskAll, AskAllClaims, Clear, Command}
use Rattle.live_station.specs.declared.verdict.Doubt.{Doubt}
use Rattle.live_station.specs.declared.verdict.Doubt.TheVariants.{AddressChangedHands, FramesMissed, OwnAddress, Stranger}
use Rattle.live_station.specs.declared.verdict.Finding.{Finding}
use Rattle.live_station.specs.declared.verdict.Finding.TheVariants.{Answered, Unread, Positive, Refused, Busy, Obeyed, Silent, InDoubt, LostAddress, CutOff}
use Rattle.live_station.specs.declared.verdict.Verdict.{Verdict}
use Rattle.live_station.specs.declared.sign.Sign.{Sign}
use Rattle.live_station.specs.declared.sign.Sign.TheVariants as sign
use Rattle.live_station.specs.declared.open.Asked.{Asked}
use Rattle.live_station.specs.declared.open.Stage.{Stage}
use Rattle.live_station.specs.declared.open.Stage.TheVariants as stage
use Rattle.live_station.specs.declared.open.OpenOrder.{OpenOrder}
use Rattle.live_station.specs.declared.open.Part.{Part}
use Rattle.live_station.specs.declared.open.Part.TheVariants.{Announcement, First, Second}
use Rattle.live_station.specs.declared.open.Progress.{Progress}
use Rattle.live_station.specs.declared.open.Progress.TheVariants.{Goes, Ends}
use Rattle.live_station.specs.declared.open.Sight.{Sight}
use Rattle.live_station.specs.declared.open.TheConstants.{ANSWER_WAIT, BUSY_WAIT, LONGEST_ANSWER, MOST_TRIES}

-- ---- what is asked

-- the message that shows what a clear left: DM2 what DM3 left, DM1 what DM11 left
abbrev pub kind_left : Clearing → Kind
kind_left ClearsDm3 = Dm2
kind_left ClearsDm11 = Dm1

-- the group by which it is asked for
abbrev pub clearing_group : Clearing → ℕ
clearing_group ClearsDm3 = DM3
clearing_group ClearsDm11 = DM11

-- the unit that an order is for, if it is for one
abbrev pub unit_named : Order → Option ℕ
unit_named (Ask name kind) = Some name
unit_named (AskClaim name) = Some name
unit_named (Clear name what) = Some name
unit_named (Command name address) = Some name
unit_named _ = None

-- the message that it asks for, if it is one
abbrev pub kind_wanted : Order → Option Kind
kind_wanted (Ask name kind) = Some kind
kind_wanted (AskAll kind) = Some kind
kind_wanted _ = None

-- the group that it asks for; of a command its own
abbrev pub group_wanted : Order → ℕ
group_wanted (Ask name kind) = pgn_of_kind kind
group_wanted (AskAll kind) = pgn_of_kind kind
group_wanted (AskClaim name) = ADDRESS_CLAIMED
group_wanted AskAllClaims = ADDRESS_CLAIMED
group_wanted (Clear name what) = clearing_group what
group_wanted (Command name address) = COMMANDED_ADDRESS

-- it commands an address that nobody can hold
abbrev pub commands_too_far : Order → Bool
commands_too_far (Command name address) = nat_lt GREATEST_ADDRESS address
commands_too_far _ = false

-- the frames of a command: the announcement of a broadcast, and two packets
abbrev pub part_number : Part → ℕ
part_number Announcement = 0
part_number First = 1
part_number Second = 2

-- an order that begins
abbrev pub begun_order : Order → OpenOrder
begun_order order = record { order = order; found = None; tries = 0; stage = stage.Waits 0 0 }

-- it is to be written again; a unit without an address is waited for
abbrev pub asking_again : ℕ → ℕ → OpenOrder → OpenOrder
asking_again from now o = record o { stage = stage.Waits from (later now ANSWER_WAIT) }

-- ---- how it ends

-- the one address to which it was written
abbrev pub one_asked : Asked → Option ℕ
one_asked a = if a.to == GLOBAL_ADDRESS then None else Some a.to

abbrev pub address_written : Stage → Option ℕ
address_written (stage.Asked a) = one_asked a
address_written _ = None

abbrev pub time_since : Stage → ℕ → Option ℕ
time_since (stage.Asked a) now = Some (now - a.at)
time_since _ now = None

abbrev pub verdict_now : Finding → ℕ → OpenOrder → Verdict
verdict_now finding now o = record {
  order = o.order;
  finding = finding;
  tries = o.tries;
  address = address_written o.stage;
  after = time_since o.stage now;
  left = None;
}

-- a clear that came to this was written
abbrev pub asks_what_is_left : Finding → Bool
asks_what_is_left Positive = true
asks_what_is_left Silent = true
asks_what_is_left (InDoubt doubt) = true
asks_what_is_left _ = false

-- what is left after a clear is asked, by an order that keeps its verdict
abbrev pub asking_what_is_left : ℕ → Clearing → Verdict → ℕ → OpenOrder
asking_what_is_left name what verdict now = record {
  order = Ask name (kind_left what);
  found = Some verdict;
  tries = 0;
  stage = stage.Waits 0 (later now ANSWER_WAIT);
}

-- an order comes to its end: of a clear that was written what is left is asked first, and that the verdict then has too
abbrev pub ending : Option Verdict → Order → Finding → Verdict → ℕ → Progress
ending (Some found) order finding verdict now = Ends (record found { left = Some finding })
ending None (Clear name what) finding verdict now =
    if asks_what_is_left finding then Goes (asking_what_is_left name what verdict now) else Ends verdict
ending None _ finding verdict now = Ends verdict

abbrev pub order_ended : Finding → ℕ → OpenOrder → Progress
order_ended finding now o = ending o.found o.order finding (verdict_now finding now o) now

-- it was written, or a frame of it was
abbrev pub was_written : OpenOrder → Bool
was_written o = nat_lt 0 o.tries

-- the input ended
abbrev pub cut_by : Option Verdict → Finding → Verdict → Verdict
cut_by (Some found) finding verdict = record found { left = Some finding }
cut_by None finding verdict = verdict

abbrev pub order_cut_off : ℕ → OpenOrder → Verdict
order_cut_off now o = cut_by o.found (CutOff (was_written o)) (verdict_now (CutOff (was_written o)) now o)

-- ---- what happens to it

-- what was written can no longer be told by its answer: a clear is in doubt, anything else is asked again
abbrev pub doubted : Order → Doubt → ℕ → OpenOrder → Progress
doubted (Clear name what) doubt now o = order_ended (InDoubt doubt) now o
doubted _ doubt now o = Goes (asking_again now now o)

-- frames were missed; a command goes on, for its claim will be heard
abbrev pub missing : Order → Stage → ℕ → OpenOrder → Progress
missing (Command name address) s now o = Goes o
missing order (stage.Asked a) now o = doubted order FramesMissed now o
missing order s now o = Goes o

abbrev pub order_missed : ℕ → OpenOrder → Progress
order_missed now o = missing o.order o.stage now o

-- why an answer says nothing of what was written: the NAME does not hold the address that was asked; or somebody else claims the own address,
-- or sends from it
abbrev pub doubt_of : Order → Asked → Sight → Option Doubt
doubt_of order a s =
    if is_some (unit_named order) && not (is_held s.address a.to) then Some AddressChangedHands
    else if s.contested || not (is_held s.held a.own) then Some OwnAddress
    else if s.stranger then Some Stranger
    else None

-- an answer is waited for anew, but no longer than it may take in all
abbrev pub waiting_on : Asked → ℕ → OpenOrder → OpenOrder
waiting_on a now o = record o { stage = stage.Asked (record a { until = min (later now ANSWER_WAIT) (later a.at LONGEST_ANSWER) }) }

-- the unit acknowledges: 0 it did, 3 it cannot now, anything else it does not
abbrev pub acknowledging_clear : ℕ → ℕ → OpenOrder → Order → Progress
acknowledging_clear control now o (Clear name what) = order_ended Positive now o
acknowledging_clear control now o _ = Goes o

abbrev pub order_acknowledged : ℕ → ℕ → OpenOrder → Progress
order_acknowledged control now o =
    if control == 0 then acknowledging_clear control now o o.order
    else if control == 3 then (if nat_lt o.tries MOST_TRIES then Goes (asking_again (later now BUSY_WAIT) now o) else order_ended Busy now o)
    else order_ended (Refused control) now o

-- a message that was asked for began, to all or to the station; or another one took its place
abbrev pub with_mark : Bool → Asked → Asked
with_mark to_all a = record a { broadcast = a.broadcast || to_all; session = a.session || not to_all }

abbrev pub without_mark : Bool → Asked → Asked
without_mark to_all a = record a { broadcast = a.broadcast && not to_all; session = a.session && to_all }

abbrev pub still_asked : Asked → OpenOrder → OpenOrder
still_asked a o = record o { stage = stage.Asked a }

-- a message or claim that was asked for came: of one unit that is the answer, of all it is one more, where it can be read
abbrev pub finding_read : Bool → Finding
finding_read is_read = if is_read then Answered else Unread

abbrev pub order_answered : Bool → Asked → ℕ → OpenOrder → Progress
order_answered is_read a now o =
    if a.to == GLOBAL_ADDRESS then Goes (waiting_on (record a { answered = a.answered || is_read }) now o)
    else order_ended (finding_read is_read) now o

-- what a frame says of what was written
abbrev pub order_signed : Sign → Asked → ℕ → OpenOrder → Progress
order_signed sign.Nothing a now o = Goes o
order_signed (sign.Acknowledged control) a now o = order_acknowledged control now o
order_signed (sign.Began to_all) a now o = Goes (waiting_on (with_mark to_all a) now o)
order_signed (sign.Replaced to_all) a now o = Goes (still_asked (without_mark to_all a) o)
order_signed sign.Packet a now o = Goes (waiting_on a now o)
order_signed (sign.Ended is_read) a now o = order_answered is_read a now o
order_signed sign.Claimed a now o = order_answered true a now o

-- a frame is heard while it is out: where it puts that in doubt, it is no answer, but that a claim which is asked for is one wherever it comes from
abbrev pub signed_or_doubted : Option Doubt → Sign → Asked → ℕ → OpenOrder → Progress
signed_or_doubted (Some doubt) sign.Claimed a now o =
    if a.to == GLOBAL_ADDRESS then doubted o.order doubt now o else order_ended Answered now o
signed_or_doubted (Some doubt) _ a now o = doubted o.order doubt now o
signed_or_doubted None sign a now o = order_signed sign a now o

-- a command is obeyed once the NAME holds the address; where the station's own is another one, or somebody else sends from it, it is lost
abbrev pub is_still_own : Stage → Sight → Bool
is_still_own (stage.Commands own next) s = is_held s.held own && not s.stranger
is_still_own (stage.Asked a) s = is_held s.held a.own && not s.stranger
is_still_own _ s = true

abbrev pub command_goes_on : ℕ → Sight → ℕ → OpenOrder → Progress
command_goes_on address s now o =
    if is_held s.address address then order_ended Obeyed now o
    else if is_still_own o.stage s then Goes o
    else order_ended LostAddress now o

-- a frame is heard
abbrev pub order_goes_on : Order → Stage → Sign → Sight → ℕ → OpenOrder → Progress
order_goes_on (Command name address) st sign s now o = command_goes_on address s now o
order_goes_on order (stage.Asked a) sign s now o = signed_or_doubted (doubt_of order a s) sign a now o
order_goes_on order st sign s now o = Goes o

abbrev pub order_heard : Sign → Sight → ℕ → OpenOrder → Progress
order_heard sign s now o = order_goes_on o.order o.stage sign s now o
