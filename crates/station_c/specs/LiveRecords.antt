-- What the records of a live station say.
use Rattle.std.specs.Prelude.{◌≡◌, ◌&&◌, ◌==◌, ℕ, Bool, is_some, nat_le, nat_lt, Option, Some, None, if◌then◌else◌}
use Rattle.std.specs.Option.{unwrap_or}
use Rattle.can_frame.specs.FrameValue.{FrameValue}
use Rattle.can_frame.specs.declared.group_numbers.TheConstants.{ADDRESS_CLAIMED, DM1, DM2, DM3, DM6, DM11}
use Rattle.dm_messages.specs.declared.kind.Kind.TheVariants.{Dm1, Dm2, Dm6}
use Rattle.live_station.specs.OpenOrders.{group_wanted, unit_named}
use Rattle.live_station.specs.declared.order.Clearing.TheVariants.{Dm3 as ClearsDm3, Dm11 as ClearsDm11}
use Rattle.live_station.specs.declared.order.Order.{Order}
use Rattle.live_station.specs.declared.order.Order.TheVariants.{Ask, AskClaim, AskAll, AskAllClaims, Clear, Command}
use Rattle.live_station.specs.declared.pulled.Pulled.{Pulled}
use Rattle.live_station.specs.declared.pulled.Pulled.TheVariants as pulled
use Rattle.live_station.specs.declared.pulled.Told.{Told}
use Rattle.live_station.specs.declared.times.StationTimes.{StationTimes}
use Rattle.live_station.specs.declared.verdict.Doubt.{Doubt}
use Rattle.live_station.specs.declared.verdict.Doubt.TheVariants.{AddressChangedHands, FramesMissed, OwnAddress, Stranger}
use Rattle.live_station.specs.declared.verdict.Finding.{Finding}
use Rattle.live_station.specs.declared.verdict.Finding.TheVariants.{Answered, Unread, Positive, Refused, Busy, Obeyed, NoSuchUnit, Silent, InDoubt, LostAddress, CutOff}
use Rattle.live_station.specs.declared.verdict.Verdict.{Verdict}
use Rattle.station_c.specs.Records.{change_told, flag, frame_recorded, no_change}
use Rattle.station_c.specs.declared.changes.ChangeRecord.{ChangeRecord}
use Rattle.station_c.specs.declared.live_records.LiveSettingsRecord.{LiveSettingsRecord}
use Rattle.station_c.specs.declared.live_records.VerdictRecord.{VerdictRecord}
use Rattle.station_c.specs.declared.records.FrameRecord.{FrameRecord}

-- ---- what a station keeps to

-- the settings of a record are within their ranges: a grant of at least 1, the gap of a command's frames, 10 to 200 ms, and the wait after a claim, at
-- most 1 s
abbrev pub are_in_range : LiveSettingsRecord → Bool
are_in_range r = nat_lt 0 r.grant && (nat_le 10000 r.gap && (nat_le r.gap 200000 && nat_le r.settle 1000000))

abbrev pub times_told : LiveSettingsRecord → StationTimes
times_told r = record { gap = r.gap; settle = r.settle }

-- ---- what it is told, and what goes

-- somebody else sends from its address; or this changed of what it shows
abbrev pub change_told_on_bus : Told → ChangeRecord
change_told_on_bus t = if t.stranger then record no_change { what = 9 } else change_told t.change

-- the frame that goes, with 1; or 0, and the record is as it was
abbrev pub TellsPulled : ℕ → FrameRecord → FrameRecord → Pulled → Type 0
TellsPulled has before after (pulled.Frame f of_order) = (has ≡ 1) × (frame_recorded after ≡ f)
TellsPulled has before after _ = (has ≡ 0) × (after ≡ before)

-- the same of groups that are shared
abbrev pub TellsShared : ℕ → FrameRecord → FrameRecord → Option FrameValue → Type 0
TellsShared has before after (Some f) = (has ≡ 1) × (frame_recorded after ≡ f)
TellsShared has before after None = (has ≡ 0) × (after ≡ before)

-- ---- orders

-- the order that asks the unit of a NAME for this group, if there is one
abbrev pub order_to_ask : ℕ → ℕ → Option Order
order_to_ask name pgn =
    if pgn == ADDRESS_CLAIMED then Some (AskClaim name) else (if pgn == DM1 then Some (Ask name Dm1) else (if pgn == DM2 then Some (Ask name Dm2) else
    (if pgn == DM6 then Some (Ask name Dm6) else None)))

-- and the one that asks all
abbrev pub order_to_ask_all : ℕ → Option Order
order_to_ask_all pgn =
    if pgn == ADDRESS_CLAIMED then Some AskAllClaims else (if pgn == DM1 then Some (AskAll Dm1) else (if pgn == DM2 then Some (AskAll Dm2) else
    (if pgn == DM6 then Some (AskAll Dm6) else None)))

-- the order that has the unit of a NAME clear by this group
abbrev pub order_to_clear : ℕ → ℕ → Option Order
order_to_clear name pgn = if pgn == DM3 then Some (Clear name ClearsDm3) else (if pgn == DM11 then Some (Clear name ClearsDm11) else None)

-- ---- verdicts

-- no order was given
abbrev pub no_verdict : VerdictRecord
no_verdict = record {
  name = 0;
  after = 0;
  pgn = 0;
  what = 0;
  detail = 0;
  left = 0;
  left_detail = 0;
  tries = 0;
  has_name = 0;
  has_address = 0;
  address = 0;
  has_after = 0;
  commanded = 0;
}

-- the address that it commands
abbrev pub address_commanded : Order → ℕ
address_commanded (Command name address) = address
address_commanded _ = 0

-- what is told of an order: its unit, its group, and the address that it commands
abbrev pub order_record : Order → VerdictRecord
order_record o = record no_verdict {
  name = unwrap_or (unit_named o) 0;
  has_name = flag (is_some (unit_named o));
  pgn = group_wanted o;
  commanded = address_commanded o;
}

abbrev pub doubt_number : Doubt → ℕ
doubt_number AddressChangedHands = 1
doubt_number FramesMissed = 2
doubt_number OwnAddress = 3
doubt_number Stranger = 4

abbrev pub finding_number : Finding → ℕ
finding_number Answered = 2
finding_number Unread = 3
finding_number Positive = 4
finding_number (Refused control) = 5
finding_number Busy = 6
finding_number Obeyed = 7
finding_number NoSuchUnit = 8
finding_number Silent = 9
finding_number (InDoubt doubt) = 10
finding_number LostAddress = 11
finding_number (CutOff was_sent) = 12

-- the control of a refusal, why there is doubt, and whether it was written
abbrev pub finding_detail : Finding → ℕ
finding_detail (Refused control) = control
finding_detail (InDoubt doubt) = doubt_number doubt
finding_detail (CutOff was_sent) = flag was_sent
finding_detail _ = 0

-- what was found of what is left, 0 where it was not asked
abbrev pub left_number : Option Finding → ℕ
left_number None = 0
left_number (Some finding) = finding_number finding

abbrev pub left_detail : Option Finding → ℕ
left_detail None = 0
left_detail (Some finding) = finding_detail finding

abbrev pub verdict_record : Verdict → VerdictRecord
verdict_record v = record (order_record v.order) {
  what = finding_number v.finding;
  detail = finding_detail v.finding;
  left = left_number v.left;
  left_detail = left_detail v.left;
  tries = v.tries;
  has_address = flag (is_some v.address);
  address = unwrap_or v.address 0;
  has_after = flag (is_some v.after);
  after = unwrap_or v.after 0;
}

-- the open order; where none is open the verdict of the newest, if there is one
abbrev pub verdict_told : Option Order → Option Verdict → VerdictRecord
verdict_told (Some order) last = record (order_record order) { what = 1 }
verdict_told None (Some verdict) = verdict_record verdict
verdict_told None None = no_verdict
