-- What the records that C reads say.
use Rattle.std.specs.Prelude.{◌≡◌, ◌==◌, ℕ, Bool, true, false, List, Option, Some, None, if◌then◌else◌, take, map, length, slice_get}
use Rattle.std.specs.Option.{option_map}
use Rattle.can_frame.specs.FrameValue.{FrameValue, frame}
use Rattle.bus_model.specs.Heard.{RowHeard, AckHeard}
use Rattle.bus_model.specs.declared.change.Change.{Change}
use Rattle.bus_model.specs.declared.change.Change.TheVariants.{Nothing, Claimed, GaveUp, Acknowledged, Listed, Unreadable, Unowned, Missed}
use Rattle.bus_model.specs.declared.change.Displaced.{Displaced}
use Rattle.dm_messages.specs.declared.shown.Shown.{Shown}
use Rattle.dm_messages.specs.declared.kind.Kind.{Kind}
use Rattle.dm_messages.specs.declared.kind.Kind.TheVariants.{Dm1, Dm2, Dm6}
use Rattle.trouble_code.specs.Code.{Code}
use Rattle.station_table.specs.declared.reaction.Reaction.{Reaction}
use Rattle.station_c.specs.declared.changes.ChangeRecord.{ChangeRecord}
use Rattle.station_c.specs.declared.records.FrameRecord.{FrameRecord}
use Rattle.station_c.specs.declared.records.ReplyRecord.{ReplyRecord}
use Rattle.station_c.specs.declared.records.RowRecord.{RowRecord}
use Rattle.station_c.specs.declared.records.EntryRecord.{EntryRecord}
use Rattle.station_c.specs.declared.records.CodeRecord.{CodeRecord}

-- 1 for what holds, 0 for what does not
abbrev pub flag : Bool → ℕ
flag true = 1
flag false = 0

-- the frame in a record
abbrev pub frame_recorded : FrameRecord → FrameValue
frame_recorded r = frame r.id (take r.len r.bytes)

-- the frames of a reply, in their order
abbrev pub frames_recorded : ReplyRecord → List FrameValue
frames_recorded reply = map frame_recorded (take reply.count reply.frames)

-- a reply says what to withdraw and to queue
abbrev pub TellsReaction : ReplyRecord → Reaction → Type 0
TellsReaction reply reaction = (reply.withdraw ≡ flag reaction.withdraw) × (frames_recorded reply ≡ reaction.put)

-- the address in a record, none where its flag is 0
abbrev pub address_under : ℕ → ℕ → Option ℕ
address_under has address = if has == 0 then None else Some address

-- the acknowledgment in a record, none where its flag is 0
abbrev pub ack_under : ℕ → ℕ → ℕ → Option AckHeard
ack_under has control pgn = if has == 0 then None else Some (record { control = control; pgn = pgn })

-- what a record says of its NAME
abbrev pub row_in : RowRecord → RowHeard
row_in row = record { address = address_under row.has_address row.address; ack = ack_under row.has_ack row.ack_control row.ack_pgn }

-- the kind of this number
abbrev pub kind_numbered : ℕ → Option Kind
kind_numbered n = if n == 1 then Some Dm1 else (if n == 2 then Some Dm2 else (if n == 6 then Some Dm6 else None))

-- what is told of an entry: its lamps, and how many codes
abbrev pub entry_record : Shown → EntryRecord
entry_record shown = record { lamps = shown.lamps.lamps; flashes = shown.lamps.flashes; codes = length shown.codes }

-- what is told of a code
abbrev pub code_record : Code → CodeRecord
code_record c = record { spn = c.spn; fmi = c.fmi; count = c.count }

-- what is told of the entry at a place of a list, if there is one
abbrev pub entry_told : List Shown → ℕ → Option EntryRecord
entry_told entries place = option_map entry_record (slice_get entries place)

-- what is told of the code at a place of an entry, if there is one
abbrev pub code_of : Option Shown → ℕ → Option CodeRecord
code_of None place = None
code_of (Some shown) place = option_map code_record (slice_get shown.codes place)

-- what is told of the code at a place of the entry at a place of a list
abbrev pub code_told : List Shown → ℕ → ℕ → Option CodeRecord
code_told entries entry place = code_of (slice_get entries entry) place

-- the number of a kind
abbrev pub kind_told : Kind → ℕ
kind_told Dm1 = 1
kind_told Dm2 = 2
kind_told Dm6 = 6

-- that nothing changed
abbrev pub no_change : ChangeRecord
no_change = record { name = 0; displaced = 0; pgn = 0; count = 0; what = 0; address = 0; kind = 0; control = 0; again = 0; has_displaced = 0; lost = 0 }

-- the NAME whose address another one claimed, and whether it lost it
abbrev pub with_displaced : Option Displaced → ChangeRecord → ChangeRecord
with_displaced None told = told
with_displaced (Some d) told = record told { has_displaced = 1; displaced = d.name; lost = flag d.lost }

-- what is told of a change: each field that is not named is 0
abbrev pub change_told : Change → ChangeRecord
change_told Nothing = no_change
change_told (Claimed name address displaced) = with_displaced displaced (record no_change { what = 1; name = name; address = address })
change_told (GaveUp name) = record no_change { what = 2; name = name }
change_told (Acknowledged name control pgn again) = record no_change { what = 3; name = name; control = control; pgn = pgn; again = flag again }
change_told (Listed name kind source) = record no_change { what = 4; name = name; kind = kind_told kind; address = source }
change_told (Unreadable name kind source) = record no_change { what = 5; name = name; kind = kind_told kind; address = source }
change_told (Unowned kind source) = record no_change { what = 6; kind = kind_told kind; address = source }
change_told (Missed count) = record no_change { what = 7; count = count }

-- a record tells of this change
abbrev pub TellsChange : ChangeRecord → Change → Type 0
TellsChange told change = told ≡ change_told change
