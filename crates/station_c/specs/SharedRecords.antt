-- What the record of a message says that a program shares, and what its calls do.
use Rattle.std.specs.Prelude.{◌≡◌, ◌≤◌, ◌==◌, ℕ, length, take, Option, Some, None, if◌then◌else◌}
use Rattle.shared_groups.specs.Sharing.{MessageValue}
use Rattle.shared_groups.specs.declared.outgoing.Sent.{Sent}
use Rattle.shared_groups.specs.declared.outgoing.Sent.TheVariants.{Nothing, Open, Written, Acknowledged, Aborted, Silent, AskedTooOften, CutOff}
use Rattle.station_c.specs.declared.shared_records.TheConstants.{MOST_BYTES}
use Rattle.station_c.specs.declared.shared_records.MessageRecord.{MessageRecord}

-- the NAME in a record, none where its flag is 0
abbrev pub name_under : ℕ → ℕ → Option ℕ
name_under has name = if has == 0 then None else Some name

-- a record has a message: who sent it, the NAME that held that address throughout, its group and bytes
pub record TellsMessage (r : MessageRecord) (m : MessageValue) : Type 0 where
  pub source : r.source ≡ m.source
  pub owner : name_under r.has_name r.name ≡ m.owner
  pub pgn : r.pgn ≡ m.pgn
  pub bytes : length m.bytes ≤ MOST_BYTES → (r.size ≡ length m.bytes) × (take r.size r.bytes ≡ m.bytes)

-- the number of what came of a message that was sent
abbrev pub sent_number : Sent → ℕ
sent_number Nothing = 0
sent_number Open = 1
sent_number Written = 2
sent_number Acknowledged = 3
sent_number (Aborted reason) = 4
sent_number Silent = 5
sent_number AskedTooOften = 6
sent_number CutOff = 7

-- the reason for which its receiver aborted it; else 0
abbrev pub sent_reason : Sent → ℕ
sent_reason (Aborted reason) = reason
sent_reason _ = 0
