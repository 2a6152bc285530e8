-- The entry that a reading lists, if it lists one: by a listener's tables, and by what was heard before it.
use Rattle.std.specs.Prelude.{◌≡◌, ℕ, Bool, true, false, List, [], ◌∷◌, ◌++◌, Option, Some, None, ◌&&◌, if◌then◌else◌, reverse}
use Rattle.bus_model.specs.Overheard.{EntrySent, MessageSent, Sending, entries_overheard, same_who, sent_by}
use Rattle.bus_model.specs.declared.overheard.Overheard.{Overheard}
use Rattle.bus_model.specs.declared.overheard.Overheard.TheVariants.{Listed, ListedInPart}
use Rattle.bus_model.specs.declared.who.Who.{Who}
use Rattle.can_frame.specs.declared.reading.Reading.{Reading}
use Rattle.can_frame.specs.declared.reading.Reading.TheVariants.{Frame, Gap, Empty}
use Rattle.dm_messages.specs.Tolerant.{message_read}
use Rattle.dm_messages.specs.View.{same_kind}
use Rattle.dm_messages.specs.declared.kind.Kind.{Kind}
use Rattle.dm_messages.specs.declared.tolerant.MessageRead.{MessageRead}
use Rattle.dm_messages.specs.declared.tolerant.MessageRead.TheVariants.{Whole, InPart}
use Rattle.parameter_group.specs.Group.{Group, Diagnostic, DataTransfer, group_of}
use Rattle.listener.specs.ListenerSteps.{in_one_frame, whole_with}
use Rattle.listener.specs.ListenerValue.{ListenerValue}
use Rattle.listener.specs.declared.ended.ReadSending.{ReadSending}
use Rattle.listener.specs.declared.entry.SentEntry.{SentEntry}

-- what became of lists that take an entry so, where one was put, or none
abbrev pub HasTaken : {L : Type 0} → (L → SentEntry → L → Type 0) → L → Option SentEntry → L → Type 0
HasTaken {L} takes before None after = after ≡ before
HasTaken {L} takes before (Some e) after = takes before e after

-- the entry of a message, where anything of it can be read
abbrev pub entry_read : ℕ → ℕ → Sending → Option MessageRead → Option SentEntry
entry_read source to s None = None
entry_read source to s (Some r) = Some (record { who = s.who; kind = s.kind; source = source; to = to; read = r })

-- and of one that ended, if one did
abbrev pub entry_ended : ℕ → ℕ → Option ReadSending → Option SentEntry
entry_ended source to None = None
entry_ended source to (Some e) = entry_read source to e.sending e.read

abbrev pub entry_if_sent : ℕ → Option MessageSent → Option SentEntry
entry_if_sent source None = None
entry_if_sent source (Some m) = entry_read source m.to (record { who = m.who; kind = m.kind }) (message_read m.bytes)

-- the entry that a frame lists, by the tables
abbrev pub group_listed : ListenerValue → Group → Option SentEntry
group_listed l (Diagnostic kind source bytes) = entry_if_sent source (in_one_frame l (Diagnostic kind source bytes))
group_listed l (DataTransfer source destination bytes) = entry_if_sent source (whole_with l source destination bytes)
group_listed l _ = None

-- that a reading lists
abbrev pub reading_listed : ListenerValue → Reading → Option SentEntry
reading_listed l Empty = None
reading_listed l (Gap count) = None
reading_listed l (Frame f) = group_listed l (group_of f)

-- and the same by what was heard
abbrev pub group_sent : Group → List Reading → Option SentEntry
group_sent (Diagnostic kind source bytes) older = entry_if_sent source (sent_by (Diagnostic kind source bytes) older)
group_sent (DataTransfer source destination bytes) older = entry_if_sent source (sent_by (DataTransfer source destination bytes) older)
group_sent _ older = None

abbrev pub entry_sent : Reading → List Reading → Option SentEntry
entry_sent Empty older = None
entry_sent (Gap count) older = None
entry_sent (Frame f) older = group_sent (group_of f) older

-- each list that was overheard, oldest first
abbrev pub lists_overheard : List Reading → Who → Kind → List EntrySent
lists_overheard h w k = reverse (entries_overheard w k h)

-- what was read whole stands behind a list
abbrev pub put_whole : ℕ → MessageRead → List EntrySent → List EntrySent
put_whole to (Whole v) entries = entries ++ record { to = to; shown = v } ∷ []
put_whole to (InPart part) entries = entries

-- lists with an entry that was read whole at the end of its own
abbrev pub with_sent : SentEntry → (Who → Kind → List EntrySent) → Who → Kind → List EntrySent
with_sent e lists w k = if same_who e.who w && same_kind e.kind k then put_whole e.to e.read (lists w k) else lists w k

-- and with one, if there is one
abbrev pub with_entry_sent : Option SentEntry → (Who → Kind → List EntrySent) → Who → Kind → List EntrySent
with_entry_sent None lists w k = lists w k
with_entry_sent (Some e) lists w k = with_sent e lists w k

abbrev pub was_read_whole : MessageRead → Bool
was_read_whole (Whole v) = true
was_read_whole (InPart part) = false

-- a change says which list has one more entry, from where that came and where it went, and whether it was read whole
abbrev pub SaysSent : Overheard → Option SentEntry → Type 0
SaysSent (Listed who kind source to) entry =
    (e : SentEntry) × (entry ≡ Some e) × (e.who ≡ who) × (e.kind ≡ kind) × (e.source ≡ source) × (e.to ≡ to) × (was_read_whole e.read ≡ true)
SaysSent (ListedInPart who kind source to) entry =
    (e : SentEntry) × (entry ≡ Some e) × (e.who ≡ who) × (e.kind ≡ kind) × (e.source ≡ source) × (e.to ≡ to) × (was_read_whole e.read ≡ false)
SaysSent _ entry = entry ≡ None
