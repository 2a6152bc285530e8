-- What one hears of any list of readings, newest first, who takes no part on the bus: messages between any two addresses.
use Rattle.std.specs.Prelude.{ℕ, ◌+◌, Bool, false, not, ◌&&◌, ◌||◌, ◌==◌, List, [], ◌∷◌, Option, Some, None, if◌then◌else◌, is_some}
use Rattle.address_claim.specs.Claiming.{is_held}
use Rattle.can_frame.specs.declared.address.TheConstants.{GLOBAL_ADDRESS}
use Rattle.can_frame.specs.declared.reading.Reading.{Reading}
use Rattle.can_frame.specs.declared.reading.Reading.TheVariants.{Frame, Gap, Empty}
use Rattle.dm_messages.specs.View.{decoding, same_kind}
use Rattle.dm_messages.specs.declared.kind.Kind.{Kind}
use Rattle.dm_messages.specs.declared.shown.Shown.{Shown}
use Rattle.parameter_group.specs.Group.{Group, AddressClaimed, CannotClaim, Acknowledgment, Diagnostic, ConnectionManagement, DataTransfer, group_of}
use Rattle.transport.specs.Pieces.{joined}
pub use Rattle.reassembly.specs.Between.{is_pair}
use Rattle.reassembly.specs.Between.{managed, packeted}
use Rattle.reassembly.specs.Partials.{PartialValue, begun, with_packet, is_whole}
use Rattle.bus_model.specs.Heard.{RowHeard, ack_in_row, address_in_row, addressless, counted, kind_of, owner_heard, row_with_ack, without_address}
use Rattle.bus_model.specs.declared.who.Who.{Who}
use Rattle.bus_model.specs.declared.who.Who.TheVariants.{Named, Unclaimed}

-- how many gaps there were
abbrev pub gaps_heard : List Reading → ℕ
gaps_heard [] = 0
gaps_heard (Gap n ∷ older) = counted (gaps_heard older + 1)
gaps_heard (Empty ∷ older) = gaps_heard older
gaps_heard (Frame f ∷ older) = gaps_heard older

-- whose a message is that begins at an address: its owner's; where it has none, nobody's but the address's, until the next gap
abbrev pub who_at : Option ℕ → ℕ → ℕ → Who
who_at None a gaps = Unclaimed a gaps
who_at (Some n) a gaps = Named n

abbrev pub who_heard : ℕ → List Reading → Who
who_heard a rs = who_at (owner_heard a rs) a (gaps_heard rs)

-- whose a message is, and of which kind
pub record Sending : Type 0 where
  pub who : Who
  pub kind : Kind

-- a message of which some packets were read
abbrev pub HalfSent : Type 0
HalfSent = PartialValue Sending

-- what an announcement starts: a diagnostic message, or nothing
abbrev pub newly_sent : Option Kind → ℕ → Who → Option HalfSent
newly_sent None size who = None
newly_sent (Some k) size who = Some (begun (record { who = who; kind = k }) size)

abbrev pub is_named : ℕ → Who → Bool
is_named n (Named m) = n == m
is_named n (Unclaimed a gaps) = false

-- a claim of the source keeps what was begun under its NAME alone
abbrev pub kept_by_name : ℕ → Option HalfSent → Option HalfSent
kept_by_name n None = None
kept_by_name n (Some j) = if is_named n j.tag.who then Some j else None

-- what is half sent from a to d, after one more group: by what is read between the two, an announcement begins a message of whoever owns its
-- source; and a claim of the source keeps what is of its NAME
abbrev pub between_after : ℕ → ℕ → Group → Who → Option HalfSent → Option HalfSent
between_after a d (ConnectionManagement s e message) who before = managed (λ size pgn. newly_sent (kind_of pgn) size who) a d s e message before
between_after a d (DataTransfer s e bytes) who before = packeted a d s e bytes before
between_after a d (AddressClaimed s n) who before = if s == a then kept_by_name n before else before
between_after a d _ who before = before

-- what is half sent from a to d
abbrev pub between_heard : ℕ → ℕ → List Reading → Option HalfSent
between_heard a d [] = None
between_heard a d (Gap n ∷ older) = None
between_heard a d (Empty ∷ older) = between_heard a d older
between_heard a d (Frame f ∷ older) = between_after a d (group_of f) (who_heard a older) (between_heard a d older)

-- a message that ended: whose, of which kind, the address that it went to, 255 for all, and its payload
pub record MessageSent : Type 0 where
  pub who : Who
  pub kind : Kind
  pub to : ℕ
  pub bytes : List ℕ

-- the pieces one after another, cut to the size
abbrev pub sent_whole : ℕ → Option HalfSent → Option MessageSent
sent_whole d None = None
sent_whole d (Some j) =
    if is_whole j then Some (record { who = j.tag.who; kind = j.tag.kind; to = d; bytes = joined j.size j.pieces }) else None

-- the message that a group ends, with these readings before it
abbrev pub sent_by : Group → List Reading → Option MessageSent
sent_by (Diagnostic k s bytes) older = Some (record { who = who_heard s older; kind = k; to = GLOBAL_ADDRESS; bytes = bytes })
sent_by (DataTransfer s d bytes) older = sent_whole d (with_packet bytes (between_heard s d older))
sent_by _ older = None

-- the message that ends at a reading
abbrev pub message_sent : Reading → List Reading → Option MessageSent
message_sent (Gap n) older = None
message_sent Empty older = None
message_sent (Frame f) older = sent_by (group_of f) older

-- an entry: where it went, 255 for all, and what it shows
pub record EntrySent : Type 0 where
  pub to : ℕ
  pub shown : Shown

abbrev pub same_who : Who → Who → Bool
same_who (Named n) (Named m) = n == m
same_who (Unclaimed a g) (Unclaimed b h) = a == b && g == h
same_who _ _ = false

-- what can be read of a payload stands before the list
abbrev pub put_shown : ℕ → Option Shown → List EntrySent → List EntrySent
put_shown d None entries = entries
put_shown d (Some v) entries = record { to = d; shown = v } ∷ entries

-- a message that ended, where it is of that unit and kind
abbrev pub put_sent : Who → Kind → Option MessageSent → List EntrySent → List EntrySent
put_sent w k None entries = entries
put_sent w k (Some m) entries = if same_who m.who w && same_kind m.kind k then put_shown m.to (decoding m.bytes) entries else entries

-- the entries of a unit and kind, newest first
abbrev pub entries_overheard : Who → Kind → List Reading → List EntrySent
entries_overheard w k [] = []
entries_overheard w k (x ∷ older) = put_sent w k (message_sent x older) (entries_overheard w k older)

-- what those show that went to all or to this address
abbrev pub shown_to : ℕ → List EntrySent → List Shown
shown_to d [] = []
shown_to d (e ∷ entries) = if e.to == GLOBAL_ADDRESS || e.to == d then e.shown ∷ shown_to d entries else shown_to d entries

-- a message ended that cannot be read
abbrev pub is_lost_on : Option MessageSent → Bool
is_lost_on None = false
is_lost_on (Some m) = not (is_some (decoding m.bytes))

-- how many messages ended that could not be read
abbrev pub unread_overheard : List Reading → ℕ
unread_overheard [] = 0
unread_overheard (x ∷ older) = if is_lost_on (message_sent x older) then counted (unread_overheard older + 1) else unread_overheard older

-- the NAME's row after one more group: of acknowledgments each is kept that comes from an address that it owns
abbrev pub row_with_group : ℕ → Group → List Reading → Option RowHeard → Option RowHeard
row_with_group n (AddressClaimed s m) older before =
    if m == n then Some (record { address = Some s; ack = ack_in_row before }) else without_address s before
row_with_group n (CannotClaim m) older before = if m == n then Some (record { address = None; ack = ack_in_row before }) else before
row_with_group n (Acknowledgment control requester pgn d s) older before =
    if is_held (owner_heard s older) n then row_with_ack control pgn before else before
row_with_group n _ older before = before

-- the NAME's row: none before its first claim is read
abbrev pub row_overheard : ℕ → List Reading → Option RowHeard
row_overheard n [] = None
row_overheard n (Gap m ∷ older) = addressless (row_overheard n older)
row_overheard n (Empty ∷ older) = row_overheard n older
row_overheard n (Frame f ∷ older) = row_with_group n (group_of f) older (row_overheard n older)

-- the address known of a NAME
abbrev pub address_overheard : ℕ → List Reading → Option ℕ
address_overheard n rs = address_in_row (row_overheard n rs)
