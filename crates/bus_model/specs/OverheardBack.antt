-- Messages that end between any two addresses, said by looking back over the whole list of readings.
use Rattle.std.specs.Prelude.{◌≡◌, ◌≢◌, ◌⊎◌, ℕ, suc, List, [], ◌∷◌, ◌++◌, length, Some}
use Rattle.can_frame.specs.FrameValue.{FrameValue}
use Rattle.can_frame.specs.declared.address.TheConstants.{GLOBAL_ADDRESS}
use Rattle.can_frame.specs.declared.reading.Reading.{Reading}
use Rattle.can_frame.specs.declared.reading.Reading.TheVariants.{Frame, Gap, Empty}
use Rattle.parameter_group.specs.Group.{Group, AddressClaimed, Diagnostic, ConnectionManagement, DataTransfer, group_of}
use Rattle.transport.specs.Pieces.{packet_count, joined}
use Rattle.transport.specs.declared.control.Control.TheVariants.{Rts, Bam, Abort}
use Rattle.bus_model.specs.Heard.{kind_of}
use Rattle.bus_model.specs.LookBack.{AreNumbered, packets_heard, pieces_of}
use Rattle.bus_model.specs.Overheard.{MessageSent, who_heard}
use Rattle.bus_model.specs.declared.who.Who.{Who}
use Rattle.bus_model.specs.declared.who.Who.TheVariants.{Named}

-- a message from a to d is announced, of this size and group: to all by a Bam, to one address by an Rts
abbrev pub IsAnnouncement : ℕ → ℕ → ℕ → ℕ → Group → Type 0
IsAnnouncement a d size pgn (ConnectionManagement s e (Bam x packets p)) = (s ≡ a) × (e ≡ d) × (d ≡ GLOBAL_ADDRESS) × (x ≡ size) × (p ≡ pgn)
IsAnnouncement a d size pgn (ConnectionManagement s e (Rts x packets most p)) = (s ≡ a) × (e ≡ d) × (d ≢ GLOBAL_ADDRESS) × (x ≡ size) × (p ≡ pgn)
IsAnnouncement a d size pgn _ = ⊥

-- no announcement from a to d, of whatever group; in a session no abort by either; no claim of the source but under the NAME that sends
abbrev pub EndsNone : ℕ → ℕ → Who → Group → Type 0
EndsNone a d w (ConnectionManagement s e (Bam size packets pgn)) = s ≡ a → e ≡ d → d ≢ GLOBAL_ADDRESS
EndsNone a d w (ConnectionManagement s e (Rts size packets most pgn)) = s ≡ a → e ≡ d → d ≡ GLOBAL_ADDRESS
EndsNone a d w (ConnectionManagement s e (Abort reason pgn)) = d ≢ GLOBAL_ADDRESS → (s ≡ a → e ≢ d) × (s ≡ d → e ≢ a)
EndsNone a d w (AddressClaimed s n) = s ≡ a → w ≡ Named n
EndsNone a d w _ = Unit {0}

-- nor a gap
abbrev pub EndNone : ℕ → ℕ → Who → List Reading → Type 0
EndNone a d w [] = Unit {0}
EndNone a d w (Gap m ∷ rs) = ⊥
EndNone a d w (Empty ∷ rs) = EndNone a d w rs
EndNone a d w (Frame f ∷ rs) = EndsNone a d w (group_of f) × EndNone a d w rs

-- a message in one frame, which goes to all
pub record SentInOneFrame (f : FrameValue) (older : List Reading) (m : MessageSent) : Type 0 where
  pub source : ℕ
  pub says : group_of f ≡ Diagnostic m.kind source m.bytes
  pub to : m.to ≡ GLOBAL_ADDRESS
  pub who : m.who ≡ who_heard source older

-- the last packet of a message: it was announced from that source to that address, nothing since ended it, and exactly the packets 1 to its
-- count came since
pub record SentInPackets (f : FrameValue) (older : List Reading) (m : MessageSent) : Type 0 where
  pub source : ℕ
  pub size : ℕ
  pub pgn : ℕ
  pub packet : List ℕ
  pub last : group_of f ≡ DataTransfer source m.to packet
  pub since : List Reading
  pub start : FrameValue
  pub before : List Reading
  pub split : older ≡ since ++ Frame start ∷ before
  pub starts : IsAnnouncement source m.to size pgn (group_of start)
  pub kind : kind_of pgn ≡ Some m.kind
  pub who : m.who ≡ who_heard source before
  pub quiet : EndNone source m.to m.who since
  pub numbered : AreNumbered (packet ∷ packets_heard source m.to since)
  pub all : suc (length (packets_heard source m.to since)) ≡ packet_count size
  pub payload : m.bytes ≡ joined size (pieces_of (packet ∷ packets_heard source m.to since))

-- the message ends at the reading, with these readings before it
abbrev pub IsSentWhole : Reading → List Reading → MessageSent → Type 0
IsSentWhole (Gap n) older m = ⊥
IsSentWhole Empty older m = ⊥
IsSentWhole (Frame f) older m = SentInOneFrame f older m ⊎ SentInPackets f older m
