-- Which eight bytes carry which connection management message (SAE J1939-21, TP.CM).
use Rattle.std.specs.Prelude.{◌≡◌, ◌⊎◌, ℕ, ◌+◌, ◌*◌, ◌/◌, ◌%◌, nat_eq, if◌then◌else◌, List, [], ◌∷◌, length, slice_index, Option, Some, None}
use Rattle.can_frame.specs.declared.frame.TheConstants.{FILLER}
use Rattle.can_frame.specs.Fields.{pgn_bytes, pgn_of_bytes}
use Rattle.transport.specs.Pieces.{IsMessageSize, is_message_size}
use Rattle.transport.specs.declared.control.TheConstants.{REQUEST_TO_SEND, CLEAR_TO_SEND, END_OF_MESSAGE, BROADCAST_ANNOUNCEMENT, CONNECTION_ABORT}
use Rattle.transport.specs.declared.control.Control.{Control}
use Rattle.transport.specs.declared.control.Control.TheVariants.{Rts, Cts, EndAck, Bam, Abort}

-- the eight bytes that are written; fillers are FF
abbrev pub control_bytes : Control → List ℕ
control_bytes (Rts size packets most pgn) = REQUEST_TO_SEND ∷ size % 256 ∷ size / 256 ∷ packets ∷ most ∷ pgn_bytes pgn
control_bytes (Cts granted next pgn) = CLEAR_TO_SEND ∷ granted ∷ next ∷ FILLER ∷ FILLER ∷ pgn_bytes pgn
control_bytes (EndAck size packets pgn) = END_OF_MESSAGE ∷ size % 256 ∷ size / 256 ∷ packets ∷ FILLER ∷ pgn_bytes pgn
control_bytes (Bam size packets pgn) = BROADCAST_ANNOUNCEMENT ∷ size % 256 ∷ size / 256 ∷ packets ∷ FILLER ∷ pgn_bytes pgn
control_bytes (Abort reason pgn) = CONNECTION_ABORT ∷ reason ∷ FILLER ∷ FILLER ∷ FILLER ∷ pgn_bytes pgn

-- eight bytes with this first byte, and this group in the last three
pub record IsControl (bytes : List ℕ) (first group : ℕ) : Type 0 where
  pub len : length bytes ≡ 8
  pub kind : slice_index bytes 0 ≡ first
  pub pgn : group ≡ pgn_of_bytes (slice_index bytes 5) (slice_index bytes 6) (slice_index bytes 7)

-- the size in bytes 2 and 3, and the number of packets in byte 4
pub record CarriesSize (bytes : List ℕ) (size packets : ℕ) : Type 0 where
  pub size_bytes : size ≡ slice_index bytes 1 + 256 * slice_index bytes 2
  pub count_byte : packets ≡ slice_index bytes 3
  pub lawful : IsMessageSize size packets

-- these bytes carry this message; fillers are not looked at
abbrev pub CarriesControl : List ℕ → Control → Type 0
CarriesControl bytes (Rts size packets most pgn) =
    IsControl bytes REQUEST_TO_SEND pgn × CarriesSize bytes size packets × (most ≡ slice_index bytes 4)
CarriesControl bytes (Cts granted next pgn) =
    IsControl bytes CLEAR_TO_SEND pgn × (granted ≡ slice_index bytes 1) × (next ≡ slice_index bytes 2)
CarriesControl bytes (EndAck size packets pgn) = IsControl bytes END_OF_MESSAGE pgn × CarriesSize bytes size packets
CarriesControl bytes (Bam size packets pgn) = IsControl bytes BROADCAST_ANNOUNCEMENT pgn × CarriesSize bytes size packets
CarriesControl bytes (Abort reason pgn) = IsControl bytes CONNECTION_ABORT pgn × (reason ≡ slice_index bytes 1)

-- a first byte of one of the five messages
abbrev pub IsKind : ℕ → Type 0
IsKind kind =
    (kind ≡ REQUEST_TO_SEND) ⊎ (kind ≡ CLEAR_TO_SEND) ⊎ (kind ≡ END_OF_MESSAGE) ⊎ (kind ≡ BROADCAST_ANNOUNCEMENT) ⊎ (kind ≡ CONNECTION_ABORT)

-- a first byte of a message with a size
abbrev pub IsSizedKind : ℕ → Type 0
IsSizedKind kind = (kind ≡ REQUEST_TO_SEND) ⊎ (kind ≡ END_OF_MESSAGE) ⊎ (kind ≡ BROADCAST_ANNOUNCEMENT)

-- eight bytes of one of the five messages
pub record IsKnown (bytes : List ℕ) : Type 0 where
  pub len : length bytes ≡ 8
  pub kind : IsKind (slice_index bytes 0)

-- eight bytes with a size that is not carried in packets, or with another number of packets
pub record HasBadSize (bytes : List ℕ) : Type 0 where
  pub len : length bytes ≡ 8
  pub kind : IsSizedKind (slice_index bytes 0)
  pub size : ¬ IsMessageSize (slice_index bytes 1 + 256 * slice_index bytes 2) (slice_index bytes 3)

-- the message with this first byte, these four bytes and this group
abbrev pub control_from : ℕ → ℕ → ℕ → ℕ → ℕ → ℕ → Option Control
control_from kind a b c d pgn =
    if nat_eq kind REQUEST_TO_SEND then (if is_message_size (a + 256 * b) c then Some (Rts (a + 256 * b) c d pgn) else None)
    else if nat_eq kind CLEAR_TO_SEND then Some (Cts a b pgn)
    else if nat_eq kind END_OF_MESSAGE then (if is_message_size (a + 256 * b) c then Some (EndAck (a + 256 * b) c pgn) else None)
    else if nat_eq kind BROADCAST_ANNOUNCEMENT then (if is_message_size (a + 256 * b) c then Some (Bam (a + 256 * b) c pgn) else None)
    else if nat_eq kind CONNECTION_ABORT then Some (Abort a pgn)
    else None

-- what is read of these bytes
abbrev pub control_of : List ℕ → Option Control
control_of (kind ∷ a ∷ b ∷ c ∷ d ∷ low ∷ middle ∷ high ∷ []) = control_from kind a b c d (pgn_of_bytes low middle high)
control_of _ = None

-- a message with a size has one that is carried in packets, and their number
abbrev pub HasLawfulSize : Control → Type 0
HasLawfulSize (Rts size packets most pgn) = IsMessageSize size packets
HasLawfulSize (Cts granted next pgn) = Unit {0}
HasLawfulSize (EndAck size packets pgn) = IsMessageSize size packets
HasLawfulSize (Bam size packets pgn) = IsMessageSize size packets
HasLawfulSize (Abort reason pgn) = Unit {0}
