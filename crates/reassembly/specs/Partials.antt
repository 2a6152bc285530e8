-- Messages of which some packets were read (SAE J1939-21, section 5.10).
use Rattle.std.specs.Prelude.{ℕ, Bool, ◌==◌, List, [], ◌∷◌, ◌++◌, length, drop, Option, Some, None, if◌then◌else◌}
use Rattle.transport.specs.Assembling.{is_next}
use Rattle.transport.specs.Pieces.{packet_count}
use Rattle.transport.specs.declared.took.Took.{Took}
use Rattle.transport.specs.declared.took.Took.TheVariants.{More, Whole, Broken}

-- such a message: the tag that its taker keeps with it, its size in bytes, and its pieces so far
pub record PartialValue (T : Type 0) : Type 0 where
  pub tag : T
  pub size : ℕ
  pub pieces : List (List ℕ)

-- a message of which nothing was read yet
abbrev pub begun : {T : Type 0} → T → ℕ → PartialValue T
begun tag size = record { tag = tag; size = size; pieces = [] }

-- with one piece more
abbrev pub with_piece : {T : Type 0} → List ℕ → PartialValue T → PartialValue T
with_piece piece p = record p { pieces = p.pieces ++ piece ∷ [] }

-- the next packet, eight bytes under the next number, adds its piece; any other ends the message
abbrev pub with_packet : {T : Type 0} → List ℕ → Option (PartialValue T) → Option (PartialValue T)
with_packet bytes None = None
with_packet bytes (Some p) = if is_next p.size p.pieces bytes then Some (with_piece (drop 1 bytes) p) else None

-- all packets were read
abbrev pub is_whole : {T : Type 0} → PartialValue T → Bool
is_whole p = length p.pieces == packet_count p.size

-- a message that is whole is no longer half read
abbrev pub unfinished : {T : Type 0} → Option (PartialValue T) → Option (PartialValue T)
unfinished None = None
unfinished (Some p) = if is_whole p then None else Some p

-- what is half read after one more packet
abbrev pub after_packet : {T : Type 0} → List ℕ → Option (PartialValue T) → Option (PartialValue T)
after_packet bytes before = unfinished (with_packet bytes before)

-- what a packet was to a message, by what the message is with it
abbrev pub took_by : {T : Type 0} → Option (PartialValue T) → Took
took_by None = Broken
took_by (Some p) = if is_whole p then Whole else More

-- what a packet is to what is half read, if anything is
abbrev pub answer_to : {T : Type 0} → List ℕ → Option (PartialValue T) → Option Took
answer_to bytes None = None
answer_to bytes (Some p) = Some (took_by (with_packet bytes (Some p)))

-- the pieces that were taken
abbrev pub pieces_taken : Option (List (List ℕ)) → List (List ℕ)
pieces_taken None = []
pieces_taken (Some taken) = taken
