-- How a payload is cut into pieces of seven bytes, and joined again (SAE J1939-21, transport protocol).
use Rattle.std.specs.Prelude.{◌≡◌, ℕ, zero, suc, ◌+◌, ◌-◌, ◌*◌, ◌/◌, ◌<◌, ◌≤◌, Bool, ◌&&◌, nat_le, nat_eq, List, [], ◌∷◌, ◌++◌, length, take, drop, replicate, slice_index}
use Rattle.std.specs.List.{concat}
use Rattle.can_frame.specs.declared.frame.TheConstants.{FILLER}

-- how many packets carry this many bytes: seven to a packet, rounded up
abbrev pub packet_count : ℕ → ℕ
packet_count size = (size + 6) / 7

-- a size that is carried in packets, with its number of packets
pub record IsMessageSize (size packets : ℕ) : Type 0 where
  pub least : 9 ≤ size
  pub most : size ≤ 1785
  pub rounded_up : packets ≡ packet_count size

-- whether a size and a number of packets go together
abbrev pub is_message_size : ℕ → ℕ → Bool
is_message_size size packets = nat_le 9 size && (nat_le size 1785 && nat_eq packets (packet_count size))

-- the first seven bytes, filled with FF
abbrev pub first_piece : List ℕ → List ℕ
first_piece bytes = take 7 (bytes ++ replicate 7 FILLER)

-- the first pieces, this many of them
abbrev pub first_pieces : ℕ → List ℕ → List (List ℕ)
first_pieces zero bytes = []
first_pieces (suc count) bytes = first_piece bytes ∷ first_pieces count (drop 7 bytes)

-- the pieces of a payload, the last filled with FF
abbrev pub pieces : List ℕ → List (List ℕ)
pieces payload = first_pieces (packet_count (length payload)) payload

-- the packet of this number, from 1: the number, then the piece of that number
abbrev pub packet : List ℕ → ℕ → List ℕ
packet payload number = number ∷ first_piece (drop (7 * (number - 1)) payload)

-- the packets from this number on, this many of them
abbrev pub packets_from : List ℕ → ℕ → ℕ → List (List ℕ)
packets_from payload number zero = []
packets_from payload number (suc count) = packet payload number ∷ packets_from payload (suc number) count

-- the packets of a payload, numbered from 1
abbrev pub packets_of : List ℕ → List (List ℕ)
packets_of payload = packets_from payload 1 (packet_count (length payload))

-- the pieces one after another, cut to the size
abbrev pub joined : ℕ → List (List ℕ) → List ℕ
joined size parts = take size (concat parts)

-- eight bytes under the number after those taken, where fewer were taken than there are
pub record IsNext (part : List ℕ) (taken count : ℕ) : Type 0 where
  pub len : length part ≡ 8
  pub number : slice_index part 0 ≡ taken + 1
  pub missing : taken < count
