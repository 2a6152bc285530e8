-- Messages half joined between any two addresses (SAE J1939-21, 5.10).
use Rattle.std.specs.Prelude.{◌≡◌, ℕ, ◌<◌, List, Option, Some, None, length, if◌then◌else◌}
use Rattle.parameter_group.specs.Group.{Group, ConnectionManagement, DataTransfer}
use Rattle.reassembly.specs.Between.{managed, packeted}
use Rattle.reassembly.specs.Partials.{PartialValue, begun, with_packet, is_whole}
use Rattle.reassembly.specs.Pairs.{pair_at, pairs_from}
use Rattle.transport.specs.Pieces.{joined}

-- what is half joined: by source, and by destination; its tag is its group
abbrev pub PairHalves : Type 0
PairHalves = List (List (Option (PartialValue ℕ)))

-- the message half joined from a source to a destination; a broadcast's destination is 255
abbrev pub half : PairHalves → ℕ → ℕ → Option (PartialValue ℕ)
half = pair_at

-- every table is of 256 addresses
pub record AreWhole (halves : PairHalves) : Type 0 where
  pub sources : length halves ≡ 256
  pub destinations : (source : ℕ) → source < 256 → length (pairs_from halves source) ≡ 256

-- what a frame makes of the message half joined from a source to a destination, of whatever group it is
abbrev pub half_after : Group → ℕ → ℕ → Option (PartialValue ℕ) → Option (PartialValue ℕ)
half_after (ConnectionManagement s d message) source destination before = managed (λ size pgn. Some (begun pgn size)) source destination s d message before
half_after (DataTransfer s d bytes) source destination before = packeted source destination s d bytes before
half_after _ source destination before = before

-- a message of which all packets came
pub record JoinedValue : Type 0 where
  pub source : ℕ
  pub dest : ℕ
  pub pgn : ℕ
  pub bytes : List ℕ

-- a message that is whole
abbrev pub whole_of : ℕ → ℕ → Option (PartialValue ℕ) → Option JoinedValue
whole_of s d None = None
whole_of s d (Some p) = if is_whole p then Some (record { source = s; dest = d; pgn = p.tag; bytes = joined p.size p.pieces }) else None

-- the message that a frame makes whole: that of which it is the last packet
abbrev pub joined_by : Group → PairHalves → Option JoinedValue
joined_by (DataTransfer s d bytes) halves = whole_of s d (with_packet bytes (half halves s d))
joined_by _ halves = None
