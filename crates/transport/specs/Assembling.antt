-- Joining packets in their order.
use Rattle.std.specs.Prelude.{◌≡◌, ℕ, suc, ◌+◌, ◌-◌, Bool, false, ◌&&◌, bytes_eq, nat_eq, nat_le, nat_lt, if◌then◌else◌, List, [], ◌∷◌, ◌++◌, length, drop, slice_index, slice_index_or, Option, Some, None}
use Rattle.transport.specs.Pieces.{packet_count, IsNext}
use Rattle.transport.specs.declared.took.Took.{Took}
use Rattle.transport.specs.declared.took.Took.TheVariants.{More, Whole, Broken}

-- a message that is being joined: its size, its group, and the pieces taken so far, or none once it is broken
pub record AssemblyValue : Type 0 where
  pub size : ℕ
  pub pgn : ℕ
  pub taken : Option (List (List ℕ))

-- a message of which nothing was taken yet
abbrev pub new_assembly : ℕ → ℕ → AssemblyValue
new_assembly size pgn = record { size = size; pgn = pgn; taken = Some [] }

-- whether a packet is the next one: eight bytes under the next number, where a piece is still missing
abbrev pub is_next : ℕ → List (List ℕ) → List ℕ → Bool
is_next size taken part =
    nat_eq (length part) 8 && (nat_eq (slice_index part 0) (length taken + 1) && nat_lt (length taken) (packet_count size))

-- the pieces with one packet more, or none where it is not the next one
abbrev pub with_part : ℕ → Option (List (List ℕ)) → List ℕ → Option (List (List ℕ))
with_part size None part = None
with_part size (Some taken) part = if is_next size taken part then Some (taken ++ drop 1 part ∷ []) else None

-- whether the piece of this number, from 1, was taken and has these bytes
abbrev pub has_piece : Option (List (List ℕ)) → ℕ → List ℕ → Bool
has_piece None number piece = false
has_piece (Some taken) number piece =
    nat_le 1 number && (nat_le number (length taken) && bytes_eq (slice_index_or taken (number - 1) []) piece)

-- the message after one packet more
abbrev pub after_part : AssemblyValue → List ℕ → AssemblyValue
after_part a part = record { size = a.size; pgn = a.pgn; taken = with_part a.size a.taken part }

-- the message after these packets, in order
abbrev pub after_parts : AssemblyValue → List (List ℕ) → AssemblyValue
after_parts a [] = a
after_parts a (part ∷ parts) = after_parts (after_part a part) parts

-- what is answered where these pieces were taken: Whole once all were
abbrev pub took_of : ℕ → Option (List (List ℕ)) → Took
took_of size None = Broken
took_of size (Some taken) = if nat_eq (length taken) (packet_count size) then Whole else More

-- what is answered to the last of these packets, from the start on
abbrev pub took_after : ℕ → ℕ → List (List ℕ) → Took
took_after size pgn parts = took_of size (after_parts (new_assembly size pgn) parts).taken

-- packets in order: eight bytes each, numbered on after those taken, and no more than there are
abbrev pub AreInOrder : ℕ → ℕ → List (List ℕ) → Type 0
AreInOrder count taken [] = Unit {0}
AreInOrder count taken (part ∷ parts) = IsNext part taken count × AreInOrder count (suc taken) parts

-- packets in order from number 1 on, as many as the size takes
pub record AreAllPackets (size : ℕ) (parts : List (List ℕ)) : Type 0 where
  pub in_order : AreInOrder (packet_count size) 0 parts
  pub all : length parts ≡ packet_count size
