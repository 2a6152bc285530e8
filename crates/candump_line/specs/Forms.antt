-- The words of a line that tells of a frame, as candump writes them and cansend reads them.
use Rattle.std.specs.Prelude.{◌≡◌, ◌⊎◌, ℕ, ◌+◌, ◌<◌, ◌≤◌, ◌^◌, List, [], ◌∷◌, ◌++◌, length, map, slice_index, codes, All}
use Rattle.std.specs.Fmt.{decimal}
use Rattle.std.specs.List.{concat, flat_map, join_with_byte}
use Rattle.can_frame.specs.FrameText.{id_text}
use Rattle.can_frame.specs.FrameValue.{FrameValue}
use Rattle.candump_line.specs.LineText.{byte_digits}
use Rattle.candump_line.specs.Words.{front_word}

-- a frame of the bus, or one that tells of an error on it (bit 29 of its identifier)
pub record IsLongFrame (f : FrameValue) : Type 0 where
  pub id : f.id < 2 ^ 30
  pub len : length f.bytes ≤ 8
  pub bytes : All (λ b. b < 256) f.bytes

-- `RX` or `TX` and two flags, or nothing
abbrev pub AreFlags : List (List ℕ) → Type 0
AreFlags [] = Unit {0}
AreFlags (way ∷ first ∷ second ∷ []) = (way ≡ codes "RX") ⊎ (way ≡ codes "TX")
AreFlags _ = ⊥

-- `[%d]`: the number of bytes
abbrev pub count_word : ℕ → List ℕ
count_word count = 91 ∷ (48 + count) ∷ 93 ∷ []

-- behind the bytes: nothing, `ERRORFRAME`, or the bytes as characters behind an apostrophe
abbrev pub IsRemark : List ℕ → Type 0
IsRemark word = (word ≡ []) ⊎ (word ≡ codes "ERRORFRAME") ⊎ (slice_index word 0 ≡ 39)

-- ID [COUNT] BYTE BYTE .., with flags before it and remarks behind
pub record IsCountedFrame (words : List (List ℕ)) (f : FrameValue) : Type 0 where
  pub flags : List (List ℕ)
  pub remarks : List (List ℕ)
  pub before : AreFlags flags
  pub behind : IsRemark (front_word remarks)
  pub laid : words ≡ flags ++ (id_text f.id ∷ count_word (length f.bytes) ∷ (map byte_digits f.bytes ++ remarks))

-- bytes in two digits each, with a point between some of them or not
pub record SpellsData (text bytes : List ℕ) : Type 0 where
  pub groups : List (List ℕ)
  pub laid : text ≡ join_with_byte 46 (map (flat_map byte_digits) groups)
  pub whole : concat groups ≡ bytes

-- `R` or `T`, or nothing
abbrev pub IsSide : List (List ℕ) → Type 0
IsSide [] = Unit {0}
IsSide (side ∷ []) = (side ≡ codes "R") ⊎ (side ≡ codes "T")
IsSide _ = ⊥

-- ID#BYTES, with a side behind
pub record IsJoinedFrame (words : List (List ℕ)) (f : FrameValue) : Type 0 where
  pub bytes : List ℕ
  pub side : List (List ℕ)
  pub spelled : SpellsData bytes f.bytes
  pub behind : IsSide side
  pub laid : words ≡ (id_text f.id ++ 35 ∷ bytes) ∷ side

-- ID BYTE BYTE ..
abbrev pub apart : FrameValue → List (List ℕ)
apart f = id_text f.id ∷ map byte_digits f.bytes

-- `DROPCOUNT: dropped %d CAN frame%s on '%s' socket ..`
pub record TellsDropped (words : List (List ℕ)) (bus : List ℕ) (count : ℕ) : Type 0 where
  pub frames : List ℕ
  pub more : List (List ℕ)
  pub laid : words ≡ codes "DROPCOUNT:" ∷ codes "dropped" ∷ decimal count ∷ codes "CAN" ∷ frames ∷ codes "on" ∷ (39 ∷ (bus ++ 39 ∷ [])) ∷ more
