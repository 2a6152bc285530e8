-- What is told of a frame.
use Rattle.std.specs.Prelude.{◌≡◌, ℕ, ◌^◌, nat_lt, if◌then◌else◌, List, Option, Some, take}
use Rattle.can_frame.specs.FrameValue.{FrameValue}
use Rattle.candump_line.specs.LostFrames.{tells_of_lost_frames}
use Rattle.candump_line.specs.Logged.{frame_told, overflow_told}
use Rattle.candump_line.specs.declared.content.Content.{Content}
use Rattle.candump_line.specs.declared.content.Content.TheVariants.{Frame, Overflow, Foreign}
use Rattle.candump_line.specs.declared.line.Line.{Line}
use Rattle.candump_line.specs.declared.line.Foreign.TheVariants.{Error}
use Rattle.candump_line.specs.declared.bytes.Bytes.{Bytes}
use Rattle.candump_line.specs.declared.word.IdWord as kind
use Rattle.candump_line.specs.declared.word.IdWord.TheVariants as id

-- the word of its identifier
abbrev pub id_told : ℕ → kind.IdWord
id_told n = if nat_lt n (2 ^ 29) then id.Long n else id.Error n

-- a frame of the bus, or what an error frame tells
abbrev pub content_told : FrameValue → Content
content_told f = if nat_lt f.id (2 ^ 29) then Frame f else if tells_of_lost_frames f.id f.bytes then Overflow else Foreign Error

-- the bytes that have been read
abbrev pub bytes_read : Bytes → List ℕ
bytes_read b = take b.len b.room

-- a line says it of this time and bus
abbrev pub Says : Option ℕ → Option (List ℕ) → Content → Line → Type 0
Says time bus (Frame f) line = frame_told line ≡ Some (time, bus, f)
Says time bus Overflow line = overflow_told line ≡ Some (time, bus)
Says time bus _ line = Unit {0}
