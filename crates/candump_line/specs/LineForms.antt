-- A line as a text, the time that it begins with, and what is read of it.
use Rattle.std.specs.Prelude.{◌≡◌, ◌≢◌, ◌⊎◌, ℕ, ◌+◌, ◌<◌, ◌≤◌, ◌^◌, List, ◌∷◌, ◌++◌, length, slice_index, All, false, Some, None}
use Rattle.std.specs.Char.{is_ascii_whitespace}
use Rattle.std.specs.List.{AllPass}
use Rattle.std.specs.Str.{IsUtf8}
use Rattle.can_frame.specs.FrameValue.{FrameValue}
use Rattle.candump_line.specs.Calendar.{SpellsDate}
use Rattle.candump_line.specs.Forms.{apart, IsCountedFrame, IsJoinedFrame, IsLongFrame, TellsDropped}
use Rattle.candump_line.specs.LineText.{micros_of_ticks, ticks_text, IsBusName, IsDataFrame, IsFraction, IsLineEnd}
use Rattle.candump_line.specs.Logged.{dropped_told}
use Rattle.candump_line.specs.Told.{content_told, Says}
use Rattle.candump_line.specs.Words.{words_of}
use Rattle.candump_line.specs.declared.line.Line.{Line}

-- with a byte order mark before it or without
abbrev pub IsMarkedText : List ℕ → List ℕ → Type 0
IsMarkedText line text = (line ≡ text) ⊎ (line ≡ 239 ∷ 187 ∷ 191 ∷ text)

-- the text of a line that is UTF-8 and not too long
pub record HasText (line text : List ℕ) : Type 0 where
  pub utf8 : IsUtf8 line
  pub short : length line ≤ 4096
  pub marked : IsMarkedText line text

-- the name of a bus as which no other line begins: without `#`, `(` and `:`
pub record IsPlainBus (bus : List ℕ) : Type 0 where
  pub name : IsBusName bus
  pub marks : All (λ c. (c ≢ 35) × (c ≢ 40) × (c ≢ 58)) bus

-- seconds with three, six or nine digits behind the point, of which what is below a microsecond is cut
pub record SpellsSeconds (time : List ℕ) (micros : ℕ) : Type 0 where
  pub digits : ℕ
  pub ticks : ℕ
  pub fraction : IsFraction digits
  pub small : ticks < 10 ^ (10 + digits)
  pub laid : time ≡ ticks_text digits ticks
  pub told : micros_of_ticks digits ticks ≡ micros

abbrev pub SpellsTime : List ℕ → ℕ → Type 0
SpellsTime time micros = SpellsSeconds time micros ⊎ SpellsDate time micros

-- `(TIME)` at the front of a text, with blanks before it or none
pub record BeginsWithTime (text time rest : List ℕ) : Type 0 where
  pub blanks : List ℕ
  pub blank : AllPass is_ascii_whitespace blanks
  pub laid : text ≡ blanks ++ 40 ∷ (time ++ 41 ∷ rest)

-- a line with a time, and the words behind it: the bus first
pub record IsTimed (line : List ℕ) (micros : ℕ) (bus : List ℕ) (words : List (List ℕ)) : Type 0 where
  pub text : List ℕ
  pub time : List ℕ
  pub rest : List ℕ
  pub has : HasText line text
  pub begins : BeginsWithTime text time rest
  pub spelled : SpellsTime time micros
  pub behind : words_of rest ≡ bus ∷ words

-- a line without a time, and its words
pub record IsUntimed (line : List ℕ) (words : List (List ℕ)) : Type 0 where
  pub text : List ℕ
  pub has : HasText line text
  pub laid : words_of text ≡ words

-- what is read of a text in each form
pub record IsReadAs (text : List ℕ) (line : Line) : Type 0 where
  pub timed : (time rest bus : List ℕ) (micros : ℕ) (words : List (List ℕ)) (f : FrameValue) → BeginsWithTime text time rest → SpellsTime time micros → IsLongFrame f
      → words_of rest ≡ bus ∷ words → IsCountedFrame words f ⊎ IsJoinedFrame words f → Says (Some micros) (Some bus) (content_told f) line
  pub counted : (bus : List ℕ) (words : List (List ℕ)) (f : FrameValue) → IsPlainBus bus → IsLongFrame f → words_of text ≡ bus ∷ words → IsCountedFrame words f
      → Says None (Some bus) (content_told f) line
  pub joined : (f : FrameValue) → IsLongFrame f → IsJoinedFrame (words_of text) f → Says None None (content_told f) line
  pub dropped : (bus : List ℕ) (count : ℕ) → TellsDropped (words_of text) bus count → count < 2 ^ 32 → dropped_told line ≡ Some (Some bus, count)
  pub spread : (f : FrameValue) → IsDataFrame f → words_of text ≡ apart f → Says None None (content_told f) line

-- a text behind the blanks before it
pub record IsBegun (text begun : List ℕ) : Type 0 where
  pub blanks : List ℕ
  pub blank : AllPass is_ascii_whitespace blanks
  pub laid : text ≡ blanks ++ begun
  pub dark : is_ascii_whitespace (slice_index begun 0) ≡ false

-- a line and the end that it has
pub record EndsLine (line text : List ℕ) : Type 0 where
  pub end : List ℕ
  pub is_end : IsLineEnd end
  pub laid : line ≡ text ++ end
