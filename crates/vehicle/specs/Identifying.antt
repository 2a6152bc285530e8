-- What a unit answers: bytes or a text, and how it tells what it is (SAE J1939-71 and -73, from memory).
use Rattle.std.specs.Prelude.{ℕ, ◌≡◌, ◌≢◌, ◌⊎◌, ◌+◌, ◌≤◌, ◌&&◌, ◌==◌, true, nat_le, Bool, List, [], ◌∷◌, ◌++◌, Ok, Option, Some, None, IfSome, codes, count_by, length}
use Rattle.std.specs.List.{All, AllPairs}
use Rattle.hex.specs.Hex.{decode_of}
use Rattle.toml.specs.Data.{Data, get, as_str}
use Rattle.vehicle.specs.Holding.{text_at}
use Rattle.vehicle.specs.declared.answer_line.AnswerLine.{AnswerLine}
use Rattle.vehicle.specs.declared.identification.Identification.{Identification}
use Rattle.vehicle.specs.declared.identification.TheConstants.{ASTERISK, COMPONENT, ECU, MOST_FIELDS, MOST_LETTERS, SOFTWARE, VIN}
use Rattle.vehicle.specs.declared.sends.TheConstants.{USUAL_PRIORITY}

-- a character of ASCII that is no control character
abbrev pub is_printable : ℕ → Bool
is_printable c = nat_le 32 c && nat_le c 126

abbrev pub IsPrintable : List ℕ → Type 0
IsPrintable text = All (λ c. is_printable c ≡ true) text

-- two digits for each byte at the key "bytes"
abbrev pub HasLongBytes : Data → List ℕ → Type 0
HasLongBytes d bytes = (text : List ℕ) × (text_at (codes "bytes") d ≡ Some text) × (decode_of text ≡ Ok bytes)

-- these, or the text at the key "text"
abbrev pub HasBytesOrText : Data → List ℕ → Type 0
HasBytesOrText d bytes =
    ((get (codes "text") d ≡ None) × HasLongBytes d bytes)
    ⊎ ((get (codes "bytes") d ≡ None) × (text_at (codes "text") d ≡ Some bytes) × IsPrintable bytes)

-- no group is answered twice
abbrev pub HaveDistinctGroups : List AnswerLine → Type 0
HaveDistinctGroups answers = AllPairs (λ one other. one.pgn ≢ other.pgn) answers

-- ---- identification

-- a text of one field or more, an asterisk between two
pub record IsFieldText (text : List ℕ) : Type 0 where
  pub some : 1 ≤ length text
  pub most : length text ≤ MOST_LETTERS
  pub printable : IsPrintable text

-- how many fields it has
abbrev pub field_count : List ℕ → ℕ
field_count text = count_by (λ c. c == ASTERISK) text + 1

-- a group that says what stands before a text, the text, and an asterisk behind its last field
pub record SaysFields (pgn : ℕ) (front text : List ℕ) (a : AnswerLine) : Type 0 where
  pub pgn_is : a.pgn ≡ pgn
  pub priority : a.priority ≡ USUAL_PRIORITY
  pub bytes : a.bytes.items ≡ front ++ (text ++ ASTERISK ∷ [])

-- the VIN, one field
abbrev pub SaysVin : List ℕ → AnswerLine → Type 0
SaysVin text a = (field_count text ≡ 1) × SaysFields VIN [] text a

-- the versions of its software, behind a byte with their number
abbrev pub SaysSoftware : List ℕ → AnswerLine → Type 0
SaysSoftware text a = (field_count text ≤ MOST_FIELDS) × SaysFields SOFTWARE (field_count text ∷ []) text a

-- a text that the group says
pub record HoldsText (says : List ℕ → AnswerLine → Type 0) (d : Data) (a : AnswerLine) : Type 0 where
  pub text : List ℕ
  pub is : as_str d ≡ Some text
  pub fields : IsFieldText text
  pub said : says text a

-- a group that says the text of a key; none where there is no such key
abbrev pub HoldsSaidAt : (List ℕ → AnswerLine → Type 0) → Option Data → Option AnswerLine → Type 0
HoldsSaidAt says None line = line ≡ None
HoldsSaidAt says (Some d) line = (a : AnswerLine) × (line ≡ Some a) × HoldsText says d a

pub record HoldsIdentification (d : Data) (i : Identification) : Type 0 where
  pub vin : HoldsSaidAt SaysVin (get (codes "vin") d) i.vin
  pub component : HoldsSaidAt (SaysFields COMPONENT []) (get (codes "component") d) i.component
  pub software : HoldsSaidAt SaysSoftware (get (codes "software") d) i.software
  pub ecu : HoldsSaidAt (SaysFields ECU []) (get (codes "ecu") d) i.ecu

abbrev pub IsOther : Option AnswerLine → ℕ → Type 0
IsOther line pgn = IfSome line (λ a. a.pgn ≢ pgn)

-- a group is none of these
abbrev pub IsBeside : Identification → ℕ → Type 0
IsBeside i pgn = IsOther i.vin pgn × IsOther i.component pgn × IsOther i.software pgn × IsOther i.ecu pgn
