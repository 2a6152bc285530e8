use Rattle.std.specs.Prelude.{◌≡◌, ℕ, Bool, true, false, ◌+◌, ◌*◌, ◌/◌, ◌%◌, ◌≤◌, ◌⊎◌, ◌&&◌, ◌||◌, ◌==◌, nat_le, nat_lt, List, [], ◌∷◌, ◌++◌, length, take, drop, if◌then◌else◌, Option, Some, None}
use Rattle.std.specs.List.{All, list_all}
use Rattle.can_frame.specs.declared.frame.TheConstants.{FILLER}
use Rattle.can_frame.specs.declared.group_numbers.TheConstants.{DM1, DM2, DM6}
use Rattle.trouble_code.specs.Code.{Code, code, IsCode, EncodesCode, code_bytes}
use Rattle.trouble_code.specs.LampBytes.{LampsValue, lamps_value, lamps_bytes, IsLamps}
use Rattle.fault_memory.specs.Memory.{MemoryValue}
use Rattle.dm_messages.specs.declared.kind.Kind.{Kind}
use Rattle.dm_messages.specs.declared.kind.Kind.TheVariants.{Dm1, Dm2, Dm6}
use Rattle.dm_messages.specs.declared.shown.Shown.{Shown}

-- the parameter group number of each kind of message
abbrev pub pgn_of_kind : Kind → ℕ
pgn_of_kind Dm1 = DM1
pgn_of_kind Dm2 = DM2
pgn_of_kind Dm6 = DM6

-- whether two kinds are one
abbrev pub same_kind : Kind → Kind → Bool
same_kind Dm1 Dm1 = true
same_kind Dm2 Dm2 = true
same_kind Dm6 Dm6 = true
same_kind _ _ = false

-- the list of codes that a kind of message shows
abbrev pub codes_of_kind : Kind → MemoryValue → List Code
codes_of_kind Dm1 m = m.active
codes_of_kind Dm2 m = m.previous
codes_of_kind Dm6 m = m.pending

-- what a message of a kind shows of a fault memory
abbrev pub view : Kind → MemoryValue → Shown
view kind m = record { lamps = m.lamps; codes = codes_of_kind kind m }

-- what one message can show: lamps of two bytes, and at most 445 codes
pub record IsShowable (v : Shown) : Type 0 where
  pub lamps : IsLamps v.lamps
  pub codes : All IsCode v.codes
  pub room : length v.codes ≤ 445

-- each group of four bytes encodes its code, in turn
abbrev pub EncodesEach : List Code → List ℕ → Type 0
EncodesEach [] bytes = bytes ≡ []
EncodesEach (c ∷ cs) bytes = EncodesCode (take 4 bytes) c × EncodesEach cs (drop 4 bytes)

-- the bytes after the lamps, by the number of codes: none and one stand in six bytes, 2 to 445 in four each
abbrev pub EncodesCodes : List Code → List ℕ → Type 0
EncodesCodes [] bytes = (length bytes ≡ 6) × ((take 4 bytes ≡ 0 ∷ 0 ∷ 0 ∷ 0 ∷ []) ⊎ (take 4 bytes ≡ 255 ∷ 255 ∷ 255 ∷ 255 ∷ []))
EncodesCodes (c ∷ []) bytes = (length bytes ≡ 6) × EncodesCode (take 4 bytes) c
EncodesCodes (c ∷ d ∷ cs) bytes = (length (c ∷ d ∷ cs) ≤ 445) × EncodesEach (c ∷ d ∷ cs) bytes

-- the payload encodes what is shown: two bytes of lamps, then the codes
abbrev pub Encodes : Shown → List ℕ → Type 0
Encodes v bytes = (take 2 bytes ≡ lamps_bytes v.lamps) × EncodesCodes v.codes (drop 2 bytes)

-- the four bytes of each code, one after another
abbrev pub codes_bytes : List Code → List ℕ
codes_bytes [] = []
codes_bytes (c ∷ cs) = code_bytes c ++ codes_bytes cs

-- the bytes that are written after the lamps: fewer than two codes are filled to six bytes
abbrev pub written_codes : List Code → List ℕ
written_codes [] = 0 ∷ 0 ∷ 0 ∷ 0 ∷ FILLER ∷ FILLER ∷ []
written_codes (c ∷ []) = code_bytes c ++ FILLER ∷ FILLER ∷ []
written_codes (c ∷ d ∷ cs) = codes_bytes (c ∷ d ∷ cs)

-- the one encoding that is written
abbrev pub encoding : Shown → List ℕ
encoding v = lamps_bytes v.lamps ++ written_codes v.codes

-- the payload of a message of that kind: the encoding of the view of the memory
abbrev pub payload_of : Kind → MemoryValue → List ℕ
payload_of kind memory = encoding (view kind memory)

-- the code that four bytes encode, if they encode one
abbrev pub code_of_bytes : ℕ → ℕ → ℕ → ℕ → Option Code
code_of_bytes low middle top last =
    if nat_lt last 128 && nat_lt 0 (low + middle + top + last)
    then Some (code (low + 256 * middle + 65536 * (top / 32)) (top % 32) last)
    else None

-- a first code before further ones, where all were read
abbrev pub code_before : Option Code → Option (List Code) → Option (List Code)
code_before (Some c) (Some cs) = Some (c ∷ cs)
code_before (Some c) None = None
code_before None _ = None

-- the codes that groups of four bytes encode, if each group encodes one
abbrev pub codes_of_bytes : List ℕ → Option (List Code)
codes_of_bytes [] = Some []
codes_of_bytes (low ∷ middle ∷ top ∷ last ∷ bytes) = code_before (code_of_bytes low middle top last) (codes_of_bytes bytes)
codes_of_bytes _ = None

-- four bytes that stand for no code: all 00 or all FF
abbrev pub is_no_code : List ℕ → Bool
is_no_code group = list_all (λ b. b == 0) group || list_all (λ b. b == 255) group

-- no code, or the code that four bytes encode
abbrev pub no_code_or_one : List ℕ → Option (List Code)
no_code_or_one group = if is_no_code group then Some [] else codes_of_bytes group

-- the codes that the bytes after the lamps encode, if they encode any list
abbrev pub codes_read : List ℕ → Option (List Code)
codes_read bytes =
    if length bytes == 6 then no_code_or_one (take 4 bytes)
    else (if nat_le 8 (length bytes) && nat_le (length bytes) 1780 then codes_of_bytes bytes else None)

-- the lamps before the codes, where these were read
abbrev pub shown_with : LampsValue → Option (List Code) → Option Shown
shown_with lamps (Some codes) = Some (record { lamps = lamps; codes = codes })
shown_with lamps None = None

-- what a payload shows, if it encodes anything
abbrev pub decoding : List ℕ → Option Shown
decoding (lamps ∷ flashes ∷ bytes) = shown_with (lamps_value lamps flashes) (codes_read bytes)
decoding _ = None
