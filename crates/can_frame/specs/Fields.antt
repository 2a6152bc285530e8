-- The fields of a 29-bit identifier, as quotients and remainders of its number (SAE J1939-21, protocol data unit).
use Rattle.std.specs.Prelude.{ℕ, ◌+◌, ◌*◌, ◌/◌, ◌%◌, ◌^◌, nat_lt, if◌then◌else◌, List, [], ◌∷◌, Option, Some, None}

-- the priority: the three bits on top
abbrev pub priority_of : ℕ → ℕ
priority_of n = n / 2 ^ 26

-- the extended data page bit
abbrev pub extended_data_page_of : ℕ → ℕ
extended_data_page_of n = n / 2 ^ 25 % 2

-- the data page bit
abbrev pub data_page_of : ℕ → ℕ
data_page_of n = n / 2 ^ 24 % 2

-- the PDU format byte
abbrev pub pdu_format_of : ℕ → ℕ
pdu_format_of n = n / 2 ^ 16 % 256

-- the PDU specific byte
abbrev pub pdu_specific_of : ℕ → ℕ
pdu_specific_of n = n / 2 ^ 8 % 256

-- the source address
abbrev pub source_of : ℕ → ℕ
source_of n = n % 256

-- the parameter group number: the data pages, the PDU format and, in PDU2, the PDU specific byte
abbrev pub pgn_of : ℕ → ℕ
pgn_of n =
    (2 * extended_data_page_of n + data_page_of n) * 65536 + pdu_format_of n * 256 + (if nat_lt (pdu_format_of n) 240 then 0 else pdu_specific_of n)

-- the destination: the PDU specific byte in PDU1, none in PDU2
abbrev pub destination_of : ℕ → Option ℕ
destination_of n = if nat_lt (pdu_format_of n) 240 then Some (pdu_specific_of n) else None

-- the PDU format byte of a parameter group number
abbrev pub pdu_format_of_pgn : ℕ → ℕ
pdu_format_of_pgn pgn = pgn / 256 % 256

-- the identifier of a group that goes to one destination
abbrev pub pdu1_number : ℕ → ℕ → ℕ → ℕ → ℕ
pdu1_number priority pgn destination source = priority * 2 ^ 26 + (pgn + destination) * 256 + source

-- the identifier of a group that goes to all
abbrev pub pdu2_number : ℕ → ℕ → ℕ → ℕ
pdu2_number priority pgn source = priority * 2 ^ 26 + pgn * 256 + source

-- the three bytes that carry a parameter group number, lowest first
abbrev pub pgn_bytes : ℕ → List ℕ
pgn_bytes pgn = pgn % 256 ∷ pgn / 256 % 256 ∷ pgn / 65536 ∷ []

-- the parameter group number that three bytes carry
abbrev pub pgn_of_bytes : ℕ → ℕ → ℕ → ℕ
pgn_of_bytes low middle high = low + 256 * middle + 65536 * high
