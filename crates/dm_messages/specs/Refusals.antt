use Rattle.std.specs.Prelude.{◌≡◌, ◌⊎◌, ℕ, Bool, ◌+◌, ◌%◌, ◌&&◌, ◌||◌, ◌==◌, nat_le, List, ◌∷◌, length, take, if◌then◌else◌, Option, Some, None, Result, Err, IfOk, IfErr}
use Rattle.trouble_code.specs.Code.{Code}
use Rattle.dm_messages.specs.View.{is_no_code}
use Rattle.dm_messages.specs.declared.error.ReadError.{ReadError}
use Rattle.dm_messages.specs.declared.error.ReadError.TheVariants.{OutOfMemory, BadLength, OldConversion, NoCodeInside}

-- the number of each refusal
abbrev pub read_error_number : ReadError → ℕ
read_error_number OutOfMemory = 0
read_error_number BadLength = 15
read_error_number OldConversion = 16
read_error_number NoCodeInside = 17

-- the lengths that a payload may have: 8, or 2 + 4n for n from 2 to 445
abbrev pub is_payload_length : ℕ → Bool
is_payload_length n = (n == 8) || (nat_le 10 n && nat_le n 1782 && (n % 4 == 2))

-- why four bytes in a list encode no code
abbrev pub fault_of_group : ℕ → ℕ → ℕ → ℕ → Option ReadError
fault_of_group low middle top last =
    if nat_le 128 last then Some OldConversion else (if low + middle + top + last == 0 then Some NoCodeInside else None)

-- the first of two faults, if there is one
abbrev pub earlier_fault : Option ReadError → Option ReadError → Option ReadError
earlier_fault (Some e) _ = Some e
earlier_fault None later = later

-- the fault of the first group of four bytes that has one
abbrev pub fault_of_groups : List ℕ → Option ReadError
fault_of_groups (low ∷ middle ∷ top ∷ last ∷ bytes) = earlier_fault (fault_of_group low middle top last) (fault_of_groups bytes)
fault_of_groups _ = None

-- the first fault after the lamps: six bytes have one group, which may stand for no code
abbrev pub fault_of_codes : List ℕ → Option ReadError
fault_of_codes bytes =
    if length bytes == 6 then (if is_no_code (take 4 bytes) then None else fault_of_groups (take 4 bytes)) else fault_of_groups bytes

-- why what follows the lamps is refused: by its length alone, then by the first group at fault
abbrev pub refusal_after_lamps : List ℕ → Option ReadError
refusal_after_lamps bytes = if is_payload_length (2 + length bytes) then fault_of_codes bytes else Some BadLength

-- why a payload is refused
abbrev pub refusal : List ℕ → Option ReadError
refusal (lamps ∷ flashes ∷ bytes) = refusal_after_lamps bytes
refusal _ = Some BadLength

-- a list of codes was read as defined, or refused for the fault defined, or memory was refused
pub record ReadsCodes (codes : Option (List Code)) (fault : Option ReadError) (result : Result (List Code) ReadError) : Type 0 where
  pub ok : IfOk result (λ cs. codes ≡ Some cs)
  pub refused : (e : ReadError) → fault ≡ Some e → result ≡ Err e
  pub why : IfErr result (λ e. (e ≡ OutOfMemory) ⊎ (fault ≡ Some e))
