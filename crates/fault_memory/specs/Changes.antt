use Rattle.std.specs.Prelude.{◌≡◌, ◌⊎◌, ◌<◌, OnOk, OnErr, IfErr, ℕ, ◌^◌, not, Bool, ◌&&◌, ◌==◌, nat_le, nat_lt, List, [], ◌∷◌, ◌++◌, length, if◌then◌else◌, Option, Some, None, Result, Ok, Err}
use Rattle.std.specs.List.{filter, find, list_any}
use Rattle.trouble_code.specs.Code.{Code, code, occurred_again}
use Rattle.trouble_code.specs.LampBytes.{lamps_off}
use Rattle.fault_memory.specs.Memory.{MemoryValue, all_codes, codes_held}
use Rattle.fault_memory.specs.declared.change.FaultChange.{FaultChange}
use Rattle.fault_memory.specs.declared.change.FaultChange.TheVariants.{Set, Heal, Pend, Unpend, Lamp}
use Rattle.fault_memory.specs.declared.error.FaultError.{FaultError}
use Rattle.fault_memory.specs.declared.error.FaultError.TheVariants.{OutOfMemory, SpnTooLarge, FmiTooLarge, Full, NotActive, NotPending}

-- the code has this SPN and FMI
abbrev pub is_fault : ℕ → ℕ → Code → Bool
is_fault spn fmi c = (spn == c.spn) && (fmi == c.fmi)

-- the list without the code of this SPN and FMI, the others in their order
abbrev pub without : ℕ → ℕ → List Code → List Code
without spn fmi codes = filter (λ c. not (is_fault spn fmi c)) codes

-- what is done with a new code, which needs room
abbrev pub if_room : MemoryValue → MemoryValue → Result MemoryValue FaultError
if_room m done = if nat_lt (codes_held m) 445 then Ok done else Err Full

-- a fault that is neither active nor previously active becomes active: with its pending code as it is, if there is one, else as a
-- new code
abbrev pub confirmed : ℕ → ℕ → MemoryValue → Option Code → Result MemoryValue FaultError
confirmed spn fmi m (Some c) = Ok (record m { active = m.active ++ c ∷ []; pending = without spn fmi m.pending })
confirmed spn fmi m None = if_room m (record m { active = m.active ++ code spn fmi 1 ∷ [] })

-- a fault that is not active becomes active: with its previous code counted once more, if there is one
abbrev pub activated : ℕ → ℕ → MemoryValue → Option Code → Result MemoryValue FaultError
activated spn fmi m (Some c) = Ok (record m { active = m.active ++ occurred_again c ∷ []; previous = without spn fmi m.previous })
activated spn fmi m None = confirmed spn fmi m (find (is_fault spn fmi) m.pending)

-- a fault is there: an active code stays as it is
abbrev pub fault_set : ℕ → ℕ → MemoryValue → Result MemoryValue FaultError
fault_set spn fmi m =
    if list_any (is_fault spn fmi) m.active then Ok m else activated spn fmi m (find (is_fault spn fmi) m.previous)

-- a fault has gone: its active code goes to the end of the previous ones, with its count
abbrev pub deactivated : ℕ → ℕ → MemoryValue → Option Code → Result MemoryValue FaultError
deactivated spn fmi m (Some c) = Ok (record m { active = without spn fmi m.active; previous = m.previous ++ c ∷ [] })
deactivated spn fmi m None = Err NotActive

abbrev pub fault_healed : ℕ → ℕ → MemoryValue → Result MemoryValue FaultError
fault_healed spn fmi m = deactivated spn fmi m (find (is_fault spn fmi) m.active)

-- a fault was seen and is not confirmed yet: a code in any list stays as it is, a new one becomes pending
abbrev pub fault_pended : ℕ → ℕ → MemoryValue → Result MemoryValue FaultError
fault_pended spn fmi m =
    if list_any (is_fault spn fmi) (all_codes m) then Ok m else if_room m (record m { pending = m.pending ++ code spn fmi 1 ∷ [] })

-- a pending fault was not seen again: its pending code goes away
abbrev pub fault_unpended : ℕ → ℕ → MemoryValue → Result MemoryValue FaultError
fault_unpended spn fmi m =
    if list_any (is_fault spn fmi) m.pending then Ok (record m { pending = without spn fmi m.pending }) else Err NotPending

-- refused where the SPN has more than 19 bits, then where the FMI has more than 5
abbrev pub if_in_range : ℕ → ℕ → Result MemoryValue FaultError → Result MemoryValue FaultError
if_in_range spn fmi outcome =
    if nat_le (2 ^ 19) spn then Err SpnTooLarge else (if nat_le 32 fmi then Err FmiTooLarge else outcome)

-- the memory after a change, or why the change is refused
abbrev pub changed : MemoryValue → FaultChange → Result MemoryValue FaultError
changed m (Set spn fmi) = if_in_range spn fmi (fault_set spn fmi m)
changed m (Heal spn fmi) = if_in_range spn fmi (fault_healed spn fmi m)
changed m (Pend spn fmi) = if_in_range spn fmi (fault_pended spn fmi m)
changed m (Unpend spn fmi) = if_in_range spn fmi (fault_unpended spn fmi m)
changed m (Lamp lamps) = Ok (record m { lamps = lamps })

-- the memory after its active codes are cleared (DM11): no active and no pending code, and the lamps off
abbrev pub cleared_active : MemoryValue → MemoryValue
cleared_active m = record m { lamps = lamps_off; active = []; pending = [] }

-- the memory after its previously active codes are cleared (DM3)
abbrev pub cleared_previous : MemoryValue → MemoryValue
cleared_previous m = record m { previous = [] }

-- what is defined makes a list longer
abbrev pub Grows : Result MemoryValue FaultError → MemoryValue → Type 0
Grows (Ok new) old =
    (length old.active < length new.active) ⊎ ((length old.previous < length new.previous) ⊎ (length old.pending < length new.pending))
Grows (Err e) old = ⊥

-- a call did what is defined, or refused it for the reason defined, or was refused the memory of a longer list
pub record Follows (outcome : Result MemoryValue FaultError) (old new : MemoryValue) (result : Result (Unit {0}) FaultError) : Type 0 where
  pub ok : OnOk result (outcome ≡ Ok new)
  pub refused : (e : FaultError) → outcome ≡ Err e → result ≡ Err e
  pub why : IfErr result (λ e. ((e ≡ OutOfMemory) × Grows outcome old) ⊎ (outcome ≡ Err e))
  pub unchanged : OnErr result (new ≡ old)
