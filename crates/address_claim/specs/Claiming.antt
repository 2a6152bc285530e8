-- By which rules an address is kept, defended, moved or lost (SAE J1939-81, address management).
use Rattle.std.specs.Prelude.{ℕ, ◌+◌, ◌≤◌, Bool, true, false, not, ◌||◌, nat_eq, nat_lt, if◌then◌else◌, List, Option, Some, None, option_map, replicate, position, slice_range, slice_set}
use Rattle.can_frame.specs.declared.address.TheConstants.{GREATEST_ADDRESS, HOLDABLE_ADDRESSES, NULL_ADDRESS}
use Rattle.name_field.specs.Fields.{arbitrary_capable_of}
use Rattle.address_claim.specs.declared.claimer.ClaimStep.{ClaimStep}
use Rattle.address_claim.specs.declared.claimer.ClaimStep.TheVariants.{Nothing, Defend, Move, CannotClaim}

-- a NAME, the address that it holds, and for each address from 0 to 253 the NAME of the last claim of it that was heard
pub record ClaimerValue : Type 0 where
  pub name : ℕ
  pub held : Option ℕ
  pub noted : List (Option ℕ)

-- a NAME that claims the address that it wants, and has heard no claim
abbrev pub new_claimer : ℕ → ℕ → ClaimerValue
new_claimer name want = record { name = name; held = Some want; noted = replicate HOLDABLE_ADDRESSES None }

-- the claims noted after one more; 254 and 255 are no addresses
abbrev pub noted_after : ℕ → ℕ → List (Option ℕ) → List (Option ℕ)
noted_after source name noted = if nat_lt source NULL_ADDRESS then slice_set noted source (Some name) else noted

-- whether an address is the one held
abbrev pub is_held : Option ℕ → ℕ → Bool
is_held None address = false
is_held (Some held) address = nat_eq held address

-- an address that can be held, or none
abbrev pub CanHold : Option ℕ → Type 0
CanHold None = Unit {0}
CanHold (Some address) = address ≤ GREATEST_ADDRESS

-- whether an address with this last claim is free for a NAME: it has no claim of another NAME
abbrev pub is_free : ℕ → Option ℕ → Bool
is_free name None = true
is_free name (Some other) = nat_eq other name

-- the least free address of 128 to 247
abbrev pub free_address : ℕ → List (Option ℕ) → Option ℕ
free_address name noted = option_map (λ k. 128 + k) (position (is_free name) (slice_range noted 128 248))

-- an address that a NAME may choose by itself
abbrev pub IsOwnChoice : ℕ → Type 0
IsOwnChoice address = (128 ≤ address) × (address ≤ 247)

-- a NAME that loses its address moves to a free one, where it may and there is one
abbrev pub move_step : Option ℕ → ClaimStep
move_step (Some address) = Move address
move_step None = CannotClaim

-- where a NAME that loses its address may move to
abbrev pub next_address : ℕ → List (Option ℕ) → Option ℕ
next_address name noted = if nat_eq (arbitrary_capable_of name) 1 then free_address name noted else None

-- what a claim of an address under a NAME asks of a claimer
abbrev pub claim_step : ℕ → ℕ → ClaimerValue → ClaimStep
claim_step source name c =
    if not (is_held c.held source) || nat_eq name c.name then Nothing
    else if nat_lt c.name name then Defend
    else move_step (next_address c.name (noted_after source name c.noted))

-- a move goes to such an address
abbrev pub IsLawfulStep : ClaimStep → Type 0
IsLawfulStep (Move address) = IsOwnChoice address
IsLawfulStep _ = Unit {0}

-- the address held after it
abbrev pub held_after : ClaimStep → Option ℕ → Option ℕ
held_after Nothing held = held
held_after Defend held = held
held_after (Move address) held = Some address
held_after CannotClaim held = None

-- a claimer after a claim
abbrev pub after_claim : ℕ → ℕ → ClaimerValue → ClaimerValue
after_claim source name c = record {
  name = c.name;
  held = held_after (claim_step source name c) c.held;
  noted = noted_after source name c.noted;
}

-- a claimer after a command to hold an address
abbrev pub after_command : ℕ → ClaimerValue → ClaimerValue
after_command address c = record { name = c.name; held = Some address; noted = c.noted }
