-- What is kept under each NAME.
use Rattle.std.specs.Prelude.{ℕ, List, [], ◌∷◌, ◌++◌, Option, Some, None, nat_eq, is_some, if◌then◌else◌}
use Rattle.std.specs.Option.{option_map_or}
use Rattle.std.specs.Map.{lookup, set_value}
use Rattle.entry_lists.specs.declared.row.AckSeen.{AckSeen}

-- the address last claimed (none after a cannot claim), and the last acknowledgment
pub record KeptValue : Type 0 where
  pub claimed : Option ℕ
  pub ack : Option AckSeen

-- nothing is kept yet
abbrev pub nothing_kept : KeptValue
nothing_kept = record { claimed = None; ack = None }

-- with another address claimed, or none
abbrev pub with_claimed : Option ℕ → KeptValue → KeptValue
with_claimed address kept = record kept { claimed = address }

-- with another acknowledgment
abbrev pub with_ack : AckSeen → KeptValue → KeptValue
with_ack ack kept = record kept { ack = Some ack }

-- what is kept under the NAME, if it has a row
abbrev pub kept_under : List (ℕ × KeptValue) → ℕ → Option KeptValue
kept_under rows name = lookup (nat_eq name) rows

-- the address last claimed in a row, if there is one
abbrev pub claimed_in : Option KeptValue → Option ℕ
claimed_in None = None
claimed_in (Some kept) = kept.claimed

-- with an empty row of the NAME at the end, where it has none
abbrev pub with_row : List (ℕ × KeptValue) → ℕ → List (ℕ × KeptValue)
with_row rows name = if is_some (kept_under rows name) then rows else rows ++ (name, nothing_kept) ∷ []

-- with a change to what is kept under the NAME, where it has a row
abbrev pub changed_under : (KeptValue → KeptValue) → List (ℕ × KeptValue) → ℕ → List (ℕ × KeptValue)
changed_under change rows name =
    option_map_or (λ kept. set_value (nat_eq name) rows (change kept)) (kept_under rows name) rows
