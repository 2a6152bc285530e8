use Rattle.std.specs.Prelude.{ℕ, ◌/◌, ◌%◌, ◌<◌, List, [], ◌∷◌}
use Rattle.trouble_code.specs.declared.lamps.LampName.{LampName}
use Rattle.trouble_code.specs.declared.lamps.LampName.TheVariants.{Malfunction, RedStop, Amber, Protect}

-- the two bytes of the lamps: the lamps themselves, and how they flash
pub record LampsValue : Type 0 where
  pub lamps : ℕ
  pub flashes : ℕ

-- the lamps with these two bytes
abbrev pub lamps_value : ℕ → ℕ → LampsValue
lamps_value lamps flashes = record { lamps = lamps; flashes = flashes }

-- both are bytes
abbrev pub IsLamps : LampsValue → Type 0
IsLamps l = (l.lamps < 256) × (l.flashes < 256)

-- no lamp is on, and no flash code is given
abbrev pub lamps_off : LampsValue
lamps_off = lamps_value 0x00 0xFF

-- the two bytes in the order in which they are sent
abbrev pub lamps_bytes : LampsValue → List ℕ
lamps_bytes l = l.lamps ∷ l.flashes ∷ []

-- the two bits of one lamp: malfunction indicator 8-7, red stop 6-5, amber warning 4-3, protect 2-1
abbrev pub two_bits_of : LampName → ℕ → ℕ
two_bits_of Malfunction byte = byte / 64
two_bits_of RedStop byte = byte / 16 % 4
two_bits_of Amber byte = byte / 4 % 4
two_bits_of Protect byte = byte % 4
