-- What a claim that is heard does to the address that is held and to an open session (SAE J1939-81).
use Rattle.std.specs.Prelude.{◌≡◌, ℕ, Bool, false, not, ◌&&◌, ◌==◌, Option}
use Rattle.address_claim.specs.Claiming.{is_held}
use Rattle.parameter_group.specs.Group.{Group, AddressClaimed}

-- a claim of the address held, under another NAME: it is defended, or given up
abbrev pub is_contest : ℕ → Option ℕ → Group → Bool
is_contest name held (AddressClaimed source other) = is_held held source && not (other == name)
is_contest name held _ = false

-- a claim of the address with which a session is open
abbrev pub cuts : Option ℕ → Group → Bool
cuts session (AddressClaimed source other) = is_held session source
cuts session _ = false

-- neither: whoever holds this address and has this session open goes on as before
pub record IsCalm (name : ℕ) (held session : Option ℕ) (g : Group) : Type 0 where
  pub uncontested : is_contest name held g ≡ false
  pub uncut : cuts session g ≡ false
