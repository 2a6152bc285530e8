-- Address violation: somebody else sends from the address that a unit holds, what is no claim (SAE J1939-81 in its editions since 2011, from
-- memory). The unit claims the address again then, at most each five seconds.
use Rattle.std.specs.Prelude.{ℕ, ◌≡◌, ◌&&◌, Bool, true, false, not, nat_le, Option, if◌then◌else◌}
use Rattle.can_frame.specs.Fields.{source_of}
use Rattle.can_frame.specs.FrameValue.{FrameValue}
use Rattle.address_claim.specs.Claiming.{is_held}
use Rattle.live_unit.specs.Echoes.{EchoValue, HearsOwn}
use Rattle.live_unit.specs.Queue.{is_claim_frame}
use Rattle.live_unit.specs.Waits.{later}
use Rattle.live_unit.specs.declared.watch.TheConstants.{CLAIM_PERIOD}

-- what the unit wrote, and from when on it claims for a violation
pub record AddressWatchValue : Type 0 where
  pub echo : EchoValue
  pub claim_from : ℕ

-- it claims again for a frame of somebody else from its address: not for a claim, and not within five seconds
abbrev pub is_violated : FrameValue → Bool → ℕ → AddressWatchValue → Bool
is_violated f stranger now w = stranger && not (is_claim_frame f) && nat_le w.claim_from now

-- behind that it does not so soon again
abbrev pub claim_from_then : Bool → ℕ → ℕ → ℕ
claim_from_then claims now from = if claims then later now CLAIM_PERIOD else from

-- a frame from the address held was heard: its own, or somebody else's
pub record WatchesOwn (f : FrameValue) (now : ℕ) (claims : Bool) (w w' : AddressWatchValue) : Type 0 where
  pub stranger : Bool
  pub echo : HearsOwn f stranger w.echo w'.echo
  pub claims_is : claims ≡ is_violated f stranger now w
  pub claim_from : w'.claim_from ≡ claim_from_then claims now w.claim_from

-- a frame was heard by a unit that holds this address: of others from other addresses nothing comes
pub record Watches (f : FrameValue) (held : Option ℕ) (now : ℕ) (claims : Bool) (w w' : AddressWatchValue) : Type 0 where
  pub elsewhere : is_held held (source_of f.id) ≡ false → (claims ≡ false) × (w' ≡ w)
  pub here : is_held held (source_of f.id) ≡ true → WatchesOwn f now claims w w'
