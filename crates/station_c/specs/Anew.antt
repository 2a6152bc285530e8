-- What a station, a live station or a listener goes on with where it is begun anew, since it has as many NAMEs as it may have.
use Rattle.std.specs.Prelude.{◌≡◌, ◌⊎◌, ◌<◌, ◌≤◌, ◌+◌, ℕ, Bool, true, false, nat_eq, nat_le, List, [], ◌∷◌, Option, Some, None, IsNone, if◌then◌else◌, length, map}
use Rattle.address_claim.specs.Frames.{claim_frame_value}
use Rattle.bus_model.specs.Heard.{StationSettings, counted, names_heard, owner_heard}
use Rattle.can_frame.specs.FrameValue.{FrameValue}
use Rattle.can_frame.specs.declared.address.TheConstants.{GREATEST_ADDRESS}
use Rattle.can_frame.specs.declared.reading.Reading.{Reading}
use Rattle.can_frame.specs.declared.reading.Reading.TheVariants.{Frame}
use Rattle.entry_lists.specs.KeptValue.{KeptValue, kept_under}
use Rattle.entry_lists.specs.KnownRows.{address_in, row_of}
use Rattle.entry_lists.specs.Newest.{KeepsNewest}
use Rattle.listener.specs.ListenerValue.{gaps_alone}
use Rattle.listener.specs.NewestSent.{units_overheard}
use Rattle.live_station.specs.Ear.{frames_told}
use Rattle.live_station.specs.Working.{WorkingValue}
use Rattle.live_station.specs.declared.times.StationTimes.{StationTimes}
use Rattle.parameter_group.specs.Group.{AddressClaimed, group_of}
use Rattle.reassembly.specs.Pairs.{no_pairs}
use Rattle.reassembly.specs.Tables.{at}
use Rattle.shared_groups.specs.Sharing.{followed}
use Rattle.station_table.specs.Listing.{lists_heard}
use Rattle.station_table.specs.StandsFor.{StandsFor}
use Rattle.station_table.specs.StationValue.{StationValue}
use Rattle.station_c.specs.ListedListeners.{HasHeard, ListedListenerValue}
use Rattle.station_c.specs.ListedLives.{ListedLiveValue, StandsLive}
use Rattle.station_c.specs.ListedStations.{ListedStationValue}
use Rattle.station_c.specs.Records.{flag}

-- ---- what is known of owners, as readings

-- the address that a NAME holds, by the owners of addresses and the rows
abbrev pub holds : List (Option ℕ) → List (ℕ × KeptValue) → ℕ → Option ℕ
holds owners rows name = address_in (row_of owners name (kept_under rows name))

-- an address, if it is another one than this
abbrev pub but : ℕ → Option ℕ → Option ℕ
but own None = None
but own (Some a) = if nat_eq own a then None else Some a

-- the claim that is told of a NAME which holds this address, 0 to 253
abbrev pub claim_told : ℕ → Option ℕ → Option FrameValue
claim_told name None = None
claim_told name (Some a) = if nat_le a GREATEST_ADDRESS then Some (claim_frame_value name (Some a)) else None

-- a frame claims for a NAME the address that it holds; for an address's owner that address; another address than this
pub record IsClaimOf (name : ℕ) (held : Option ℕ) (f : FrameValue) : Type 0 where
  pub address : ℕ
  pub held_is : held ≡ Some address
  pub says : group_of f ≡ AddressClaimed address name

pub record IsOwners (owners : List (Option ℕ)) (f : FrameValue) : Type 0 where
  pub address : ℕ
  pub name : ℕ
  pub says : group_of f ≡ AddressClaimed address name
  pub owned : at owners address ≡ Some name

pub record IsClaimBeside (own : ℕ) (f : FrameValue) : Type 0 where
  pub address : ℕ
  pub name : ℕ
  pub says : group_of f ≡ AddressClaimed address name
  pub other : nat_eq own address ≡ false

-- a frame, if there is one, behind what was heard
abbrev pub with_frame : Option FrameValue → List Reading → List Reading
with_frame None h = h
with_frame (Some f) h = Frame f ∷ h

-- the claims of several NAMEs, one after the other
abbrev pub with_claims_of : (ℕ → Option FrameValue) → List ℕ → List Reading → List Reading
with_claims_of claim [] h = h
with_claims_of claim (name ∷ names) h = with_claims_of claim names (with_frame (claim name) h)

-- of all that have rows and hold an address
abbrev pub claims_held : List (Option ℕ) → List (ℕ × KeptValue) → List Reading → List Reading
claims_held owners rows h = with_claims_of (λ n. claim_told n (holds owners rows n)) (map (λ e. e.0) rows) h

-- of all that hold another one than this
abbrev pub claims_beside : ℕ → List (Option ℕ) → List (ℕ × KeptValue) → List Reading
claims_beside own owners rows = with_claims_of (λ n. claim_told n (but own (holds owners rows n))) (map (λ e. e.0) rows) []

-- no address has another owner by what was heard than it had
abbrev pub KeepsOwners : List (Option ℕ) → List Reading → Type 0
KeepsOwners owners h = (a n : ℕ) → a < 256 → owner_heard a h ≡ Some n → at owners a ≡ Some n

-- ---- a station

-- it is of this NAME and grants so many packets at once
abbrev pub IsOf : ℕ → ℕ → StationValue → Type 0
IsOf name grant s = (s.claimer.name ≡ name) × (s.grant ≡ grant) × (0 < grant)

-- it stands for these readings, still holds its first address, and keeps so many of the newest entries of each list that was heard of them
pub record StandsListed (r : StationSettings) (grant keep : ℕ) (v : ListedStationValue) (h : List Reading) : Type 0 where
  pub station : StandsFor r grant v.station h
  pub held : v.station.claimer.held ≡ Some r.address
  pub lists : KeepsNewest v.lists (lists_heard r h)
  pub keep_is : v.lists.keep ≡ keep

-- a station holds this address, and stands, with the same NAME and grant, for the claims of the NAMEs that held others, and for nothing else; or
-- for nothing, where these are too many
pub record StandsAnew (address most : ℕ) (old new : ListedStationValue) : Type 0 where
  pub heard : List Reading
  pub claims : (heard ≡ claims_beside address old.station.owners old.station.rows)
      ⊎ ((heard ≡ []) × (most ≤ length (names_heard (claims_beside address old.station.owners old.station.rows))))
  pub owners : KeepsOwners old.station.owners heard
  pub stands : StandsListed (record { name = old.station.claimer.name; address = address }) old.station.grant old.lists.keep new heard

-- at the address that it held
abbrev pub BeginsAnew : ℕ → ListedStationValue → ListedStationValue → Type 0
BeginsAnew most old new = (address : ℕ) × (old.station.claimer.held ≡ Some address) × StandsAnew address most old new

-- there is room for one more NAME: there was, and nothing changed; or it was begun anew
pub record MakesRoom (most : ℕ) (old new : ListedStationValue) (anew : Bool) : Type 0 where
  pub room : length new.station.rows < most
  pub same : anew ≡ false → (length old.station.rows < most) × (new ≡ old)
  pub begun : anew ≡ true → (most ≤ length old.station.rows) × BeginsAnew most old new

-- and a flag says whether it was
abbrev pub TellsRoom : ℕ → ListedStationValue → ListedStationValue → ℕ → Type 0
TellsRoom most old new told = (b : Bool) × MakesRoom most old new b × (told ≡ flag b)

-- ---- a live station

-- it is of this NAME, grants so many packets at once, and keeps to these times
pub record IsLiveOf (name grant : ℕ) (times : StationTimes) (live : WorkingValue) : Type 0 where
  pub station : IsOf name grant live.station
  pub settings : live.settings ≡ record { gap = times.gap; settle = times.settle; always = false }

-- a station that still holds this address stands for these readings, with the NAME, the grant and the times of another one; no order is open
pub record StandsAfter (address : ℕ) (old new : ListedLiveValue) (h : List Reading) : Type 0 where
  pub stands : StandsLive (record { name = old.live.station.claimer.name; address = address }) old.live.station.grant old.lists.keep new h
  pub held : new.live.station.claimer.held ≡ Some address
  pub order : new.live.order ≡ None
  pub settings : new.live.settings ≡ old.live.settings

-- for the claims of the NAMEs that held other addresses, and for nothing else; or for nothing
pub record StandsAnewLive (address most : ℕ) (old new : ListedLiveValue) : Type 0 where
  pub heard : List Reading
  pub claims : (heard ≡ claims_beside address old.live.station.owners old.live.station.rows)
      ⊎ ((heard ≡ []) × (most ≤ length (names_heard (frames_told (record { name = old.live.station.claimer.name; address = address })
      (claims_beside address old.live.station.owners old.live.station.rows)))))
  pub owners : KeepsOwners old.live.station.owners (frames_told (record { name = old.live.station.claimer.name; address = address }) heard)
  pub after : StandsAfter address old new heard

-- at the address that it held, where no order is open; the newest verdict and the groups that the program shares stay
pub record BeginsAnewLive (most : ℕ) (old new : ListedLiveValue) : Type 0 where
  pub address : ℕ
  pub held : old.live.station.claimer.held ≡ Some address
  pub quiet : IsNone old.live.order
  pub anew : StandsAnewLive address most old new
  pub last : new.last ≡ old.last
  pub shared : new.shared ≡ followed (Some address) old.shared

pub record MakesRoomLive (most : ℕ) (old new : ListedLiveValue) (anew : Bool) : Type 0 where
  pub room : length new.live.station.rows < most
  pub same : anew ≡ false → (length old.live.station.rows < most) × (new ≡ old)
  pub begun : anew ≡ true → (most ≤ length old.live.station.rows) × BeginsAnewLive most old new

abbrev pub TellsRoomLive : ℕ → ListedLiveValue → ListedLiveValue → ℕ → Type 0
TellsRoomLive most old new told = (b : Bool) × MakesRoomLive most old new b × (told ≡ flag b)

-- ---- a listener

-- it has fewer NAMEs than that, and fewer units that have lists
abbrev pub HasFewer : ℕ → ListedListenerValue → Type 0
HasFewer most v = (length v.ear.listener.rows < most) × (length v.lists.order < most)

-- it knows of no message under way; messages that break are numbered on
pub record IsQuietAs (old new : ListedListenerValue) : Type 0 where
  pub paces : new.ear.paces ≡ no_pairs
  pub silence : new.ear.silence ≡ old.ear.silence
  pub keeps : new.lists.keep ≡ old.lists.keep
  pub broken : new.broken ≡ []
  pub count : new.broken_count ≡ old.broken_count

-- readings have as many NAMEs as there may be, or as many units with lists, or more
abbrev pub AreTooMany : ℕ → List Reading → Type 0
AreTooMany most h = (most ≤ length (names_heard h)) ⊎ (most ≤ length (units_overheard h))

-- the gaps that it goes on with: one more than before, since who sends from an address that no NAME claimed is not known to be the same
abbrev pub gaps_anew : ListedListenerValue → ℕ
gaps_anew old = counted (old.ear.listener.gaps + 1)

-- it has heard these gaps, the claims of the NAMEs that held addresses, and nothing else; or the gaps alone
pub record BeginsAnewListening (most : ℕ) (old new : ListedListenerValue) : Type 0 where
  pub heard : List Reading
  pub claims : (heard ≡ claims_held old.ear.listener.owners old.ear.listener.rows (gaps_alone (gaps_anew old)))
      ⊎ ((heard ≡ gaps_alone (gaps_anew old)) × AreTooMany most (claims_held old.ear.listener.owners old.ear.listener.rows (gaps_alone (gaps_anew old))))
  pub owners : KeepsOwners old.ear.listener.owners heard
  pub has : HasHeard new heard
  pub quiet : IsQuietAs old new

pub record MakesRoomListening (most : ℕ) (old new : ListedListenerValue) (anew : Bool) : Type 0 where
  pub room : HasFewer most new
  pub same : anew ≡ false → HasFewer most old × (new ≡ old)
  pub begun : anew ≡ true → ((most ≤ length old.ear.listener.rows) ⊎ (most ≤ length old.lists.order)) × BeginsAnewListening most old new

abbrev pub TellsRoomListening : ℕ → ListedListenerValue → ListedListenerValue → ℕ → Type 0
TellsRoomListening most old new told = (b : Bool) × MakesRoomListening most old new b × (told ≡ flag b)
