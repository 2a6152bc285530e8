-- One who takes no part, beside a station that takes part: what both read of a bus on which the rules are kept.
use Rattle.std.specs.Prelude.{◌≡◌, ◌≢◌, ℕ, List, [], ◌∷◌, length, Some, None}
use Rattle.can_frame.specs.declared.reading.Reading.{Reading}
use Rattle.can_frame.specs.declared.reading.Reading.TheVariants.{Frame, Gap}
use Rattle.parameter_group.specs.Group.{Group, AddressClaimed, Diagnostic, ConnectionManagement, DataTransfer}
use Rattle.transport.specs.declared.control.Control.TheVariants.{Rts, Bam, Abort}
use Rattle.bus_model.specs.Expected.{Reception, Own, Received, Missed, readings}
use Rattle.bus_model.specs.Heard.{Joining, StationSettings, kind_of, session_heard}
use Rattle.bus_model.specs.Machine.{MaySend}
use Rattle.bus_model.specs.Traffic.{Item, says}

-- the readings of one beside the station, who misses what it misses: the station's own frames too
abbrev pub readings_beside : List Reception → List Reading
readings_beside [] = []
readings_beside (Own e ∷ older) = Frame e.frame ∷ readings_beside older
readings_beside (Received e ∷ older) = Frame e.frame ∷ readings_beside older
readings_beside (Missed es ∷ older) = Gap (length es) ∷ readings_beside older

-- what others send, where the station read this before: nobody else claims its address or sends messages from there; who asks it to send
-- another group than a diagnostic one has no session with it open; and who aborts names the group of the session that is open
abbrev pub IsOrderly : StationSettings → Group → List Reading → Type 0
IsOrderly r (AddressClaimed s n) older = s ≢ r.address
IsOrderly r (Diagnostic k s bytes) older = s ≢ r.address
IsOrderly r (DataTransfer s d bytes) older = s ≢ r.address
IsOrderly r (ConnectionManagement s d (Bam size packets pgn)) older = s ≢ r.address
IsOrderly r (ConnectionManagement s d (Rts size packets most pgn)) older =
    (s ≢ r.address) × (d ≡ r.address → kind_of pgn ≡ None → session_heard r s older ≡ None)
IsOrderly r (ConnectionManagement s d (Abort reason pgn)) older =
    (s ≢ r.address) × (d ≡ r.address → (j : Joining) → session_heard r s older ≡ Some j → kind_of pgn ≡ Some j.tag.kind)
IsOrderly r _ older = Unit {0}

-- the station goes on with no session that it aborts
abbrev pub AbortsNone : StationSettings → Group → List Reading → Type 0
AbortsNone r (ConnectionManagement s d (Abort reason pgn)) older = session_heard r d older ≡ None
AbortsNone r _ older = Unit {0}

-- a station takes part as the rules say: it holds its first address, sends what a station may send, and others are orderly
abbrev pub TakesPart : StationSettings → List Reception → Type 0
TakesPart r [] = Unit {0}
TakesPart r (Own e ∷ older) = (MaySend r.name (Some r.address) (says e) × AbortsNone r (says e) (readings older)) × TakesPart r older
TakesPart r (Received e ∷ older) = IsOrderly r (says e) (readings older) × TakesPart r older
TakesPart r (Missed es ∷ older) = TakesPart r older

-- ---- in a run

-- a claim of the address is made under this NAME
abbrev pub ClaimsOwn : ℕ → ℕ → Group → Type 0
ClaimsOwn n a (AddressClaimed s m) = s ≡ a → m ≡ n
ClaimsOwn n a _ = Unit {0}

-- of these frames none claims the address but under this NAME
abbrev pub IsClaimedAlone : ℕ → ℕ → List Item → Type 0
IsClaimedAlone n a [] = Unit {0}
IsClaimedAlone n a (e ∷ older) = ClaimsOwn n a (says e) × IsClaimedAlone n a older

-- the station goes on with no session that it aborts
abbrev pub GoesOnWithNone : StationSettings → List Reception → Type 0
GoesOnWithNone r [] = Unit {0}
GoesOnWithNone r (Own e ∷ older) = AbortsNone r (says e) (readings older) × GoesOnWithNone r older
GoesOnWithNone r (Received e ∷ older) = GoesOnWithNone r older
GoesOnWithNone r (Missed es ∷ older) = GoesOnWithNone r older
