-- The tables stand for the readings: at first for none, and after each reading for that one in front of the others.
use Rattle.std.proofs.Common.{◌≡◌, ℕ, ◌+◌, ◌<◌, ◌≤◌, Bool, true, false, ◌==◌, ◌&&◌, List, [], ◌∷◌, Option, Some, None, if◌then◌else◌, length, refl, sym, ap, ◌∙◌, subst, arith}
use Rattle.std.specs.Prelude.{slice_index}
use Rattle.std.proofs.lemmas.List.{get_or-replicate, length-replicate}
use Rattle.std.proofs.lemmas.Bool.{ne_eqb}
use Rattle.address_claim.specs.Claiming.{ClaimerValue, new_claimer}
use Rattle.can_frame.specs.declared.reading.Reading.{Reading}
use Rattle.can_frame.specs.declared.reading.Reading.TheVariants.{Frame, Gap, Empty}
use Rattle.transport.specs.declared.control.Control.TheVariants.{Rts, Cts, EndAck, Bam, Abort}
use Rattle.parameter_group.specs.Group.{Group, AddressClaimed, CannotClaim, Request, Acknowledgment, Diagnostic, ConnectionManagement, DataTransfer, Other, group_of}
use Rattle.bus_model.specs.Heard.{StationSettings, Joining, addressless, counted}
use Rattle.entry_lists.specs.KeptValue.{KeptValue, kept_under}
use Rattle.reassembly.specs.Tables.{empty_table}
use Rattle.reassembly.specs.TableLaws.{at-empty, places-empty}
use Rattle.station_table.specs.StationValue.{StationValue}
use Rattle.station_table.specs.Steps.{no_limits, new_station, after_group, after_gap, after_reading}
use Rattle.station_table.specs.StandsFor.{StandsFor}
use Rattle.station_table.proofs.Lines.{StandsAfter, stands_as_told, tells}
use Rattle.station_table.proofs.Claims.{acknowledged, cannot_claim, claimed}
use Rattle.station_table.proofs.Messages.{single, packet, bam, rts, aborted}
use Rattle.entry_lists.proofs.RowClaims.{addressless_row}
use Rattle.parameter_group.specs.Laws.{sender, sender_below}

-- whatever a frame says
pub group_stands : (r : StationSettings) (grant : ℕ) (s : StationValue) (h : List Reading) (g : Group) → sender g < 256
    → StandsFor r grant s h → StandsAfter r grant g (after_group s g) h
group_stands r grant s h (AddressClaimed src n) lt st = claimed r grant s h src n lt st
group_stands r grant s h (CannotClaim n) lt st = cannot_claim r grant s h n st
group_stands r grant s h (Acknowledgment c q p d src) lt st = acknowledged r grant s h c q p d src lt st
group_stands r grant s h (Diagnostic k src bytes) lt st = single r grant s h k src bytes lt st
group_stands r grant s h (ConnectionManagement src d (Bam size packets pgn)) lt st = bam r grant s h src d size packets pgn lt st
group_stands r grant s h (ConnectionManagement src d (Rts size packets most pgn)) lt st = rts r grant s h src d size packets most pgn lt st
group_stands r grant s h (ConnectionManagement src d (Abort reason pgn)) lt st = aborted r grant s h src d reason pgn lt st
group_stands r grant s h (DataTransfer src d bytes) lt st = packet r grant s h src d bytes lt st.apart st
group_stands r grant s h (Request p d src) lt st = tells r grant s h st
group_stands r grant s h (ConnectionManagement src d (Cts granted next pgn)) lt st = tells r grant s h st
group_stands r grant s h (ConnectionManagement src d (EndAck size packets pgn)) lt st = tells r grant s h st
group_stands r grant s h Other lt st = tells r grant s h st

-- a gap
pub gap_stands : (r : StationSettings) (grant : ℕ) (s : StationValue) (h : List Reading) (n : ℕ) → StandsFor r grant s h → StandsFor r grant (after_gap s n) (Gap n ∷ h)
gap_stands r grant s h n st = record {
  grants = st.grants;
  claims = st.claims;
  apart = st.apart;
  places = record { owners = places-empty ℕ; broadcasts = places-empty Joining; sessions = places-empty Joining; most = st.places.most };
  owners = λ a below. at-empty a;
  broadcasts = λ a below. at-empty a;
  sessions = λ a below. at-empty a;
  most = st.most;
  rows = λ m. addressless_row m s.owners (kept_under s.rows m) ∙ ap addressless (st.rows m);
  names = st.names;
  missed = ap (λ v. counted (v + n)) st.missed;
  unread = st.unread;
}

-- a reading that is not refused
pub stands_after : (r : StationSettings) (grant : ℕ) (s : StationValue) (h : List Reading) (x : Reading) → StandsFor r grant s h
    → StandsFor r grant (after_reading s x) (x ∷ h)
stands_after r grant s h Empty st = stands_as_told r grant s (Empty ∷ h) (tells r grant s h st)
stands_after r grant s h (Gap n) st = gap_stands r grant s h n st
stands_after r grant s h (Frame f) st =
    stands_as_told r grant (after_group s (group_of f)) (Frame f ∷ h) (group_stands r grant s h (group_of f) (sender_below f) st)

-- no sender told how many packets it takes at once
limits_places : length no_limits ≡ 256
unfolding no_limits
limits_places = length-replicate {A = ℕ} 256 255

limit_none : (a : ℕ) → a < 256 → slice_index no_limits a ≡ 255
unfolding no_limits
limit_none a below = get_or-replicate 256 a 255 0 below

-- a new station, which has read nothing
pub stands_new : (r : StationSettings) (grant : ℕ) (s : StationValue) → (r.address == 255) ≡ false → s ≡ new_station r.name r.address grant → StandsFor r grant s []
stands_new r grant s below e = subst (λ (v : StationValue). StandsFor r grant v []) (sym e) (record {
  grants = refl;
  claims = refl;
  apart = below;
  places = record { owners = places-empty ℕ; broadcasts = places-empty Joining; sessions = places-empty Joining; most = limits_places };
  owners = λ a below. at-empty a;
  broadcasts = λ a below. at-empty a;
  sessions = λ a below. at-empty a;
  most = λ a below. limit_none a below;
  rows = λ n. refl;
  names = refl;
  missed = refl;
  unread = refl;
})

-- the parts of a new station
pub stands_new_parts : (name address grant : ℕ) (claimer : ClaimerValue) (owners : List (Option ℕ)) (rows : List (ℕ × KeptValue)) (broadcasts sessions : List (Option Joining)) (most : List ℕ)
    → address ≤ 253 → claimer ≡ new_claimer name address → owners ≡ empty_table → rows ≡ [] → broadcasts ≡ empty_table → sessions ≡ empty_table → most ≡ no_limits
    → StandsFor (record { name = name; address = address }) grant
    (record { claimer = claimer; grant = grant; owners = owners; rows = rows; broadcasts = broadcasts; sessions = sessions; most = most; missed = 0; unread = 0 }) []
stands_new_parts name address grant claimer owners rows broadcasts sessions most fits c o r b s m =
    stands_new (record { name = name; address = address }) grant _ (ne_eqb address 255 (λ same. let wrong : address ≡ 255 = same in omega arith)) (rw (c, o, r, b, s, m) refl)

-- the station's tables after a list of readings, newest first
pub station_after : StationSettings → ℕ → List Reading → StationValue
station_after r grant [] = new_station r.name r.address grant
station_after r grant (x ∷ older) = after_reading (station_after r grant older) x

-- they stand for that list
pub stands_always : (r : StationSettings) (grant : ℕ) → (r.address == 255) ≡ false → (h : List Reading) → StandsFor r grant (station_after r grant h) h
unfolding station_after
stands_always r grant below [] = stands_new r grant (new_station r.name r.address grant) below refl
stands_always r grant below (x ∷ older) = stands_after r grant (station_after r grant older) older x (stands_always r grant below older)

-- a reading, with the tables after it named
pub stands_read : (r : StationSettings) (grant : ℕ) (s t : StationValue) (h : List Reading) (x : Reading) → t ≡ after_reading s x → StandsFor r grant s h → StandsFor r grant t (x ∷ h)
stands_read r grant s t h x e st = subst (λ (v : StationValue). StandsFor r grant v (x ∷ h)) (sym e) (stands_after r grant s h x st)
