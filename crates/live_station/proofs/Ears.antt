-- What the station is told of: a frame of its own and a packet out of turn change nothing, any other is what it hears.
use Rattle.std.proofs.Common.{◌≡◌, ◌||◌, ℕ, ◌<◌, ◌≤◌, ◌+◌, ◌%◌, ◌&&◌, arith, not, drop, Bool, true, false, List, [], ◌∷◌, Option, Some, None, if◌then◌else◌, refl, sym, ap, ◌∙◌, subst}
use Rattle.can_frame.specs.Fields.{source_of}
use Rattle.can_frame.specs.FrameValue.{FrameValue}
use Rattle.can_frame.specs.declared.reading.Reading.{Reading}
use Rattle.can_frame.specs.declared.reading.Reading.TheVariants.{Frame}
use Rattle.address_claim.specs.Claiming.{ClaimerValue, is_held}
use Rattle.bus_model.specs.Heard.{Joining, StationSettings, claimer_heard, session_heard}
use Rattle.parameter_group.specs.Group.{DataTransfer, group_of}
use Rattle.reassembly.specs.Partials.{answer_to, took_by, with_piece}
use Rattle.station_table.specs.declared.session.Session.{Session}
use Rattle.transport.specs.Assembling.{is_next}
use Rattle.reassembly.specs.Tables.{at}
use Rattle.entry_lists.specs.declared.entry.NewEntry.{NewEntry}
use Rattle.station_table.specs.Listing.{entry_heard}
use Rattle.station_table.specs.StationValue.{StationValue}
use Rattle.station_table.specs.StandsFor.{StandsFor}
use Rattle.live_station.specs.Losses.{missing_asked, next_packet, window_end}
use Rattle.live_station.specs.Ear.{entry_of_told, frames_told, breaks_session, is_out_of_turn, is_own, is_untold, is_untold_after}

-- what is withheld of a frame, by the station and by what it was told
abbrev Withheld : StationValue → FrameValue → Bool
Withheld s f = is_untold s.claimer (at s.sessions (source_of f.id)) f

withheld_as_told : (b : Bool) (r : StationSettings) (grant : ℕ) (s : StationValue) (h : List Reading) (f : FrameValue)
    → StandsFor r grant s (frames_told r h) → Withheld s f ≡ b → is_untold_after r (frames_told r h) f ≡ b
withheld_as_told b r grant s h f st e =
    let bound : source_of f.id < 256 = omega arith in
    let claims : is_untold (claimer_heard r (frames_told r h)) (at s.sessions (source_of f.id)) f ≡ b =
    subst (λ (c : ClaimerValue). is_untold c (at s.sessions (source_of f.id)) f ≡ b) st.claims e in
    subst (λ (j : Option Joining). is_untold (claimer_heard r (frames_told r h)) j f ≡ b) (st.sessions (source_of f.id) bound) claims

-- a frame of its own is, a packet out of turn is, and no other
pub withheld_own : (s : StationValue) (f : FrameValue) → is_own s.claimer f ≡ true → Withheld s f ≡ true
withheld_own s f e = rw e refl

pub withheld_by : (b : Bool) (s : StationValue) (f : FrameValue) → is_own s.claimer f ≡ false
    → is_out_of_turn s.claimer.held (at s.sessions (source_of f.id)) (group_of f) ≡ b → Withheld s f ≡ b
withheld_by b s f e turn = rw e turn

stands_withheld : (r : StationSettings) (grant : ℕ) (s : StationValue) (h : List Reading) (f : FrameValue)
    → Withheld s f ≡ true → StandsFor r grant s (frames_told r h) → StandsFor r grant s (frames_told r (Frame f ∷ h))
stands_withheld r grant s h f e st = (let it : is_untold_after r (frames_told r h) f ≡ true = withheld_as_told true r grant s h f st e in rw it st)

entry_withheld : (r : StationSettings) (grant : ℕ) (s : StationValue) (h : List Reading) (f : FrameValue)
    → Withheld s f ≡ true → StandsFor r grant s (frames_told r h) → entry_of_told r f h ≡ None
entry_withheld r grant s h f e st = (let it : is_untold_after r (frames_told r h) f ≡ true = withheld_as_told true r grant s h f st e in rw it refl)

pub stands_own : (r : StationSettings) (grant : ℕ) (s : StationValue) (h : List Reading) (f : FrameValue)
    → is_own s.claimer f ≡ true → StandsFor r grant s (frames_told r h) → StandsFor r grant s (frames_told r (Frame f ∷ h))
stands_own r grant s h f e st = stands_withheld r grant s h f (withheld_own s f e) st

pub entry_own : (r : StationSettings) (grant : ℕ) (s : StationValue) (h : List Reading) (f : FrameValue)
    → is_own s.claimer f ≡ true → StandsFor r grant s (frames_told r h) → entry_of_told r f h ≡ None
entry_own r grant s h f e st = entry_withheld r grant s h f (withheld_own s f e) st

pub stands_passed : (r : StationSettings) (grant : ℕ) (s : StationValue) (h : List Reading) (f : FrameValue)
    → is_own s.claimer f ≡ false → is_out_of_turn s.claimer.held (at s.sessions (source_of f.id)) (group_of f) ≡ true
    → StandsFor r grant s (frames_told r h) → StandsFor r grant s (frames_told r (Frame f ∷ h))
stands_passed r grant s h f e turn st = stands_withheld r grant s h f (withheld_by true s f e turn) st

pub entry_passed : (r : StationSettings) (grant : ℕ) (s : StationValue) (h : List Reading) (f : FrameValue)
    → is_own s.claimer f ≡ false → is_out_of_turn s.claimer.held (at s.sessions (source_of f.id)) (group_of f) ≡ true
    → StandsFor r grant s (frames_told r h) → entry_of_told r f h ≡ None
entry_passed r grant s h f e turn st = entry_withheld r grant s h f (withheld_by true s f e turn) st

pub stands_other : (r : StationSettings) (grant : ℕ) (s s' : StationValue) (h : List Reading) (f : FrameValue)
    → is_own s.claimer f ≡ false → is_out_of_turn s.claimer.held (at s.sessions (source_of f.id)) (group_of f) ≡ false
    → (StandsFor r grant s (frames_told r h) → StandsFor r grant s' (Frame f ∷ frames_told r h))
    → StandsFor r grant s (frames_told r h) → StandsFor r grant s' (frames_told r (Frame f ∷ h))
stands_other r grant s s' h f e turn goes st =
    (let it : is_untold_after r (frames_told r h) f ≡ false = withheld_as_told false r grant s h f st (withheld_by false s f e turn) in rw it (goes st))

pub entry_other : (r : StationSettings) (grant : ℕ) (s : StationValue) (h : List Reading) (f : FrameValue)
    → is_own s.claimer f ≡ false → is_out_of_turn s.claimer.held (at s.sessions (source_of f.id)) (group_of f) ≡ false
    → StandsFor r grant s (frames_told r h) → entry_of_told r f h ≡ entry_heard r (Frame f) (frames_told r h)
entry_other r grant s h f e turn st =
    (let it : is_untold_after r (frames_told r h) f ≡ false = withheld_as_told false r grant s h f st (withheld_by false s f e turn) in rw it refl)

-- ---- in order

not_broken : (b : Bool) (p : Joining) → breaks_session (Some (took_by (if b then Some p else None))) ≡ false → b ≡ true
not_broken true p e = refl
not_broken false p e = absurd (let clash : true ≡ false = e in cc)

pub told_in_order : (held : Option ℕ) (j : Joining) (source destination : ℕ) (bytes : List ℕ) → is_held held destination ≡ true
    → is_out_of_turn held (Some j) (DataTransfer source destination bytes) ≡ false → is_next j.size j.pieces bytes ≡ true
told_in_order held j source destination bytes h e =
    not_broken (is_next j.size j.pieces bytes) (with_piece (drop 1 bytes) j)
    (let it : (is_held held destination && breaks_session (answer_to bytes (Some j))) ≡ false = e in rw h at it)

-- a window that is granted ends behind what was taken of it
within_window : (taken at_once : ℕ) → 0 < at_once → taken % at_once < at_once
within_window taken at_once p = omega arith

pub asked_is_missing : (j : Session) → 0 < j.at_once → j.taken < j.packets → j.packets < 256
    → (next_packet j ≡ j.taken + 1) × (0 < missing_asked j) × (j.taken + missing_asked j ≤ j.packets)
unfolding window_end
asked_is_missing j p q r =
    let m : j.taken % j.at_once < j.at_once = within_window j.taken j.at_once p in
    (omega arith, omega arith, omega arith)
