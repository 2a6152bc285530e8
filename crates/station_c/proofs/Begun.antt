-- What stands anew: a station that is told a claim at a time, of whose NAME it stands for the address.
use Rattle.std.proofs.Common.{arith, ◌≡◌, inl, inr, ◌<◌, ◌≤◌, ◌+◌, ◌==◌, ◌||◌, ◌++◌, ℕ, Bool, true, false, List, [], ◌∷◌, Option, Some, None, Result, Ok, Err, OnOk, OnErr, IfSome, length, take, if◌then◌else◌, refl, sym, ap, ◌∙◌, subst}
use Rattle.std.proofs.lemmas.List.{length-append, length-map}
use Rattle.std.specs.List.{list_any}
use Rattle.std.specs.Prelude.{slice_get}
use Rattle.address_claim.specs.Claiming.{ClaimerValue, is_held}
use Rattle.bus_model.specs.Heard.{Entry, Joining, StationSettings, claimer_after, claimer_heard, entry_under, finished, kind_of, names_after, names_heard, started}
use Rattle.can_frame.specs.FrameValue.{FrameValue}
use Rattle.can_frame.specs.declared.address.TheConstants.{GLOBAL_ADDRESS}
use Rattle.can_frame.specs.declared.reading.Reading.{Reading}
use Rattle.can_frame.specs.declared.reading.Reading.TheVariants.{Frame, Gap, Empty}
use Rattle.dm_messages.specs.View.{decoding}
use Rattle.dm_messages.specs.declared.shown.Shown.{Shown}
use Rattle.entry_lists.specs.Newest.{KeepsNewest}
use Rattle.entry_lists.specs.declared.row.AckSeen.{AckSeen}
use Rattle.live_station.proofs.Claimers.{named_as_before}
use Rattle.parameter_group.specs.Group.{Group, AddressClaimed, CannotClaim, Request, Acknowledgment, Diagnostic, ConnectionManagement, DataTransfer, Other, group_of}
use Rattle.reassembly.specs.Partials.{with_packet}
use Rattle.reassembly.specs.Tables.{at}
use Rattle.station_table.specs.Listing.{lists_heard}
use Rattle.station_table.specs.StandsFor.{StandsFor}
use Rattle.station_table.specs.StationValue.{StationValue}
use Rattle.station_table.specs.Steps.{after_group, after_reading, with_answer, with_ended, with_reading, with_session}
use Rattle.transport.specs.declared.control.Control.{Control}
use Rattle.transport.specs.declared.control.Control.TheVariants.{Rts, Cts, EndAck, Bam, Abort}
use Rattle.station_c.specs.Anew.{IsClaimBeside, IsOf, KeepsOwners, MakesRoom, StandsAnew, StandsListed, claims_beside, with_claims_of, with_frame}
use Rattle.station_c.specs.ListedStations.{ListedStationValue}
use Rattle.station_c.proofs.Claims.{more_told, nobody_owns, unmoved_by}

-- ---- a station grants as before

abbrev Grants : StationValue → StationValue → Type 0
Grants s s' = s'.grant ≡ s.grant

grants_if : (s x y : StationValue) (b : Bool) → Grants s x → Grants s y → Grants s (if b then x else y)
grants_if s x y true p q = p
grants_if s x y false p q = q

grants_reading : (s : StationValue) (o : Option Shown) → Grants s (with_reading s o)
grants_reading s None = refl
grants_reading s (Some shown) = refl

grants_ended : (s : StationValue) (o : Option Entry) → Grants s (with_ended s o)
grants_ended s None = refl
grants_ended s (Some e) = grants_reading s (decoding e.bytes)

grants_answer : (s : StationValue) (o : Option ℕ) (ack : AckSeen) → Grants s (with_answer s o ack)
grants_answer s None ack = refl
grants_answer s (Some name) ack = refl

grants_session : (s : StationValue) (source most : ℕ) (o : Option Joining) → Grants s (with_session s source most o)
grants_session s source most None = refl
grants_session s source most (Some j) = refl

grants_control : (s : StationValue) (source destination : ℕ) (control : Control) → Grants s (after_group s (ConnectionManagement source destination control))
grants_control s source destination (Rts size packets most pgn) =
    grants_if s _ s (is_held s.claimer.held destination) (grants_session s source most (started (kind_of pgn) size (at s.owners source))) refl
grants_control s source destination (Cts granted next pgn) = refl
grants_control s source destination (EndAck size packets pgn) = refl
grants_control s source destination (Bam size packets pgn) = grants_if s _ s (destination == GLOBAL_ADDRESS) refl refl
grants_control s source destination (Abort reason pgn) = grants_if s _ s (is_held s.claimer.held destination) refl refl

grants_group : (s : StationValue) (g : Group) → Grants s (after_group s g)
grants_group s (AddressClaimed source name) = refl
grants_group s (CannotClaim name) = refl
grants_group s (Request pgn destination source) = refl
grants_group s (Acknowledgment control requester pgn destination source) =
    grants_if s _ s (is_held s.claimer.held requester || is_held s.claimer.held destination)
    (grants_answer s (at s.owners source) (record { control = control; pgn = pgn })) refl
grants_group s (Diagnostic kind source bytes) = grants_ended s (entry_under (at s.owners source) kind bytes)
grants_group s (ConnectionManagement source destination control) = grants_control s source destination control
grants_group s (DataTransfer source destination bytes) =
    grants_if s _ _ (destination == GLOBAL_ADDRESS)
    (grants_ended s (finished (with_packet bytes (at s.broadcasts source))))
    (grants_if s _ s (is_held s.claimer.held destination) (grants_ended s (finished (with_packet bytes (at s.sessions source)))) refl)
grants_group s Other = refl

-- ---- and is of the same NAME

pub is_of_group : (name grant : ℕ) (s : StationValue) (g : Group) → IsOf name grant s → IsOf name grant (after_group s g)
is_of_group name grant s g is = (named_as_before s g ∙ is.0, grants_group s g ∙ is.1, is.2)

is_of_reading : (name grant : ℕ) (s : StationValue) (x : Reading) → IsOf name grant s → IsOf name grant (after_reading s x)
is_of_reading name grant s Empty is = is
is_of_reading name grant s (Gap count) is = is
is_of_reading name grant s (Frame f) is = is_of_group name grant s (group_of f) is

pub is_of_by_call : {T E : Type 0} (result : Result T E) (name grant : ℕ) (s s' : StationValue) (x : Reading) → OnOk result (s' ≡ after_reading s x) → OnErr result (s' ≡ s)
    → IsOf name grant s → IsOf name grant s'
is_of_by_call (Ok y) name grant s s' x step same is = subst (λ (v : StationValue). IsOf name grant v) (sym step) (is_of_reading name grant s x is)
is_of_by_call (Err y) name grant s s' x step same is = subst (λ (v : StationValue). IsOf name grant v) (sym same) is

-- ---- one reading has one NAME more at most

with_name_more : (n : ℕ) (names : List ℕ) (b : Bool) → length (if b then names else names ++ n ∷ []) ≤ length names + 1
with_name_more n names true = omega arith
with_name_more n names false = omega (arith, length-append names (n ∷ []))

names_more : (g : Group) (names : List ℕ) → length (names_after g names) ≤ length names + 1
names_more (AddressClaimed source name) names = with_name_more name names (list_any (λ m. m == name) names)
names_more (CannotClaim name) names = with_name_more name names (list_any (λ m. m == name) names)
names_more (Request pgn destination source) names = omega arith
names_more (Acknowledgment control requester pgn destination source) names = omega arith
names_more (Diagnostic kind source bytes) names = omega arith
names_more (ConnectionManagement source destination control) names = omega arith
names_more (DataTransfer source destination bytes) names = omega arith
names_more Other names = omega arith

pub one_name_more : (x : Reading) (h : List Reading) → length (names_heard (x ∷ h)) ≤ length (names_heard h) + 1
one_name_more Empty h = omega arith
one_name_more (Gap count) h = omega arith
one_name_more (Frame f) h = names_more (group_of f) (names_heard h)

-- ---- a station

pub room_lifted : (most : ℕ) (b : Bool) (was old new after : ListedStationValue) → was ≡ old → after ≡ new → MakesRoom most was new b → MakesRoom most old after b
room_lifted most b was old new after e f made =
    subst (λ (v : ListedStationValue). MakesRoom most old v b) (sym f) (subst (λ (v : ListedStationValue). MakesRoom most v new b) e made)

pub room_there : (most : ℕ) (old new : ListedStationValue) → new ≡ old → length old.station.rows < most → MakesRoom most old new false
room_there most old new e room =
    record { room = subst (λ (v : ListedStationValue). length v.station.rows < most) (sym e) room; same = λ _. (room, e); begun = λ no. absurd (cc no) }

pub room_made : (most address : ℕ) (old new : ListedStationValue) → old.station.claimer.held ≡ Some address → most ≤ length old.station.rows → StandsAnew address most old new → length new.station.rows < most
    → MakesRoom most old new true
room_made most address old new held many anew room = record { room = room; same = λ no. absurd (cc no); begun = λ _. (many, (address, held, anew)) }

pub nobody_listed : (r : StationSettings) (grant keep : ℕ) (s : ListedStationValue) → StandsFor r grant s.station [] → KeepsNewest s.lists (λ n k. []) → s.lists.keep ≡ keep
    → StandsListed r grant keep s []
nobody_listed r grant keep s stands newest kept =
    record { station = stands; held = ap (λ (c : ClaimerValue). c.held) stands.claims; lists = newest; keep_is = kept }

-- a claim of another address is told
pub told_claim : (s s' : ListedStationValue) (f : FrameValue) (r : StationSettings) (grant keep : ℕ) (h : List Reading) → IsClaimBeside r.address f
    → ((r : StationSettings) (grant : ℕ) (h : List Reading) → StandsFor r grant s.station h → StandsFor r grant s'.station (Frame f ∷ h))
    → ((r : StationSettings) (grant : ℕ) (h : List Reading) → StandsFor r grant s.station h → KeepsNewest s.lists (lists_heard r h) → KeepsNewest s'.lists (lists_heard r (Frame f ∷ h)))
    → s'.lists.keep ≡ s.lists.keep
    → StandsListed r grant keep s h → StandsListed r grant keep s' (Frame f ∷ h)
told_claim s s' f r grant keep h is stands lists keeps before =
    let claims : claimer_heard r h ≡ s.station.claimer = sym before.station.claims in
    record {
      station = stands r grant h before.station;
      held = ap (λ (c : ClaimerValue). c.held) ((stands r grant h before.station).claims ∙ ap (λ (c : ClaimerValue). claimer_after (group_of f) c) claims) ∙ unmoved_by r.address s.station.claimer f is before.held;
      lists = lists r grant h before.station before.lists;
      keep_is = keeps ∙ before.keep_is;
    }

-- the claim, if there is one
pub told_some : (s s' : ListedStationValue) (o : Option FrameValue) (f : FrameValue) → o ≡ Some f
    → ((r : StationSettings) (grant : ℕ) (h : List Reading) → StandsFor r grant s.station h → StandsFor r grant s'.station (Frame f ∷ h))
    → ((r : StationSettings) (grant : ℕ) (h : List Reading) → StandsFor r grant s.station h → KeepsNewest s.lists (lists_heard r h) → KeepsNewest s'.lists (lists_heard r (Frame f ∷ h)))
    → s'.lists.keep ≡ s.lists.keep
    → (r : StationSettings) (grant keep : ℕ) (h : List Reading) → IfSome o (λ f. IsClaimBeside r.address f) → StandsListed r grant keep s h → StandsListed r grant keep s' (with_frame o h)
told_some s s' o f e stands lists keeps r grant keep h is before =
    subst (λ (p : Option FrameValue). IfSome p (λ f. IsClaimBeside r.address f) → StandsListed r grant keep s' (with_frame p h)) (sym e)
    (λ is. told_claim s s' f r grant keep h is stands lists keeps before) is

pub told_none : (s s' : ListedStationValue) (o : Option FrameValue) → o ≡ None → s' ≡ s
    → (r : StationSettings) (grant keep : ℕ) (h : List Reading) → IfSome o (λ f. IsClaimBeside r.address f) → StandsListed r grant keep s h → StandsListed r grant keep s' (with_frame o h)
told_none s s' o e same r grant keep h is before =
    subst (λ (p : Option FrameValue). StandsListed r grant keep s' (with_frame p h)) (sym e) (subst (λ (v : ListedStationValue). StandsListed r grant keep v h) (sym same) before)

-- one claim more of those that are told one after the other
pub listed_next : (r : StationSettings) (grant keep : ℕ) (s s' joined : ListedStationValue) (claim : ℕ → Option FrameValue) (names : List ℕ) (i n : ℕ) (o : Option FrameValue) (first : List Reading)
    → slice_get names i ≡ Some n → o ≡ claim n → IfSome o (λ f. IsClaimBeside r.address f)
    → ((r : StationSettings) (grant keep : ℕ) (h : List Reading) → IfSome o (λ f. IsClaimBeside r.address f) → StandsListed r grant keep s h → StandsListed r grant keep s' (with_frame o h))
    → s' ≡ joined → StandsListed r grant keep s (with_claims_of claim (take i names) first) → StandsListed r grant keep joined (with_claims_of claim (take (i + 1) names) first)
listed_next r grant keep s s' joined claim names i n o first at is beside tells same before =
    more_told (λ (h : List Reading). StandsListed r grant keep s h) (λ (h : List Reading). StandsListed r grant keep joined h) claim names i n o first at is
    (λ h stands. subst (λ (v : ListedStationValue). StandsListed r grant keep v (with_frame o h)) same (tells r grant keep h beside stands)) before

rows_listed : (r : StationSettings) (grant keep : ℕ) (s : ListedStationValue) (h : List Reading) → StandsListed r grant keep s h → length s.station.rows ≡ length (names_heard h)
rows_listed r grant keep s h stands = sym (length-map s.station.rows (λ e. e.0)) ∙ ap (λ (ns : List ℕ). length ns) stands.station.names

pub anew_with : (old s : ListedStationValue) (address most : ℕ)
    → StandsListed (record { name = old.station.claimer.name; address = address }) old.station.grant old.lists.keep s (claims_beside address old.station.owners old.station.rows)
    → KeepsOwners old.station.owners (claims_beside address old.station.owners old.station.rows)
    → StandsAnew address most old s
anew_with old s address most stands owners =
    record { heard = claims_beside address old.station.owners old.station.rows; claims = inl refl; owners = owners; stands = stands }

pub anew_without : (old full s : ListedStationValue) (address most : ℕ)
    → StandsListed (record { name = old.station.claimer.name; address = address }) old.station.grant old.lists.keep full (claims_beside address old.station.owners old.station.rows)
    → most ≤ length full.station.rows
    → StandsListed (record { name = old.station.claimer.name; address = address }) old.station.grant old.lists.keep s []
    → StandsAnew address most old s
anew_without old full s address most stands many none = record {
  heard = [];
  claims = inr (refl, subst (λ (n : ℕ). most ≤ n) (rows_listed _ _ _ full (claims_beside address old.station.owners old.station.rows) stands) many);
  owners = nobody_owns old.station.owners;
  stands = none;
}

pub room_without : (s : ListedStationValue) (r : StationSettings) (grant keep most : ℕ) → StandsListed r grant keep s [] → 0 < most → length s.station.rows < most
room_without s r grant keep most stands some = subst (λ (n : ℕ). n < most) (sym (rows_listed r grant keep s [] stands)) some
