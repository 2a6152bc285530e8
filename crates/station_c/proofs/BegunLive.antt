-- What stands anew of a live station: it is of the same NAME, grant and times through each call, and hears a claim at a time.
use Rattle.std.proofs.Common.{◌≡◌, inl, inr, ◌<◌, ◌≤◌, ℕ, Bool, true, false, List, [], ◌∷◌, Option, Some, None, Result, Ok, Err, IfOk, OnOk, OnErr, IfSome, is_some, option_map, ◌+◌, length, take, if◌then◌else◌, refl, sym, ap, ◌∙◌, subst}
use Rattle.std.proofs.lemmas.List.{length-map}
use Rattle.std.specs.Prelude.{slice_get}
use Rattle.bus_model.specs.Heard.{StationSettings, names_heard}
use Rattle.can_frame.specs.FrameValue.{FrameValue}
use Rattle.can_frame.specs.declared.reading.Reading.{Reading}
use Rattle.can_frame.specs.declared.reading.Reading.TheVariants.{Frame}
use Rattle.live_station.specs.Ear.{frames_told, is_own}
use Rattle.live_station.specs.Working.{AsksAgain, DoesDeed, DoesTurn, HearsOnBus, MissesFrames, WorkingValue, after_passing, after_stranger, after_told, begun_station, passes_over, turn_at}
use Rattle.live_station.specs.declared.error.HearError.{HearError}
use Rattle.live_station.specs.declared.loss.Watch.{Watch}
use Rattle.live_station.specs.declared.open.OpenOrder.{OpenOrder}
use Rattle.live_station.specs.declared.pulled.Pulled.{Pulled}
use Rattle.live_station.specs.declared.pulled.Told.{Told}
use Rattle.live_station.specs.declared.times.StationTimes.{StationTimes}
use Rattle.live_station.specs.declared.turn.Deed.{Deed}
use Rattle.live_station.specs.declared.turn.Deed.TheVariants as deed
use Rattle.live_station.specs.declared.turn.Turn.{Turn}
use Rattle.live_station.specs.declared.turn.Turn.TheVariants as turn
use Rattle.parameter_group.specs.Group.{Group, group_of}
use Rattle.shared_groups.specs.Sharing.{SharedValue, followed}
use Rattle.station_table.specs.Sessions.{session_of}
use Rattle.station_table.specs.StationValue.{StationValue}
use Rattle.station_table.specs.Steps.{after_group}
use Rattle.station_table.specs.declared.session.Session.{Session}
use Rattle.station_c.specs.Anew.{IsClaimBeside, IsLiveOf, IsOf, KeepsOwners, MakesRoomLive, StandsAfter, StandsAnewLive, claims_beside, with_claims_of, with_frame}
use Rattle.station_c.specs.ListedLives.{ListedLiveValue, StandsLive}
use Rattle.station_c.proofs.Begun.{is_of_group}
use Rattle.station_c.proofs.Claims.{more_told, nobody_owns, unmoved}

-- ---- of the same NAME, grant and times

same_of : (name grant : ℕ) (times : StationTimes) (s s' : WorkingValue) → s'.station ≡ s.station → s'.settings ≡ s.settings → IsLiveOf name grant times s → IsLiveOf name grant times s'
same_of name grant times s s' station settings is =
    record { station = subst (λ (v : StationValue). IsOf name grant v) (sym station) is.station; settings = settings ∙ is.settings }

pub begins_so : (name want grant : ℕ) (times : StationTimes) (s : WorkingValue) → s ≡ begun_station name want grant times → 0 < grant → IsLiveOf name grant times s
begins_so name want grant times s e some = subst (λ (v : WorkingValue). IsLiveOf name grant times v) (sym e) (record { station = (refl, refl, some); settings = refl })

-- somebody else's frame from the station's own address, or one of its own
by_stranger : (name grant : ℕ) (times : StationTimes) (now : ℕ) (b : Bool) (s : WorkingValue) → IsLiveOf name grant times s
    → IsLiveOf name grant times (if b then after_stranger now s else s)
by_stranger name grant times now true s is = record { station = is.station; settings = is.settings }
by_stranger name grant times now false s is = is

of_told : (name grant : ℕ) (times : StationTimes) (g : Group) (now : ℕ) (s : WorkingValue) → IsLiveOf name grant times s → IsLiveOf name grant times (after_told g now s)
of_told name grant times g now s is = record { station = is_of_group name grant s.station g is.station; settings = is.settings }

of_passing : (name grant : ℕ) (times : StationTimes) (g : Group) (now : ℕ) (s : WorkingValue) → IsLiveOf name grant times s → IsLiveOf name grant times (after_passing g now s)
of_passing name grant times g now s is = record { station = is.station; settings = is.settings }

of_other : (name grant : ℕ) (times : StationTimes) (f : FrameValue) (now : ℕ) (t : Told) (s s' : WorkingValue) (passed : Bool) → is_own s.station.claimer f ≡ false → passes_over s f ≡ passed
    → HearsOnBus f now t s s' → IsLiveOf name grant times s → IsLiveOf name grant times s'
of_other name grant times f now t s s' true e p heard is =
    subst (λ (v : WorkingValue). IsLiveOf name grant times v) (sym (heard.passed e p).0) (of_passing name grant times (group_of f) now s is)
of_other name grant times f now t s s' false e p heard is =
    subst (λ (v : WorkingValue). IsLiveOf name grant times v) (sym (heard.other e p).0) (of_told name grant times (group_of f) now s is)

of_either : (name grant : ℕ) (times : StationTimes) (f : FrameValue) (now : ℕ) (t : Told) (s s' : WorkingValue) (own : Bool) → is_own s.station.claimer f ≡ own → HearsOnBus f now t s s'
    → IsLiveOf name grant times s → IsLiveOf name grant times s'
of_either name grant times f now t s s' true e heard is =
    subst (λ (v : WorkingValue). IsLiveOf name grant times v) (sym (heard.own e).rest)
    (by_stranger name grant times now t.stranger (record s { echo = s'.echo }) (record { station = is.station; settings = is.settings }))
of_either name grant times f now t s s' false e heard is = of_other name grant times f now t s s' (passes_over s f) e refl heard is

pub is_of_heard : (name grant : ℕ) (times : StationTimes) (f : FrameValue) (now : ℕ) (t : Told) (s s' : WorkingValue) → HearsOnBus f now t s s'
    → IsLiveOf name grant times s → IsLiveOf name grant times s'
is_of_heard name grant times f now t s s' heard is = of_either name grant times f now t s s' (is_own s.station.claimer f) refl heard is

pub is_of_missed : (name grant : ℕ) (times : StationTimes) (count now : ℕ) (t : Told) (s s' : WorkingValue) → MissesFrames count now t s s'
    → IsLiveOf name grant times s → IsLiveOf name grant times s'
is_of_missed name grant times count now t s s' missed is =
    subst (λ (v : WorkingValue). IsLiveOf name grant times v) (sym missed.is) (record { station = is.station; settings = is.settings })

-- at a call's answer
pub is_of_hearing : (result : Result Told HearError) (name grant : ℕ) (times : StationTimes) (f : FrameValue) (now : ℕ) (s s' : WorkingValue)
    → IfOk result (λ t. HearsOnBus f now t s s') → OnErr result (s' ≡ s) → IsLiveOf name grant times s → IsLiveOf name grant times s'
is_of_hearing (Ok t) name grant times f now s s' heard same is = is_of_heard name grant times f now t s s' heard is
is_of_hearing (Err e) name grant times f now s s' heard same is = subst (λ (v : WorkingValue). IsLiveOf name grant times v) (sym same) is

pub is_of_missing : (result : Result Told HearError) (name grant : ℕ) (times : StationTimes) (count now : ℕ) (s s' : WorkingValue)
    → IfOk result (λ t. MissesFrames count now t s s') → OnErr result (s' ≡ s) → IsLiveOf name grant times s → IsLiveOf name grant times s'
is_of_missing (Ok t) name grant times count now s s' missed same is = is_of_missed name grant times count now t s s' missed is
is_of_missing (Err e) name grant times count now s s' missed same is = subst (λ (v : WorkingValue). IsLiveOf name grant times v) (sym same) is

of_deed : (name grant : ℕ) (times : StationTimes) (d : Deed) (now : ℕ) (o : OpenOrder) (p : Pulled) (s s' : WorkingValue) → DoesDeed d now o p s s' → IsLiveOf name grant times s → IsLiveOf name grant times s'
of_deed name grant times deed.Nothing now o p s s' does is = same_of name grant times s s' (ap (λ (w : WorkingValue). w.station) does.1) (ap (λ (w : WorkingValue). w.settings) does.1) is
of_deed name grant times (deed.Request to) now o p s s' does is = same_of name grant times s s' (ap (λ (w : WorkingValue). w.station) does.1) (ap (λ (w : WorkingValue). w.settings) does.1) is
of_deed name grant times (deed.Command n address part) now o p s s' does is = same_of name grant times s s' (ap (λ (w : WorkingValue). w.station) does.1) (ap (λ (w : WorkingValue). w.settings) does.1) is
of_deed name grant times (deed.Ends finding) now o p s s' does is = same_of name grant times s s' (ap (λ (w : WorkingValue). w.station) does.1) (ap (λ (w : WorkingValue). w.settings) does.1) is

of_asking : (name grant : ℕ) (times : StationTimes) (j : Option Session) (w : Watch) (now : ℕ) (p : Pulled) (s s' : WorkingValue) → AsksAgain j w now p s s'
    → IsLiveOf name grant times s → IsLiveOf name grant times s'
of_asking name grant times None w now p s s' does is = same_of name grant times s s' (ap (λ (v : WorkingValue). v.station) does.1) (ap (λ (v : WorkingValue). v.settings) does.1) is
of_asking name grant times (Some j) w now p s s' does is = same_of name grant times s s' (ap (λ (v : WorkingValue). v.station) does.1) (ap (λ (v : WorkingValue). v.settings) does.1) is

of_turn : (name grant : ℕ) (times : StationTimes) (t : Turn) (now : ℕ) (p : Pulled) (s s' : WorkingValue) → DoesTurn t now p s s' → IsLiveOf name grant times s → IsLiveOf name grant times s'
of_turn name grant times turn.Rests now p s s' does is = same_of name grant times s s' (ap (λ (w : WorkingValue). w.station) does.1) (ap (λ (w : WorkingValue). w.settings) does.1) is
of_turn name grant times (turn.Writes lane) now p s s' does is = same_of name grant times s s' (ap (λ (w : WorkingValue). w.station) does.rest) (ap (λ (w : WorkingValue). w.settings) does.rest) is
of_turn name grant times (turn.AsksAgain w) now p s s' does is = of_asking name grant times (session_of s.station w.source) w now p s s' does is
of_turn name grant times turn.AsksClaims now p s s' does is = same_of name grant times s s' (ap (λ (w : WorkingValue). w.station) does.1) (ap (λ (w : WorkingValue). w.settings) does.1) is
of_turn name grant times (turn.Does o d) now p s s' does is = of_deed name grant times d now o p s s' does is

pub is_of_pulled : (name grant : ℕ) (times : StationTimes) (now : ℕ) (p : Pulled) (s s' : WorkingValue) → DoesTurn (turn_at now s) now p s s'
    → IsLiveOf name grant times s → IsLiveOf name grant times s'
is_of_pulled name grant times now p s s' does is = of_turn name grant times (turn_at now s) now p s s' does is

-- ---- no order is open, the address is held, and the settings stay

abbrev IsQuiet : ℕ → WorkingValue → WorkingValue → Type 0
IsQuiet address s s' = (s'.order ≡ None) × (s'.settings ≡ s.settings) × (s'.station.claimer.held ≡ Some address)

quiet_stranger : (address now : ℕ) (b : Bool) (s : WorkingValue) → s.order ≡ None → s.station.claimer.held ≡ Some address → IsQuiet address s (if b then after_stranger now s else s)
quiet_stranger address now true s none held = (rw none refl, refl, held)
quiet_stranger address now false s none held = (none, refl, held)

quiet_told : (address now : ℕ) (f : FrameValue) (s : WorkingValue) → IsClaimBeside address f → s.order ≡ None → s.station.claimer.held ≡ Some address → IsQuiet address s (after_told (group_of f) now s)
quiet_told address now f s is none held =
    (rw none refl, refl, ap (λ (g : Group). (after_group s.station g).claimer.held) is.says ∙ unmoved address is.address is.name s.station.claimer held is.other)

quiet_passing : (address now : ℕ) (g : Group) (s : WorkingValue) → s.order ≡ None → s.station.claimer.held ≡ Some address → IsQuiet address s (after_passing g now s)
quiet_passing address now g s none held = (rw none refl, refl, held)

quiet_other : (address now : ℕ) (f : FrameValue) (t : Told) (s s' : WorkingValue) (passed : Bool) → is_own s.station.claimer f ≡ false → passes_over s f ≡ passed → HearsOnBus f now t s s'
    → IsClaimBeside address f → s.order ≡ None → s.station.claimer.held ≡ Some address → IsQuiet address s s'
quiet_other address now f t s s' true e p heard is none held =
    subst (λ (v : WorkingValue). IsQuiet address s v) (sym (heard.passed e p).0) (quiet_passing address now (group_of f) s none held)
quiet_other address now f t s s' false e p heard is none held =
    subst (λ (v : WorkingValue). IsQuiet address s v) (sym (heard.other e p).0) (quiet_told address now f s is none held)

quiet_either : (address now : ℕ) (f : FrameValue) (t : Told) (s s' : WorkingValue) (own : Bool) → is_own s.station.claimer f ≡ own → HearsOnBus f now t s s' → IsClaimBeside address f
    → s.order ≡ None → s.station.claimer.held ≡ Some address → IsQuiet address s s'
quiet_either address now f t s s' true e heard is none held =
    subst (λ (v : WorkingValue). IsQuiet address s v) (sym (heard.own e).rest) (quiet_stranger address now t.stranger (record s { echo = s'.echo }) none held)
quiet_either address now f t s s' false e heard is none held = quiet_other address now f t s s' (passes_over s f) e refl heard is none held

-- ---- claims that are heard one after the other

heard_one : (now : ℕ) (t : Told) (f : FrameValue) (was after : ListedLiveValue) (address : ℕ) (old : ListedLiveValue) (h : List Reading) → IsClaimBeside address f
    → HearsOnBus f now t was.live after.live
    → ((r : StationSettings) (grant keep : ℕ) (i : List Reading) → StandsLive r grant keep was i → StandsLive r grant keep after (Frame f ∷ i))
    → StandsAfter address old was h → StandsAfter address old after (Frame f ∷ h)
heard_one now t f was after address old h is heard stands before =
    let quiet = quiet_either address now f t was.live after.live (is_own was.live.station.claimer f) refl heard is before.order before.held in
    record { stands = stands _ _ _ h before.stands; held = quiet.2; order = quiet.0; settings = quiet.1 ∙ before.settings }

pub heard_claim : (result : Result Told HearError) (now : ℕ) (f : FrameValue) (was after : ListedLiveValue) → IfOk result (λ t. HearsOnBus f now t was.live after.live)
    → OnOk result ((r : StationSettings) (grant keep : ℕ) (i : List Reading) → StandsLive r grant keep was i → StandsLive r grant keep after (Frame f ∷ i))
    → OnOk result ((address : ℕ) (old : ListedLiveValue) (h : List Reading) → IsClaimBeside address f → StandsAfter address old was h → StandsAfter address old after (Frame f ∷ h))
heard_claim (Err e) now f was after heard stands = tt
heard_claim (Ok t) now f was after heard stands = λ address old h is before. heard_one now t f was after address old h is heard stands before

-- the claim, if there is one
pub heard_some : (o : Option FrameValue) (f : FrameValue) (was after : ListedLiveValue) → o ≡ Some f
    → ((address : ℕ) (old : ListedLiveValue) (h : List Reading) → IsClaimBeside address f → StandsAfter address old was h → StandsAfter address old after (Frame f ∷ h))
    → (address : ℕ) (old : ListedLiveValue) (h : List Reading) → IfSome o (λ f. IsClaimBeside address f) → StandsAfter address old was h → StandsAfter address old after (with_frame o h)
heard_some o f was after e heard address old h is before =
    subst (λ (p : Option FrameValue). IfSome p (λ f. IsClaimBeside address f) → StandsAfter address old after (with_frame p h)) (sym e)
    (λ is. heard address old h is before) is

pub heard_none : (o : Option FrameValue) (was after : ListedLiveValue) → o ≡ None → after ≡ was
    → (address : ℕ) (old : ListedLiveValue) (h : List Reading) → IfSome o (λ f. IsClaimBeside address f) → StandsAfter address old was h → StandsAfter address old after (with_frame o h)
heard_none o was after e same address old h is before =
    subst (λ (p : Option FrameValue). StandsAfter address old after (with_frame p h)) (sym e) (subst (λ (v : ListedLiveValue). StandsAfter address old v h) (sym same) before)

-- one claim more of those that are heard one after the other
pub heard_next : (address : ℕ) (old was after joined : ListedLiveValue) (claim : ℕ → Option FrameValue) (names : List ℕ) (i n : ℕ) (o : Option FrameValue) (first : List Reading)
    → slice_get names i ≡ Some n → o ≡ claim n → IfSome o (λ f. IsClaimBeside address f)
    → ((address : ℕ) (old : ListedLiveValue) (h : List Reading) → IfSome o (λ f. IsClaimBeside address f) → StandsAfter address old was h → StandsAfter address old after (with_frame o h))
    → after ≡ joined → StandsAfter address old was (with_claims_of claim (take i names) first) → StandsAfter address old joined (with_claims_of claim (take (i + 1) names) first)
heard_next address old was after joined claim names i n o first at is beside hears same before =
    more_told (λ (h : List Reading). StandsAfter address old was h) (λ (h : List Reading). StandsAfter address old joined h) claim names i n o first at is
    (λ h stands. subst (λ (v : ListedLiveValue). StandsAfter address old v (with_frame o h)) same (hears address old h beside stands)) before

pub nobody_heard : (old s : ListedLiveValue) (address grant : ℕ) (times : StationTimes) (shared : SharedValue)
    → IsLiveOf old.live.station.claimer.name grant times old.live
    → s ≡ record { live = begun_station old.live.station.claimer.name address grant times; lists = record { keep = old.lists.keep; rows = [] }; last = None; shared = shared }
    → StandsLive (record { name = old.live.station.claimer.name; address = address }) grant old.lists.keep s []
    → StandsAfter address old s []
nobody_heard old s address grant times shared is e stands = record {
  stands = subst (λ (g : ℕ). StandsLive (record { name = old.live.station.claimer.name; address = address }) g old.lists.keep s []) (sym is.station.1) stands;
  held = ap (λ (v : ListedLiveValue). v.live.station.claimer.held) e;
  order = ap (λ (v : ListedLiveValue). v.live.order) e;
  settings = ap (λ (v : ListedLiveValue). v.live.settings) e ∙ sym is.settings;
}

-- ---- which is gone on with

rows_live : (r : StationSettings) (grant keep : ℕ) (s : ListedLiveValue) (h : List Reading) → StandsLive r grant keep s h → length s.live.station.rows ≡ length (names_heard (frames_told r h))
rows_live r grant keep s h stands = sym (length-map s.live.station.rows (λ e. e.0)) ∙ ap (λ (ns : List ℕ). length ns) stands.station.names

pub anew_with : (old s : ListedLiveValue) (address most : ℕ) → StandsAfter address old s (claims_beside address old.live.station.owners old.live.station.rows)
    → KeepsOwners old.live.station.owners (frames_told (record { name = old.live.station.claimer.name; address = address }) (claims_beside address old.live.station.owners old.live.station.rows))
    → StandsAnewLive address most old s
anew_with old s address most after owners =
    record { heard = claims_beside address old.live.station.owners old.live.station.rows; claims = inl refl; owners = owners; after = after }

pub anew_without : {E : Type 0} (result : Result ListedLiveValue E) (old full : ListedLiveValue) (address most : ℕ) → StandsAfter address old full (claims_beside address old.live.station.owners old.live.station.rows)
    → most ≤ length full.live.station.rows → IfOk result (λ s. StandsAfter address old s []) → IfOk result (λ s. StandsAnewLive address most old s)
anew_without (Err e) old full address most after many none = tt
anew_without (Ok s) old full address most after many none = record {
  heard = [];
  claims = inr (refl, subst (λ (n : ℕ). most ≤ n) (rows_live _ _ _ full (claims_beside address old.live.station.owners old.live.station.rows) after.stands) many);
  owners = nobody_owns old.live.station.owners;
  after = none;
}

pub room_without : {E : Type 0} (result : Result ListedLiveValue E) (old : ListedLiveValue) (address most : ℕ) → IfOk result (λ s. StandsAfter address old s []) → 0 < most
    → IfOk result (λ s. length s.live.station.rows < most)
room_without (Err e) old address most after some = tt
room_without (Ok s) old address most after some = subst (λ (n : ℕ). n < most) (sym (rows_live _ _ _ s [] after.stands)) some

pub open_is : (o : Option OpenOrder) → is_some (option_map (λ x. x.order) o) ≡ is_some o
open_is None = refl
open_is (Some x) = refl

-- a station that begins so takes the place of the one before, with its verdict and its groups
pub begins_live : (old fresh new : ListedLiveValue) (address most : ℕ) → old.live.station.claimer.held ≡ Some address → is_some old.live.order ≡ false → StandsAnewLive address most old fresh
    → length fresh.live.station.rows < most → most ≤ length old.live.station.rows
    → new ≡ record { live = fresh.live; lists = fresh.lists; last = old.last; shared = followed (Some address) old.shared }
    → MakesRoomLive most old new true
begins_live old fresh new address most held none anew room many e = subst (λ (v : ListedLiveValue). MakesRoomLive most old v true) (sym e) (record {
  room = room;
  same = λ no. absurd (cc no);
  begun = λ _. (
    many,
    record {
      address = address;
      held = held;
      quiet = none;
      anew = record {
        heard = anew.heard;
        claims = anew.claims;
        owners = anew.owners;
        after = record {
          stands = record { station = anew.after.stands.station; lists = anew.after.stands.lists; keep_is = anew.after.stands.keep_is };
          held = anew.after.held;
          order = anew.after.order;
          settings = anew.after.settings;
        };
      };
      last = refl;
      shared = refl;
    },
  );
})

pub room_there : (most : ℕ) (old new : ListedLiveValue) → new ≡ old → length old.live.station.rows < most → MakesRoomLive most old new false
room_there most old new e room =
    record { room = subst (λ (v : ListedLiveValue). length v.live.station.rows < most) (sym e) room; same = λ _. (room, e); begun = λ no. absurd (cc no) }

pub room_lifted : (most : ℕ) (b : Bool) (was old new after : ListedLiveValue) → was ≡ old → after ≡ new → MakesRoomLive most was new b → MakesRoomLive most old after b
room_lifted most b was old new after e f made =
    subst (λ (v : ListedLiveValue). MakesRoomLive most old v b) (sym f) (subst (λ (v : ListedLiveValue). MakesRoomLive most v new b) e made)
