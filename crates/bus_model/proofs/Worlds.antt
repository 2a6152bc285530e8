-- Each event keeps the law of the world.
use Rattle.std.proofs.Common.{◌≡◌, ◌≢◌, ◌⊎◌, ℕ, suc, zero, ◌<◌, ◌≤◌, ◌^◌, ◌+◌, Bool, true, false, ◌&&◌, ◌||◌, ◌==◌, List, [], ◌∷◌, ◌++◌, length, set, slice_get, Option, Some, None, if◌then◌else◌, sym, refl, ap, ◌∙◌, subst, inl, inr, arith, append_assoc}
use Rattle.address_claim.specs.Claiming.{CanHold}
use Rattle.address_claim.specs.Frames.{claim_frame_value}
use Rattle.can_frame.specs.FrameValue.{FrameValue}
use Rattle.dm_messages.specs.View.{view}
use Rattle.dm_messages.specs.declared.kind.Kind.{Kind}
use Rattle.parameter_group.specs.Group.{AddressClaimed, ConnectionManagement, DataTransfer, Diagnostic, Group, Request, group_of}
use Rattle.transport.specs.declared.control.Control.TheVariants.{Abort, Bam, Rts}
use Rattle.bus_model.specs.Expected.{Missed, Own, Received, Reception, expected, is_clear, passed, readings}
use Rattle.parameter_group.specs.Calm.{is_contest}
use Rattle.bus_model.specs.Heard.{StationSettings, address_heard, entries_heard, unread_count}
use Rattle.bus_model.specs.Machine.{AllMaySend, Answer, Ask, Begin, Begins, CanAsk, Carry, Carry_station, EndsSession, Event, Sends, Hear, AreFit, AreNot, IsAt, IsFit, IsFree, IsLiveSeat, IsNotOpen, Join, Leave, MayAnswer, MayOpen, MaySend, Miss, Nothing, Read, Replies, Run, Seat, Station, Step, Turned, World, Claims, all_plain, answered, with_asked, claim_alone, granted, granted_one, joined_seat, message_at, missed, names_of, new_stations, received, start, with_begun, with_heard, world_with_seat, world_with_station}
use Rattle.bus_model.specs.Messages.{Broadcast, IsProper, Message, One, Session, Way, last_part_of, way_of}
use Rattle.bus_model.specs.Traffic.{Item, Tag, claimed_by, is_station, owner_after, says}
use Rattle.bus_model.proofs.Bridge.{address_first, address_gap, address_hold, address_read, claim_group, says_claim, session_destination, session_to}
use Rattle.bus_model.proofs.Lawful.{Allowed, IsHonest, IsNoStart, IsVoiced, Lawful}
use Rattle.bus_model.proofs.Lookback.{Every, HasTag, IsApart, IsFrom, IsMine, claimed_skip, every_front, every_rest, every_weaker, insert, lawful_rest, same_test}
use Rattle.bus_model.proofs.Path.{IsStations, Marked}
use Rattle.bus_model.proofs.Seats.{claim_from, claim_honest, claim_owns, claim_plain, claim_voiced, sent_allowed, uncontested}
use Rattle.bus_model.proofs.Sessions.{SessionsLaw, sessions_missed, sessions_own, sessions_read}
use Rattle.bus_model.proofs.Tells.{AllProper, is_listed, not_clear, reads, reads_readable, told_same}
use Rattle.bus_model.proofs.Begins.{OpensAt, begins, booked_more, grants, seat_more}
use Rattle.bus_model.proofs.Replying.{asked_for, may_reply}
use Rattle.bus_model.proofs.SeatLaw.{HasHeard, IsBooked, IsNotNamed, Numbered, SeatLaw, all_ahead, all_heard, every_heard, next_heard, not_of, number_below, one_ahead}
use Rattle.bus_model.proofs.Units.{carries, heard_ends, heard_quiet, heard_yields, joins, others_carry, replied}

pub slice_get_set : {A : Type 0} (xs : List A) (i y : ℕ) (v t : A) → slice_get (set xs i v) y ≡ Some t → ((y ≡ i) × (t ≡ v)) ⊎ ((y ≢ i) × (slice_get xs y ≡ Some t))
slice_get_set [] zero y v t h = cc
slice_get_set [] (suc i) y v t h = cc
slice_get_set (x ∷ xs) zero zero v t h = inl (refl, cc)
slice_get_set (x ∷ xs) zero (suc y) v t h = inr (omega arith, h)
slice_get_set (x ∷ xs) (suc i) zero v t h = inr (omega arith, h)
slice_get_set (x ∷ xs) (suc i) (suc y) v t h =
    elim (slice_get_set xs i y v t h) [ inl w ↦ inl (ap suc w.0, w.1) | inr w ↦ inr ((λ e. w.0 (omega arith)), w.1) ]

pub slice_get_push : {A : Type 0} (xs : List A) (y : ℕ) (v t : A) → slice_get (xs ++ v ∷ []) y ≡ Some t → (slice_get xs y ≡ Some t) ⊎ ((y ≡ length xs) × (t ≡ v))
slice_get_push [] zero v t h = inr (refl, cc)
slice_get_push [] (suc y) v t h = cc
slice_get_push (x ∷ xs) zero v t h = inl h
slice_get_push (x ∷ xs) (suc y) v t h =
    elim (slice_get_push xs y v t h) [ inl w ↦ inl w | inr w ↦ inr (ap suc w.0, w.1) ]

abbrev pub LiveAt : List Seat → ℕ → Seat → Type 0
LiveAt seats x s = (slice_get seats x ≡ Some s) × (s.live ≡ true)

abbrev pub EachLive : (Seat → Type 0) → List Seat → Type 0
EachLive P seats = (x : ℕ) (s : Seat) → LiveAt seats x s → P s

-- no two live seats have one NAME
abbrev pub Apart : List Seat → Type 0
Apart seats = (x y : ℕ) (s t : Seat) → LiveAt seats x s → LiveAt seats y t → s.name ≡ t.name → x ≡ y

pub each_set : (Q : Seat → Type 0) (seats : List Seat) (x : ℕ) (v : Seat) → ((y : ℕ) (t : Seat) → y ≢ x → LiveAt seats y t → Q t) → (v.live ≡ true → Q v) → EachLive Q (set seats x v)
each_set Q seats x v old new y t h =
    elim (slice_get_set seats x y v t h.0) [
      | inl w ↦ subst Q (sym w.1) (new (ap (λ (u : Seat). u.live) (sym w.1) ∙ h.1))
      | inr w ↦ old y t w.0 (w.1, h.1)
    ]

pub each_push : (Q : Seat → Type 0) (seats : List Seat) (v : Seat) → ((y : ℕ) (t : Seat) → LiveAt seats y t → Q t) → Q v → EachLive Q (seats ++ v ∷ [])
each_push Q seats v old new y t h =
    elim (slice_get_push seats y v t h.0) [
      | inl w ↦ old y t (w, h.1)
      | inr w ↦ subst Q (sym w.1) new
    ]

pub apart_set : (seats : List Seat) (x : ℕ) (s v : Seat) → Apart seats → (v.live ≡ true → LiveAt seats x s) → v.name ≡ s.name → Apart (set seats x v)
apart_set seats x s v apart at name y z t u h g e =
    elim (slice_get_set seats x y v t h.0) [
      | inl w ↦ (elim (slice_get_set seats x z v u g.0) [
        | inl p ↦ w.0 ∙ sym p.0
        | inr p ↦ w.0 ∙ apart x z s u (at (ap (λ (q : Seat). q.live) (sym w.1) ∙ h.1)) (p.1, g.1) (sym name ∙ (ap (λ (q : Seat). q.name) (sym w.1) ∙ e))
      ])
      | inr w ↦ (elim (slice_get_set seats x z v u g.0) [
        | inl p ↦ apart y x t s (w.1, h.1) (at (ap (λ (q : Seat). q.live) (sym p.1) ∙ g.1)) (e ∙ (ap (λ (q : Seat). q.name) p.1 ∙ name)) ∙ sym p.0
        | inr p ↦ apart y z t u (w.1, h.1) (p.1, g.1) e
      ])
    ]

pub apart_push : (seats : List Seat) (v : Seat) → Apart seats → EachLive (λ t. t.name ≢ v.name) seats → Apart (seats ++ v ∷ [])
apart_push seats v apart free y z t u h g e =
    elim (slice_get_push seats y v t h.0) [
      | inl w ↦ (elim (slice_get_push seats z v u g.0) [
        | inl p ↦ apart y z t u (w, h.1) (p, g.1) e
        | inr p ↦ absurd (free y t (w, h.1) (e ∙ ap (λ (q : Seat). q.name) p.1))
      ])
      | inr w ↦ (elim (slice_get_push seats z v u g.0) [
        | inl p ↦ absurd (free z u (p, g.1) (sym e ∙ ap (λ (q : Seat). q.name) w.1))
        | inr p ↦ w.0 ∙ sym p.0
      ])
    ]

-- what holds of a station's queue and of what it has of the wire
pub record StationLaw (r : StationSettings) (st : List ℕ) (wire asked : List Item) (path : List Reception) : Type 0 where
  pub named : is_station st r.name ≡ true
  pub past : HasHeard r.name wire (passed path)
  pub track : Lawful st (asked ++ passed path)
  pub own : (a : ℕ) → address_heard r (readings path) ≡ Some a → claimed_by a (asked ++ passed path) ≡ Some r.name
  pub mine : Every (IsMine r.name (address_heard r (readings path)) None) asked
  pub stations : Every (IsStations r.name) asked

-- the station's queue is its claim alone
pub claims_alone : (y : ℕ) (r : StationSettings) (st : List ℕ) (wire : List Item) (path : List Reception) (o : Option ℕ) → is_station st r.name ≡ true → IsFit r → address_heard r (readings path) ≡ o → HasHeard r.name wire (passed path) → Lawful st (passed path) → StationLaw r st wire (claim_alone y r.name o) path
claims_alone y r st wire path o named fit at past lawful =
    let c = says_claim r.name o fit.name (subst CanHold at (address_hold r (readings path) fit)) in
    record {
      named = named;
      past = past;
      track = (sent_allowed st y r.name (claim_frame_value r.name o) (claim_group r.name o) (passed path) c (claim_plain r.name o) (claim_honest r.name o) (claim_voiced r.name o (passed path)), lawful);
      own = λ a h. rw c (claim_owns r.name o a (claimed_by a (passed path)) (sym at ∙ h));
      mine = (record { name = refl; tags = λ t g. cc; voice = subst (λ (v : Option ℕ). IsFrom v (group_of (claim_frame_value r.name o))) (sym at) (subst (IsFrom o) (sym c) (claim_from r.name o)) }, tt);
      stations = (record { name = refl; tag = refl; honest = subst (IsHonest r.name) (sym c) (claim_honest r.name o) }, tt);
    }

-- the station reads a frame
pub station_reads : (y : ℕ) (s : Station) (st : List ℕ) (wire : List Item) (e : Item) (ahead : List Item) → IsFit s.settings → Lawful st wire → StationLaw s.settings st wire s.asked s.path → wire ≡ ahead ++ e ∷ passed s.path → StationLaw s.settings st wire (received y s e).asked (Received e ∷ s.path)
station_reads y s st wire e ahead fit lawful law i = go (is_contest r.name held (says e)) refl
  where
    r : StationSettings
    r = s.settings

    held : Option ℕ
    held = address_heard r (readings s.path)

    next : HasHeard r.name wire (e ∷ passed s.path) × (e.name ≢ r.name)
    next = next_heard r.name wire (passed s.path) ahead e law.past i

    rest : Lawful st (e ∷ passed s.path)
    rest = lawful_rest st ahead (e ∷ passed s.path) (subst (Lawful st) i lawful)

    go : (b : Bool) → is_contest r.name held (says e) ≡ b → StationLaw r st wire (if b then claim_alone y r.name (address_heard r (readings (Received e ∷ s.path))) else s.asked) (Received e ∷ s.path)
    go true c = claims_alone y r st wire (Received e ∷ s.path) (address_heard r (readings (Received e ∷ s.path))) law.named fit refl next.0 rest
    go false c =
        let same : address_heard r (readings (Received e ∷ s.path)) ≡ held = address_read r e.frame (readings s.path) c in
        let apart : IsApart r.name held None e = record {
          name = next.1;
          tags = not_of st e (passed s.path) r.name rest.0 next.1;
          quiet = λ a h. uncontested r.name e.name held (says e) a c rest.0.honest next.1 h;
          uncut = λ t d o. cc;
        } in
        record {
          named = law.named;
          past = next.0;
          track = insert st r.name held None s.asked e (passed s.path) law.track law.mine apart rest.0;
          own = λ a h. claimed_skip a s.asked e (passed s.path) (apart.quiet a (sym same ∙ h)) ∙ law.own a (sym same ∙ h);
          mine = subst (λ (o : Option ℕ). Every (IsMine r.name o None) s.asked) (sym same) law.mine;
          stations = law.stations;
        }

pub station_misses : (y : ℕ) (s : Station) (st : List ℕ) (wire : List Item) (es ahead : List Item) → IsFit s.settings → Lawful st wire → StationLaw s.settings st wire s.asked s.path → wire ≡ ahead ++ (es ++ passed s.path) → StationLaw s.settings st wire (missed y s es).asked (Missed es ∷ s.path)
station_misses y s st wire es ahead fit lawful law i =
    let r = s.settings in
    let all = all_ahead r.name wire (passed s.path) ahead es law.past i in
    let rest = lawful_rest st ahead (es ++ passed s.path) (subst (Lawful st) i lawful) in
    claims_alone y r st wire (Missed es ∷ s.path) (address_heard r (readings s.path)) law.named fit (address_gap r (length es) (readings s.path)) (record { ahead = ahead; reach = i; foreign = every_front (IsNotNamed r.name) ahead es all }) rest

pub both_lists : {xs ys us vs : List Item} → xs ≡ ys → us ≡ vs → xs ++ us ≡ ys ++ vs
both_lists a b = cc

-- the station's first frame is carried
pub station_carries : (s : Station) (st : List ℕ) (wire : List Item) (e : Item) (rest : List Item) → StationLaw s.settings st wire s.asked s.path → s.asked ≡ rest ++ e ∷ [] → wire ≡ passed s.path → StationLaw s.settings st (e ∷ wire) rest (Own e ∷ s.path)
station_carries s st wire e rest law q h =
    let r = s.settings in
    let o = address_heard r (readings s.path) in
    let shape : s.asked ++ passed s.path ≡ rest ++ e ∷ passed s.path = both_lists q refl ∙ append_assoc rest (e ∷ []) (passed s.path) in
    record {
      named = law.named;
      past = all_heard r.name (e ∷ wire) (e ∷ passed s.path) (ap (λ (v : List Item). e ∷ v) h);
      track = subst (Lawful st) shape law.track;
      own = λ a i. ap (claimed_by a) (sym shape) ∙ law.own a i;
      mine = every_front (IsMine r.name o None) rest (e ∷ []) (subst (Every (IsMine r.name o None)) q law.mine);
      stations = every_front (IsStations r.name) rest (e ∷ []) (subst (Every (IsStations r.name)) q law.stations);
    }

pub may_honest : (n : ℕ) (held : Option ℕ) (f : Group) → MaySend n held f → IsHonest n f
may_honest n held (AddressClaimed s m) h = h.1
may_honest n held _ h = tt

pub may_no_start : (n : ℕ) (held : Option ℕ) (f : Group) → MaySend n held f → IsNoStart f
may_no_start n held (ConnectionManagement s d (Rts x y z p)) h = h
may_no_start n held (ConnectionManagement s d (Bam x y p)) h = h.1
may_no_start n held (Diagnostic k s p) h = h
may_no_start n held (DataTransfer s d p) h = h.1
may_no_start n held _ h = tt

pub may_from : (n : ℕ) (held : Option ℕ) (f : Group) → MaySend n held f → IsFrom held f
may_from n held (AddressClaimed s m) h = h.0
may_from n held (ConnectionManagement s d (Abort k p)) h = h
may_from n held (ConnectionManagement s d (Bam x y p)) h = h.0
may_from n held (DataTransfer s d p) h = h.0
may_from n held (Request p d s) h = h
may_from n held _ h = tt

pub may_voiced : (n : ℕ) (held : Option ℕ) (f : Group) (older : List Item) → MaySend n held f → ((a : ℕ) → held ≡ Some a → claimed_by a older ≡ Some n) → IsVoiced n f older
may_voiced n held (ConnectionManagement s d (Abort k p)) older h own = own s h
may_voiced n held (ConnectionManagement s d (Bam x y p)) older h own = own s h.0
may_voiced n held (DataTransfer s d p) older h own = own s h.0
may_voiced n held (Request p d s) older h own = λ le. own s (h le)
may_voiced n held _ older h own = tt

pub may_own : (n : ℕ) (held : Option ℕ) (f : Group) (a : ℕ) (d : Option ℕ) → MaySend n held f → d ≡ Some n → owner_after a f d ≡ Some n
may_own n held (AddressClaimed s m) a d h e = rw h.1 (same (s == a))
  where
    same : (t : Bool) → (if t then Some n else d) ≡ Some n
    same true = refl
    same false = e
may_own n held _ a d h e = e

pub station_asks : (y : ℕ) (r : StationSettings) (st : List ℕ) (wire asked : List Item) (path : List Reception) (fs : List FrameValue) → StationLaw r st wire asked path → AllMaySend r.name (address_heard r (readings path)) fs → StationLaw r st wire (all_plain y r.name fs ++ asked) path
station_asks y r st wire asked path [] law may = law
station_asks y r st wire asked path (f ∷ fs) law may =
    let ih = station_asks y r st wire asked path fs law may.1 in
    let o = address_heard r (readings path) in
    let older = (all_plain y r.name fs ++ asked) ++ passed path in
    record {
      named = ih.named;
      past = ih.past;
      track = (record { tagged = λ t g. cc; plain = λ g ne. (let yes = law.named in cc); starts = λ g. may_no_start r.name o (group_of f) may.0; honest = may_honest r.name o (group_of f) may.0; voiced = may_voiced r.name o (group_of f) older may.0 ih.own }, ih.track);
      own = λ a h. may_own r.name o (group_of f) a (claimed_by a older) may.0 (ih.own a h);
      mine = (record { name = refl; tags = λ t g. cc; voice = may_from r.name o (group_of f) may.0 }, ih.mine);
      stations = (record { name = refl; tag = refl; honest = may_honest r.name o (group_of f) may.0 }, ih.stations);
    }

-- all that holds of a station
pub record StationHolds (st : List ℕ) (wire : List Item) (begun : List Message) (s : Station) : Type 0 where
  pub fit : IsFit s.settings
  pub law : StationLaw s.settings st wire s.asked s.path
  pub marked : Marked s.settings.name s.path
  pub sessions : SessionsLaw s.settings s.path
  pub same : (n : ℕ) (k : Kind) → entries_heard s.settings n k (readings s.path) ≡ expected s.settings n k begun s.path
  pub unread : unread_count s.settings (readings s.path) ≡ 0

abbrev pub EachStation : (Station → Type 0) → List Station → Type 0
EachStation P stations = (y : ℕ) (s : Station) → slice_get stations y ≡ Some s → P s

pub each_station_set : (Q : Station → Type 0) (stations : List Station) (x : ℕ) (v : Station) → ((y : ℕ) (t : Station) → y ≢ x → slice_get stations y ≡ Some t → Q t) → Q v → EachStation Q (set stations x v)
each_station_set Q stations x v old new y t h =
    elim (slice_get_set stations x y v t h) [
      | inl w ↦ subst Q (sym w.1) new
      | inr w ↦ old y t w.0 w.1
    ]

-- no two stations have one NAME
abbrev pub Distinct : List Station → Type 0
Distinct stations = (x y : ℕ) (s t : Station) → slice_get stations x ≡ Some s → slice_get stations y ≡ Some t → s.settings.name ≡ t.settings.name → x ≡ y

pub names_set : (stations : List Station) (x : ℕ) (s v : Station) → slice_get stations x ≡ Some s → v.settings ≡ s.settings → names_of (set stations x v) ≡ names_of stations
names_set [] x s v h e = cc
names_set (t ∷ ts) zero s v h e = let q : t ≡ s = cc in let n : v.settings.name ≡ t.settings.name = ap (λ (u : StationSettings). u.name) e ∙ ap (λ (u : Station). u.settings.name) (sym q) in ap (λ (m : ℕ). m ∷ names_of ts) n
names_set (t ∷ ts) (suc x) s v h e = ap (λ (l : List ℕ). t.settings.name ∷ l) (names_set ts x s v h e)

pub distinct_set : (stations : List Station) (x : ℕ) (s v : Station) → Distinct stations → slice_get stations x ≡ Some s → v.settings ≡ s.settings → Distinct (set stations x v)
distinct_set stations x s v apart at same y z t u h g e =
    let name : v.settings.name ≡ s.settings.name = ap (λ (q : StationSettings). q.name) same in
    elim (slice_get_set stations x y v t h) [
      | inl w ↦ (elim (slice_get_set stations x z v u g) [
        | inl p ↦ w.0 ∙ sym p.0
        | inr p ↦ w.0 ∙ apart x z s u at p.1 (sym name ∙ (ap (λ (q : Station). q.settings.name) (sym w.1) ∙ e))
      ])
      | inr w ↦ (elim (slice_get_set stations x z v u g) [
        | inl p ↦ apart y x t s w.1 at (e ∙ (ap (λ (q : Station). q.settings.name) p.1 ∙ name)) ∙ sym p.0
        | inr p ↦ apart y z t u w.1 p.1 e
      ])
    ]

pub record WorldLaw (st : List ℕ) (w : World) : Type 0 where
  pub named : names_of w.stations ≡ st
  pub distinct : Distinct w.stations
  pub wire : Lawful st w.wire
  pub booked : Every (IsBooked w.begun) w.wire
  pub numbered : Numbered w.begun
  pub proper : AllProper w.begun
  pub seats : EachLive (SeatLaw st w.wire w.begun) w.seats
  pub apart : Apart w.seats
  pub units : EachLive (λ s. is_station st s.name ≡ false) w.seats
  pub stations : EachStation (StationHolds st w.wire w.begun) w.stations

-- the two cannot be one
pub unit_apart : (st : List ℕ) (n m : ℕ) → is_station st n ≡ false → is_station st m ≡ true → n ≢ m
unit_apart st n m a b e = let c : is_station st m ≡ false = ap (is_station st) (sym e) ∙ a in cc

-- a seat changes, and nothing else
pub law_seat : (st : List ℕ) (w : World) (x : ℕ) (s v : Seat) → WorldLaw st w → IsLiveSeat w x s → v.name ≡ s.name → (v.live ≡ true → SeatLaw st w.wire w.begun v) → WorldLaw st (world_with_seat w x v)
law_seat st w x s v law at name new = record {
  named = law.named;
  distinct = law.distinct;
  wire = law.wire;
  booked = law.booked;
  numbered = law.numbered;
  proper = law.proper;
  seats = each_set (SeatLaw st w.wire w.begun) w.seats x v (λ y t ne h. law.seats y t h) new;
  apart = apart_set w.seats x s v law.apart (λ h. at) name;
  units = each_set (λ t. is_station st t.name ≡ false) w.seats x v (λ y t ne h. law.units y t h) (λ l. ap (is_station st) name ∙ law.units x s at);
  stations = law.stations;
}

-- a station changes, and nothing else
pub law_station : (st : List ℕ) (w : World) (y : ℕ) (s v : Station) → WorldLaw st w → IsAt w y s → v.settings ≡ s.settings → StationHolds st w.wire w.begun v → WorldLaw st (world_with_station w y v)
law_station st w y s v law at same new = record {
  named = names_set w.stations y s v at same ∙ law.named;
  distinct = distinct_set w.stations y s v law.distinct at same;
  wire = law.wire;
  booked = law.booked;
  numbered = law.numbered;
  proper = law.proper;
  seats = law.seats;
  apart = law.apart;
  units = law.units;
  stations = each_station_set (StationHolds st w.wire w.begun) w.stations y v (λ z t ne h. law.stations z t h) new;
}

-- a message begins
pub told_new : (r : StationSettings) (begun : List Message) (p : List Reception) (m : Message) (n : ℕ) (k : Kind) → m.number ≡ length begun → Numbered begun → Every (IsBooked begun) (passed p) → expected r n k (m ∷ begun) p ≡ expected r n k begun p
told_new r begun p m n k number num booked =
    let nos : is_clear r m p ≡ false = not_clear r m p (every_weaker (IsBooked begun) (HasTag (λ s. s.message.number ≡ m.number → s.part ≢ last_part_of m)) (passed p) (λ x h s g e. absurd (let b = number_below s.message begun (h s g) num in omega arith)) booked) in
    rw nos (never (is_listed n k m))
  where
    never : (b : Bool) → (if b && false then view m.kind m.memory ∷ expected r n k begun p else expected r n k begun p) ≡ expected r n k begun p
    never true = refl
    never false = refl

pub passed_booked : (st : List ℕ) (w : World) (s : Station) → WorldLaw st w → StationHolds st w.wire w.begun s → Every (IsBooked w.begun) (passed s.path)
passed_booked st w s law h = every_heard (IsBooked w.begun) s.settings.name w.wire (passed s.path) h.law.past law.booked

pub law_begun : (st : List ℕ) (w : World) (x : ℕ) (s v : Seat) (m : Message) → WorldLaw st w → IsLiveSeat w x s → v.name ≡ s.name → SeatLaw st w.wire w.begun v → m.number ≡ length w.begun → m.seat ≡ v.number → m.name ≡ v.name → v.held ≡ Some m.source → IsProper m → IsNotOpen v.session m.kind → ((d : ℕ) → (way_of m) ≡ Session d → OpensAt st v m d) → WorldLaw st (with_begun w x v m)
law_begun st w x s v m law at name seat number mseat mname held fit none opens = record {
  named = law.named;
  distinct = law.distinct;
  wire = law.wire;
  booked = booked_more m w.begun w.wire law.booked;
  numbered = (number, law.numbered);
  proper = (fit, law.proper);
  seats = each_set (SeatLaw st w.wire (m ∷ w.begun)) w.seats x _ (λ y t ne h. seat_more st w.wire m w.begun t (law.seats y t h)) (λ l. begins st w.wire w.begun v m fit seat law.numbered law.booked number mseat mname held none opens);
  apart = apart_set w.seats x s _ law.apart (λ h. at) name;
  units = each_set (λ t. is_station st t.name ≡ false) w.seats x _ (λ y t ne h. law.units y t h) (λ l. ap (is_station st) name ∙ law.units x s at);
  stations = λ y t h.
      let old = law.stations y t h in
      record {
        fit = old.fit;
        law = old.law;
        marked = old.marked;
        sessions = old.sessions;
        same = λ n k. old.same n k ∙ sym (told_new t.settings w.begun t.path m n k number law.numbered (passed_booked st w t law old));
        unread = old.unread;
      };
}

-- another's frame is carried
pub station_more : (st : List ℕ) (wire : List Item) (begun : List Message) (s : Station) (e : Item) → StationHolds st wire begun s → e.name ≢ s.settings.name → StationHolds st (e ∷ wire) begun s
station_more st wire begun s e old ne = record {
  fit = old.fit;
  law = record {
    named = old.law.named;
    past = one_ahead s.settings.name wire (passed s.path) e old.law.past ne;
    track = old.law.track;
    own = old.law.own;
    mine = old.law.mine;
    stations = old.law.stations;
  };
  marked = old.marked;
  sessions = old.sessions;
  same = old.same;
  unread = old.unread;
}

pub law_carry : (st : List ℕ) (w : World) (x : ℕ) (s : Seat) (e : Item) (rest : List Item) → WorldLaw st w → IsLiveSeat w x s → s.queue ≡ rest ++ e ∷ [] → s.heard ≡ w.wire → WorldLaw st (record w { wire = e ∷ w.wire; seats = set w.seats x (record s { queue = rest; heard = e ∷ w.wire }) })
law_carry st w x s e rest law at q h =
    let seat = law.seats x s at in
    let new = carries st w.wire w.begun s e rest seat q h in
    let name : e.name ≡ s.name = (every_rest (IsMine s.name s.held s.session) rest (e ∷ []) (subst (Every (IsMine s.name s.held s.session)) q seat.mine)).0.name in
    let unit : is_station st e.name ≡ false = ap (is_station st) name ∙ law.units x s at in
    let booked = (every_rest (IsBooked w.begun) rest (e ∷ []) (subst (Every (IsBooked w.begun)) q seat.booked)).0 in
    record {
      named = law.named;
      distinct = law.distinct;
      wire = lawful_rest st rest (e ∷ w.wire) new.track;
      booked = (booked, law.booked);
      numbered = law.numbered;
      proper = law.proper;
      seats = each_set (SeatLaw st (e ∷ w.wire) w.begun) w.seats x _ (λ y t ne g. others_carry st w.wire w.begun t e (law.seats y t g) (λ i. ne (law.apart y x t s g at (sym i ∙ name)))) (λ l. new);
      apart = apart_set w.seats x s _ law.apart (λ g. at) refl;
      units = each_set (λ t. is_station st t.name ≡ false) w.seats x _ (λ y t ne g. law.units y t g) (λ l. law.units x s at);
      stations = λ y t g. station_more st w.wire w.begun t e (law.stations y t g) (unit_apart st e.name t.settings.name unit (law.stations y t g).law.named);
    }

pub law_carry_station : (st : List ℕ) (w : World) (y : ℕ) (s : Station) (e : Item) (rest : List Item) → WorldLaw st w → IsAt w y s → s.asked ≡ rest ++ e ∷ [] → w.wire ≡ passed s.path → WorldLaw st (record w { wire = e ∷ w.wire; stations = set w.stations y (record s { asked = rest; path = Own e ∷ s.path }) })
law_carry_station st w y s e rest law at q h =
    let here = law.stations y s at in
    let mine = (every_rest (IsStations s.settings.name) rest (e ∷ []) (subst (Every (IsStations s.settings.name)) q here.law.stations)).0 in
    let new = station_carries s st w.wire e rest here.law q h in
    let yes : is_station st e.name ≡ true = ap (is_station st) mine.name ∙ here.law.named in
    record {
      named = names_set w.stations y s _ at refl ∙ law.named;
      distinct = distinct_set w.stations y s _ law.distinct at refl;
      wire = subst (λ (v : List Item). Lawful st (e ∷ v)) (sym h) (lawful_rest st rest (e ∷ passed s.path) new.track);
      booked = (λ t g. cc mine.tag, law.booked);
      numbered = law.numbered;
      proper = law.proper;
      seats = λ x t g. others_carry st w.wire w.begun t e (law.seats x t g) (λ i. unit_apart st t.name e.name (law.units x t g) yes (sym i));
      apart = law.apart;
      units = law.units;
      stations = each_station_set (StationHolds st (e ∷ w.wire) w.begun) w.stations y _
          (λ z t ne g. station_more st w.wire w.begun t e (law.stations z t g) (λ i. ne (law.distinct z y t s g at (sym i ∙ mine.name))))
          (record {
            fit = here.fit;
            law = new;
            marked = (mine, here.marked);
            sessions = sessions_own s.settings e s.path mine here.sessions;
            same = λ n k. here.same n k ∙ sym (told_same s.settings n k w.begun s.path (Own e ∷ s.path) (λ x i. refl));
            unread = here.unread;
          });
    }

pub law_join : (st : List ℕ) (w : World) (n a : ℕ) → WorldLaw st w → IsFree w n → n < 2 ^ 64 → a ≤ 253 → WorldLaw st (record w { seats = w.seats ++ joined_seat w n a ∷ [] })
law_join st w n a law free small hold =
    let unit : is_station st n ≡ false = subst (λ (l : List ℕ). is_station l n ≡ false) law.named free.0 in
    record {
      named = law.named;
      distinct = law.distinct;
      wire = law.wire;
      booked = law.booked;
      numbered = law.numbered;
      proper = law.proper;
      seats = each_push (SeatLaw st w.wire w.begun) w.seats (joined_seat w n a) law.seats (joins st w.wire w.begun (length w.stations + length w.seats) n a unit small hold law.wire);
      apart = apart_push w.seats (joined_seat w n a) law.apart free.1;
      units = each_push (λ t. is_station st t.name ≡ false) w.seats (joined_seat w n a) law.units unit;
      stations = law.stations;
    }

-- a frame is read
pub holds_read : (st : List ℕ) (w : World) (y : ℕ) (s : Station) (e : Item) (ahead : List Item) → WorldLaw st w → StationHolds st w.wire w.begun s → w.wire ≡ ahead ++ e ∷ passed s.path → StationHolds st w.wire w.begun (received y s e)
holds_read st w y s e ahead law here h =
    let next = next_heard s.settings.name w.wire (passed s.path) ahead e here.law.past h in
    let rest = lawful_rest st ahead (e ∷ passed s.path) (subst (Lawful st) h law.wire) in
    let booked = every_rest (IsBooked w.begun) ahead (e ∷ passed s.path) (subst (Every (IsBooked w.begun)) h law.booked) in
    record {
      fit = here.fit;
      law = station_reads y s st w.wire e ahead here.fit law.wire here.law h;
      marked = (next.1, here.marked);
      sessions = sessions_read s.settings st here.fit w.begun e s.path law.numbered rest (next.1, here.marked) booked here.sessions;
      same = reads s.settings st w.begun e s.path law.numbered law.proper rest (next.1, here.marked) booked here.sessions here.same;
      unread = rw (reads_readable s.settings st w.begun e s.path law.numbered rest (next.1, here.marked) booked here.sessions) here.unread;
    }

pub holds_miss : (st : List ℕ) (w : World) (y : ℕ) (s : Station) (es ahead : List Item) → WorldLaw st w → StationHolds st w.wire w.begun s → w.wire ≡ ahead ++ (es ++ passed s.path) → StationHolds st w.wire w.begun (missed y s es)
holds_miss st w y s es ahead law here h = record {
  fit = here.fit;
  law = station_misses y s st w.wire es ahead here.fit law.wire here.law h;
  marked = here.marked;
  sessions = sessions_missed s.settings es s.path;
  same = λ n k. here.same n k ∙ sym (told_same s.settings n k w.begun s.path (Missed es ∷ s.path) (λ x i. refl));
  unread = here.unread;
}

pub holds_ask : (st : List ℕ) (wire : List Item) (begun : List Message) (y : ℕ) (s : Station) (frames : List FrameValue) → StationHolds st wire begun s → CanAsk s frames → StationHolds st wire begun (with_asked y s frames)
holds_ask st wire begun y s frames here may = record {
  fit = here.fit;
  law = station_asks y s.settings st wire s.asked s.path frames here.law may;
  marked = here.marked;
  sessions = here.sessions;
  same = here.same;
  unread = here.unread;
}

pub opens_of : (st : List ℕ) (s : Seat) (e : Item) (m : Message) (way : Way) (d : ℕ) → IsProper m → Allowed st e s.heard → Every (IsMine s.name s.held s.session) s.queue → s.held ≡ Some m.source → MayOpen (with_heard s e) (says e) way m.source → way_of m ≡ way → way ≡ Session d → OpensAt st (with_heard s e) m d
opens_of st s e m One d ok allowed mine held may w i = cc
opens_of st s e m Broadcast d ok allowed mine held may w i = cc
opens_of st s e m (Session b) d ok allowed mine held may w i =
    let g : b ≡ d = cc in
    subst (λ (v : ℕ). OpensAt st (with_heard s e) m v) g (asked_for st s e m b (session_to m b ok w) allowed mine may.0 held may.1 may.2)

pub law_hear : (st : List ℕ) (w : World) (x : ℕ) (s : Seat) (e : Item) (ahead : List Item) (a : Answer) → WorldLaw st w → IsLiveSeat w x s → w.wire ≡ ahead ++ e ∷ s.heard → MayAnswer w (with_heard s e) (says e) a → WorldLaw st (answered w x (with_heard s e) a)
law_hear st w x s e ahead Nothing law at h may =
    law_seat st w x s (with_heard s e) law at refl (λ l. heard_quiet st w.wire w.begun s ahead e law.wire (law.seats x s at) h (record { uncontested = may.uncontested; uncut = may.uncut }))
law_hear st w x s e ahead (Replies f) law at h may =
    let quiet = heard_quiet st w.wire w.begun s ahead e law.wire (law.seats x s at) h (record { uncontested = may.0.uncontested; uncut = may.0.uncut }) in
    let rest = lawful_rest st ahead (e ∷ s.heard) (subst (Lawful st) h law.wire) in
    law_seat st w x s _ law at refl (λ l. replied st w.wire w.begun (with_heard s e) f quiet (may_reply st w.wire w.begun s e (group_of f) quiet rest.0 may.1))
law_hear st w x s e ahead (Begins kind memory source destination) law at h may =
    let seat = law.seats x s at in
    let quiet = heard_quiet st w.wire w.begun s ahead e law.wire seat h (record { uncontested = may.0.uncontested; uncut = may.0.uncut }) in
    let rest = lawful_rest st ahead (e ∷ s.heard) (subst (Lawful st) h law.wire) in
    let m = message_at w (with_heard s e) kind memory source destination in
    law_begun st w x s (with_heard s e) m law at refl quiet refl refl refl may.1 may.2 may.3 (λ d i. opens_of st s e m (way_of m) d may.2 rest.0 seat.mine may.1 may.4 refl i)
law_hear st w x s e ahead (Sends n) law at h may =
    let quiet = heard_quiet st w.wire w.begun s ahead e law.wire (law.seats x s at) h (record { uncontested = may.0.uncontested; uncut = may.0.uncut }) in
    law_seat st w x s (granted (with_heard s e) n) law at (granted_name n (with_heard s e)) (λ l. grants st w.wire w.begun n (with_heard s e) may.1.0 quiet may.1.1 may.1.2)
  where
    one_name : (s : Seat) (o : Option Tag) → (granted_one s o).name ≡ s.name
    one_name s None = refl
    one_name s (Some t) = refl

    granted_name : (n : ℕ) (s : Seat) → (granted s n).name ≡ s.name
    granted_name zero s = refl
    granted_name (suc n) s = granted_name n _ ∙ one_name s s.session
law_hear st w x s e ahead EndsSession law at h may =
    law_seat st w x s _ law at refl (λ l. heard_ends st w.wire w.begun s ahead e law.wire (law.seats x s at) h may)
law_hear st w x s e ahead (Claims o) law at h may =
    law_seat st w x s _ law at refl (λ l. heard_yields st w.wire w.begun s ahead e o may law.wire (law.seats x s at) h)

pub no_session : (st : List ℕ) (s : Seat) (m : Message) (d : ℕ) → m.destination ≡ 255 → way_of m ≡ Session d → OpensAt st s m d
no_session st s m d to w = let q = session_destination m d w in absurd (q.1 (sym q.0 ∙ to))

pub law_step : (st : List ℕ) (old : World) (event : Event) (new : World) → WorldLaw st old → Step old event new → WorldLaw st new
law_step st old (Join n a) new law h = subst (WorldLaw st) (sym h.3) (law_join st old n a law h.0 h.1 h.2)
law_step st old (Hear x answer) new law (s, e, ahead, at, i, may, is) = subst (WorldLaw st) (sym is) (law_hear st old x s e ahead answer law at i may)
law_step st old (Begin x kind memory source) new law (s, at, held, fit, none, is) =
    subst (WorldLaw st) (sym is) (law_begun st old x s s (message_at old s kind memory source 255) law at refl (law.seats x s at) refl refl refl held fit none (λ d i. no_session st s (message_at old s kind memory source 255) d refl i))
law_step st old (Turned x) new law h = subst (WorldLaw st) (sym h) law
law_step st old (Carry x) new law (s, e, rest, at, q, i, is) = subst (WorldLaw st) (sym is) (law_carry st old x s e rest law at q i)
law_step st old (Carry_station y) new law (s, e, rest, at, q, i, is) = subst (WorldLaw st) (sym is) (law_carry_station st old y s e rest law at q i)
law_step st old (Ask y frames) new law (s, at, may, is) = subst (WorldLaw st) (sym is) (law_station st old y s _ law at refl (holds_ask st old.wire old.begun y s frames (law.stations y s at) may))
law_step st old (Read y frames) new law (s, e, ahead, at, i, may, is) =
    subst (WorldLaw st) (sym is) (law_station st old y s _ law at refl (holds_ask st old.wire old.begun y (received y s e) frames (holds_read st old y s e ahead law (law.stations y s at) i) may))
law_step st old (Miss y n frames) new law (s, es, ahead, at, len, i, may, is) =
    subst (WorldLaw st) (sym is) (law_station st old y s _ law at refl (holds_ask st old.wire old.begun y (missed y s es) frames (holds_miss st old y s es ahead law (law.stations y s at) i) may))
law_step st old (Leave x) new law (s, at, is) = subst (WorldLaw st) (sym is) (law_seat st old x s (record s { live = false; queue = [] }) law at refl (λ l. cc))

pub law_run : (st : List ℕ) (old : World) (events : List Event) (new : World) → WorldLaw st old → Run old events new → WorldLaw st new
law_run st old [] new law h = subst (WorldLaw st) (sym h) law
law_run st old (e ∷ es) new law (mid, step, rest) = law_run st mid es new (law_step st old e mid law step) rest

-- ---- the start

new_holds : (st : List ℕ) (y : ℕ) (r : StationSettings) → is_station st r.name ≡ true → IsFit r → StationHolds st [] [] (record { settings = r; asked = claim_alone y r.name (Some r.address); path = [] })
new_holds st y r named fit = record {
  fit = fit;
  law = claims_alone y r st [] [] (Some r.address) named fit (address_first r) (all_heard r.name [] [] refl) tt;
  marked = tt;
  sessions = λ m d j w c. cc;
  same = λ n k. refl;
  unread = refl;
}

-- a NAME that is one of some is one of more
abbrev Within : List ℕ → List ℕ → Type 0
Within xs st = (n : ℕ) → is_station xs n ≡ true → is_station st n ≡ true

or_right : (a b : Bool) → b ≡ true → a || b ≡ true
or_right true b h = refl
or_right false b h = h

each_new : (st : List ℕ) (y : ℕ) (rs : List StationSettings) → AreFit rs → Within (names_of (new_stations y rs)) st → EachStation (StationHolds st [] []) (new_stations y rs)
each_new st y [] fit sub x s h = cc
each_new st y (r ∷ rs) fit sub zero s h = let e : ◌≡◌ {A = Station} (record { settings = r; asked = claim_alone y r.name (Some r.address); path = [] }) s = cc in subst (StationHolds st [] []) e (new_holds st y r (sub r.name (rw (same_test r.name) refl)) fit.0)
each_new st y (r ∷ rs) fit sub (suc x) s h = each_new st (suc y) rs fit.2 (λ n i. sub n (or_right (n == r.name) (is_station (names_of (new_stations (suc y) rs)) n) i)) x s h

not_again : (n y : ℕ) (rs : List StationSettings) (x : ℕ) (s : Station) → AreNot n rs → slice_get (new_stations y rs) x ≡ Some s → s.settings.name ≢ n
not_again n y [] x s others h = cc
not_again n y (r ∷ rs) zero s others h = let e : ◌≡◌ {A = Station} (record { settings = r; asked = claim_alone y r.name (Some r.address); path = [] }) s = cc in λ i. others.0 (ap (λ (v : Station). v.settings.name) e ∙ i)
not_again n y (r ∷ rs) (suc x) s others h = not_again n (suc y) rs x s others.1 h

new_distinct : (y : ℕ) (rs : List StationSettings) → AreFit rs → Distinct (new_stations y rs)
new_distinct y [] fit i j s t h g e = cc
new_distinct y (r ∷ rs) fit zero zero s t h g e = refl
new_distinct y (r ∷ rs) fit zero (suc j) s t h g e = let q : ◌≡◌ {A = Station} (record { settings = r; asked = claim_alone y r.name (Some r.address); path = [] }) s = cc in absurd (not_again r.name (suc y) rs j t fit.1 g (sym e ∙ ap (λ (v : Station). v.settings.name) (sym q)))
new_distinct y (r ∷ rs) fit (suc i) zero s t h g e = let q : ◌≡◌ {A = Station} (record { settings = r; asked = claim_alone y r.name (Some r.address); path = [] }) t = cc in absurd (not_again r.name (suc y) rs i s fit.1 h (e ∙ ap (λ (v : Station). v.settings.name) (sym q)))
new_distinct y (r ∷ rs) fit (suc i) (suc j) s t h g e = ap suc (new_distinct (suc y) rs fit.2 i j s t h g e)

pub law_start : (rs : List StationSettings) → AreFit rs → WorldLaw (names_of (new_stations 0 rs)) (start rs)
law_start rs fit = record {
  named = refl;
  distinct = new_distinct 0 rs fit;
  wire = tt;
  booked = tt;
  numbered = tt;
  proper = tt;
  seats = λ x s h. cc h.0;
  apart = λ x y s t h g e. cc h.0;
  units = λ x s h. cc h.0;
  stations = each_new (names_of (new_stations 0 rs)) 0 rs fit (λ n i. i);
}
