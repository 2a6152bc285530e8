-- Each seat keeps its number, and each frame on the wire bears the number and the NAME of its seat.
use Rattle.std.proofs.Common.{◌≡◌, ◌⊎◌, ℕ, suc, zero, ◌+◌, Bool, true, false, List, [], ◌∷◌, ◌++◌, length, set, slice_get, Option, Some, None, if◌then◌else◌, sym, refl, ap, ◌∙◌, subst, inl, inr, arith}
use Rattle.can_frame.specs.FrameValue.{FrameValue}
use Rattle.bus_model.specs.Expected.{Missed, Own, Received, Reception, passed, readings}
use Rattle.parameter_group.specs.Calm.{is_contest}
use Rattle.bus_model.specs.Heard.{StationSettings, address_heard}
use Rattle.bus_model.specs.Machine.{Answer, Ask, Begin, Begins, Carry, Carry_station, EndsSession, Event, Sends, Hear, Join, Leave, Miss, Nothing, Read, Replies, Run, Seat, Station, Step, Turned, World, Claims, all_plain, answered, claim_alone, granted, granted_one, joined_seat, message_at, parts_upto, session_ended, missed, new_stations, received, start, station_address, with_asked, with_heard, with_message, yielded}
use Rattle.bus_model.specs.Messages.{Message}
use Rattle.bus_model.specs.Traffic.{Item, Tag, is_station, says}
use Rattle.bus_model.specs.Whose.{IsFromItsSeat}
use Rattle.bus_model.proofs.Lookback.{Every, every_append, every_front, every_rest, every_weaker}
use Rattle.bus_model.proofs.Path.{IsStations}
use Rattle.bus_model.proofs.Seats.{kept_each}
use Rattle.bus_model.proofs.SeatLaw.{IsNotNamed, all_ahead}
use Rattle.bus_model.proofs.Lookback.{IsMine}
use Rattle.bus_model.proofs.Worlds.{WorldLaw, law_step, slice_get_push, slice_get_set}

abbrev pub IsOfNumber : ℕ → Item → Type 0
IsOfNumber k e = e.seat ≡ k

-- what a seat has queued bears its number
abbrev pub OwnQueue : Seat → Type 0
OwnQueue s = Every (IsOfNumber s.number) s.queue

-- another seat in the same place
pub record IsSameSeat (s v : Seat) : Type 0 where
  pub number : v.number ≡ s.number
  pub name : v.name ≡ s.name
  pub queue : OwnQueue v

parts_own : (k : ℕ) (m : Message) (j : ℕ) → Every (IsOfNumber k) (parts_upto k m j)
parts_own k m zero = (refl, tt)
parts_own k m (suc j) = (refl, parts_own k m j)

plain_own : (k n : ℕ) (fs : List FrameValue) → Every (IsOfNumber k) (all_plain k n fs)
plain_own k n [] = tt
plain_own k n (f ∷ fs) = (refl, plain_own k n fs)

one_same : (s : Seat) (o : Option Tag) → OwnQueue s → IsSameSeat s (granted_one s o)
one_same s None own = record { number = refl; name = refl; queue = own }
one_same s (Some t) own = record { number = refl; name = refl; queue = (refl, own) }

granted_same : (n : ℕ) (s : Seat) → OwnQueue s → IsSameSeat s (granted s n)
granted_same zero s own = record { number = refl; name = refl; queue = own }
granted_same (suc n) s own =
    let one = one_same s s.session own in
    let more = granted_same n (granted_one s s.session) one.queue in
    record { number = more.number ∙ one.number; name = more.name ∙ one.name; queue = more.queue }

-- the seat after an answer, in its place
pub record IsAnswered (w : World) (x : ℕ) (s : Seat) (new : World) : Type 0 where
  pub seat : Seat
  pub same : IsSameSeat s seat
  pub seats : new.seats ≡ set w.seats x seat
  pub wire : new.wire ≡ w.wire
  pub stations : new.stations ≡ w.stations

answered_same : (w : World) (x : ℕ) (s : Seat) (a : Answer) → OwnQueue s → IsAnswered w x s (answered w x s a)
answered_same w x s Nothing own = record { seat = s; same = record { number = refl; name = refl; queue = own }; seats = refl; wire = refl; stations = refl }
answered_same w x s (Replies f) own = record { seat = _; same = record { number = refl; name = refl; queue = (refl, own) }; seats = refl; wire = refl; stations = refl }
answered_same w x s (Begins kind memory source destination) own =
    let m = message_at w s kind memory source destination in
    record {
      seat = with_message s m;
      same = record { number = refl; name = refl; queue = every_append (IsOfNumber s.number) _ s.queue (parts_own s.number m _) own };
      seats = refl;
      wire = refl;
      stations = refl;
    }
answered_same w x s (Sends n) own = record { seat = granted s n; same = granted_same n s own; seats = refl; wire = refl; stations = refl }
answered_same w x s EndsSession own = record { seat = session_ended s; same = record { number = refl; name = refl; queue = kept_each (IsOfNumber s.number) s.queue own }; seats = refl; wire = refl; stations = refl }
answered_same w x s (Claims to) own = record { seat = yielded s to; same = record { number = refl; name = refl; queue = (refl, tt) }; seats = refl; wire = refl; stations = refl }

-- what was missed is not the station's
abbrev pub MissedForeign : ℕ → List Reception → Type 0
MissedForeign n [] = Unit {0}
MissedForeign n (Own e ∷ path) = MissedForeign n path
MissedForeign n (Received e ∷ path) = MissedForeign n path
MissedForeign n (Missed es ∷ path) = Every (IsNotNamed n) es × MissedForeign n path

-- a seat with that number and NAME
abbrev pub IsGiven : List Seat → Item → Type 0
IsGiven seats e = (x : ℕ) × (s : Seat) × (slice_get seats x ≡ Some s) × (e.seat ≡ s.number) × (e.name ≡ s.name)

abbrev pub IsFrom : List Station → List Seat → Item → Type 0
IsFrom stations seats e = ((y : ℕ) × (s : Station) × (slice_get stations y ≡ Some s) × (e.seat ≡ y) × (e.name ≡ s.settings.name)) ⊎ IsGiven seats e

-- a station's queue bears its number, and what it missed is not its own
pub record IsPost (y : ℕ) (s : Station) : Type 0 where
  pub asked' : Every (IsOfNumber y) s.asked
  pub missed' : MissedForeign s.settings.name s.path

abbrev pub ArePosts : List Station → Type 0
ArePosts stations = (y : ℕ) (s : Station) → slice_get stations y ≡ Some s → IsPost y s

pub record NumbersLaw (st : List ℕ) (wire : List Item) (stations : List Station) (seats : List Seat) : Type 0 where
  pub numbers : (x : ℕ) (s : Seat) → slice_get seats x ≡ Some s → s.number ≡ length stations + x
  pub names : (x : ℕ) (s : Seat) → slice_get seats x ≡ Some s → is_station st s.name ≡ false
  pub queues : (x : ℕ) (s : Seat) → slice_get seats x ≡ Some s → OwnQueue s
  pub posts : ArePosts stations
  pub wire' : Every (IsFrom stations seats) wire

-- ---- one seat changes

set_has : {A : Type 0} (xs : List A) (i y : ℕ) (v s t : A) → slice_get xs i ≡ Some s → slice_get xs y ≡ Some t → ((y ≡ i) × (slice_get (set xs i v) y ≡ Some v)) ⊎ (slice_get (set xs i v) y ≡ Some t)
set_has [] i y v s t h g = cc
set_has (a ∷ xs) zero zero v s t h g = inl (refl, refl)
set_has (a ∷ xs) zero (suc y) v s t h g = inr g
set_has (a ∷ xs) (suc i) zero v s t h g = inr g
set_has (a ∷ xs) (suc i) (suc y) v s t h g = elim (set_has xs i y v s t h g) [ inl w ↦ inl (ap suc w.0, w.1) | inr w ↦ inr w ]

same_one : {A : Type 0} (xs : List A) (i j : ℕ) (s t : A) → slice_get xs i ≡ Some s → slice_get xs j ≡ Some t → j ≡ i → s ≡ t
same_one xs i j s t h g e = let k : slice_get xs i ≡ Some t = subst (λ (n : ℕ). slice_get xs n ≡ Some t) e g in cc

given_set : (seats : List Seat) (x : ℕ) (s v : Seat) (e : Item) → slice_get seats x ≡ Some s → IsSameSeat s v → IsGiven seats e → IsGiven (set seats x v) e
given_set seats x s v e at same (y, t, here, number, name) =
    elim (set_has seats x y v s t at here) [
      | inl w ↦ (let k : s ≡ t = same_one seats x y s t at here w.0 in (y, v, w.1, number ∙ (ap (λ (u : Seat). u.number) (sym k) ∙ sym same.number), name ∙ (ap (λ (u : Seat). u.name) (sym k) ∙ sym same.name)))
      | inr w ↦ (y, t, w, number, name)
    ]

from_set : (stations : List Station) (seats : List Seat) (x : ℕ) (s v : Seat) (e : Item) → slice_get seats x ≡ Some s → IsSameSeat s v → IsFrom stations seats e → IsFrom stations (set seats x v) e
from_set stations seats x s v e at same from = elim from [ inl h ↦ inl h | inr h ↦ inr (given_set seats x s v e at same h) ]

pub numbers_seat : (st : List ℕ) (wire : List Item) (stations : List Station) (seats : List Seat) (x : ℕ) (s v : Seat) → slice_get seats x ≡ Some s → IsSameSeat s v → NumbersLaw st wire stations seats → NumbersLaw st wire stations (set seats x v)
numbers_seat st wire stations seats x s v at same law = record {
  numbers = λ y t h. elim (slice_get_set seats x y v t h) [
    | inl w ↦ ap (λ (u : Seat). u.number) w.1 ∙ (same.number ∙ (law.numbers x s at ∙ ap (λ (n : ℕ). length stations + n) (sym w.0)))
    | inr w ↦ law.numbers y t w.1
  ];
  names = λ y t h. elim (slice_get_set seats x y v t h) [
    | inl w ↦ ap (is_station st) (ap (λ (u : Seat). u.name) w.1 ∙ same.name) ∙ law.names x s at
    | inr w ↦ law.names y t w.1
  ];
  queues = λ y t h. elim (slice_get_set seats x y v t h) [
    | inl w ↦ subst OwnQueue (sym w.1) same.queue
    | inr w ↦ law.queues y t w.1
  ];
  posts = law.posts;
  wire' = every_weaker (IsFrom stations seats) (IsFrom stations (set seats x v)) wire (λ e h. from_set stations seats x s v e at same h) law.wire';
}

-- ---- a seat joins

push_has : {A : Type 0} (xs : List A) (y : ℕ) (v t : A) → slice_get xs y ≡ Some t → slice_get (xs ++ v ∷ []) y ≡ Some t
push_has [] y v t h = cc
push_has (a ∷ xs) zero v t h = h
push_has (a ∷ xs) (suc y) v t h = push_has xs y v t h

from_push : (stations : List Station) (seats : List Seat) (v : Seat) (e : Item) → IsFrom stations seats e → IsFrom stations (seats ++ v ∷ []) e
from_push stations seats v e from = elim from [ inl h ↦ inl h | inr h ↦ inr (h.0, h.1, push_has seats h.0 v h.1 h.2, h.3, h.4) ]

numbers_join : (st : List ℕ) (wire : List Item) (stations : List Station) (seats : List Seat) (v : Seat) → v.number ≡ length stations + length seats → is_station st v.name ≡ false → OwnQueue v → NumbersLaw st wire stations seats → NumbersLaw st wire stations (seats ++ v ∷ [])
numbers_join st wire stations seats v number name own law = record {
  numbers = λ y t h. elim (slice_get_push seats y v t h) [ inl w ↦ law.numbers y t w | inr w ↦ ap (λ (u : Seat). u.number) w.1 ∙ (number ∙ ap (λ (n : ℕ). length stations + n) (sym w.0)) ];
  names = λ y t h. elim (slice_get_push seats y v t h) [ inl w ↦ law.names y t w | inr w ↦ ap (is_station st) (ap (λ (u : Seat). u.name) w.1) ∙ name ];
  queues = λ y t h. elim (slice_get_push seats y v t h) [ inl w ↦ law.queues y t w | inr w ↦ subst OwnQueue (sym w.1) own ];
  posts = law.posts;
  wire' = every_weaker (IsFrom stations seats) (IsFrom stations (seats ++ v ∷ [])) wire (λ e h. from_push stations seats v e h) law.wire';
}

-- ---- a station changes

length_set : {A : Type 0} (xs : List A) (i : ℕ) (v : A) → length (set xs i v) ≡ length xs
length_set [] i v = refl
length_set (x ∷ xs) zero v = refl
length_set (x ∷ xs) (suc i) v = ap suc (length_set xs i v)

from_station : (stations : List Station) (seats : List Seat) (y : ℕ) (s v : Station) (e : Item) → slice_get stations y ≡ Some s → v.settings ≡ s.settings → IsFrom stations seats e → IsFrom (set stations y v) seats e
from_station stations seats y s v e at same from = elim from [
  | inr h ↦ inr h
  | inl h ↦ elim (set_has stations y h.0 v s h.1 at h.2) [
    | inl w ↦ (let k : s ≡ h.1 = same_one stations y h.0 s h.1 at h.2 w.0 in inl (h.0, v, w.1, h.3, h.4 ∙ (ap (λ (u : Station). u.settings.name) (sym k) ∙ ap (λ (r : StationSettings). r.name) (sym same))))
    | inr w ↦ inl (h.0, h.1, w, h.3, h.4)
  ]
]

pub numbers_station : (st : List ℕ) (wire : List Item) (stations : List Station) (seats : List Seat) (y : ℕ) (s v : Station) → slice_get stations y ≡ Some s → v.settings ≡ s.settings → IsPost y v → NumbersLaw st wire stations seats → NumbersLaw st wire (set stations y v) seats
numbers_station st wire stations seats y s v at same post law = record {
  numbers = λ x t h. law.numbers x t h ∙ ap (λ (n : ℕ). n + x) (sym (length_set stations y v));
  names = law.names;
  queues = law.queues;
  posts = λ z t h. elim (slice_get_set stations y z v t h) [
    | inl w ↦ subst (λ (u : Station). IsPost z u) (sym w.1) (subst (λ (n : ℕ). IsPost n v) (sym w.0) post)
    | inr w ↦ law.posts z t w.1
  ];
  wire' = every_weaker (IsFrom stations seats) (IsFrom (set stations y v) seats) wire (λ e h. from_station stations seats y s v e at same h) law.wire';
}

numbers_carried : (st : List ℕ) (wire : List Item) (stations : List Station) (seats : List Seat) (e : Item) → IsFrom stations seats e → NumbersLaw st wire stations seats → NumbersLaw st (e ∷ wire) stations seats
numbers_carried st wire stations seats e from law = record { numbers = law.numbers; names = law.names; queues = law.queues; posts = law.posts; wire' = (from, law.wire') }

abbrev pub WorldNumbers : List ℕ → World → Type 0
WorldNumbers st w = NumbersLaw st w.wire w.stations w.seats

asked_own : (y : ℕ) (b : Bool) (n : ℕ) (held : Option ℕ) (asked : List Item) → Every (IsOfNumber y) asked → Every (IsOfNumber y) (if b then claim_alone y n held else asked)
asked_own y true n held asked own = (refl, tt)
asked_own y false n held asked own = own

new_posts : (y : ℕ) (rs : List StationSettings) (x : ℕ) (s : Station) → slice_get (new_stations y rs) x ≡ Some s → IsPost (y + x) s
new_posts y [] x s h = cc
new_posts y (r ∷ rs) zero s h =
    let e : ◌≡◌ {A = Station} (record { settings = r; asked = claim_alone y r.name (Some r.address); path = [] }) s = cc in
    subst (λ (u : Station). IsPost (y + 0) u) e (record { asked' = (omega arith, tt); missed' = tt })
new_posts y (r ∷ rs) (suc x) s h = let n : suc y + x ≡ y + suc x = omega arith in subst (λ (k : ℕ). IsPost k s) n (new_posts (suc y) rs x s h)

pub numbers_start : (st : List ℕ) (rs : List StationSettings) → WorldNumbers st (start rs)
numbers_start st rs = record { numbers = λ x s h. cc; names = λ x s h. cc; queues = λ x s h. cc; posts = λ y s h. (let n : 0 + y ≡ y = omega arith in subst (λ (k : ℕ). IsPost k s) n (new_posts 0 rs y s h)); wire' = tt }

numbers_answered : (st : List ℕ) (w new : World) (x : ℕ) (s : Seat) → slice_get w.seats x ≡ Some s → IsAnswered w x s new → WorldNumbers st w → WorldNumbers st new
numbers_answered st w new x s at a law = rw (a.wire, a.stations, a.seats) (numbers_seat st w.wire w.stations w.seats x s a.seat at a.same law)

asked_more : (y : ℕ) (s : Station) (frames : List FrameValue) → IsPost y s → IsPost y (with_asked y s frames)
asked_more y s frames p = record { asked' = every_append (IsOfNumber y) _ s.asked (plain_own y s.settings.name frames) p.asked'; missed' = p.missed' }

pub numbers_step : (st : List ℕ) (old : World) (event : Event) (new : World) → WorldLaw st old → WorldNumbers st old → Step old event new → WorldNumbers st new
numbers_step st old (Join n a) new world law h =
    subst (WorldNumbers st) (sym h.3) (numbers_join st old.wire old.stations old.seats (joined_seat old n a) refl (subst (λ (l : List ℕ). is_station l n ≡ false) world.named h.0.0) (refl, tt) law)
numbers_step st old (Hear x answer) new world law (s, e, ahead, at, i, may, is) =
    let own : OwnQueue (with_heard s e) = law.queues x s at.0 in
    let a = answered_same old x (with_heard s e) answer own in
    subst (WorldNumbers st) (sym is)
    (numbers_answered st old (answered old x (with_heard s e) answer) x s at.0 (record { seat = a.seat; same = record { number = a.same.number; name = a.same.name; queue = a.same.queue }; seats = a.seats; wire = a.wire; stations = a.stations }) law)
numbers_step st old (Begin x kind memory source) new world law (s, at, held, fit, none, is) =
    let m = message_at old s kind memory source 255 in
    subst (WorldNumbers st) (sym is)
    (numbers_seat st old.wire old.stations old.seats x s (with_message s m) at.0 (record { number = refl; name = refl; queue = every_append (IsOfNumber s.number) _ s.queue (parts_own s.number m _) (law.queues x s at.0) }) law)
numbers_step st old (Turned x) new world law h = subst (WorldNumbers st) (sym h) law
numbers_step st old (Carry x) new world law (s, e, rest, at, q, i, is) =
    let own = subst (Every (IsOfNumber s.number)) q (law.queues x s at.0) in
    let mine = subst (Every (IsMine s.name s.held s.session)) q (world.seats x s at).mine in
    let from : IsFrom old.stations old.seats e = inr (x, s, at.0, (every_rest (IsOfNumber s.number) rest (e ∷ []) own).0, (every_rest (IsMine s.name s.held s.session) rest (e ∷ []) mine).0.name) in
    subst (WorldNumbers st) (sym is)
    (numbers_seat st (e ∷ old.wire) old.stations old.seats x s (record s { queue = rest; heard = e ∷ old.wire }) at.0
    (record { number = refl; name = refl; queue = every_front (IsOfNumber s.number) rest (e ∷ []) own })
    (numbers_carried st old.wire old.stations old.seats e from law))
numbers_step st old (Carry_station y) new world law (s, e, rest, at, q, i, is) =
    let post = law.posts y s at in
    let own = subst (Every (IsOfNumber y)) q post.asked' in
    let mine = subst (Every (IsStations s.settings.name)) q (world.stations y s at).law.stations in
    let from : IsFrom old.stations old.seats e = inl (y, s, at, (every_rest (IsOfNumber y) rest (e ∷ []) own).0, (every_rest (IsStations s.settings.name) rest (e ∷ []) mine).0.name) in
    subst (WorldNumbers st) (sym is)
    (numbers_station st (e ∷ old.wire) old.stations old.seats y s (record s { asked = rest; path = Own e ∷ s.path }) at refl
    (record { asked' = every_front (IsOfNumber y) rest (e ∷ []) own; missed' = post.missed' })
    (numbers_carried st old.wire old.stations old.seats e from law))
numbers_step st old (Ask y frames) new world law (s, at, may, is) =
    subst (WorldNumbers st) (sym is) (numbers_station st old.wire old.stations old.seats y s (with_asked y s frames) at refl (asked_more y s frames (law.posts y s at)) law)
numbers_step st old (Read y frames) new world law (s, e, ahead, at, i, may, is) =
    let post = law.posts y s at in
    subst (WorldNumbers st) (sym is)
    (numbers_station st old.wire old.stations old.seats y s (with_asked y (received y s e) frames) at refl
    (asked_more y (received y s e) frames (record { asked' = asked_own y (is_contest s.settings.name (station_address s) (says e)) s.settings.name (address_heard s.settings (readings (Received e ∷ s.path))) s.asked post.asked'; missed' = post.missed' })) law)
numbers_step st old (Miss y n frames) new world law (s, es, ahead, at, len, i, may, is) =
    let post = law.posts y s at in
    let foreign = every_rest (IsNotNamed s.settings.name) ahead es (all_ahead s.settings.name old.wire (passed s.path) ahead es (world.stations y s at).law.past i) in
    subst (WorldNumbers st) (sym is)
    (numbers_station st old.wire old.stations old.seats y s (with_asked y (missed y s es) frames) at refl
    (asked_more y (missed y s es) frames (record { asked' = (refl, tt); missed' = (foreign, post.missed') })) law)
numbers_step st old (Leave x) new world law (s, at, is) =
    subst (WorldNumbers st) (sym is) (numbers_seat st old.wire old.stations old.seats x s (record s { live = false; queue = [] }) at.0 (record { number = refl; name = refl; queue = tt }) law)

pub numbers_run : (st : List ℕ) (old : World) (events : List Event) (new : World) → WorldLaw st old → WorldNumbers st old → Run old events new → WorldNumbers st new
numbers_run st old [] new world law h = subst (WorldNumbers st) (sym h) law
numbers_run st old (e ∷ es) new world law (mid, step, rest) = numbers_run st mid es new (law_step st old e mid world step) (numbers_step st old e mid world law step) rest

-- each frame of the wire
pub from_its_seat : (st : List ℕ) (w : World) (after before : List Item) (e : Item) → WorldNumbers st w → w.wire ≡ after ++ e ∷ before → IsFromItsSeat w e
from_its_seat st w after before e law i = (every_rest (IsFrom w.stations w.seats) after (e ∷ before) (subst (Every (IsFrom w.stations w.seats)) i law.wire')).0
