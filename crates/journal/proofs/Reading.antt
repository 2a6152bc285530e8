-- A reading of a station is the machine's.
use Rattle.std.proofs.Common.{ℕ, ◌≡◌, ◌+◌, ◌<◌, ◌≤◌, List, [], ◌∷◌, ◌++◌, map, reverse, take, drop, length, Bool, true, false, Option, if◌then◌else◌, append_assoc, append-nil, take-append-drop, take-add, length-drop, refl, sym, ap, ap₂, ◌∙◌, subst, subst₂, arith}
use Rattle.std.proofs.lemmas.List.{length-map, length-reverse, length-take-le, reverse-append, map-append, drop-map, take-map}
use Rattle.std.proofs.lemmas.Option.{slice_get-get_or}
use Rattle.can_frame.specs.FrameValue.{FrameValue}
use Rattle.can_frame.specs.declared.reading.Reading.{Reading}
use Rattle.can_frame.specs.declared.reading.Reading.TheVariants as reading
use Rattle.address_claim.specs.Claiming.{ClaimerValue, CanHold}
use Rattle.parameter_group.specs.Group.{group_of}
use Rattle.bus_ledger.specs.BusValue.{SeatValue, Traffic, seat_at}
use Rattle.bus_ledger.specs.Changes.{hearing, withdrawn}
use Rattle.bus_ledger.specs.Reception.{not_yet_read, passes, reading_taken as taken}
use Rattle.bus_ledger.specs.declared.traffic.CarriedFrame.{CarriedFrame}
use Rattle.bus_ledger.specs.declared.traffic.QueuedFrame.{QueuedFrame}
use Rattle.bus_ledger.specs.declared.traffic.Which.TheVariants as which
use Rattle.bus_model.specs.Messages.{Message}
use Rattle.bus_model.specs.Traffic.{Item}
use Rattle.parameter_group.specs.Calm.{is_contest}
use Rattle.bus_model.specs.Heard.{address_heard, claimer_after}
use Rattle.bus_model.specs.Expected.{Reception, Received, Missed, passed, readings}
use Rattle.bus_model.specs.Machine.{IsAt, IsFit, Seat, Step, all_plain, claim_alone, AllMaySend, world_with_station}
use Rattle.bus_model.specs.Machine.{Event as MachineEvent, Miss, Read as Reads}
use Rattle.bus_model.proofs.Bridge.{address_gap, address_hold, claimer_name}
use Rattle.station_table.specs.Reactions.{station_reaction, group_reaction}
use Rattle.station_table.specs.declared.reaction.Reaction.{Reaction}
use Rattle.parameter_group.specs.Laws.{sender_below}
use Rattle.journal.specs.State.{Settings, State, StationState, no_setting, path_at, setting_at, table_at}
use Rattle.journal.specs.Steps.{after, after_read, item_of, path_after, reacted, untagged}
use Rattle.journal.specs.Fits.{Fits}
use Rattle.journal.specs.Worlds.{items_of, queued_item, queue_of, station_of_at, world_of, world_station}
use Rattle.journal.specs.declared.event.Event.TheVariants.{Read}
use Rattle.journal.proofs.Seated.{AreKnown, IsPost, Stands}
use Rattle.journal.proofs.Posts.{station_is, station_with, stations_set, world_parts}
use Rattle.journal.proofs.Station.{AtStation, Next, One, Over, next_is, read_own, station_read}
use Rattle.journal.proofs.OwnSeat.{OwnChange, OwnStation, items_own, kept_if, known_if, known_put, others_same, own_heard, own_put, own_then, own_withdrawn_if, plain_append, put_heard, put_queue, queue_put, set_at, stands_own, station_set, withdrawn_heard, withdrawn_queue}
use Rattle.journal.proofs.StationAnswers.{Answers, claims_of, gap_answers, group_answers}

-- ---- what a station withdraws and queues

-- all that waits is withdrawn, or nothing
abbrev withdrawn_if : ℕ → Bool → Traffic → Traffic
withdrawn_if y b t = if b then withdrawn y which.All t else t

pub own_reacted : (y : ℕ) (r : Reaction) (t : Traffic) → OwnChange y t (reacted y r t)
own_reacted y r t = own_then y t (withdrawn_if y r.withdraw t) (reacted y r t) (own_withdrawn_if y r.withdraw t) (own_put y (map untagged r.put) (withdrawn_if y r.withdraw t))

still_given : (y : ℕ) (b : Bool) (t : Traffic) → y < length t.seats → y < length (withdrawn_if y b t).seats
still_given y b t h = subst (λ (n : ℕ). y < n) (sym (own_withdrawn_if y b t).places) h

pub reacted_queue : (y : ℕ) (r : Reaction) (t : Traffic) → y < length t.seats → (seat_at (reacted y r t) y).queue ≡ kept_if r.withdraw (seat_at t y).queue ++ map untagged r.put
reacted_queue y r t h =
    put_queue y (map untagged r.put) (withdrawn_if y r.withdraw t) (still_given y r.withdraw t h)
    ∙ ap (λ (qs : List QueuedFrame). qs ++ map untagged r.put) (withdrawn_queue y r.withdraw t h)

pub reacted_heard : (y : ℕ) (r : Reaction) (t : Traffic) → y < length t.seats → (seat_at (reacted y r t) y).heard ≡ (seat_at t y).heard
reacted_heard y r t h = put_heard y (map untagged r.put) (withdrawn_if y r.withdraw t) (still_given y r.withdraw t h) ∙ withdrawn_heard y r.withdraw t h

pub reacted_known : (begun : List Message) (y : ℕ) (r : Reaction) (t : Traffic) → y < length t.seats → AreKnown begun (seat_at t y).queue → AreKnown begun (seat_at (reacted y r t) y).queue
reacted_known begun y r t h k =
    subst (AreKnown begun) (sym (reacted_queue y r t h)) (known_put begun (kept_if r.withdraw (seat_at t y).queue) r.put (known_if begun r.withdraw (seat_at t y).queue k))

-- the machine's queue after it
abbrev pub asked_with : ℕ → Bool → ℕ → Option ℕ → List Item → List Item
asked_with y claims n held asked = if claims then claim_alone y n held else asked

kept_asked : (begun : List Message) (y n : ℕ) (held : Option ℕ) (frames : List FrameValue) (qs : List QueuedFrame) (claims : Bool)
    → all_plain y n (frames ++ claims_of claims n held) ++ reverse (map (queued_item begun y n) (kept_if claims qs))
    ≡ all_plain y n frames ++ asked_with y claims n held (reverse (map (queued_item begun y n) qs))
kept_asked begun y n held frames qs true = append-nil (all_plain y n (frames ++ claims_of true n held)) ∙ plain_append y n frames (claims_of true n held)
kept_asked begun y n held frames qs false = ap (λ (l : List FrameValue). all_plain y n l ++ reverse (map (queued_item begun y n) qs)) (append-nil frames)

pub reacted_asked : (begun : List Message) (y : ℕ) (r : Reaction) (t : Traffic) (n : ℕ) (claims : Bool) (held : Option ℕ) (a : Answers r n claims held) → y < length t.seats → (seat_at t y).name ≡ n
    → queue_of begun y (seat_at (reacted y r t) y) ≡ all_plain y n a.frames ++ asked_with y claims n held (queue_of begun y (seat_at t y))
reacted_asked begun y r t n claims held a h named =
    ap₂ (λ (m : ℕ) (qs : List QueuedFrame). reverse (map (queued_item begun y m) qs)) ((own_reacted y r t).name ∙ named) (reacted_queue y r t h)
    ∙ (queue_put begun y n (kept_if r.withdraw (seat_at t y).queue) r.put
    ∙ (ap₂ (λ (fs : List FrameValue) (b : Bool). all_plain y n fs ++ reverse (map (queued_item begun y n) (kept_if b (seat_at t y).queue))) a.puts a.withdraws
    ∙ (kept_asked begun y n held a.frames (seat_at t y).queue claims
    ∙ ap (λ (m : ℕ). all_plain y n a.frames ++ asked_with y claims n held (reverse (map (queued_item begun y m) (seat_at t y).queue))) (sym named))))

-- ---- what a station passes over

map-reverse : {A B : Type 0} (f : A → B) (xs : List A) → map f (reverse xs) ≡ reverse (map f xs)
map-reverse f [] = refl
map-reverse f (x ∷ xs) =
    ap (map f) (reverse-append (x ∷ []) xs)
    ∙ (map-append f (reverse xs) (x ∷ []) ∙ (ap (λ l. l ++ f x ∷ []) (map-reverse f xs) ∙ sym (reverse-append (f x ∷ []) (map f xs))))

-- the next items of the wire after those that the station has, newest first
pub record Passed (y : ℕ) (s : State) (k : ℕ) (es : List Item) : Type 0 where
  pub ahead : List Item
  pub wire : reverse (items_of s) ≡ ahead ++ (es ++ passed (path_at s y))
  pub passed' : es ++ passed (path_at s y) ≡ reverse (take ((seat_at s.traffic y).heard + k) (items_of s))
  pub within : (seat_at s.traffic y).heard + k ≤ length (items_of s)

pub passed_of : (r : Settings) (y : ℕ) (s : State) (seats : List Seat) (k : ℕ) → Stands r s seats → y < length s.stations → k ≤ length (not_yet_read s.traffic y)
    → Passed y s k (map (item_of s) (reverse (take k (not_yet_read s.traffic y))))
passed_of r y s seats k stands given l = record {
  ahead = reverse (drop k (drop h xs));
  wire = ap reverse (sym cut) ∙ (reverse-append (take h xs ++ take k (drop h xs)) (drop k (drop h xs)) ∙ ap (λ ys. reverse (drop k (drop h xs)) ++ ys) (reverse-append (take h xs) (take k (drop h xs)) ∙ sym (ap₂ ◌++◌ front post.passed')));
  passed' = ap₂ ◌++◌ front post.passed' ∙ (sym (reverse-append (take h xs) (take k (drop h xs))) ∙ ap reverse (sym (take-add h k xs)));
  within = (let d = length-drop h s.traffic.wire in let w = post.within in let n = length-map s.traffic.wire (item_of s) in omega arith);
}
  where
    post : IsPost (setting_at r y) s.begun (items_of s) (seat_at s.traffic y) (path_at s y)
    post = stands.posts y given

    h : ℕ
    h = (seat_at s.traffic y).heard

    xs : List Item
    xs = items_of s

    front : map (item_of s) (reverse (take k (not_yet_read s.traffic y))) ≡ reverse (take k (drop h xs))
    front = map-reverse (item_of s) (take k (not_yet_read s.traffic y)) ∙ ap reverse (sym (take-map (item_of s) k (not_yet_read s.traffic y)) ∙ ap (take k) (sym (drop-map (item_of s) h s.traffic.wire)))

    cut : take h xs ++ take k (drop h xs) ++ drop k (drop h xs) ≡ xs
    cut = append_assoc (take h xs) (take k (drop h xs)) (drop k (drop h xs)) ∙ (ap (λ ys. take h xs ++ ys) (take-append-drop k (drop h xs)) ∙ take-append-drop h xs)

-- ---- the state after a reading

-- a station's seat is one of the bus
pub seat_given : (r : Settings) (y : ℕ) (s : State) (seats : List Seat) → Stands r s seats → y < length s.stations → y < length s.traffic.seats
seat_given r y s seats stands given = let c = stands.count in omega arith

read_heard : (y : ℕ) (x : Reading) (s : State) → y < length s.traffic.seats → seat_at (taken y x s.traffic) y ≡ hearing (passes x) (seat_at s.traffic y)
read_heard y x s h = set_at y s.traffic (hearing (passes x) (seat_at s.traffic y)) h

own_read : (y : ℕ) (x : Reading) (s : State) → OwnChange y s.traffic (reacted y (station_reaction (table_at s y) x) (taken y x s.traffic))
own_read y x s = own_then y s.traffic (taken y x s.traffic) _ (own_heard y (passes x) s.traffic) (own_reacted y (station_reaction (table_at s y) x) (taken y x s.traffic))

station_reads : (y : ℕ) (x : Reading) (s : State) → OwnStation y s (after_read y x s)
unfolding after_read
station_reads y x s = station_set y s (after_read y x s) (station_read y x s) refl

read_path : (y : ℕ) (x : Reading) (s : State) → y < length s.stations → path_at (after_read y x s) y ≡ path_after y x s
read_path y x s given = ap (λ (v : StationState). v.path) (read_own y x s given)

-- with what it passed over
pub read_stands : (r : Settings) (y : ℕ) (s : State) (seats : List Seat) (x : Reading) (es : List Item) → Stands r s seats → y < length s.stations → Passed y s (passes x) es → passed (path_after y x s) ≡ es ++ passed (path_at s y)
    → Stands r (after_read y x s) seats
unfolding after_read
read_stands r y s seats x es stands h p path =
    stands_own r y s (after_read y x s) seats stands h (own_read y x s) (station_reads y x s) refl refl (record {
      name = (own_read y x s).name ∙ post.name;
      live = (own_read y x s).live ∙ post.live;
      known = reacted_known s.begun y (station_reaction (table_at s y) x) (taken y x s.traffic) some (subst (λ (v : SeatValue). AreKnown s.begun v.queue) (sym (read_heard y x s given)) post.known);
      within = subst (λ (n : ℕ). n ≤ length (items_of s)) (sym heard) p.within;
      passed' = ap passed (read_path y x s h) ∙ (path ∙ (p.passed' ∙ ap (λ (n : ℕ). reverse (take n (items_of s))) (sym heard)));
    })
  where
    post : IsPost (setting_at r y) s.begun (items_of s) (seat_at s.traffic y) (path_at s y)
    post = stands.posts y h

    given : y < length s.traffic.seats
    given = seat_given r y s seats stands h

    some : y < length (taken y x s.traffic).seats
    some = subst (λ (n : ℕ). y < n) (sym (own_heard y (passes x) s.traffic).places) given

    heard : (seat_at (reacted y (station_reaction (table_at s y) x) (taken y x s.traffic)) y).heard ≡ (seat_at s.traffic y).heard + passes x
    heard = reacted_heard y (station_reaction (table_at s y) x) (taken y x s.traffic) some ∙ ap (λ (v : SeatValue). v.heard) (read_heard y x s given)

-- ---- the world after a reading

-- a state whose bus has changed at a station's seat alone, and its stations in that one
pub world_own : (r : Settings) (y : ℕ) (s t : State) (seats : List Seat) (asked : List Item) (path : List Reception) → Stands r s seats → OwnChange y s.traffic t.traffic → OwnStation y s t → t.begun ≡ s.begun
    → queue_of s.begun y (seat_at t.traffic y) ≡ asked → path_at t y ≡ path
    → world_of r t seats ≡ world_with_station (world_of r s seats) y (station_with (setting_at r y) asked path)
world_own r y s t seats asked path stands own st begun queue way =
    world_parts (stations_set r s t y asked path (ap (λ (b : List Message). queue_of b y (seat_at t.traffic y)) begun ∙ queue) way (λ i n l. others_same y s t own st begun i n)) (items_own r y s t seats stands own begun) begun

-- what is asked after a reading
read_asked : (r : Settings) (y : ℕ) (s : State) (seats : List Seat) (x : Reading) (claims : Bool) (held : Option ℕ) (a : Answers (station_reaction (table_at s y) x) (setting_at r y).name claims held) → Stands r s seats → y < length s.stations
    → queue_of s.begun y (seat_at (reacted y (station_reaction (table_at s y) x) (taken y x s.traffic)) y) ≡ all_plain y (setting_at r y).name a.frames ++ asked_with y claims (setting_at r y).name held (queue_of s.begun y (seat_at s.traffic y))
read_asked r y s seats x claims held a stands h =
    reacted_asked s.begun y (station_reaction (table_at s y) x) (taken y x s.traffic) (setting_at r y).name claims held a some ((own_heard y (passes x) s.traffic).name ∙ (stands.posts y h).name)
    ∙ ap (λ (v : SeatValue). all_plain y (setting_at r y).name a.frames ++ asked_with y claims (setting_at r y).name held (queue_of s.begun y v)) (read_heard y x s given)
  where
    given : y < length s.traffic.seats
    given = seat_given r y s seats stands h

    some : y < length (taken y x s.traffic).seats
    some = subst (λ (n : ℕ). y < n) (sym (own_heard y (passes x) s.traffic).places) given

pub read_world : (r : Settings) (y : ℕ) (s : State) (seats : List Seat) (x : Reading) (path : List Reception) (claims : Bool) (held : Option ℕ) (a : Answers (station_reaction (table_at s y) x) (setting_at r y).name claims held) → Stands r s seats
    → y < length s.stations → path_after y x s ≡ path
    → world_of r (after_read y x s) seats
    ≡ world_with_station (world_of r s seats) y (station_with (setting_at r y) (all_plain y (setting_at r y).name a.frames ++ asked_with y claims (setting_at r y).name held (queue_of s.begun y (seat_at s.traffic y))) path)
unfolding after_read
read_world r y s seats x path claims held a stands h way =
    world_own r y s (after_read y x s) seats _ path stands (own_read y x s) (station_reads y x s) refl (read_asked r y s seats x claims held a stands h) (read_path y x s h ∙ way)

-- ---- what a station answers

-- its claimer is the one that it heard
heard_name : (r : Settings) (y : ℕ) (s : State) → AtStation r y s → (table_at s y).claimer.name ≡ (setting_at r y).name
heard_name r y s at = ap (λ (c : ClaimerValue). c.name) at.claims ∙ claimer_name (station_of_at r y) (readings (path_at s y))

pub heard_holds : (r : Settings) (y : ℕ) (s : State) → IsFit (station_of_at r y) → AtStation r y s → CanHold (table_at s y).claimer.held
unfolding address_heard
heard_holds r y s fit at = subst (λ (c : ClaimerValue). CanHold c.held) (sym at.claims) (address_hold (station_of_at r y) (readings (path_at s y)) fit)

pub heard_held : (r : Settings) (y : ℕ) (s : State) → AtStation r y s → (table_at s y).claimer.held ≡ address_heard (station_of_at r y) (readings (path_at s y))
unfolding address_heard
heard_held r y s at = ap (λ (c : ClaimerValue). c.held) at.claims

frame_answers : (r : Settings) (y : ℕ) (s : State) (f : FrameValue) → IsFit (station_of_at r y) → AtStation r y s
    → Answers (station_reaction (table_at s y) (reading.Frame f)) (setting_at r y).name (is_contest (setting_at r y).name (address_heard (station_of_at r y) (readings (path_at s y))) (group_of f)) (address_heard (station_of_at r y) (reading.Frame f ∷ readings (path_at s y)))
unfolding address_heard
frame_answers r y s f fit at =
    subst (λ (c : ClaimerValue). Answers (group_reaction (table_at s y) (group_of f)) (setting_at r y).name (is_contest (setting_at r y).name c.held (group_of f)) (claimer_after (group_of f) c).held) at.claims
    (group_answers (setting_at r y).name (table_at s y) (group_of f) (heard_name r y s at) fit.name (heard_holds r y s fit at) (sender_below f))

missed_answers : (r : Settings) (y : ℕ) (s : State) (n : ℕ) → IsFit (station_of_at r y) → AtStation r y s → Answers (station_reaction (table_at s y) (reading.Gap n)) (setting_at r y).name true (address_heard (station_of_at r y) (readings (path_at s y)))
missed_answers r y s n fit at =
    subst₂ (λ (m : ℕ) (held : Option ℕ). Answers (station_reaction (table_at s y) (reading.Gap n)) m true held) (heard_name r y s at) (heard_held r y s at) (gap_answers (table_at s y).claimer (heard_holds r y s fit at))

-- ---- a frame, and a gap

-- the station is one of the machine's
pub at_post : (r : Settings) (y : ℕ) (s : State) (seats : List Seat) → Stands r s seats → y < length s.stations → IsAt (world_of r s seats) y (world_station s y (setting_at r y))
at_post r y s seats stands h = station_is r s y (setting_at r y) (slice_get-get_or r.stations y no_setting (subst (λ (n : ℕ). y < n) stands.settings h))

-- a step of the machine to the state, which stands
abbrev pub Runs : Settings → State → State → List Seat → Type 0
Runs r s t seats = (event : MachineEvent) × Step (world_of r s seats) event (world_of r t seats) × Stands r t seats

frame_runs : (r : Settings) (y : ℕ) (s : State) (seats : List Seat) (c : CarriedFrame) (cs : List CarriedFrame) → not_yet_read s.traffic y ≡ c ∷ cs → IsFit (station_of_at r y) → Stands r s seats → y < length s.stations → AtStation r y s
    → Runs r s (after_read y (reading.Frame c.frame) s) seats
frame_runs r y s seats c cs e fit stands h at = (
  Reads y a.frames,
  (
    world_station s y (setting_at r y),
    item_of s c,
    p.ahead,
    at_post r y s seats stands h,
    p.wire,
    a.may,
    read_world r y s seats (reading.Frame c.frame) (Received (item_of s c) ∷ path_at s y) _ _ a stands h path,
  ),
  read_stands r y s seats (reading.Frame c.frame) (item_of s c ∷ []) stands h p (ap passed path),
)
  where
    a : Answers (station_reaction (table_at s y) (reading.Frame c.frame)) (setting_at r y).name (is_contest (setting_at r y).name (address_heard (station_of_at r y) (readings (path_at s y))) (group_of c.frame)) (address_heard (station_of_at r y) (reading.Frame c.frame ∷ readings (path_at s y)))
    a = frame_answers r y s c.frame fit at

    path : path_after y (reading.Frame c.frame) s ≡ Received (item_of s c) ∷ path_at s y
    path = rw e refl

    p : Passed y s 1 (item_of s c ∷ [])
    p = subst (λ (l : List CarriedFrame). Passed y s 1 (map (item_of s) (reverse (take 1 l)))) e (passed_of r y s seats 1 stands h (rw e (omega arith)))

gap_runs : (r : Settings) (y : ℕ) (s : State) (seats : List Seat) (n : ℕ) → n ≤ length (not_yet_read s.traffic y) → IsFit (station_of_at r y) → Stands r s seats → y < length s.stations → AtStation r y s → Runs r s (after_read y (reading.Gap n) s) seats
gap_runs r y s seats n l fit stands h at = (
  Miss y n a.frames,
  (world_station s y (setting_at r y), es, p.ahead, at_post r y s seats stands h, long, p.wire, may, read_world r y s seats (reading.Gap n) (Missed es ∷ path_at s y) true _ a stands h refl),
  read_stands r y s seats (reading.Gap n) es stands h p refl,
)
  where
    es : List Item
    es = map (item_of s) (reverse (take n (not_yet_read s.traffic y)))

    a : Answers (station_reaction (table_at s y) (reading.Gap n)) (setting_at r y).name true (address_heard (station_of_at r y) (readings (path_at s y)))
    a = missed_answers r y s n fit at

    may : AllMaySend (setting_at r y).name (address_heard (station_of_at r y) (reading.Gap (length es) ∷ readings (path_at s y))) a.frames
    may = subst (λ (held : Option ℕ). AllMaySend (setting_at r y).name held a.frames) (sym (address_gap (station_of_at r y) (length es) (readings (path_at s y)))) a.may

    p : Passed y s n es
    p = passed_of r y s seats n stands h l

    long : length es ≡ n
    long = length-map (reverse (take n (not_yet_read s.traffic y))) (item_of s) ∙ (length-reverse (take n (not_yet_read s.traffic y)) ∙ length-take-le n (not_yet_read s.traffic y) l)

-- a reading is a step of the machine
pub read_runs : (r : Settings) (y : ℕ) (s : State) (seats : List Seat) (x : Reading) → IsFit (station_of_at r y) → Stands r s seats → y < length s.stations → AtStation r y s → Fits s (Read y x) → Runs r s (after (Read y x) s) seats
read_runs r y s seats x fit stands h at fits = go x (next_is s.traffic y x fits.1 fits.2)
  where
    go : (x : Reading) → Next s.traffic y x → Runs r s (after_read y x s) seats
    go x (One c cs e) = frame_runs r y s seats c cs e fit stands h at
    go x (Over n l) = gap_runs r y s seats n l fit stands h at
