-- A unit that begins a message of its own accord takes the step of the law's machine.
use Rattle.std.proofs.Common.{ℕ, ◌≡◌, ◌≢◌, ◌+◌, ◌-◌, ◌<◌, List, ◌∷◌, map, length, get_or, set, Bool, true, false, Option, Some, if◌then◌else◌, refl, sym, ap, ap₂, ◌∙◌, subst, arith, inl}
use Rattle.std.proofs.lemmas.List.{set-get_or}
use Rattle.std.proofs.lemmas.Option.{slice_get-get_or}
use Rattle.fault_memory.specs.Memory.{MemoryValue, IsLawfulMemory}
use Rattle.dm_messages.specs.View.{pgn_of_kind, payload_of}
use Rattle.dm_messages.specs.declared.kind.Kind.TheVariants.{Dm1}
use Rattle.bus_ledger.specs.BusValue.{SeatValue, Traffic, seat_at}
use Rattle.bus_ledger.specs.declared.traffic.QueuedFrame.{QueuedFrame}
use Rattle.bus_model.specs.Messages.{Message, payload_sent}
use Rattle.bus_model.specs.Machine as machine
use Rattle.bus_model.specs.Machine.{IsNotOpen, Seat, Step, World, message_at, with_message}
use Rattle.node_core.specs.Beginning.{begins}
use Rattle.node_core.specs.Deed.{parts_begun}
use Rattle.node_core.specs.NodeValue.{is_open}
use Rattle.node_core.specs.declared.heard.Started.{Started}
use Rattle.node_core.specs.declared.heard.Started.TheVariants as started
use Rattle.node_core.specs.declared.session.OpenSession.{OpenSession}
use Rattle.journal.specs.State.{Settings, State, UnitState, new_unit}
use Rattle.journal.specs.Steps.{after, after_begin_of, after_starting, message_begun, put_all, tagged}
use Rattle.journal.specs.Fits.{Fits}
use Rattle.journal.specs.Worlds.{items_of, world_of}
use Rattle.journal.specs.declared.event.Event.TheVariants.{Begin}
use Rattle.journal.proofs.Seated.{IsSeat, Stands, no_seat}
use Rattle.journal.proofs.Changed.{began_stands, began_world, changed}
use Rattle.journal.proofs.Coming.{unit_place}
use Rattle.journal.proofs.Parts.{parts_put}
use Rattle.journal.proofs.Deeds.{seat_begins_to_all}
use Rattle.journal.proofs.Answers.{held_small, not_open}
use Rattle.journal.proofs.Places.{in_place, put_in_place, puts, puts_queue, puts_same}

-- the message begun, under that NAME
abbrev pub message_of : State → ℕ → ℕ → MemoryValue → ℕ → Message
message_of s seat name memory source = record { number = length s.begun; seat = seat; name = name; kind = Dm1; memory = memory; source = source; destination = 255 }

-- the frames queued
abbrev pub frames_of : State → ℕ → MemoryValue → ℕ → List QueuedFrame
frames_of s i memory source =
    parts_put (message_of s (length s.stations + i) (seat_at s.traffic (length s.stations + i)).name memory source) (length s.begun) (get_or s.units i (new_unit 0 0)).session_message false

-- the state after that
abbrev pub state_begun : State → ℕ → MemoryValue → ℕ → State
state_begun s i memory source =
    changed s i (puts (frames_of s i memory source) (seat_at s.traffic (length s.stations + i))) (get_or s.units i (new_unit 0 0)) (message_of s (length s.stations + i) (seat_at s.traffic (length s.stations + i)).name memory source ∷ s.begun)

-- it is not held back where no session of its kind is open
closed_is : (o : Option OpenSession) (memory : MemoryValue) (source : ℕ) → begins o Dm1 memory source ≢ started.Held → is_open o Dm1 ≡ false
closed_is o memory source h = go (is_open o Dm1) h
  where
    go : (b : Bool) → (if b then started.Held else started.Begun (record { kind = Dm1; source = source; dest = 255 }) (parts_begun (payload_of Dm1 memory) (pgn_of_kind Dm1) source 255)) ≢ started.Held → b ≡ false
    go true n = absurd (n refl)
    go false n = refl

begins_is : (o : Option OpenSession) (memory : MemoryValue) (source : ℕ) → is_open o Dm1 ≡ false
    → begins o Dm1 memory source ≡ started.Begun (record { kind = Dm1; source = source; dest = 255 }) (parts_begun (payload_of Dm1 memory) (pgn_of_kind Dm1) source 255)
begins_is o memory source h = ap (λ (b : Bool). if b then started.Held else started.Begun (record { kind = Dm1; source = source; dest = 255 }) (parts_begun (payload_of Dm1 memory) (pgn_of_kind Dm1) source 255)) h

-- the seat and what the unit keeps, in their places
placed : (s : State) (i : ℕ) (memory : MemoryValue) (source : ℕ) → length s.stations + i < length s.traffic.seats
    → record s { traffic = put_all (length s.stations + i) (frames_of s i memory source) s.traffic; begun = message_of s (length s.stations + i) (seat_at s.traffic (length s.stations + i)).name memory source ∷ s.begun } ≡ state_begun s i memory source
placed s i memory source l =
    let v : SeatValue = seat_at s.traffic (length s.stations + i) in
    let qs : List QueuedFrame = frames_of s i memory source in
    ap (λ (t : Traffic). record s { traffic = t; begun = message_of s (length s.stations + i) v.name memory source ∷ s.begun }) (ap (put_all (length s.stations + i) qs) (in_place (length s.stations + i) s.traffic) ∙ put_in_place (length s.stations + i) qs s.traffic v l)
    ∙ ap (λ (us : List UnitState). record (state_begun s i memory source) { units = us }) (sym (set-get_or s.units i (new_unit 0 0)))

-- the state after it, with the number of the unit's last session
abbrev pub begun_by : State → ℕ → ℕ → MemoryValue → Started → State
begun_by s i session_number memory started.Held = s
begun_by s i session_number memory (started.Begun b put) = record s {
  traffic = put_all (length s.stations + i) (map (tagged (length s.begun) false session_number) put) s.traffic;
  begun = message_begun (length s.begun) (length s.stations + i) (seat_at s.traffic (length s.stations + i)).name memory b ∷ s.begun;
}

starting_is : (s : State) (i : ℕ) (memory : MemoryValue) (z : Started) → after_starting (length s.stations + i) memory z s ≡ begun_by s i (get_or s.units i (new_unit 0 0)).session_message memory z
starting_is s i memory started.Held = refl
starting_is s i memory (started.Begun b put) =
    let one : length s.stations + i - length s.stations ≡ i = omega arith in
    ap (λ (n : ℕ). begun_by s i (get_or s.units n (new_unit 0 0)).session_message memory (started.Begun b put)) one

begun_state : (s : State) (i : ℕ) (memory : MemoryValue) (source : ℕ) → length s.stations + i < length s.traffic.seats → (get_or s.units i (new_unit 0 0)).node.claimer.held ≡ Some source → is_open (get_or s.units i (new_unit 0 0)).node.session Dm1 ≡ false
    → after (Begin (length s.stations + i) memory) s ≡ state_begun s i memory source
unfolding after_begin_of payload_sent
begun_state s i memory source l held closed =
    let one : length s.stations + i - length s.stations ≡ i = omega arith in
    ap (λ (o : Option ℕ). after_begin_of o (length s.stations + i) memory s) (ap (λ (n : ℕ). (get_or s.units n (new_unit 0 0)).node.claimer.held) one ∙ held)
    ∙ (ap (λ (n : ℕ). after_starting (length s.stations + i) memory (begins (get_or s.units n (new_unit 0 0)).node.session Dm1 memory source) s) one
    ∙ (ap (λ (z : Started). after_starting (length s.stations + i) memory z s) (begins_is (get_or s.units i (new_unit 0 0)).node.session memory source closed)
    ∙ (starting_is s i memory (started.Begun (record { kind = Dm1; source = source; dest = 255 }) (parts_begun (payload_of Dm1 memory) (pgn_of_kind Dm1) source 255))
    ∙ placed s i memory source l)))

begin_at : (r : Settings) (s : State) (seats : List Seat) (i : ℕ) (memory : MemoryValue) (source : ℕ) → Stands r s seats → length s.stations + i < length s.traffic.seats → (seat_at s.traffic (length s.stations + i)).live ≡ true → IsLawfulMemory memory
    → (get_or s.units i (new_unit 0 0)).node.claimer.held ≡ Some source → is_open (get_or s.units i (new_unit 0 0)).node.session Dm1 ≡ false
    → (seats' : List Seat) × Step (world_of r s seats) (machine.Begin i Dm1 memory source) (world_of r (state_begun s i memory source) seats') × Stands r (state_begun s i memory source) seats'
begin_at r s seats i memory source st l live lawful held closed =
    let count = st.count in
    let places = st.places in
    let v : SeatValue = seat_at s.traffic (length s.stations + i) in
    let u : UnitState = get_or s.units i (new_unit 0 0) in
    let x : Seat = get_or seats i no_seat in
    let w : World = world_of r s seats in
    let m : Message = message_of s (length s.stations + i) v.name memory source in
    let qs = frames_of s i memory source in
    let seat : IsSeat s.begun (items_of s) v u x = st.seated i (omega arith) in
    let begun : IsSeat (m ∷ s.begun) (items_of s) (puts qs v) u (with_message x m) = seat_begins_to_all s.begun (items_of s) v (puts qs v) u x m u.session_message seat (puts_same qs v) refl refl refl (puts_queue qs v) in
    let name : (puts qs v).name ≡ v.name = (puts_same qs v).name in
    let number : x.number ≡ length s.stations + i = st.numbers i (omega arith) in (
      set seats i (with_message x m),
      (
        x,
        (slice_get-get_or seats i no_seat (omega arith), seat.live ∙ live),
        seat.unit.held ∙ held,
        record { memory = lawful; source = held_small u.node.claimer.held source seat.unit.holdable held; destination = inl refl },
        not_open s.begun u.session_message v.name u.node.claimer.held u.node.session x.session Dm1 seat.session closed,
        began_world r s seats i (puts qs v) u (with_message x m) m st (omega arith) name refl
            ∙ ap₂ (λ (k n : ℕ). record w { seats = set seats i (with_message x (message_of s k n memory source)); begun = message_of s k n memory source ∷ s.begun }) (sym number) (sym seat.unit.name),
      ),
      began_stands r s seats i (puts qs v) u (with_message x m) m st (omega arith) name refl begun number,
    )

-- a unit that begins takes a step of the machine
begin_in_place : (r : Settings) (s : State) (seats : List Seat) (i : ℕ) (memory : MemoryValue) → Stands r s seats → Fits s (Begin (length s.stations + i) memory)
    → (seats' : List Seat) × (source : ℕ) × Step (world_of r s seats) (machine.Begin i Dm1 memory source) (world_of r (after (Begin (length s.stations + i) memory) s) seats') × Stands r (after (Begin (length s.stations + i) memory) s) seats'
begin_in_place r s seats i memory st fits =
    let one : length s.stations + i - length s.stations ≡ i = omega arith in
    let from : (a : ℕ) × ((get_or s.units i (new_unit 0 0)).node.claimer.held ≡ Some a) × (begins (get_or s.units i (new_unit 0 0)).node.session Dm1 memory a ≢ started.Held) =
    subst (λ (n : ℕ). (a : ℕ) × ((get_or s.units n (new_unit 0 0)).node.claimer.held ≡ Some a) × (begins (get_or s.units n (new_unit 0 0)).node.session Dm1 memory a ≢ started.Held)) one fits.1 in
    let closed = closed_is (get_or s.units i (new_unit 0 0)).node.session memory from.0 from.2 in
    let step = begin_at r s seats i memory from.0 st fits.0.1 fits.0.2 fits.2 from.1 closed in
    let is = begun_state s i memory from.0 fits.0.1 from.1 closed in
    subst (λ (t : State). (seats' : List Seat) × (source : ℕ) × Step (world_of r s seats) (machine.Begin i Dm1 memory source) (world_of r t seats') × Stands r t seats') (sym is)
    (step.0, from.0, step.1, step.2)

pub begin_runs : (r : Settings) (s : State) (seats : List Seat) (k : ℕ) (memory : MemoryValue) → Stands r s seats → Fits s (Begin k memory)
    → (seats' : List Seat) × (source : ℕ) × Step (world_of r s seats) (machine.Begin (k - length s.stations) Dm1 memory source) (world_of r (after (Begin k memory) s) seats') × Stands r (after (Begin k memory) s) seats'
begin_runs r s seats k memory st fits =
    let at : length s.stations + (k - length s.stations) ≡ k = unit_place r s seats k st fits.0 in
    subst (λ (n : ℕ). (seats' : List Seat) × (source : ℕ) × Step (world_of r s seats) (machine.Begin (k - length s.stations) Dm1 memory source) (world_of r (after (Begin n memory) s) seats') × Stands r (after (Begin n memory) s) seats') at
    (begin_in_place r s seats (k - length s.stations) memory st (subst (λ (n : ℕ). Fits s (Begin n memory)) (sym at) fits))
