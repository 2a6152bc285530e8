-- A unit that hears its next frame takes the step of the law's machine.
use Rattle.std.proofs.Common.{ℕ, suc, ◌≡◌, ◌+◌, ◌-◌, ◌<◌, List, ◌∷◌, ◌++◌, reverse, drop, length, get_or, set, slice_get, true, Option, Some, None, option_map, refl, sym, ap, ◌∙◌, subst, arith}
use Rattle.std.proofs.lemmas.Option.{slice_get-get_or, slice_get-map}
use Rattle.can_frame.specs.FrameValue.{FrameValue}
use Rattle.parameter_group.specs.Group.{Group, group_of}
use Rattle.fault_memory.specs.Memory.{MemoryValue, IsLawfulMemory}
use Rattle.bus_ledger.specs.BusValue.{SeatValue, Traffic, seat_at}
use Rattle.bus_ledger.specs.Changes.{hearing, heard_more, with_seat}
use Rattle.bus_ledger.specs.declared.traffic.CarriedFrame.{CarriedFrame}
use Rattle.bus_model.specs.Messages.{Message}
use Rattle.bus_model.specs.Traffic.{Item}
use Rattle.bus_model.specs.Machine as machine
use Rattle.bus_model.specs.Machine.{Answer, Seat, Step, World, with_heard}
use Rattle.node_core.specs.declared.heard.Answer.{Answer as UnitAnswer}
use Rattle.node_core.specs.Deed.{Deed, begun_of, withdraw_of}
use Rattle.node_core.specs.Laws.{IsLawfulDeed, reaction_is_lawful}
use Rattle.node_core.specs.Reaction.{reaction}
use Rattle.node_core.specs.declared.heard.Begun.{Begun}
use Rattle.parameter_group.specs.Laws.{sender_below}
use Rattle.journal.specs.State.{Settings, State, UnitState, new_unit}
use Rattle.journal.specs.Steps.{after, after_hear_of, begun_after, item_of, message_begun, put_all, withdrawn_by}
use Rattle.journal.specs.Fits.{Fits}
use Rattle.journal.specs.Worlds.{items_of, world_of}
use Rattle.journal.specs.declared.event.Event.TheVariants.{Hear}
use Rattle.journal.proofs.Seated.{IsSeat, Stands, no_seat}
use Rattle.journal.proofs.Changed.{began_stands, began_world, changed, changed_stands, changed_world}
use Rattle.journal.proofs.Coming.{unit_place}
use Rattle.journal.proofs.Queues.{IsSameSeat}
use Rattle.journal.proofs.Answers.{answer_of, deed_may}
use Rattle.journal.proofs.Doing.{answered_is, answered_number, begun_is, deed_seat, kept_by, puts_of, seat_answered, unit_after}
use Rattle.journal.proofs.Places.{around_at, found_at, put_in_place, puts, puts_queue, puts_same, seat_hears, then_same, withdrawn_in_place, withdraws, withdraws_queue, withdraws_same}

-- the state with one seat changed is the world with it
pub record IsLanded (r : Settings) (s : State) (seats : List Seat) (i : ℕ) (y : SeatValue) (u : UnitState) (x : Seat) (begun : List Message) : Type 0 where
  pub stands : Stands r (changed s i y u begun) (set seats i x)
  pub world : ◌≡◌ {A = World} (world_of r (changed s i y u begun) (set seats i x)) (record (world_of r s seats) { seats = set seats i x; begun = begun })

pub landed : (r : Settings) (s : State) (seats : List Seat) (i : ℕ) (y : SeatValue) (u : UnitState) (x : Seat) (memory : MemoryValue) (b : Option Begun) → Stands r s seats → i < length s.units → y.name ≡ (seat_at s.traffic (length s.stations + i)).name
    → IsSeat (begun_after s.begun (length s.stations + i) (seat_at s.traffic (length s.stations + i)).name memory b) (items_of s) y u x → x.number ≡ length s.stations + i → IsLanded r s seats i y u x (begun_after s.begun (length s.stations + i) (seat_at s.traffic (length s.stations + i)).name memory b)
landed r s seats i y u x memory None st l e seat number = record {
  stands = changed_stands r s seats i y u x st l e seat number;
  world = changed_world r s seats i y u x st l e;
}
landed r s seats i y u x memory (Some b) st l e seat number =
    let m = message_begun (length s.begun) (length s.stations + i) (seat_at s.traffic (length s.stations + i)).name memory b in
    record {
      stands = began_stands r s seats i y u x m st l e refl seat number;
      world = began_world r s seats i y u x m st l e refl;
    }

-- the seat after the deed
abbrev pub seat_after : State → ℕ → Deed → SeatValue
seat_after s i d = puts (puts_of (get_or s.units i (new_unit 0 0)) (length s.begun) d) (withdraws (withdraw_of d) (hearing 1 (seat_at s.traffic (length s.stations + i))))

-- the state after the deed
abbrev pub state_after : State → ℕ → MemoryValue → Group → Deed → State
state_after s i memory g d =
    changed s i (seat_after s i d) (unit_after (get_or s.units i (new_unit 0 0)) g (length s.begun) d) (begun_after s.begun (length s.stations + i) (seat_at s.traffic (length s.stations + i)).name memory (begun_of d))

-- what stands in the seat's place
traffic_after : (s : State) (i : ℕ) (d : Deed) → length s.stations + i < length s.traffic.seats
    → put_all (length s.stations + i) (puts_of (get_or s.units i (new_unit 0 0)) (length s.begun) d) (withdrawn_by (length s.stations + i) (withdraw_of d) (heard_more (length s.stations + i) 1 s.traffic)) ≡ with_seat s.traffic (length s.stations + i) (seat_after s i d)
traffic_after s i d l =
    let v : SeatValue = hearing 1 (seat_at s.traffic (length s.stations + i)) in
    ap (put_all (length s.stations + i) (puts_of (get_or s.units i (new_unit 0 0)) (length s.begun) d)) (withdrawn_in_place (length s.stations + i) (withdraw_of d) s.traffic v l)
    ∙ put_in_place (length s.stations + i) (puts_of (get_or s.units i (new_unit 0 0)) (length s.begun) d) s.traffic (withdraws (withdraw_of d) v) l

heard_state : (s : State) (i : ℕ) (memory : MemoryValue) (answered : UnitAnswer) (f : FrameValue) → length s.stations + i < length s.traffic.seats
    → after_hear_of (Some f) (length s.stations + i) memory answered s ≡ state_after s i memory (group_of f) (reaction (get_or s.units i (new_unit 0 0)).node memory answered f)
unfolding after_hear_of
heard_state s i memory answered f l =
    let one : length s.stations + i - length s.stations ≡ i = omega arith in
    rw one (ap (λ (t : Traffic). record (state_after s i memory (group_of f) (reaction (get_or s.units i (new_unit 0 0)).node memory answered f)) { traffic = t }) (traffic_after s i (reaction (get_or s.units i (new_unit 0 0)).node memory answered f) l))

-- the deed after the frame of that item
hear_deed : (r : Settings) (s : State) (seats : List Seat) (i : ℕ) (memory : MemoryValue) (e : Item) (d : Deed) → Stands r s seats → length s.stations + i < length s.traffic.seats → (seat_at s.traffic (length s.stations + i)).live ≡ true → IsLawfulMemory memory
    → slice_get (items_of s) (seat_at s.traffic (length s.stations + i)).heard ≡ Some e → IsLawfulDeed (get_or s.units i (new_unit 0 0)).node memory (group_of e.frame) d
    → (seats' : List Seat) × (answer : Answer) × Step (world_of r s seats) (machine.Hear i answer) (world_of r (state_after s i memory (group_of e.frame) d) seats') × Stands r (state_after s i memory (group_of e.frame) d) seats'
hear_deed r s seats i memory e d st l live memory_is at lawful =
    let count = st.count in
    let places = st.places in
    let v : SeatValue = seat_at s.traffic (length s.stations + i) in
    let u : UnitState = get_or s.units i (new_unit 0 0) in
    let x : Seat = get_or seats i no_seat in
    let g : Group = group_of e.frame in
    let seat : IsSeat s.begun (items_of s) v u x = st.seated i (omega arith) in
    let heard = seat_hears s.begun (items_of s) v u x e seat at in
    let qs = puts_of u (length s.begun) d in
    let left = withdraws (withdraw_of d) (hearing 1 v) in
    let y : SeatValue = seat_after s i d in
    let same : IsSameSeat (hearing 1 v) y = then_same (hearing 1 v) left y (withdraws_same (withdraw_of d) (hearing 1 v)) (puts_same qs left) in
    let queue : y.queue ≡ kept_by (withdraw_of d) v.queue ++ qs = puts_queue qs left ∙ ap (λ l. l ++ qs) (withdraws_queue (withdraw_of d) (hearing 1 v)) in
    let number : x.number ≡ length s.stations + i = st.numbers i (omega arith) in
    let after_deed = deed_seat s.begun (items_of s) (hearing 1 v) y u (with_heard x e) g memory d heard lawful same queue in
    let land = landed r s seats i y (unit_after u g (length s.begun) d) (seat_answered (length s.begun) (with_heard x e) (answer_of d)) memory (begun_of d) st (omega arith) same.name
    (subst (λ (k : ℕ). IsSeat (begun_after s.begun k v.name memory (begun_of d)) (items_of s) y (unit_after u g (length s.begun) d) (seat_answered (length s.begun) (with_heard x e) (answer_of d))) number after_deed)
    (answered_number (length s.begun) (with_heard x e) (answer_of d) ∙ number) in
    let w : World = world_of r s seats in (
      set seats i (seat_answered (length s.begun) (with_heard x e) (answer_of d)),
      answer_of d,
      (
        x,
        e,
        reverse (drop (suc v.heard) (items_of s)),
        (slice_get-get_or seats i no_seat (omega arith), seat.live ∙ live),
        around_at (items_of s) v.heard e at ∙ ap (λ (h : List Item). reverse (drop (suc v.heard) (items_of s)) ++ e ∷ h) (sym seat.heard),
        deed_may w (items_of s) (hearing 1 v) u (with_heard x e) g memory d heard (sender_below e.frame) memory_is lawful,
        land.world
            ∙ (ap (λ (b : List Message). record w { seats = set seats i (seat_answered (length s.begun) (with_heard x e) (answer_of d)); begun = b }) (begun_is s.begun u g (length s.stations + i) x.number v.name x.name memory d lawful number seat.unit.name)
            ∙ sym (answered_is w i (with_heard x e) (answer_of d))),
      ),
      land.stands,
    )

-- a unit's next frame
pub hear_at : (r : Settings) (s : State) (seats : List Seat) (i : ℕ) (memory : MemoryValue) (answered : UnitAnswer) → Stands r s seats → Fits s (Hear (length s.stations + i) memory answered)
    → (seats' : List Seat) × (answer : Answer) × Step (world_of r s seats) (machine.Hear i answer) (world_of r (after (Hear (length s.stations + i) memory answered) s) seats') × Stands r (after (Hear (length s.stations + i) memory answered) s) seats'
hear_at r s seats i memory answered st fits =
    let count = st.count in
    let l : length s.stations + i < length s.traffic.seats = fits.0.1 in
    let u : UnitState = get_or s.units i (new_unit 0 0) in
    let seat = st.seated i (omega arith) in
    let found = found_at s.traffic.wire (seat_at s.traffic (length s.stations + i)).heard fits.1 in
    let c : CarriedFrame = found.0 in
    let at : slice_get (items_of s) (seat_at s.traffic (length s.stations + i)).heard ≡ Some (item_of s c) =
    slice_get-map (item_of s) s.traffic.wire (seat_at s.traffic (length s.stations + i)).heard ∙ ap (option_map (item_of s)) found.1 in
    let lawful = reaction_is_lawful u.node memory answered (group_of c.frame) seat.unit.holdable in
    let is : after (Hear (length s.stations + i) memory answered) s ≡ state_after s i memory (group_of c.frame) (reaction u.node memory answered c.frame) =
    ap (λ (o : Option FrameValue). after_hear_of o (length s.stations + i) memory answered s) (ap (option_map (λ (x : CarriedFrame). x.frame)) found.1) ∙ heard_state s i memory answered c.frame l in
    subst (λ (t : State). (seats' : List Seat) × (answer : Answer) × Step (world_of r s seats) (machine.Hear i answer) (world_of r t seats') × Stands r t seats') (sym is)
    (hear_deed r s seats i memory (item_of s c) (reaction u.node memory answered c.frame) st l fits.0.2 fits.2 at lawful)

-- a unit that hears takes a step of the machine
pub hear_runs : (r : Settings) (s : State) (seats : List Seat) (k : ℕ) (memory : MemoryValue) (answered : UnitAnswer) → Stands r s seats → Fits s (Hear k memory answered)
    → (seats' : List Seat) × (answer : Answer) × Step (world_of r s seats) (machine.Hear (k - length s.stations) answer) (world_of r (after (Hear k memory answered) s) seats') × Stands r (after (Hear k memory answered) s) seats'
hear_runs r s seats k memory answered st fits =
    let at : length s.stations + (k - length s.stations) ≡ k = unit_place r s seats k st fits.0 in
    subst (λ (n : ℕ). (seats' : List Seat) × (answer : Answer) × Step (world_of r s seats) (machine.Hear (k - length s.stations) answer) (world_of r (after (Hear n memory answered) s) seats') × Stands r (after (Hear n memory answered) s) seats') at
    (hear_at r s seats (k - length s.stations) memory answered st (subst (λ (n : ℕ). Fits s (Hear n memory answered)) (sym at) fits))
