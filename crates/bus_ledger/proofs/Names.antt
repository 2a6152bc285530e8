-- Whether a live seat has a NAME.
use Rattle.std.proofs.Common.{ℕ, suc, zero, ◌≡◌, ◌≢◌, ◌<◌, List, [], ◌∷◌, map, length, get_or, Bool, true, false, ◌&&◌, ◌==◌, ◌||◌, nat_eq, eq-eqb, refl, sym, ap, ◌∙◌, subst, arith, Some, None, nat_le, ◌≤◌, ◌-◌, ◌+◌}
use Rattle.std.specs.List.{list_any}
use Rattle.std.proofs.lemmas.Bool.{ne_eqb}
use Rattle.bus_ledger.specs.BusValue.{SeatValue, SeatBook, book_at}
use Rattle.bus_ledger.specs.Inside.{seat_of, traffic_of, live_numbers, IsKept}
use Rattle.bus_ledger.specs.Newcomers.{is_in_use, live_units, join_refusal}
use Rattle.bus_ledger.specs.BusValue.{BusValue}
use Rattle.bus_ledger.specs.Inside.{bus_value_of}
use Rattle.bus_ledger.specs.declared.error.BusError.TheVariants.{NameInUse, TooManySeats}
use Rattle.bus_ledger.proofs.Live.{live_count}
use Rattle.bus_ledger.proofs.Taps.{stations_are}
use Rattle.std.proofs.lemmas.Bool.{le-leb, lt-leb}
use Rattle.bus_ledger.specs.declared.bus.Bus.TheInside.{Inside}
use Rattle.bus_ledger.proofs.Live.{live_sound}
use Rattle.bus_ledger.proofs.Offering.{listed}

abbrev is_it : ℕ → SeatValue → Bool
is_it name s = s.live && (s.name == name)

or_true : (b c : Bool) → c ≡ true → (b || c) ≡ true
or_true true c e = refl
or_true false c e = e

any_yes : (name : ℕ) (xs : List SeatBook) (k : ℕ) → k < length xs → is_it name (book_at xs k).seat ≡ true → list_any (is_it name) (map seat_of xs) ≡ true
any_yes name [] k h e = absurd (omega arith)
any_yes name (x ∷ xs) zero h e = rw e refl
any_yes name (x ∷ xs) (suc k) h e = or_true (is_it name x.seat) (list_any (is_it name) (map seat_of xs)) (any_yes name xs k (omega arith) e)

any_no : (name : ℕ) (xs : List SeatBook) → ((k : ℕ) → k < length xs → is_it name (book_at xs k).seat ≡ false) → list_any (is_it name) (map seat_of xs) ≡ false
any_no name [] h = refl
any_no name (x ∷ xs) h =
    let first : is_it name x.seat ≡ false = h 0 (omega arith) in
    rw first (any_no name xs (λ k l. h (suc k) (omega arith)))

pub in_use : (a : Inside) (name : ℕ) → IsKept a → (i : ℕ) → i < length a.live.items → (book_at a.seats.items (get_or a.live.items i 0)).seat.name ≡ name → is_in_use name (traffic_of a) ≡ true
in_use a name kept i h e =
    let h' : i < length (live_numbers 0 a.seats.items) = rw (← kept.live) h in
    let n = get_or a.live.items i 0 in
    let s = live_sound 0 a.seats.items i n h' (ap (λ (l : List ℕ). get_or l i 0) (sym kept.live) ∙ omega arith) in
    let t : nat_eq (book_at a.seats.items n).seat.name name ≡ true = eq-eqb _ _ e in
    any_yes name a.seats.items n s.0 (rw (s.1, t) refl)

free_at : (name : ℕ) (s : SeatValue) (v : Bool) → s.live ≡ v → (s.live ≡ true → s.name ≢ name) → is_it name s ≡ false
free_at name s true e h = let t : nat_eq s.name name ≡ false = ne_eqb s.name name (h e) in rw (e, t) refl
free_at name s false e h = rw e refl

pub not_in_use : (a : Inside) (name : ℕ) → IsKept a → ((i : ℕ) → i < length a.live.items → (book_at a.seats.items (get_or a.live.items i 0)).seat.name ≢ name) → is_in_use name (traffic_of a) ≡ false
not_in_use a name kept none =
    any_no name a.seats.items (λ k h. free_at name (book_at a.seats.items k).seat (book_at a.seats.items k).seat.live refl (λ live e.
    let at = listed a kept k live in
    none at.index at.within (ap (λ (n : ℕ). (book_at a.seats.items n).seat.name) at.is ∙ e)))

-- `may_join` at its three exits
pub refused_name : (a : Inside) (v : BusValue) (name : ℕ) (seats : List SeatBook) (live : List ℕ) → bus_value_of a ≡ v → IsKept a → seats ≡ a.seats.items → live ≡ a.live.items
    → (i : ℕ) × (i < length live) × ((book_at seats (get_or live i 0)).seat.name ≡ name) → Some NameInUse ≡ join_refusal name v.traffic
refused_name a v name seats live is kept es el w =
    let used : is_in_use name (traffic_of a) ≡ true =
    (let P : List SeatBook → List ℕ → Type 0 = λ s l. (i : ℕ) × (i < length l) × ((book_at s (get_or l i 0)).seat.name ≡ name) in
    let w' : P a.seats.items a.live.items = subst (λ (s : List SeatBook). P s a.live.items) es (subst (λ (l : List ℕ). P seats l) el w) in
    in_use a name kept w'.0 w'.1 w'.2) in
    let used' : is_in_use name v.traffic ≡ true = ap (λ (b : BusValue). is_in_use name b.traffic) (sym is) ∙ used in
    rw used' refl

free_name : (a : Inside) (v : BusValue) (name : ℕ) (seats : List SeatBook) (live : List ℕ) → bus_value_of a ≡ v → IsKept a → seats ≡ a.seats.items → live ≡ a.live.items
    → ((i : ℕ) → i < length live → (book_at seats (get_or live i 0)).seat.name ≢ name) → is_in_use name v.traffic ≡ false
free_name a v name seats live is kept es el w =
    let P : List SeatBook → List ℕ → Type 0 = λ s l. (i : ℕ) → i < length l → (book_at s (get_or l i 0)).seat.name ≢ name in
    let w' : P a.seats.items a.live.items = subst (λ (s : List SeatBook). P s a.live.items) es (subst (λ (l : List ℕ). P seats l) el w) in
    ap (λ (b : BusValue). is_in_use name b.traffic) (sym is) ∙ not_in_use a name kept w'

units_are : (a : Inside) (v : BusValue) → bus_value_of a ≡ v → IsKept a → live_units v.traffic ≡ length a.live.items - length a.receive_windows.items
units_are a v is kept = ap (λ (b : BusValue). live_units b.traffic) (sym is) ∙ (ap (λ (n : ℕ). n - length (traffic_of a).windows) (sym (live_count 0 a.seats.items) ∙ ap length (sym kept.live)) ∙ ap (λ (n : ℕ). length a.live.items - n) (stations_are a (bus_value_of a) refl))

pub refused_many : (a : Inside) (v : BusValue) (name : ℕ) (seats : List SeatBook) (live : List ℕ) → bus_value_of a ≡ v → IsKept a → seats ≡ a.seats.items → live ≡ a.live.items
    → ((i : ℕ) → i < length live → (book_at seats (get_or live i 0)).seat.name ≢ name) → length a.receive_windows.items + 64 ≤ length live → Some TooManySeats ≡ join_refusal name v.traffic
refused_many a v name seats live is kept es el w many =
    let free = free_name a v name seats live is kept es el w in
    let n : length live ≡ length a.live.items = ap length el in
    let u = units_are a v is kept in
    let full : nat_le 64 (live_units v.traffic) ≡ true = le-leb 64 (live_units v.traffic) (omega arith) in
    rw (free, full) refl

pub not_refused : (a : Inside) (v : BusValue) (name : ℕ) (seats : List SeatBook) (live : List ℕ) → bus_value_of a ≡ v → IsKept a → seats ≡ a.seats.items → live ≡ a.live.items
    → ((i : ℕ) → i < length live → (book_at seats (get_or live i 0)).seat.name ≢ name) → length live < length a.receive_windows.items + 64 → None ≡ join_refusal name v.traffic
not_refused a v name seats live is kept es el w few =
    let free = free_name a v name seats live is kept es el w in
    let n : length live ≡ length a.live.items = ap length el in
    let u = units_are a v is kept in
    let room : nat_le 64 (live_units v.traffic) ≡ false = lt-leb 64 (live_units v.traffic) (omega arith) in
    rw (free, room) refl
