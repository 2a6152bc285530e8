-- A bus with its stations alone.
use Rattle.std.proofs.Common.{ℕ, suc, zero, ◌≡◌, ◌+◌, ◌-◌, ◌<◌, ◌≤◌, List, [], ◌∷◌, map, length, get_or, true, refl, sym, ap, ◌∙◌, subst, arith}
use Rattle.std.specs.List.{All}
use Rattle.std.proofs.lemmas.List.{length-map, drop_all}
use Rattle.std.proofs.lemmas.List.Elements.{All-nil, All-get_or}
use Rattle.bus_ledger.specs.BusValue.{SeatValue, SeatBook, Traffic, nobody, book_at, seat_at, spare_at}
use Rattle.bus_ledger.specs.Changes.{HasWindow, new_traffic, seat_of_station, window_of_station}
use Rattle.bus_ledger.specs.Inside.{AreNumbers, AreSeatsOf, AreTapsOf, IsKept, bus_value_of, live_numbers, no_station_seat, seat_of, station_seat_at, traffic_of}
use Rattle.bus_ledger.specs.Ledger.{IsBalanced, IsGiven, IsSound}
use Rattle.bus_ledger.specs.Reception.{not_yet_read, window_at}
use Rattle.bus_ledger.specs.Window.{WindowValue, frame_of, seen_through, size_of, window, window_of}
use Rattle.bus_ledger.specs.declared.bus.Bus.TheInside.{Inside}
use Rattle.bus_ledger.specs.declared.traffic.CarriedFrame.{CarriedFrame}
use Rattle.bus_ledger.specs.declared.traffic.StationSeat.{StationSeat}
use Rattle.bus_ledger.proofs.Seats.{spare_book}
use Rattle.bus_ledger.proofs.Sounds.{balanced_newcomer}

station_seat : (stations : List StationSeat) (y : ℕ) → y < length stations → get_or (map seat_of_station stations) y nobody ≡ seat_of_station (station_seat_at stations y)
station_seat [] y h = absurd (omega arith)
station_seat (s ∷ ss) zero h = refl
station_seat (s ∷ ss) (suc y) h = station_seat ss y (omega arith)

station_window : (stations : List StationSeat) (y : ℕ) → y < length stations → get_or (map window_of_station stations) y 0 ≡ (station_seat_at stations y).window
station_window [] y h = absurd (omega arith)
station_window (s ∷ ss) zero h = refl
station_window (s ∷ ss) (suc y) h = station_window ss y (omega arith)

opened_seats : (seats : List SeatBook) (stations : List StationSeat) → AreSeatsOf seats stations (length stations) → map seat_of seats ≡ map seat_of_station stations
opened_seats [] [] are = refl
opened_seats [] (s ∷ ss) are = absurd (let n = are.0 in omega arith)
opened_seats (b ∷ bs) [] are = absurd (let n = are.0 in omega arith)
opened_seats (b ∷ bs) (s ∷ ss) are =
    let n = are.0 in
    let first : b.seat ≡ seat_of_station s = (are.1 0 (omega arith)).0 in
    let rest = opened_seats bs ss (omega arith, λ y h. are.1 (suc y) (omega arith)) in
    ap (λ (x : SeatValue). x ∷ map seat_of bs) first ∙ ap (λ (l : List SeatValue). seat_of_station s ∷ l) rest

opened_windows : (receive_windows : List WindowValue) (stations : List StationSeat) → AreTapsOf receive_windows stations (length stations) → map size_of receive_windows ≡ map window_of_station stations
opened_windows [] [] are = refl
opened_windows [] (s ∷ ss) are = absurd (let n = are.0 in omega arith)
opened_windows (w ∷ ws) [] are = absurd (let n = are.0 in omega arith)
opened_windows (w ∷ ws) (s ∷ ss) are =
    let n = are.0 in
    let first : w ≡ window s.window [] 0 = are.1 0 (omega arith) in
    let rest = opened_windows ws ss (omega arith, λ y h. are.1 (suc y) (omega arith)) in
    ap (λ (x : WindowValue). x.size ∷ map size_of ws) first ∙ ap (λ (l : List ℕ). s.window ∷ l) rest

-- every seat is live
opened_live : (n : ℕ) (seats : List SeatBook) (numbers : List ℕ) → length numbers ≡ length seats → ((y : ℕ) → y < length seats → (book_at seats y).seat.live ≡ true)
    → ((y : ℕ) → y < length seats → get_or numbers y 0 ≡ n + y) → numbers ≡ live_numbers n seats
opened_live n [] [] e live is = refl
opened_live n [] (m ∷ ms) e live is = absurd (omega arith)
opened_live n (b ∷ bs) [] e live is = absurd (omega arith)
opened_live n (b ∷ bs) (m ∷ ms) e live is =
    let first : b.seat.live ≡ true = live 0 (omega arith) in
    let here : m ≡ n + 0 = is 0 (omega arith) in
    let same : m ≡ n = omega arith in
    let rest = opened_live (suc n) bs ms (omega arith) (λ y h. live (suc y) (omega arith)) (λ y h. let g : get_or ms y 0 ≡ n + suc y = is (suc y) (omega arith) in omega arith) in
    rw first (ap (λ (k : ℕ). k ∷ ms) same ∙ ap (λ (l : List ℕ). n ∷ l) rest)

sound_opened : (stations : List StationSeat) → 0 < length stations → length stations ≤ 8 → All (λ s. HasWindow s.window) stations → IsSound (new_traffic stations)
sound_opened stations some few windows =
    let many = length-map stations window_of_station in
    let seats = length-map stations seat_of_station in
    record {
      some = omega arith;
      few = omega arith;
      stations = λ y h. ap (λ (s : SeatValue). s.live) (station_seat stations y (omega arith));
      windows = λ y h.
          let h' : y < length stations = omega arith in
          subst HasWindow (sym (station_window stations y h')) (All-get_or (λ (s : StationSeat). HasWindow s.window) stations y no_station_seat h' windows);
      senders = All-nil (λ (c : CarriedFrame). IsGiven (length (map seat_of_station stations)) c.seat);
      seats = λ k h.
          subst (IsBalanced [] k) (sym (station_seat stations k (omega arith))) (balanced_newcomer [] k (station_seat_at stations k).name (All-nil (λ (c : CarriedFrame). IsGiven k c.seat)));
    }

-- nothing was seen yet
empty : (n : ℕ) → seen_through n [] ≡ window n [] 0
empty n = let e : 0 - n ≡ 0 = omega arith in rw e refl

pub opened_traffic : (b : Inside) (stations : List StationSeat) → b.wire.carried ≡ [] → AreSeatsOf b.seats.items stations (length stations) → AreTapsOf b.receive_windows.items stations (length stations) → traffic_of b ≡ new_traffic stations
opened_traffic b stations wire seats receive_windows =
    let s = opened_seats b.seats.items stations seats in
    let w = opened_windows b.receive_windows.items stations receive_windows in
    cc

pub opened_kept : (b : Inside) (stations : List StationSeat) → 0 < length stations → length stations ≤ 8 → All (λ s. HasWindow s.window) stations → b.wire.carried ≡ [] → AreSeatsOf b.seats.items stations (length stations)
    → AreNumbers b.live.items (length stations) → AreTapsOf b.receive_windows.items stations (length stations) → IsKept b
opened_kept b stations some few windows wire seats numbers receive_windows =
    let t = opened_traffic b stations wire seats receive_windows in
    let many = seats.0 in
    let as_many = numbers.0 in
    let ring = receive_windows.0 in
    record {
      sound = subst IsSound (sym t) (sound_opened stations some few windows);
      receive_windows = λ y h.
          let h' : y < length stations = omega arith in
          let unread : not_yet_read (new_traffic stations) y ≡ [] = drop_all (seat_at (new_traffic stations) y).heard [] (omega arith) in
          receive_windows.1 y h' ∙ (ap (λ (n : ℕ). window n [] 0) (sym (station_window stations y h'))
          ∙ (sym (ap (λ (us : List CarriedFrame). seen_through (window_at (new_traffic stations) y) (map frame_of us)) unread ∙ empty (window_at (new_traffic stations) y)) ∙ ap (λ (u : Traffic). window_of u y) (sym t)));
      live = opened_live 0 b.seats.items b.live.items (omega arith) (λ y h. ap (λ (s : SeatValue). s.live) (seats.1 y (omega arith)).0) (λ y h. let g = numbers.1 y (omega arith) in omega arith);
      few_seats = omega arith;
      few_frames = let n : length b.wire.carried ≡ 0 = ap length wire in omega arith;
    }

pub opened_room : (b : Inside) (stations : List StationSeat) (y : ℕ) → AreSeatsOf b.seats.items stations (length stations) → y < length stations → 1 ≤ spare_at (bus_value_of b) y
opened_room b stations y seats h = let r = (seats.1 y h).1 in let e = spare_book b.seats.items y in omega arith
