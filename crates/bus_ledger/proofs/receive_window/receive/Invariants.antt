use Rattle.std.proofs.Common.{ℕ, ◌≡◌, ◌<◌, ◌≤◌}
use Rattle.bus_ledger.specs.Window.{taken_in, window_in}
use Rattle.bus_ledger.proofs.receive_window.receive.Given as goal

-- the windows before the index have taken the frame in, those from it on are as they were
abbrev pub invariant-loop-station : goal.invariant-loop-station
invariant-loop-station l =
    ((y : ℕ) → y < l.station → window_in l.receive_windows y ≡ taken_in y l.seat l.frame (window_in l.initial.receive_windows y))
    × ((y : ℕ) → l.station ≤ y → window_in l.receive_windows y ≡ window_in l.initial.receive_windows y)
