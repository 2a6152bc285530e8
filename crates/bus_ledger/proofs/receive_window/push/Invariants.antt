use Rattle.std.proofs.Common.{ℕ, ◌≡◌, ◌<◌, ◌≤◌}
use Rattle.bus_ledger.specs.Window.{pushed, window_in}
use Rattle.bus_ledger.proofs.receive_window.push.Given as goal

-- the frame came into the windows before the index, those from it on are as they were
abbrev pub invariant-loop-receive_window : goal.invariant-loop-receive_window
invariant-loop-receive_window l =
    ((y : ℕ) → y < l.receive_window-index → window_in l.receive_windows y ≡ pushed l.frame (window_in l.initial.receive_windows y))
    × ((y : ℕ) → l.receive_window-index ≤ y → window_in l.receive_windows y ≡ window_in l.initial.receive_windows y)
