use Rattle.std.proofs.Common.{ℕ, ◌≢◌, ◌<◌, get_or}
use Rattle.bus_ledger.specs.BusValue.{book_at}
use Rattle.bus_ledger.proofs.offers.is_name_among.Given as goal

abbrev pub invariant-loop-number : goal.invariant-loop-number
invariant-loop-number l = (i : ℕ) → i < l.number-index → (book_at l.seats (get_or l.live i 0)).seat.name ≢ l.name
