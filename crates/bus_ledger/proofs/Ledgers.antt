-- What the counts of a seat say.
use Rattle.std.proofs.Common.{ℕ, suc, zero, ◌≡◌, ◌+◌, ◌<◌, List, [], ◌∷◌, length, get_or, Option, Some, IfSome, slice_get, sym, subst, arith}
use Rattle.std.specs.List.{count_by}
use Rattle.std.specs.Option.{option_map}
use Rattle.bus_ledger.specs.BusValue.{SeatValue, BusValue, nobody, seat_at}
use Rattle.bus_ledger.specs.Ledger.{IsBalanced, IsSound, counts_of, is_from}
use Rattle.bus_ledger.specs.Inside.{bus_value_of, IsKept}
use Rattle.bus_ledger.specs.declared.bus.Bus.TheInside.{Inside}
use Rattle.bus_ledger.specs.declared.traffic.Counts.{Counts}

-- what holds of the counts at a number that was given
at_counts : (P : Counts → Type 0) (xs : List SeatValue) (k : ℕ) → (k < length xs → P (counts_of (get_or xs k nobody))) → IfSome (option_map counts_of (slice_get xs k)) P
at_counts P [] k h = tt
at_counts P (x ∷ xs) zero h = h (omega arith)
at_counts P (x ∷ xs) (suc k) h = at_counts P xs k (λ l. h (omega arith))

balance : (a : Inside) (v : BusValue) (k : ℕ) → bus_value_of a ≡ v → IsKept a → k < length v.traffic.seats → IsBalanced v.traffic.wire k (seat_at v.traffic k)
balance a v k is kept h = (subst (λ (b : BusValue). IsSound b.traffic) is kept.sound).seats k h

pub counts_balanced : (a : Inside) (v : BusValue) (k : ℕ) (r : Counts) → bus_value_of a ≡ v → IsKept a → Some r ≡ option_map counts_of (slice_get v.traffic.seats k) → r.queued ≡ r.carried + r.withdrawn + r.waiting
counts_balanced a v k r is kept e =
    let P : Counts → Type 0 = λ (c : Counts). c.queued ≡ c.carried + c.withdrawn + c.waiting in
    subst (λ (o : Option Counts). IfSome o P) (sym e) (at_counts P v.traffic.seats k (λ h. (balance a v k is kept h).ledger))

pub counts_carried : (a : Inside) (v : BusValue) (k : ℕ) (r : Counts) → bus_value_of a ≡ v → IsKept a → Some r ≡ option_map counts_of (slice_get v.traffic.seats k) → r.carried ≡ count_by (is_from k) v.traffic.wire
counts_carried a v k r is kept e =
    let P : Counts → Type 0 = λ (c : Counts). c.carried ≡ count_by (is_from k) v.traffic.wire in
    subst (λ (o : Option Counts). IfSome o P) (sym e) (at_counts P v.traffic.seats k (λ h. (balance a v k is kept h).carried))
