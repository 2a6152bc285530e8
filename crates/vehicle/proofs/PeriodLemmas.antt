-- Periods of what a unit sends in packets.
use Rattle.std.proofs.Common.{ℕ, ◌≡◌, ◌<◌, ◌+◌, ◌*◌, ◌-◌, ◌^◌, List, length, take, get_or, min, arith, ap, sym}
use Rattle.std.proofs.lemmas.List.Sums.{sum_by_more}
use Rattle.vehicle.specs.Frames.{least_period, packets_in}
use Rattle.vehicle.specs.declared.long_line.CyclicLine.{CyclicLine}

-- one more
pub one_more_of : (gap : ℕ) (sends : List CyclicLine) (i : ℕ) (one : CyclicLine) (least next : ℕ) → i < length sends → one ≡ get_or sends i one
    → least ≡ min (least_period gap (take i sends)) (2 ^ 64 - 1) → next ≡ min (least + 2 * (gap * packets_in one)) (2 ^ 64 - 1)
    → next ≡ min (least_period gap (take (i + 1) sends)) (2 ^ 64 - 1)
one_more_of gap sends i one least next below is e f =
    let more = sum_by_more (λ (s : CyclicLine). 2 * (gap * packets_in s)) sends i one below in
    let same : 2 * (gap * packets_in (get_or sends i one)) ≡ 2 * (gap * packets_in one) = ap (λ (s : CyclicLine). 2 * (gap * packets_in s)) (sym is) in
    omega arith
