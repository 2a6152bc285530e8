use Rattle.std.proofs.Common.{rules}
use Rattle.vehicle.proofs.MotionLemmas.{values_fit, values_most}
use Rattle.vehicle.proofs.fields.read_values.Goals as goal

pub invariant_of-result : goal.invariant_of-result
invariant_of-result c =
    record { fits = λ count. values_fit c.in_ok-bits.bits.size count c.in_ok-list.list.items (search rules) (rw c.greatest.ensures.all at (values_most _ _ _ c.in_ok-list.ensures)) }
