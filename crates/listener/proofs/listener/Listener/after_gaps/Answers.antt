use Rattle.std.proofs.Common.{ℕ, ap, arith}
use Rattle.reassembly.specs.Tables.{TableValue}
use Rattle.listener.proofs.Stands.{overheard_by_parts}
use Rattle.listener.proofs.listener.Listener.after_gaps.Goals as goal

pub returns-clause-stands : goal.returns-clause-stands
returns-clause-stands c =
    overheard_by_parts _ _ _ c.args.gaps (omega arith) (ap (λ (t : TableValue ℕ). t.slots) c.new-2.ensures) c.new-3.ensures c.in_ok-pairs.ensures
