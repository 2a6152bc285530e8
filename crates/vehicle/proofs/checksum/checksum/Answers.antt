use Rattle.vehicle.proofs.SumLemmas.{sum_most}
use Rattle.vehicle.proofs.checksum.checksum.Goals as goal

pub folded-requires-clause-one : goal.folded-requires-clause-one
folded-requires-clause-one c = rw c.sum_of.ensures (sum_most c.args.bytes.now c.type_inv.bytes c.requires)
