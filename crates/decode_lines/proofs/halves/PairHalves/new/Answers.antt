use Rattle.decode_lines.proofs.HalfLemmas.{none_half, none_whole}
use Rattle.decode_lines.proofs.halves.PairHalves.new.Goals as goal

pub invariant_of-result : goal.invariant_of-result
invariant_of-result c = none_whole _ c.in_ok-pairs.ensures

pub returns : goal.returns
returns c = none_half _ c.in_ok-pairs.ensures
