use Rattle.std.proofs.Common.{rules}
use Rattle.std.proofs.lemmas.Slice.Eq.{slice_eq-Decides}
use Rattle.trouble_code.specs.Code.{Code}
use Rattle.live_unit.proofs.told.are_same.Goals as goal

pub returns : goal.returns
returns c = slice_eq-Decides (λ (a b : Code). search rules) c.args.one.now c.args.other.now c.eq.result c.eq.ensures
