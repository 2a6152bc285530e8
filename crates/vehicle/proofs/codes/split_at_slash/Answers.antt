use Rattle.vehicle.proofs.CodeLemmas.{split_around}
use Rattle.vehicle.proofs.codes.split_at_slash.Goals as goal

pub returns : goal.returns
returns c = split_around c.args.text.now c.split_once.result c.split_once.ensures.cases
