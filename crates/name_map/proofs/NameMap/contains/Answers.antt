use Rattle.std.proofs.Common.{is_some, ap, ◌∙◌}
use Rattle.name_map.proofs.Placing.{has_place}
use Rattle.name_map.proofs.NameMap.contains.Goals as goal

pub returns : goal.returns
returns g c = c.is_some.ensures ∙ (ap is_some c.place_of.ensures.place ∙ has_place c.args.self.now c.args.name)
