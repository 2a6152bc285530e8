use Rattle.garage.proofs.OpeningLemmas.{apart_two, one_name}
use Rattle.garage.proofs.garage.Garage.with_two.Goals as goal

pub returns-clause-name_in_use : goal.returns-clause-name_in_use
returns-clause-name_in_use c = (
  λ e. (let h = c.with_stations.ensures.name_in_use.0 e in (h.0, one_name c.args.first c.args.second h.1)),
  λ h. c.with_stations.ensures.name_in_use.1 (h.0, λ apart. apart_two c.args.first c.args.second apart h.1),
)
