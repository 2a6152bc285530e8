use Rattle.garage.proofs.OpeningLemmas.{one_setting, setting_of_one}
use Rattle.garage.proofs.garage.Garage.new.Goals as goal

pub returns-clause-bad_setting : goal.returns-clause-bad_setting
returns-clause-bad_setting c = (
  λ e is. c.with_stations.ensures.bad_setting.0 e (one_setting _ c.args.limit is),
  λ n. c.with_stations.ensures.bad_setting.1 (λ are. n (setting_of_one _ c.args.limit are)),
)
