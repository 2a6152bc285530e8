use Rattle.std.proofs.Common.{refl, sym, ◌∙◌}
use Rattle.garage.proofs.Lent.{on_err}
use Rattle.garage.proofs.garage.Garage.hear_in_full.Goals as goal

pub returns-in_default-clause-ok : goal.returns-in_default-clause-ok
returns-in_default-clause-ok g c = (c.args.unit.now.1, refl, (sym c.next_for.ensures ∙ c.in_default.is, refl, refl, refl))

pub returns-in_err-react-clause-unasked : goal.returns-in_err-react-clause-unasked
returns-in_err-react-clause-unasked g c = on_err c.from_residual.result c.in_err-react.ensures.unasked
