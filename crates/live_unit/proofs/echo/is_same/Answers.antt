use Rattle.std.proofs.Common.{sym, ◌∙◌}
use Rattle.live_unit.proofs.Echoes.{same_frame}
use Rattle.live_unit.proofs.echo.is_same.Goals as goal

pub returns-clause-same : goal.returns-clause-same
returns-clause-same c = λ t. same_frame c.args.one.now c.args.other.now (sym c.eq.ensures ∙ t)
