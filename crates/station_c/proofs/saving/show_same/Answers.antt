use Rattle.std.proofs.Common.{arith, rules}
use Rattle.station_c.proofs.Restores.{shows_all, shows_more}
use Rattle.station_c.proofs.saving.show_same.Goals as goal

pub loop-place-preserved : goal.loop-place-preserved
loop-place-preserved c = shows_more _ _ _ _ c.loop-place.place (c.show_same_at.ensures c.if-not-show_same_at.false) c.loop-place.invariant

-- all rows were looked at, and they are as many
pub returns : goal.returns
returns c = λ yes. record {
  held = search rules;
  count = search rules;
  each = shows_all _ _ _ _ c.names-place-end.result c.names-place-end.ensures.value (λ k low. c.loop-place.invariant k (omega arith));
}
