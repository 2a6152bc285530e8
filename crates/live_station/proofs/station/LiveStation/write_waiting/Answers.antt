use Rattle.std.proofs.Common.{◌∙◌, inl}
use Rattle.live_station.proofs.Owing.{owed_in_lane, owes_after_taking, source_after_taking}
use Rattle.live_station.proofs.station.LiveStation.write_waiting.Goals as goal

pub invariant_of-self : goal.invariant_of-self
invariant_of-self c = (
  source_after_taking c.args.lane _ _ c.take-out.ensures.takes ∙ c.self.invariant.0,
  c.self.invariant.1,
  owes_after_taking c.args.lane _ _ c.take-out.ensures.takes c.self.invariant.2,
)

pub returns-clause-unordered : goal.returns-clause-unordered
returns-clause-unordered c = inl (owed_in_lane c.args.lane _ c.take-out.result c.take-out.ensures.first c.self.invariant.2)
