use Rattle.std.proofs.Common.{ap, sym, ◌∙◌, false, [], ◌∷◌}
use Rattle.can_frame.specs.FrameValue.{FrameValue}
use Rattle.live_unit.specs.Queue.{empty_queue, putting}
use Rattle.node_core.specs.Deed.{plain}
use Rattle.station_table.specs.Reactions.{own_claim}
use Rattle.station_table.specs.StationValue.{StationValue}
use Rattle.live_station.proofs.Beginning.{begun_of_parts}
use Rattle.live_station.proofs.station.LiveStation.new.Goals as goal

pub returns-clause-value : goal.returns-clause-value
returns-clause-value c =
    begun_of_parts c.args.name c.args.want c.args.grant c.args.times _ _ _ _ _ (c.station.view_is ∙ c.new-station.ensures.value)
    (c.in_ok-queue.ensures.is ∙ ap (λ (f : FrameValue). putting false (plain f ∷ []) (empty_queue c.args.want)) c.start.ensures.frame
    ∙ ap (λ (s : StationValue). putting false (plain (own_claim s.claimer) ∷ []) (empty_queue c.args.want)) (sym c.station.view_is))
    c.at_start.ensures
    c.in_ok-new.ensures
    c.in_ok-new-2.ensures
