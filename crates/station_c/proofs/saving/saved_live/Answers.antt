use Rattle.std.proofs.Common.{ap, ◌∙◌}
use Rattle.live_station.specs.Working.{WorkingValue}
use Rattle.station_c.proofs.RestoresLive.{saved_well_live}
use Rattle.station_c.proofs.saving.saved_live.Goals as goal

pub returns-clause-ok : goal.returns-clause-ok
returns-clause-ok c =
    let own = c.in-Some.ensures.some in
    saved_well_live _ c.in_ok-anew.anew _ _ _ _ _ _ _ _ _ (c.station-station.ensures ∙ ap (λ (w : WorkingValue). w.station) c.live.ensures) c.lists-lists.ensures
    (c.station.ensures ∙ ap (λ (w : WorkingValue). w.station) c.live-2.ensures) c.lists.ensures own.0 own.1 c.keep.ensures c.as_slice.ensures.value
    c.in_ok-anew.ensures.stands (c.show_same.ensures c.if-not-show_same.false)
