use Rattle.station_c.proofs.Restores.{saved_well}
use Rattle.station_c.proofs.saving.saved.Goals as goal

pub returns-clause-ok : goal.returns-clause-ok
returns-clause-ok c =
    let own = c.in-Some.ensures.some in
    saved_well _ c.in_ok-anew.anew _ _ _ _ _ _ _ _ _ c.station-station.ensures c.lists-lists.ensures c.station.ensures c.lists.ensures own.0 own.1 c.keep.ensures
    c.as_slice.ensures.value c.in_ok-anew.ensures.stands c.in_ok-anew.ensures.lists c.in_ok-anew.ensures.keep (c.show_same.ensures c.if-not-show_same.false)
