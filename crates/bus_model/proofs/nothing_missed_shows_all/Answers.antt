use Rattle.std.proofs.Common.{◌∙◌, subst}
use Rattle.bus_model.specs.Machine.{names_of, new_stations, start}
use Rattle.bus_model.proofs.Lawful.{Lawful}
use Rattle.bus_model.proofs.Lookback.{lawful_rest}
use Rattle.bus_model.proofs.Quiet.{clear_whole, expected_whole}
use Rattle.bus_model.specs.Expected.{passed}
use Rattle.bus_model.proofs.Worlds.{law_run, law_start, passed_booked}
use Rattle.bus_model.proofs.nothing_missed_shows_all.Goals as goal

pub returns : goal.returns
returns c = λ rs fit events w run y s at whole n k.
    let st = names_of (new_stations 0 rs) in
    let law = law_run st (start rs) events w (law_start rs fit) run in
    let here = law.stations y s at in
    let lawful = lawful_rest st here.law.past.ahead (passed s.path) (subst (Lawful st) here.law.past.reach law.wire) in
    here.same n k ∙ expected_whole s.settings n k w.begun s.path (λ m i. clear_whole s.settings st w.begun m s.path law.numbered i whole lawful here.marked (passed_booked st w s law here))
