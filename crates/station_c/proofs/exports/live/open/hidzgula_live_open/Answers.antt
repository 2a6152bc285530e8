use Rattle.std.proofs.Common.{rules, ◌≡◌, refl, ◌∙◌}
use Rattle.station_c.proofs.exports.live.open.hidzgula_live_open.Goals as goal

-- the station that was put in is the one that begins
pub returns-clause-value : goal.returns-clause-value
returns-clause-value c = λ done.
    (let boxed : c.in-Ok-new.station.value ≡ c.in-Ok.station = search rules in
    c.put-2.ensures.value ∙ boxed ∙ c.in-Ok.ensures.value ∙ rw (c.from_number-name.ensures, c.times.ensures) refl)
