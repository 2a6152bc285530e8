use Rattle.std.proofs.Common.{List, Err, ap, sym, subst, ◌∙◌}
use Rattle.live_station.specs.Ear.{frames_told}
use Rattle.station_c.specs.ListedLives.{ListedLiveValue, StandsLive}
use Rattle.station_c.specs.Saving.{ShowsAnew, opened_at, restored}
use Rattle.station_c.specs.declared.records.FrameRecord.{FrameRecord}
use Rattle.station_c.specs.declared.status.Status.{Status}
use Rattle.station_c.proofs.Restores.{done_given, held_where_saved, none_held, not_held_given, unheld_answered}
use Rattle.station_c.proofs.exports.live.saving.hidzgula_live_save.Goals as goal

-- the frames are those that were tried on the station that was lifted
pub returns-in-Ok-clause-saved : goal.returns-in-Ok-clause-saved
returns-in-Ok-clause-saved c = λ done r grant keep h held a heard.
    let given = c.give.ensures.done (done_given c.give.result c.number-in-Ok.result c.number-in-Ok.ensures done c.give.ensures.only) in
    let stands = subst (λ (v : ListedLiveValue). StandsLive r grant keep v h) (sym (c.deref.ensures ∙ c.in-Some.ensures.value)) held.1 in
    subst (λ (fs : List FrameRecord). ShowsAnew r a keep (frames_told r h) (frames_told (opened_at a r) (restored fs))) (sym (given.1 ∙ c.as_slice.ensures.value))
    (c.in-Ok.ensures.ok r grant keep h stands a heard)

pub returns-in-Err-clause-not_held : goal.returns-in-Err-clause-not_held
returns-in-Err-clause-not_held c = λ told r grant keep h held.
    let stands = subst (λ (v : ListedLiveValue). StandsLive r grant keep v h) (sym (c.deref.ensures ∙ c.in-Some.ensures.value)) held.1 in
    none_held r grant (frames_told r h) _ stands.station
    (c.in-Err.ensures.not_held.0 (ap (λ (it : Status). Err it) (not_held_given c.in-Err.refusal c.number-in-Err.result c.number-in-Err.ensures told c.in-Err.ensures.only)))

pub returns-in-Err-clause-unheld : goal.returns-in-Err-clause-unheld
returns-in-Err-clause-unheld c = λ r grant keep h held none.
    let stands = subst (λ (v : ListedLiveValue). StandsLive r grant keep v h) (sym (c.deref.ensures ∙ c.in-Some.ensures.value)) held.1 in
    unheld_answered c.saved_live-saved.result c.in-Err.refusal c.number-in-Err.result r grant (frames_told r h) _ c.saved_live-saved.ensures.not_held c.in-Err.is
    c.number-in-Err.ensures stands.station none

pub returns-in-Ok-clause-unheld : goal.returns-in-Ok-clause-unheld
returns-in-Ok-clause-unheld c = λ r grant keep h held none.
    let stands = subst (λ (v : ListedLiveValue). StandsLive r grant keep v h) (sym (c.deref.ensures ∙ c.in-Some.ensures.value)) held.1 in
    absurd (held_where_saved c.saved_live-saved.result c.in-Ok.saved r grant (frames_told r h) _ c.saved_live-saved.ensures.not_held c.in-Ok.is stands.station none)
