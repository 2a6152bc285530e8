use Rattle.std.proofs.Common.{List, Err, ap, sym, subst, take, ◌∙◌}
use Rattle.entry_lists.specs.Newest.{KeepsNewest}
use Rattle.station_table.specs.Listing.{lists_heard}
use Rattle.station_table.specs.StandsFor.{StandsFor}
use Rattle.station_c.specs.ListedStations.{ListedStationValue}
use Rattle.station_c.specs.Saving.{ShowsAnew, restored}
use Rattle.station_c.specs.declared.records.FrameRecord.{FrameRecord}
use Rattle.station_c.specs.declared.status.Status.{Status}
use Rattle.station_c.proofs.Restores.{done_given, held_where_saved, none_held, not_held_given, unheld_answered}
use Rattle.station_c.proofs.exports.saving.hidzgula_save.Goals as goal

-- the frames are those that were tried on the station that was lifted
pub returns-in-Ok-clause-saved : goal.returns-in-Ok-clause-saved
returns-in-Ok-clause-saved c = λ done r grant h held a heard.
    let same = c.deref.ensures ∙ c.in-Some.ensures.value in
    let given = c.give.ensures.done (done_given c.give.result c.number-in-Ok.result c.number-in-Ok.ensures done c.give.ensures.only) in
    let stands = subst (λ (v : ListedStationValue). StandsFor r grant v.station h) (sym same) held.1 in
    let newest = subst (λ (v : ListedStationValue). KeepsNewest v.lists (lists_heard r h)) (sym same) held.2 in
    subst (λ (v : ListedStationValue). ShowsAnew r a v.lists.keep h (restored (take c.give.new.count c.give.new.frames))) same
    (subst (λ (fs : List FrameRecord). ShowsAnew r a c.deref.result.now.lists.keep h (restored fs)) (sym (given.1 ∙ c.as_slice.ensures.value))
    (c.in-Ok.ensures.ok r grant h stands newest a heard))

pub returns-in-Err-clause-not_held : goal.returns-in-Err-clause-not_held
returns-in-Err-clause-not_held c = λ told r grant h held.
    let stands = subst (λ (v : ListedStationValue). StandsFor r grant v.station h) (sym (c.deref.ensures ∙ c.in-Some.ensures.value)) held.1 in
    none_held r grant h _ stands
    (c.in-Err.ensures.not_held.0 (ap (λ (it : Status). Err it) (not_held_given c.in-Err.refusal c.number-in-Err.result c.number-in-Err.ensures told c.in-Err.ensures.only)))

pub returns-in-Err-clause-unheld : goal.returns-in-Err-clause-unheld
returns-in-Err-clause-unheld c = λ r grant h held none.
    let stands = subst (λ (v : ListedStationValue). StandsFor r grant v.station h) (sym (c.deref.ensures ∙ c.in-Some.ensures.value)) held.1 in
    unheld_answered c.saved-saved.result c.in-Err.refusal c.number-in-Err.result r grant h _ c.saved-saved.ensures.not_held c.in-Err.is c.number-in-Err.ensures stands none

pub returns-in-Ok-clause-unheld : goal.returns-in-Ok-clause-unheld
returns-in-Ok-clause-unheld c = λ r grant h held none.
    let stands = subst (λ (v : ListedStationValue). StandsFor r grant v.station h) (sym (c.deref.ensures ∙ c.in-Some.ensures.value)) held.1 in
    absurd (held_where_saved c.saved-saved.result c.in-Ok.saved r grant h _ c.saved-saved.ensures.not_held c.in-Ok.is stands none)
