use Rattle.std.proofs.Common.{sym, subst, ◌∙◌}
use Rattle.listener.specs.ListenerValue.{HasOverheard, ListenerValue}
use Rattle.station_c.specs.ListedListeners.{HasHeard, ListedListenerValue}
use Rattle.station_c.proofs.exports.hearing.units.hidzgula_listener_row.Goals as goal

-- the row is of the listener that was lifted
pub returns-in-Some-found-clause-heard : goal.returns-in-Some-found-clause-heard
returns-in-Some-found-clause-heard c = λ done h held.
    let it = subst (λ (v : ListedListenerValue). HasHeard v h) (sym (c.deref.ensures ∙ c.in-Some.ensures.value)) held.1 in
    c.in-Some-found.ensures.found h (subst (λ (v : ListenerValue). HasOverheard v h) (sym c.listener.ensures) it.0)
