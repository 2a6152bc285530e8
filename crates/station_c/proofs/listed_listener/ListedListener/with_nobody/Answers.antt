use Rattle.std.proofs.Common.{rules, ℕ, subst}
use Rattle.listener.specs.ListenerValue.{gaps_alone}
use Rattle.station_c.specs.ListedListeners.{HasHeard}
use Rattle.station_c.proofs.BegunListening.{nobody_heard}
use Rattle.station_c.proofs.listed_listener.ListedListener.with_nobody.Goals as goal

pub returns-clause-heard : goal.returns-clause-heard
returns-clause-heard c =
    subst (λ (n : ℕ). HasHeard (record { ear = c.in_ok-ear.ear; lists = c.new-lists.result; broken = c.new-broken.result.newest; broken_count = c.new-broken.result.count }) (gaps_alone n))
    (search rules) (nobody_heard c.in_ok-ear.ear c.new-lists.result c.new-broken.result.newest c.new-broken.result.count _ c.in_ok-ear.ensures.stands c.new-lists.ensures.heard)
