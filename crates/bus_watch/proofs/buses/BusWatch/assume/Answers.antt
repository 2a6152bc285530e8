use Rattle.std.proofs.Common.{refl, subst, sym}
use Rattle.bus_watch.specs.Hearing.{IsTold}
use Rattle.bus_watch.specs.Told.{Assumed}
use Rattle.bus_watch.specs.declared.buses.BusWatch.{BusWatch}
use Rattle.bus_watch.proofs.buses.BusWatch.assume.Goals as goal

pub returns-clause-told : goal.returns-clause-told
returns-clause-told c =
    subst (λ (n : BusWatch). IsTold (Assumed c.args.name c.args.address) c.args.self.now n) (sym c.note.ensures)
    (record { bus = refl; stands = c.in_ok-changes.ensures.stands; identified = c.in_ok-changes.ensures.identified; changes = c.in_ok-changes.ensures.told })
