use Rattle.std.proofs.Common.{refl, rules}
use Rattle.std.proofs.lemmas.List.Sorted.{answers_always}
use Rattle.script_run.proofs.Searching.{found_there}
use Rattle.script_run.proofs.place.place_of.Goals as goal

-- the closure gives a unit's seat
pub returns-in-Ok-clause-its : goal.returns-in-Ok-clause-its
returns-in-Ok-clause-its g c =
    found_there (λ parked. parked.seat) c.args.units.now c.args.seat c.in-Ok.place _ refl (c.in-Ok.ensures.position (λ parked. parked.seat) (answers_always _ _ _ (λ f a r h called. search rules)))
