use Rattle.std.proofs.Common.{◌≡◌, Ok, ap, refl, rules}
use Rattle.garage.proofs.Lent.{if_ok_of}
use Rattle.unit_threads.proofs.Boxes.{box_of, of_ok}
use Rattle.unit_threads.proofs.turn.one_turn.Goals as goal

pub returns-in-Ok-Ok-clause-unit : goal.returns-in-Ok-Ok-clause-unit
returns-in-Ok-Ok-clause-unit g c =
    let p = c.args.parked in
    let q = c.in-Ok-Ok.parked in
    let turned = c.turned_in_seat.new.garage in
    let is : c.in-Ok-Ok.field-0 ≡ Ok q = search rules in
    let given = of_ok c.in-Ok-Ok.field-0 q _ is c.in-Ok-Ok.ensures.unit in
    if_ok_of c.carried_after.result (λ r h. (
      turned,
      box_of (λ i. (g.dyn-1.0.entry i).1.name_of) (λ i. (g.dyn-1.0.entry i).1.wants) (λ i. (g.dyn-1.0.entry i).1.memory_of) (λ i. (g.dyn-1.0.entry i).1.Answers) p.seat p.seat p.events p.events c.args.garage.now c.args.garage.now turned turned p.unit p.unit r.unit q.unit given refl refl refl refl refl (ap (λ x. x.unit) h.0),
      h.1,
    )) c.carried_after.ensures.ok
