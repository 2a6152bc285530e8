use Rattle.std.proofs.Common.{rules, ◌≡◌, subst}
use Rattle.journal.specs.Journal.{GarageValue}
use Rattle.unit_threads.specs.Turns.{LeftTurn}
use Rattle.unit_threads.proofs.Boxes.{box_of}
use Rattle.unit_threads.proofs.Turning.{left_turn}
use Rattle.unit_threads.proofs.turn.turned_in_seat.Goals as goal

pub returns-in-Err-clause-left : goal.returns-in-Err-clause-left
returns-in-Err-clause-left g c =
    let ok = c.in_ok-plug.ensures.ok in
    let steps = c.in-Err.ensures in
    let left : LeftTurn c.args.parked.seat c.args.garage.now c.drop-plug.new.self.0 =
    left_turn _ _ _ _ _ _ _ ok.1 ok.4 steps.kept.0 steps.err.1 c.drop-plug.ensures.adds in
    let P : GarageValue → Type 0 = λ b. LeftTurn c.args.parked.seat c.args.garage.now b in
    let same : c.drop-plug.new.self.0 ≡ c.garage-in-Err-1.given.0 = search rules in
    (steps.err.0, subst P same left)

pub returns-clause-unit : goal.returns-clause-unit
returns-clause-unit g c =
    let ok = c.in_ok-plug.ensures.ok in
    let p = c.args.parked in
    let q = c.in_ok-plug.plug in
    let r = c.steps.new.plug in
    box_of (λ i. (g.dyn-1.0.entry i).1.name_of) (λ i. (g.dyn-1.0.entry i).1.wants) (λ i. (g.dyn-1.0.entry i).1.memory_of) (λ i. (g.dyn-1.0.entry i).1.Answers) p.seat q.seat p.events q.events c.args.garage.now q.garage.now _ r.garage.now p.unit q.unit c.detach.result.unit r.unit
    c.in_default.ensures.unit ok.4 ok.1 ok.2 ok.5 (search rules) c.detach.ensures.parked.0
