use Rattle.std.proofs.Common.{refl, ◌∙◌}
use Rattle.unit_threads.specs.Turns.{IsHearOf}
use Rattle.unit_threads.proofs.Boxes.{box_more, box_none, box_same}
use Rattle.unit_threads.proofs.Turning.{grows_none, hears_more}
use Rattle.unit_threads.proofs.turn.hear_all.Goals as goal

pub loop-init : goal.loop-init
loop-init g c =
    let p = c.args.plug.now in
    record {
      same = refl;
      seat = refl;
      name = refl;
      unit = refl;
      heard = grows_none (IsHearOf p.seat) p.garage.now;
      box = box_none (λ i. (g.dyn-1.0.entry i).1.name_of) (λ i. (g.dyn-1.0.entry i).1.memory_of) (λ i. (g.dyn-1.0.entry i).1.Answers) p.seat p.garage.now p.unit p.events;
    }

pub loop-preserved : goal.loop-preserved
loop-preserved g c =
    let inv = c.loop.invariant in
    let hear = c.in_ok-hear.ensures in
    let p = c.args.plug.now in
    let q = c.loop.plug in
    let r = c.hear.new.self in
    record {
      same = hear.same ∙ inv.same;
      seat = hear.kept.0 ∙ inv.seat;
      name = hear.kept.1 ∙ inv.name;
      unit = hear.kept.2 ∙ inv.unit;
      heard = hears_more _ _ _ _ _ _ _ ((g.dyn-1.0.entry c.hear.new.self.unit.vtable).1.memory_of c.hear.new.self.unit.value)
          ((g.dyn-1.0.entry c.loop.plug.unit.vtable).1.Answers c.loop.plug.unit.value) c.loop.plug.unit.value hear.ok.0 _ inv.seat inv.heard hear.ok.2;
      box = box_more (λ i. (g.dyn-1.0.entry i).1.name_of) (λ i. (g.dyn-1.0.entry i).1.memory_of) (λ i. (g.dyn-1.0.entry i).1.Answers) p.seat q.seat p.garage.now q.garage.now r.garage.now p.unit q.unit r.unit p.events q.events r.events c.in_ok-hear.field-0 hear.ok.0 inv.box inv.seat hear.ok.1 hear.ok.2 hear.kept.2 hear.counted;
    }

pub returns-in-Nothing-clause-unit : goal.returns-in-Nothing-clause-unit
returns-in-Nothing-clause-unit g c =
    let inv = c.loop.invariant in
    let hear = c.in_ok-hear.ensures in
    let p = c.args.plug.now in
    let q = c.loop.plug in
    let r = c.hear.new.self in
    box_more (λ i. (g.dyn-1.0.entry i).1.name_of) (λ i. (g.dyn-1.0.entry i).1.memory_of) (λ i. (g.dyn-1.0.entry i).1.Answers) p.seat q.seat p.garage.now q.garage.now r.garage.now p.unit q.unit r.unit p.events q.events r.events c.in_ok-hear.field-0 hear.ok.0 inv.box inv.seat hear.ok.1 hear.ok.2 hear.kept.2 hear.counted

pub returns-in_err-hear-clause-unit : goal.returns-in_err-hear-clause-unit
returns-in_err-hear-clause-unit g c =
    let p = c.args.plug.now in
    let q = c.loop.plug in
    let r = c.hear.new.self in
    let hear = c.in_err-hear.ensures in
    box_same (λ i. (g.dyn-1.0.entry i).1.name_of) (λ i. (g.dyn-1.0.entry i).1.memory_of) (λ i. (g.dyn-1.0.entry i).1.Answers) p.seat p.garage.now q.garage.now r.garage.now p.unit q.unit r.unit p.events q.events r.events c.loop.invariant.box hear.err.0 hear.unasked hear.err.1
