use Rattle.std.proofs.Common.{refl, ap, ◌∙◌}
use Rattle.garage.specs.Answers.{Hears}
use Rattle.garage.proofs.Lent.{lent_as, given_back, on_err}
use Rattle.garage.proofs.SeatKept.{hearing_counted, is_unit, still_seated, unit_hears}
use Rattle.garage.proofs.plug.Plug.hear.Goals as goal

pub events_of-self-requires : goal.events_of-self-requires
events_of-self-requires g c =
    is_unit c.args.self.now.garage.now c.hear.new.self c.args.self.now.seat
    (unit_hears c.args.self.now.garage.now c.args.self.now.seat _ ((goal.Unit-dyn g c.deref_box_mut-1.result.now).Answers c.deref_box_mut-1.result.now.1) c.deref_box_mut-1.result.now.1 c.in_ok-heard.heard c.hear.new.self ((goal.Unit-dyn g c.deref_box_mut-1.result.now).memory_of c.hear.new.unit) c.in_ok-heard.ensures.ok.0 c.in_ok-heard.ensures.ok.2 c.args.self.now.seated.unit.1)
    c.args.self.now.seated.unit

pub invariant_of-self-2 : goal.invariant_of-self-2
invariant_of-self-2 g c = record {
  seated = still_seated c.args.self.now.garage.now c.hear.new.self c.args.self.now.seat c.args.self.now.name c.args.self.now.events c.events_of-self.result
      (unit_hears c.args.self.now.garage.now c.args.self.now.seat _ ((goal.Unit-dyn g c.deref_box_mut-1.result.now).Answers c.deref_box_mut-1.result.now.1) c.deref_box_mut-1.result.now.1 c.in_ok-heard.heard c.hear.new.self ((goal.Unit-dyn g c.deref_box_mut-1.result.now).memory_of c.hear.new.unit) c.in_ok-heard.ensures.ok.0 c.in_ok-heard.ensures.ok.2 c.args.self.now.seated.unit.1)
      c.args.self.now.seated c.events_of-self.ensures.count;
}

pub returns-clause-counted : goal.returns-clause-counted
returns-clause-counted g c =
    c.events_of-self.ensures.count
    ∙ hearing_counted c.args.self.now.garage.now c.args.self.now.seat _ ((goal.Unit-dyn g c.deref_box_mut-1.result.now).Answers c.deref_box_mut-1.result.now.1) c.deref_box_mut-1.result.now.1 c.in_ok-heard.heard c.hear.new.self ((goal.Unit-dyn g c.deref_box_mut-1.result.now).memory_of c.hear.new.unit) c.in_ok-heard.ensures.ok.0 c.args.self.now.events c.in_ok-heard.ensures.ok.2 c.args.self.now.seated.counted

pub returns-in_err-heard-clause-kept : goal.returns-in_err-heard-clause-kept
returns-in_err-heard-clause-kept g c = (refl, refl, c.in_err-heard.ensures.name ∙ ap (λ s. (goal.Unit-dyn g s).name_of s.1) c.deref_box_mut-1.ensures.value.1)

pub returns-in_err-heard-clause-unasked : goal.returns-in_err-heard-clause-unasked
returns-in_err-heard-clause-unasked g c =
    on_err c.from_residual.result (given_back c.args.self.now.unit c.deref_box_mut-1.result.now c.hear.new.unit c.in_err-heard.ensures.unasked c.deref_box_mut-1.ensures.value.1)

pub returns-clause-kept : goal.returns-clause-kept
returns-clause-kept g c = (refl, refl, c.in_ok-heard.ensures.name ∙ ap (λ s. (goal.Unit-dyn g s).name_of s.1) c.deref_box_mut-1.ensures.value.1)

pub returns-clause-ok : goal.returns-clause-ok
returns-clause-ok g c =
    let q = c.deref_box_mut-1.result.now in
    let memory' = (goal.Unit-dyn g q).memory_of c.hear.new.unit in
    lent_as (λ i x y. Hears c.args.self.now.garage.now c.args.self.now.seat ((goal.Unit-dyn g (i, x)).memory_of x) ((goal.Unit-dyn g (i, x)).Answers x) x c.in_ok-heard.heard c.hear.new.self memory' y)
    c.args.self.now.unit q c.hear.new.unit c.in_ok-heard.ensures.ok.0 c.in_ok-heard.ensures.ok.1 c.deref_box_mut-1.ensures.value.1 c.in_ok-heard.ensures.ok.2
