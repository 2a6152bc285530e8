use Rattle.std.proofs.Common.{ℕ, refl, ap, ◌∙◌}
use Rattle.garage.specs.Answers.{Hears}
use Rattle.garage.proofs.HearLemmas.{next_heard}
use Rattle.garage.proofs.SeatKept.{hearing_counted, is_unit, unit_hears}
use Rattle.garage.proofs.Lent.{lent_as, given_back, on_err}
use Rattle.garage.proofs.garage.Garage.hear_seated.Goals as goal

pub events_of-parked-requires : goal.events_of-parked-requires
events_of-parked-requires g c =
    let q = c.deref_box_mut-1.result.now in
    is_unit c.args.self.now c.hear_in_full.new.self c.args.parked.now.seat
    (unit_hears c.args.self.now c.args.parked.now.seat _ ((goal.Unit-dyn g q).Answers q.1) q.1 c.in_ok-heard.heard c.hear_in_full.new.self ((goal.Unit-dyn g q).memory_of c.hear_in_full.new.unit) c.in_ok-heard.ensures.ok.0 c.in_ok-heard.ensures.ok.2 c.requires.unit.1)
    c.requires.unit

pub returns-in_err-heard-clause-err : goal.returns-in_err-heard-clause-err
returns-in_err-heard-clause-err g c =
    on_err c.from_residual.result
    (c.in_err-heard.ensures.err, ap (λ b. record c.args.parked.now { unit = b }) (given_back c.args.parked.now.unit c.deref_box_mut-1.result.now c.hear_in_full.new.unit c.in_err-heard.ensures.unasked c.deref_box_mut-1.ensures.value.1))

pub returns-clause-heard : goal.returns-clause-heard
returns-clause-heard g c =
    let p = c.args.parked.now in
    let q = c.deref_box_mut-1.result.now in
    let memory' = (goal.Unit-dyn g q).memory_of c.hear_in_full.new.unit in
    let ok = c.in_ok-heard.ensures.ok in
    let l = lent_as (λ i x y. Hears c.args.self.now p.seat ((goal.Unit-dyn g (i, x)).memory_of x) ((goal.Unit-dyn g (i, x)).Answers x) x c.in_ok-heard.heard c.hear_in_full.new.self memory' y)
    p.unit q c.hear_in_full.new.unit ok.0 ok.1 c.deref_box_mut-1.ensures.value.1 ok.2 in
    let counted = c.events_of-parked.ensures.count ∙ hearing_counted c.args.self.now p.seat _ ((goal.Unit-dyn g q).Answers q.1) q.1 c.in_ok-heard.heard c.hear_in_full.new.self memory' ok.0 p.events ok.2 c.requires.counted in
    next_heard _ _ c.in_ok-heard.heard c.args.self.now c.hear_in_full.new.self p _ ((goal.Unit-dyn g (p.unit.vtable, p.unit.value)).Answers p.unit.value) p.unit.value l.0 l.2 refl
    (c.in_ok-heard.ensures.name ∙ ap (λ s. (goal.Unit-dyn g s).name_of s.1) c.deref_box_mut-1.ensures.value.1) counted (λ o a s. (l.0, l.1, s))
    (λ e d. ap (λ b. record p { unit = b; events = c.events_of-parked.result }) (l.1 ∙ ap (λ u. record p.unit { value = u }) e) ∙ ap (λ (n : ℕ). record p { events = n }) d)
