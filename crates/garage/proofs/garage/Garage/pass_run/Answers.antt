use Rattle.std.proofs.Common.{ℕ, ◌≡◌, ◌+◌, refl, ap, subst, arith}
use Rattle.fault_memory.specs.Memory.{MemoryValue}
use Rattle.node_core.specs.Asking.{IsAsked}
use Rattle.garage.specs.Answers.{PassesNext}
use Rattle.garage.specs.Hearing.{HearsMany}
use Rattle.garage.proofs.HearLemmas.{hearing_many, many_none, many_passed, many_same}
use Rattle.garage.proofs.garage.Garage.pass_run.Goals as goal

pub loop-passed-init : goal.loop-passed-init
loop-passed-init g c =
    let p = c.args.parked.now in
    let none : p.events + 0 ≡ p.events = omega arith in
    many_same _ _ 0 c.args.self.now c.args.self.now c.args.self.now p p (record p { events = p.events + 0 }) (many_none _ _ c.args.self.now p) refl (ap (λ (n : ℕ). record p { events = n }) none)

pub next_for-requires : goal.next_for-requires
next_for-requires g c =
    let p = c.args.parked.now in
    (hearing_many _ _ c.loop-passed.passed c.args.self.now p c.loop-passed.self (record p { events = p.events + c.loop-passed.passed }) c.loop-passed.invariant c.requires).sits.unit

pub passes_over_next-requires-clause-unit : goal.passes_over_next-requires-clause-unit
passes_over_next-requires-clause-unit g c =
    let p = c.args.parked.now in
    (hearing_many _ _ c.loop-passed.passed c.args.self.now p c.loop-passed.self (record p { events = p.events + c.loop-passed.passed }) c.loop-passed.invariant c.requires).sits.unit

pub returns-then-not-passes_over_next-clause-heard : goal.returns-then-not-passes_over_next-clause-heard
returns-then-not-passes_over_next-clause-heard g c =
    let p = c.args.parked.now in
    let q = record p { events = p.events + c.loop-passed.passed } in
    many_same _ _ c.loop-passed.passed c.args.self.now c.loop-passed.self c.passes_over_next.new.self p q q c.loop-passed.invariant (c.passes_over_next.ensures.left c.if-not-passes_over_next.true) refl

pub loop-passed-preserved : goal.loop-passed-preserved
loop-passed-preserved g c =
    let p = c.args.parked.now in
    let n = c.loop-passed.passed in
    let passes = subst (λ (m : MemoryValue). PassesNext c.loop-passed.self p.seat m c.passes_over_next.new.self) c.memory-memory.ensures (c.passes_over_next.ensures.passed c.if-not-passes_over_next.false) in
    let counted : p.events + (n + 1) ≡ (p.events + n) + 1 = omega arith in
    many_passed _ _ n (n + 1) c.args.self.now c.loop-passed.self c.passes_over_next.new.self p (record p { events = p.events + n }) (record p { events = p.events + (n + 1) }) refl c.loop-passed.invariant passes refl refl refl counted
    (p.unit.value, refl, refl)

pub returns-clause-heard : goal.returns-clause-heard
returns-clause-heard g c =
    let p = c.args.parked.now in
    let end : c.loop-passed.passed ≡ c.args.most = (let past = c.loop-passed-test.false in let few = c.loop-passed.auto.passed-end in omega arith) in
    subst (λ (n : ℕ). HearsMany (λ p. record { seat = p.seat; name = (goal.Unit-dyn g (p.unit.vtable, p.unit.value)).name_of p.unit.value; events = p.events; memory = (goal.Unit-dyn g (p.unit.vtable, p.unit.value)).memory_of p.unit.value }) (λ p q o a. (u : _) × (q.unit ≡ record p.unit { value = u }) × IsAsked ((goal.Unit-dyn g (p.unit.vtable, p.unit.value)).Answers p.unit.value) o a p.unit.value u) n c.args.self.now p c.loop-passed.self (record p { events = p.events + n })) end c.loop-passed.invariant
