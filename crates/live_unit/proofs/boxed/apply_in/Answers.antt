use Rattle.std.proofs.Common.{◌≡◌, ◌⊎◌, ap, ◌∙◌, subst, OnOk, OnErr, IfErr, Ok, Err}
use Rattle.fault_memory.specs.Changes.{changed, Grows}
use Rattle.fault_memory.specs.declared.error.FaultError.{FaultError}
use Rattle.fault_memory.specs.declared.error.FaultError.TheVariants.{OutOfMemory}
use Rattle.live_unit.proofs.Lent.{lent}
use Rattle.live_unit.proofs.boxed.apply_in.Goals as goal

pub returns-clause-name : goal.returns-clause-name
returns-clause-name g c = c.apply.ensures.0 ∙ ap (λ s. (goal.Unit-dyn g s).name_of s.1) c.deref_box_mut-1.ensures.value.1

pub returns-clause-ok : goal.returns-clause-ok
returns-clause-ok g c =
    subst (λ s. OnOk c.apply.result (changed ((goal.Unit-dyn g s).memory_of s.1) c.args.change ≡ Ok ((goal.Unit-dyn g c.deref_box_mut-1.result.now).memory_of c.apply.new.self)))
    c.deref_box_mut-1.ensures.value.1 c.apply.ensures.1.0

pub returns-clause-refused : goal.returns-clause-refused
returns-clause-refused g c =
    subst (λ s. (x : FaultError) → changed ((goal.Unit-dyn g s).memory_of s.1) c.args.change ≡ Err x → c.apply.result ≡ Err x) c.deref_box_mut-1.ensures.value.1 c.apply.ensures.1.1.0

pub returns-clause-why : goal.returns-clause-why
returns-clause-why g c =
    subst (λ s. IfErr c.apply.result (λ x. ((x ≡ OutOfMemory) × Grows (changed ((goal.Unit-dyn g s).memory_of s.1) c.args.change) ((goal.Unit-dyn g s).memory_of s.1)) ⊎ (changed ((goal.Unit-dyn g s).memory_of s.1) c.args.change ≡ Err x)))
    c.deref_box_mut-1.ensures.value.1 c.apply.ensures.1.1.1.0

pub returns-clause-err : goal.returns-clause-err
returns-clause-err g c =
    subst (λ s. OnErr c.apply.result ((goal.Unit-dyn g c.deref_box_mut-1.result.now).memory_of c.apply.new.self ≡ (goal.Unit-dyn g s).memory_of s.1)) c.deref_box_mut-1.ensures.value.1 c.apply.ensures.1.1.1.1.0

pub returns-clause-takes : goal.returns-clause-takes
returns-clause-takes g c =
    lent (λ i x y. (goal.Unit-dyn g (i, x)).Takes x c.args.change y) c.args.unit.now c.deref_box_mut-1.result.now c.apply.new.self c.deref_box_mut-1.ensures.value.1 c.apply.ensures.1.1.1.1.1
