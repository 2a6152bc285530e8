use Rattle.std.proofs.Common.{refl, subst, sym, ◌∙◌}
use Rattle.journal.specs.Journal.{GarageValue}
use Rattle.fault_memory.specs.Memory.{MemoryValue}
use Rattle.garage.specs.Answers.{Hears, PassesNext}
use Rattle.garage.specs.declared.answers.HeardOne.TheVariants as heard
use Rattle.garage.proofs.HearLemmas.{passes_this}
use Rattle.garage.proofs.Lent.{on_err}
use Rattle.garage.proofs.Passing.{hears_quietly}
use Rattle.garage.proofs.garage.Garage.hear.Goals as goal

pub returns-in_default-clause-ok : goal.returns-in_default-clause-ok
returns-in_default-clause-ok g c = (c.args.unit.now.1, refl, (sym c.next_for.ensures ∙ c.in_default.is, refl, refl, refl))

pub returns-then-passes_over-clause-ok : goal.returns-then-passes_over-clause-ok
returns-then-passes_over-clause-ok g c =
    let unit = c.args.unit.now in
    let m = (goal.Unit-dyn g unit).memory_of unit.1 in
    let next = sym c.next_for.ensures ∙ c.in-Some.is in
    let passed = subst (λ (m : MemoryValue). PassesNext c.args.self.now c.args.seat m c.passes_over.new.self) c.memory.ensures (c.passes_over.ensures.passed c.if-passes_over.true) in
    let passes = passes_this c.args.self.now c.passes_over.new.self c.args.seat m c.in-Some.frame passed next in
    (unit.1, refl, hears_quietly c.args.self.now c.passes_over.new.self c.args.seat c.in-Some.frame m ((goal.Unit-dyn g unit).Answers unit.1) unit.1 next passes)

pub returns-in_err-react-clause-unasked : goal.returns-in_err-react-clause-unasked
returns-in_err-react-clause-unasked g c = on_err c.from_residual.result c.in_err-react.ensures.unasked

pub returns-clause-ok : goal.returns-clause-ok
returns-clause-ok g c =
    let unit = c.args.unit.now in
    let ok = c.in_ok-react.ensures.ok in
    (ok.0, ok.1, subst (λ (w : GarageValue). Hears w c.args.seat ((goal.Unit-dyn g unit).memory_of unit.1) ((goal.Unit-dyn g unit).Answers unit.1) unit.1 (heard.Frame c.in-Some.frame) c.react.new.self ((goal.Unit-dyn g unit).memory_of c.react.new.unit) ok.0) (c.passes_over.ensures.left c.if-passes_over.false) ok.2)
