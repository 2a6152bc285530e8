use Rattle.std.proofs.Common.{◌≡◌, ◌⊎◌, Result, Ok, Err, IfErr, subst, inl, inr}
use Rattle.program_io.specs.Fault.{IsOfInput}
use Rattle.program_io.specs.declared.fault.Fault.{Fault}
use Rattle.program_io.specs.declared.fault.Fault.TheVariants.{Write, Memory}
use Rattle.unit_threads.proofs.command.run_vehicle.Goals as goal

-- a fault of the output or of memory is none of the input
none_of_input : (f : Fault) → (f ≡ Write) ⊎ (f ≡ Memory) → IsOfInput f → ⊥
none_of_input f (inl write) is = subst IsOfInput write is
none_of_input f (inr memory) is = subst IsOfInput memory is

unless_of_input : {T : Type 0} (P : Type 0) (r : Result T Fault) → IfErr r (λ f. (f ≡ Write) ⊎ (f ≡ Memory)) → IfErr r (λ f. IsOfInput f → P)
unless_of_input P (Ok x) h = tt
unless_of_input P (Err f) h = λ is. absurd (none_of_input f h is)

pub returns-clause-unanswered : goal.returns-clause-unanswered
returns-clause-unanswered g c = unless_of_input _ c.write_run.result c.write_run.ensures.fault
