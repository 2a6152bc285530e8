use Rattle.std.specs.Prelude.{◌≡◌}
use Rattle.fault_memory.specs.declared.error.FaultError.TheVariants as memory
use Rattle.garage.specs.declared.error.GarageError.TheVariants as garage
use Rattle.script_answer.specs.declared.refusal.Refusal.{Refusal}
use Rattle.script_answer.specs.declared.refusal.Refusal.TheVariants.{Fault, Garage}

-- memory was refused to the command
abbrev pub WantsMemory : Refusal → Type 0
WantsMemory (Fault error) = error ≡ memory.OutOfMemory
WantsMemory (Garage error) = error ≡ garage.OutOfMemory
WantsMemory _ = ⊥
