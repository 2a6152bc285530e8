-- What parked units are to a garage.
use Rattle.std.specs.Prelude.{◌≡◌, ℕ, Bool, Option}
use Rattle.std.specs.declared.alloc.Global.{Global}
use Rattle.std.specs.declared.dyn_box.DynBox.{DynBox}
use Rattle.fault_memory.specs.Memory.{MemoryValue}
use Rattle.unit_trait.specs.declared.question.Question.{Question}
use Rattle.node_core.specs.Asking.{IsAsked}
use Rattle.node_core.specs.declared.heard.Answer.{Answer as UnitAnswer}
use Rattle.garage.specs.Crew.{Sitting}
use Rattle.garage.specs.declared.plug.Parked.{Parked}

-- a parked unit is this to a garage, by the NAME and the memory of a box
abbrev pub sitting_of : {I : Type 0} → {D : I → Type 0} → (DynBox I Global D → ℕ) → (DynBox I Global D → MemoryValue) → Parked I D → Sitting
sitting_of name_of memory_of p = record { seat = p.seat; name = name_of p.unit; events = p.events; memory = memory_of p.unit }

-- it was asked this and answered so, by what a box may answer, and is else as it was
abbrev pub asked_of : {I : Type 0} → {D : I → Type 0} → ((b : DynBox I Global D) → Question → Bool → D b.vtable → Type 0) → Parked I D → Parked I D → Option Question → UnitAnswer → Type 0
asked_of {I} {D} answers p q o a = (u : D p.unit.vtable) × (q.unit ≡ record p.unit { value = u }) × IsAsked (answers p.unit) o a p.unit.value u
