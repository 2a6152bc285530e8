-- Where nothing is put to the unit, it is as it was.
use Rattle.std.proofs.Common.{◌≡◌, Bool, Option, None, Result, Ok, Err, IfOk, refl}
use Rattle.unit_trait.specs.declared.question.Question.{Question}
use Rattle.node_core.specs.Asking.{IsAsked}
use Rattle.node_core.specs.declared.heard.Heard.{Heard}

pub left_alone : {I E : Type 0} {D : I → Type 0} (unit : (i : I) × D i) (r : Result Heard E) (answers : Question → Bool → D unit.0 → Type 0) (q : Option Question) → q ≡ None
    → IfOk r (λ h. (u : D unit.0) × (unit ≡ (unit.0, u)) × IsAsked answers q h.answer unit.1 u)
left_alone unit (Ok h) answers q e = (unit.1, refl, rw e refl)
left_alone unit (Err x) answers q e = tt
