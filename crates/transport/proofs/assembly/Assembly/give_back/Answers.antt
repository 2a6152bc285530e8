use Rattle.std.proofs.Common.{◌≡◌, ◌-◌, take, arith, refl, ap, ◌∙◌}
use Rattle.std.proofs.lemmas.Grind.{common_steps}
use Rattle.transport.specs.Assembling.{AssemblyValue}
use Rattle.transport.proofs.Steps.{given_back}
use Rattle.transport.proofs.assembly.Assembly.give_back.Goals as goal

pub returns : goal.returns
returns c = λ before part taken.
    let items : c.truncate.new.self.items ≡ take (c.self.inside.bytes.len - 7) c.self.inside.bytes.items = grind (arith, common_steps) in
    let held = ap (λ (a : AssemblyValue). a.taken) c.self.view_is ∙ taken in
    rw (items, ← c.self.view_is, given_back _ c.self.inside.broken c.self.inside.bytes.items before part c.self.inside.bytes.ok.0 c.self.invariant.whole held) refl
