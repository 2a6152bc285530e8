use Rattle.std.proofs.Common.{◌≡◌, ◌≤◌, take, arith, ap, ◌∙◌}
use Rattle.std.proofs.lemmas.Grind.{common_steps}
use Rattle.transport.specs.Pieces.{joined}
use Rattle.transport.specs.Assembling.{AssemblyValue}
use Rattle.transport.proofs.Steps.{joined_taken, whole_bytes}
use Rattle.transport.proofs.assembly.Assembly.payload.Goals as goal

pub slice_bounds-result-end : goal.slice_bounds-result-end
slice_bounds-result-end c =
    let within : c.self.inside.size ≤ c.self.inside.bytes.len = whole_bytes c.self.inside.size c.self.inside.broken _ c.self.inside.bytes.items c.self.inside.bytes.ok.0 c.self.invariant.whole (rw (← c.self.view_is) at c.requires) in
    grind (arith, common_steps)

pub returns : goal.returns
returns c = λ parts taken.
    let bytes : take c.from.result c.deref.result.now ≡ take c.self.inside.size c.self.inside.bytes.items = grind (arith, common_steps) in
    let held = ap (λ (a : AssemblyValue). a.taken) c.self.view_is ∙ taken in
    let size = ap (λ (a : AssemblyValue). a.size) c.self.view_is in
    bytes ∙ joined_taken c.self.inside.size c.self.inside.broken _ c.self.inside.bytes.items parts c.self.inside.bytes.ok.0 c.self.invariant.whole held ∙ ap (λ n. joined n parts) size
