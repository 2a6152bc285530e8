use Rattle.std.proofs.Common.{◌≡◌, take, arith, sym, ap, ◌∙◌}
use Rattle.std.proofs.lemmas.Grind.{common_steps}
use Rattle.transport.specs.Pieces.{joined, pieces}
use Rattle.transport.specs.Cutting.{joined-pieces}
use Rattle.transport.specs.Assembling.{AssemblyValue}
use Rattle.transport.proofs.Steps.{joined_taken}
use Rattle.transport.proofs.assembly.Assembly.finish.Goals as goal

pub returns-clause-value : goal.returns-clause-value
returns-clause-value c = λ parts taken.
    let bytes : c.of.result ≡ take c.self.inside.size c.self.inside.bytes.items = grind (arith, common_steps) in
    let held = ap (λ (a : AssemblyValue). a.taken) c.self.view_is ∙ taken in
    let size = ap (λ (a : AssemblyValue). a.size) c.self.view_is in
    bytes ∙ joined_taken c.self.inside.size c.self.inside.broken _ c.self.inside.bytes.items parts c.self.inside.bytes.ok.0 c.self.invariant.whole held ∙ ap (λ n. joined n parts) size

pub returns-clause-back : goal.returns-clause-back
returns-clause-back c = λ payload len taken.
    returns-clause-value c (pieces payload) taken ∙ ap (λ n. joined n (pieces payload)) (sym len) ∙ joined-pieces payload
