use Rattle.std.proofs.Common.{rules, ap}
use Rattle.transport.specs.Assembling.{AssemblyValue}
use Rattle.transport.proofs.Taken.{count_taken}
use Rattle.transport.proofs.assembly.Assembly.taken.Goals as goal

pub returns : goal.returns
returns c = count_taken c.self.inside.broken c.len.result c.self.inside.bytes.items c.args.self.now.taken (search rules) (search rules) (ap (λ (a : AssemblyValue). a.taken) c.self.view_is)
