use Rattle.std.proofs.Common.{ap, sym}
use Rattle.reassembly.specs.Tables.{TableValue}
use Rattle.reassembly.specs.declared.pacing.Pace.{Pace}
use Rattle.reassembly.proofs.TableLemmas.{put_instead}
use Rattle.reassembly.proofs.paces.Paces.restore.Goals as goal

pub returns-in-Some-before : goal.returns-in-Some-before
returns-in-Some-before c =
    put_instead c.self.inside.table.slots c.take.new.self.slots c.put.new.self.slots c.args.self.now c.args.dest c.in-Some-before.pace c.args.before
    (ap (λ (t : TableValue Pace). t.slots) c.take.ensures.left) (ap (λ (t : TableValue Pace). t.slots) c.put.ensures.kept) (sym c.in-Some-before.is) c.self.view_is
