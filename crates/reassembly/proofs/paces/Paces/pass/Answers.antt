use Rattle.std.proofs.Common.{Option, Some, List, sym, ap, ◌∙◌}
use Rattle.reassembly.specs.Pacing.{paced}
use Rattle.reassembly.specs.Tables.{TableValue, at}
use Rattle.reassembly.specs.declared.pacing.Pace.{Pace}
use Rattle.reassembly.proofs.TableLemmas.{put_instead}
use Rattle.reassembly.proofs.paces.Paces.pass.Goals as goal

pub returns-in-Some : goal.returns-in-Some
returns-in-Some c =
    put_instead c.self.inside.table.slots c.take.new.self.slots c.put.new.self.slots c.args.self.now c.args.dest c.after.result _
    (ap (λ (t : TableValue Pace). t.slots) c.take.ensures.left) (ap (λ (t : TableValue Pace). t.slots) c.put.ensures.kept)
    (ap Some c.after.ensures ∙ ap (λ (o : Option Pace). paced c.args.silence c.args.now c.args.step o)
    (sym c.in-Some.is ∙ (c.take.ensures.taken ∙ ap (λ (t : List (Option Pace)). at t c.args.dest) c.self.view_is)))
    c.self.view_is
