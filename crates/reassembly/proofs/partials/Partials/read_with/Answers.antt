use Rattle.std.proofs.Common.{sym, ap, ◌∙◌}
use Rattle.reassembly.specs.Tables.{TableValue}
use Rattle.reassembly.proofs.TableLemmas.{put_back}
use Rattle.reassembly.proofs.partials.Partials.read_with.Goals as goal

pub returns-clause-same : goal.returns-clause-same
returns-clause-same g c =
    put_back c.self.inside.table.slots c.take.new.self.slots c.put.new.self.slots c.args.self.now c.args.source c.in-Some.partial c.read_with-made.new.self
    (ap (λ (t : TableValue _). t.slots) c.take.ensures.left) (ap (λ (t : TableValue _). t.slots) c.put.ensures.kept) c.read_with-made.ensures.same
    (sym c.take.ensures.taken ∙ c.in-Some.is) c.self.view_is
