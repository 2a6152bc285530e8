use Rattle.std.proofs.Common.{◌∙◌}
use Rattle.dm_messages.proofs.Groups.{read_more, fault_more, whole_more}
use Rattle.dm_messages.proofs.reading.read_groups.Goals as goal

pub loop-rest-preserved : goal.loop-rest-preserved
loop-rest-preserved c = record {
  read =
      rw c.in-Ok-push.ensures.ok
      (read_more c.loop-rest.codes c.in_ok-code.code c.loop-rest.rest.now c.args.groups.now c.in-len4-up.len_at_least c.in_ok-code.ensures.ok
      c.loop-rest.invariant.read);
  fault = fault_more c.loop-rest.rest.now c.in-len4-up.len_at_least c.in_ok-code.ensures.no_fault ∙ c.loop-rest.invariant.fault;
  whole = whole_more c.loop-rest.rest.now c.in-len4-up.len_at_least c.loop-rest.invariant.whole;
}
