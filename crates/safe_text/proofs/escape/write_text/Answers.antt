use Rattle.safe_text.proofs.Writing.{all_written, byte_more}
use Rattle.safe_text.proofs.escape.write_text.Goals as goal

pub loop-byte-preserved : goal.loop-byte-preserved
loop-byte-preserved g c =
    byte_more _ _ _ _ c.in-Some.behind.now _ _ c.in-Some.byte.now (rw c.in-Some.ensures.cases.0 at c.loop-byte.invariant) c.in_ok-write_at.ensures

pub returns-clause-written : goal.returns-clause-written
returns-clause-written g c = all_written _ _ _ _ _ _ _ c.as_bytes-rest.ensures.value c.in_default.ensures.cases c.loop-byte.invariant
