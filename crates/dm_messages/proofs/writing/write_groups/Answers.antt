use Rattle.std.proofs.Common.{arith}
use Rattle.dm_messages.proofs.Groups.{written_more, four_pushed}
use Rattle.dm_messages.proofs.writing.write_groups.Goals as goal

pub loop-code-preserved : goal.loop-code-preserved
loop-code-preserved c =
    let last = c.push_reserved-in-loop-code-3 in
    record {
      written = written_more last.new.self.items c.reserve.new.self.items c.args.codes.now c.loop-code.code-index c.code-item.result c.loop-code-test.true c.code-item.is
          (rw (last.ensures.items, c.push_reserved-in-loop-code-2.ensures.items, c.push_reserved-in-loop-code.ensures.items, c.push_reserved.ensures.items, c.to_bytes.ensures.written, c.loop-code.invariant.written)
          (four_pushed _ _ _ _ _));
      room = omega (arith, c.loop-code-test.true, c.loop-code.invariant.room, last.ensures.len, last.ensures.capacity, c.push_reserved-in-loop-code-2.ensures.len, c.push_reserved-in-loop-code-2.ensures.capacity, c.push_reserved-in-loop-code.ensures.len, c.push_reserved-in-loop-code.ensures.capacity, c.push_reserved.ensures.len, c.push_reserved.ensures.capacity);
    }
