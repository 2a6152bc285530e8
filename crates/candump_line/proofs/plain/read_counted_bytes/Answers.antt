use Rattle.std.proofs.Common.{[], ◌∷◌, length, get_or, arith, ap, ◌∙◌}
use Rattle.std.specs.Prelude.{codes}
use Rattle.candump_line.proofs.BytesLemmas.{next_byte, one_byte, one_more, small_one, length-byte, not_ok, room_for}
use Rattle.candump_line.proofs.WordLemmas.{same_length}
use Rattle.candump_line.proofs.plain.read_counted_bytes.Goals as goal

pub returns-then-eq : goal.returns-then-eq
returns-then-eq c = λ f remarks long remark told counted e.
    let read = c.loop-found.invariant f remarks long counted e in
    let next = next_byte _ _ _ f.bytes _ _ remarks read (omega arith) c.word_or_empty-word.ensures.word c.word_or_empty-word.ensures.rest in
    let size = ap length next.0 ∙ length-byte (get_or f.bytes c.loop-found.found 0) in
    let same = same_length _ c.word_or_empty-word.result.now (codes "remote") c.eq.ensures c.if-eq.true in
    absurd (omega (arith, size, same))

pub returns-then-word-ne2 : goal.returns-then-word-ne2
returns-then-word-ne2 c = λ f remarks long remark told counted e.
    let read = c.loop-found.invariant f remarks long counted e in
    let next = next_byte _ _ _ f.bytes _ _ remarks read (omega arith) c.word_or_empty-word.ensures.word c.word_or_empty-word.ensures.rest in
    absurd (c.if-word-ne2.true (ap length next.0 ∙ length-byte (get_or f.bytes c.loop-found.found 0)))

pub returns-in-Err : goal.returns-in-Err
returns-in-Err c = λ f remarks long remark told counted e.
    let read = c.loop-found.invariant f remarks long counted e in
    let next = next_byte _ _ _ f.bytes _ _ remarks read (omega arith) c.word_or_empty-word.ensures.word c.word_or_empty-word.ensures.rest in
    let room = room_for _ _ _ _ _ read (omega arith) long.len in
    absurd (not_ok _ _ (c.in-Err.ensures (get_or f.bytes c.loop-found.found 0 ∷ []) (small_one f.bytes _ long.bytes (omega arith)) room (one_byte _ _ next.0)).0)

pub loop-found-preserved : goal.loop-found-preserved
loop-found-preserved c = λ f remarks long counted e.
    let read = c.loop-found.invariant f remarks long counted e in
    let next = next_byte _ _ _ f.bytes _ _ remarks read (omega arith) c.word_or_empty-word.ensures.word c.word_or_empty-word.ensures.rest in
    let room = room_for _ _ _ _ _ read (omega arith) long.len in
    let added = c.add.ensures (get_or f.bytes c.loop-found.found 0 ∷ []) (small_one f.bytes _ long.bytes (omega arith)) room (one_byte _ _ next.0) in
    record { words = next.1; so_far = one_more _ _ f.bytes _ read.so_far (omega arith) added.1 }
