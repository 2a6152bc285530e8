use Rattle.std.proofs.Common.{ap, drop, length, arith}
use Rattle.live_lines.proofs.OneMore.{put_back}
use Rattle.live_lines.proofs.fleet.Fleet.hear.Goals as goal
use Rattle.live_lines.proofs.fleet.Fleet.hear.Goals.{then-taken, else-taken}

pub returns : goal.returns
returns g c =
    let value = c.as_mut_slice.ensures.value in
    let whole = put_back c.hear_all-taken.new.members (drop (length c.hear_all-taken.new.members) c.args.self.now.members.items) c.args.self.now.members.len (omega (arith, c.hear_all-taken.ensures.many, c.as_mut_slice.ensures.len, ap (λ l. length l) value)) in
    record {
      each = elim c.if-taken.branch [
        | then-taken w ↦ rw (c.note_short.ensures, w.self-is, whole, ← value) c.hear_all-taken.ensures
        | else-taken w ↦ rw (c.note_short.ensures, w.self-is, whole, ← value) c.hear_all-taken.ensures
      ];
    }
