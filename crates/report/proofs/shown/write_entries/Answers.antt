use Rattle.std.proofs.Common.{rules}
use Rattle.std.specs.Io.KnownBytes.{Keeps, append_known}
use Rattle.report.proofs.Held.{flushed, unchanged, code_more, entry_more}
use Rattle.report.proofs.shown.write_entries.Goals.{then-not-has_room+in_ok-write_to, else-not-has_room, then-not-has_room-2+in_ok-write_to-2, else-not-has_room-2}
use Rattle.report.proofs.shown.write_entries.Goals as goal

pub loop-code-preserved : goal.loop-code-preserved
loop-code-preserved g c =
    let kept : Keeps (append_known (g.W.Write.contents c.loop-code.writer) c.loop-code.text) (append_known (g.W.Write.contents c.if-not-has_room-2.writer) c.if-not-has_room-2.text) =
    elim c.if-not-has_room-2.branch [
      | then-not-has_room-2+in_ok-write_to-2 w ↦ search (rules, flushed)
      | else-not-has_room-2 w ↦ search (rules, unchanged)
    ] in
    search (rules, code_more, kept)

pub loop-place-preserved : goal.loop-place-preserved
loop-place-preserved g c =
    let kept : Keeps (append_known (g.W.Write.contents c.loop-place.writer) c.loop-place.text) (append_known (g.W.Write.contents c.if-not-has_room.writer) c.if-not-has_room.text) =
    elim c.if-not-has_room.branch [
      | then-not-has_room+in_ok-write_to w ↦ search (rules, flushed)
      | else-not-has_room w ↦ search (rules, unchanged)
    ] in
    search (rules, entry_more, kept)
