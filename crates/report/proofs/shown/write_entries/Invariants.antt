use Rattle.std.proofs.Common.{take}
use Rattle.std.specs.List.{flat_map}
use Rattle.std.specs.Io.KnownBytes.{Appends, append_known}
use Rattle.report.specs.Shown.{code_text, entries_text}
use Rattle.report.proofs.shown.write_entries.Given as goal

abbrev pub invariant-loop-place : goal.invariant-loop-place
invariant-loop-place g l =
    Appends (append_known (g.W.Write.contents l.initial.writer) l.initial.text) (append_known (g.W.Write.contents l.writer) l.text) (entries_text 0 (take l.place l.shown))

abbrev pub invariant-loop-code : goal.invariant-loop-code
invariant-loop-code g l =
    Appends (append_known (g.W.Write.contents l.initial.writer) l.initial.text) (append_known (g.W.Write.contents l.writer) l.text) (flat_map code_text (take l.code-index l.codes))
