use denote.Text.{Utf8}
use denote.Shadow.{shadow}
use Rattle.watch_page.proofs.page.file_name.Given as goal

-- the name is text
abbrev pub invariant-loop-part : goal.invariant-loop-part
invariant-loop-part l = shadow (Utf8 l.name)
