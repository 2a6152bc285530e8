use Rattle.script_line.proofs.SpellingLemmas.{frame_made}
use Rattle.script_line.proofs.frames.frame_of.Goals as goal

pub returns : goal.returns
returns c = frame_made c.args.id c.args.bytes.now c.new.result c.new.ensures.ok c.new.ensures.id_too_large c.new.ensures.too_long
