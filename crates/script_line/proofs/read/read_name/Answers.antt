use Rattle.script_line.proofs.SpellingLemmas.{name_read}
use Rattle.script_line.proofs.read.read_name.Goals as goal

pub returns : goal.returns
returns c = name_read c.args.word.now c.read_hex.result c.read_hex.ensures.accepted c.read_hex.ensures.value c.read_hex.ensures.bad_name
