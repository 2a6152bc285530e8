use Rattle.std.proofs.Common.{rules}
use Rattle.program_io.proofs.InputLemmas.{all_bytes, more_bytes}
use Rattle.program_io.proofs.input.read_input.Goals as goal

pub returns-then-len-gt-LIMIT-clause-too_long : goal.returns-then-len-gt-LIMIT-clause-too_long
returns-then-len-gt-LIMIT-clause-too_long g c =
    λ _. more_bytes (g.R.Read.remaining c.args.reader.now) 1048576 c.read_most.new.bytes.items c.in_default.ensures.whole (search rules)

pub returns-clause-whole : goal.returns-clause-whole
returns-clause-whole g c =
    all_bytes (g.R.Read.remaining c.args.reader.now) 1048576 c.read_most.new.bytes.items c.in_default.ensures.whole (search rules)
