use Rattle.std.proofs.Common.{ap}
use Rattle.program_io.proofs.InputLemmas.{first_bytes}
use Rattle.program_io.proofs.input.read_most.Goals as goal

pub returns-clause-whole : goal.returns-clause-whole
returns-clause-whole g c =
    first_bytes g.R.Read.remaining c.take.result.inner.now c.args.reader.now c.take.result.limit 1048577 _ _ (ap (λ r. r.now) c.take.ensures.inner)
    c.take.ensures.limit c.requires c.in_ok-read_to_end.ensures.bytes
