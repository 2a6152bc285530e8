use Rattle.std.proofs.Common.{◌≡◌, refl}
use Rattle.dm_messages.specs.View.{view, encoding}
use Rattle.dm_messages.proofs.Outcomes.{written_size, written_bytes, written_reads_back}
use Rattle.dm_messages.proofs.writing.payload.Goals as goal
use Rattle.dm_messages.proofs.writing.payload.Goals.{In_ok-payload}

-- the lamps' bytes, then those of the codes
is_encoding : (c : In_ok-payload) → c.in_ok-payload.payload ≡ encoding (view c.args.kind c.args.memory.now)
is_encoding c = rw (c.in_ok-payload.ensures, c.lamps.ensures.value, c.codes_of.ensures) refl

pub returns-clause-size : goal.returns-clause-size
returns-clause-size c = written_size c.args.kind c.args.memory.now c.in_ok-payload.payload (is_encoding c) c.lamps.ensures.lawful

pub returns-clause-bytes : goal.returns-clause-bytes
returns-clause-bytes c = written_bytes c.args.kind c.args.memory.now c.in_ok-payload.payload (is_encoding c) c.lamps.ensures.lawful

pub returns-clause-read_back : goal.returns-clause-read_back
returns-clause-read_back c = written_reads_back c.args.kind c.args.memory.now c.in_ok-payload.payload (is_encoding c) c.lamps.ensures.lawful
