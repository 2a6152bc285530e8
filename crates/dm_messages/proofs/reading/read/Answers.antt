use Rattle.std.proofs.lemmas.Result.{err_from_is_err_and}
use Rattle.dm_messages.specs.Laws.{Encodes-from_decoding}
use Rattle.dm_messages.proofs.Outcomes.{encoded_at_ok, encoded_at_err, nothing_at_err, read_ok, read_err, read_refused}
use Rattle.dm_messages.proofs.reading.read.Goals as goal

pub returns-in_err-codes-clause-encoded : goal.returns-in_err-codes-clause-encoded
returns-in_err-codes-clause-encoded c =
    let exit = err_from_is_err_and c.from_residual.result c.from_residual.ensures.1 in
    let why = read_err c.args.bytes.now c.in_err-codes.field-0.0 _ c.in-len2-up.len_at_least c.in_err-codes.ensures in
    rw (exit.1, exit.2) (λ v k. encoded_at_err c.args.bytes.now c.in_err-codes.field-0.0 v why k)

pub returns-in_err-codes-clause-nothing : goal.returns-in_err-codes-clause-nothing
returns-in_err-codes-clause-nothing c =
    let exit = err_from_is_err_and c.from_residual.result c.from_residual.ensures.1 in
    let why = read_err c.args.bytes.now c.in_err-codes.field-0.0 _ c.in-len2-up.len_at_least c.in_err-codes.ensures in
    rw (exit.1, exit.2) (nothing_at_err c.args.bytes.now c.in_err-codes.field-0.0 why)

pub returns-in_err-codes-clause-refused : goal.returns-in_err-codes-clause-refused
returns-in_err-codes-clause-refused c =
    let exit = err_from_is_err_and c.from_residual.result c.from_residual.ensures.1 in
    rw (exit.1, exit.2) (read_refused c.args.bytes.now c.in_err-codes.field-0.0 _ c.in-len2-up.len_at_least c.in_err-codes.ensures)

pub returns-clause-ok : goal.returns-clause-ok
returns-clause-ok c =
    rw c.from_bytes.ensures
    (Encodes-from_decoding c.args.bytes.now _ (read_ok c.args.bytes.now c.in_ok-codes.codes c.in-len2-up.len_at_least c.in_ok-codes.ensures.ok))

pub returns-clause-encoded : goal.returns-clause-encoded
returns-clause-encoded c =
    rw c.from_bytes.ensures
    (λ v k. encoded_at_ok c.args.bytes.now _ v (read_ok c.args.bytes.now c.in_ok-codes.codes c.in-len2-up.len_at_least c.in_ok-codes.ensures.ok) k)
