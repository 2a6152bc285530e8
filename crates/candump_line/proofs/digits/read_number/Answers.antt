use Rattle.std.proofs.Common.{◌∙◌, refl}
use Rattle.std.specs.Int.{to_be_bytes, w32}
use Rattle.candump_line.proofs.LineLemmas.{bytes_of_id, id_reads, small_bytes, some_of}
use Rattle.candump_line.proofs.digits.read_number.Goals as goal

pub returns-then-not-read_pairs-clause-reads_back : goal.returns-then-not-read_pairs-clause-reads_back
returns-then-not-read_pairs-clause-reads_back c =
    λ n small e.
    let done = c.read_pairs.ensures.reads_back (to_be_bytes w32 n) (small_bytes n) refl (id_reads _ _ e ∙ bytes_of_id n) in
    cc

pub returns-clause-reads_back : goal.returns-clause-reads_back
returns-clause-reads_back c =
    λ n small e.
    let done = c.read_pairs.ensures.reads_back (to_be_bytes w32 n) (small_bytes n) refl (id_reads _ _ e ∙ bytes_of_id n) in
    some_of n _ _ small done.1 c.from_be_bytes.ensures
