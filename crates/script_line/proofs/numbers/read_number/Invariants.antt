use Rattle.std.proofs.Common.{◌<◌, ◌^◌}
use Rattle.script_line.proofs.NumberLemmas.{IsReadTo}
use Rattle.script_line.proofs.numbers.read_number.Given as goal

abbrev pub invariant-loop-byte : goal.invariant-loop-byte
invariant-loop-byte l = record { below : l.number < 2 ^ 32; read : IsReadTo l.fn.word l.byte-index l.number }
