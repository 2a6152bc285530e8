use Rattle.hex_text.proofs.Reading.{IsReadTo}
use Rattle.hex_text.proofs.read_hex.Given as goal

abbrev pub invariant-loop-byte : goal.invariant-loop-byte
invariant-loop-byte l = IsReadTo l.fn.text l.byte-index l.number
