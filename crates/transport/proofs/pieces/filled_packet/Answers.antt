use Rattle.std.proofs.Common.{rules}
use Rattle.transport.proofs.Filling.{filled_bytes}
use Rattle.transport.proofs.pieces.filled_packet.Goals as goal

pub returns : goal.returns
returns c = filled_bytes c.args.piece.now c.copy_from_slice.new.self c.args.number (search rules) (search rules)
