-- A group that a unit may send goes to all.
use Rattle.std.proofs.Common.{ℕ, ◌≡◌, ◌≤◌, true}
use Rattle.std.proofs.lemmas.Bool.{and_parts, leb-true}
use Rattle.can_frame.specs.Fields.{pdu_format_of_pgn}
use Rattle.vehicle.specs.Sending.{is_free_group}

pub goes_to_all : (pgn : ℕ) → is_free_group pgn ≡ true → 240 ≤ pdu_format_of_pgn pgn
goes_to_all pgn h = leb-true 240 _ (and_parts _ _ h).0
