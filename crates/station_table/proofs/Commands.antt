-- A command takes an announcement and two packets.
use Rattle.std.proofs.Common.{◌≡◌, ℕ, List, [], ◌∷◌, length, refl, sym}
use Rattle.transport.specs.Messages.{part_of_message, last_part, frames_of_message}

pub two_packets : (payload : List ℕ) → length payload ≡ 9 → last_part payload ≡ 2
two_packets payload len = rw (len) refl

pub three_frames : (payload : List ℕ) (pgn source dest : ℕ) → length payload ≡ 9
    → part_of_message payload pgn source dest 0 ∷ part_of_message payload pgn source dest 1 ∷ part_of_message payload pgn source dest 2 ∷ [] ≡ frames_of_message payload pgn source dest
three_frames payload pgn source dest len = sym (rw (two_packets payload len) refl)
