use Rattle.std.proofs.Common.{◌≡◌, ◌<◌, ◌*◌, ℕ, List, length, take}
use Rattle.std.specs.Prelude.{All}
use Rattle.std.specs.Char.{IsAsciiHexdigit}
use Rattle.std.specs.List.{flat_map}
use Rattle.candump_line.specs.LineText.{byte_digits}
use Rattle.candump_line.proofs.digits.read_pairs.Given as goal

-- the bytes so far are those that the digits spell, which are digits
abbrev pub invariant-loop-place : goal.invariant-loop-place
invariant-loop-place l = record {
  read : (bs : List ℕ) → All (λ b. b < 256) bs → length l.bytes ≡ length bs → l.digits ≡ flat_map byte_digits bs → take l.place l.bytes ≡ take l.place bs;
  hex : All IsAsciiHexdigit (take (2 * l.place) l.digits);
}
