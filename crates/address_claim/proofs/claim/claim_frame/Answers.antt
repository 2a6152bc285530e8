use Rattle.std.proofs.Common.{ℕ, ◌≡◌, ◌<◌, ◌^◌, sym, ap, ◌∙◌, arith}
use Rattle.std.specs.Int.{from_le_bytes, to_le_bytes, w64}
use Rattle.address_claim.proofs.claim.claim_frame.Goals as goal

-- a number that eight bytes carry has 64 bits
eight_bytes : (n : ℕ) → from_le_bytes w64 (to_le_bytes w64 n) ≡ n → n < 2 ^ 64
eight_bytes n back = omega arith

pub returns-clause-name_fits : goal.returns-clause-name_fits
returns-clause-name_fits c = eight_bytes c.args.name (sym (ap (from_le_bytes w64) c.to_bytes.ensures.value) ∙ c.to_bytes.ensures.back)
