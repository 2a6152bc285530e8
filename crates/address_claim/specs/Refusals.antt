use Rattle.std.specs.Prelude.{ℕ}
use Rattle.address_claim.specs.declared.error.ClaimError.{ClaimError}
use Rattle.address_claim.specs.declared.error.ClaimError.TheVariants.{NotAnAddress, NotThis}

-- the number of a refusal
abbrev pub claim_error_number : ClaimError → ℕ
claim_error_number NotAnAddress = 7
claim_error_number NotThis = 8
