-- The frame by which a NAME claims an address, or says that it has none (SAE J1939-81).
use Rattle.std.specs.Prelude.{ℕ, ◌≡◌, ◌≢◌, Option, Some, None, length}
use Rattle.std.specs.Int.{to_le_bytes, from_le_bytes, w64}
use Rattle.can_frame.specs.Fields.{source_of, pgn_of, destination_of, pdu1_number}
use Rattle.can_frame.specs.FrameValue.{FrameValue, frame}
use Rattle.can_frame.specs.declared.address.TheConstants.{NULL_ADDRESS, GLOBAL_ADDRESS}
use Rattle.can_frame.specs.declared.group_numbers.TheConstants.{ADDRESS_CLAIMED}
use Rattle.address_claim.specs.declared.claim.Claim.{Claim}

-- the source of a claim: the address, or 254 of one who has none
abbrev pub claim_source : Option ℕ → ℕ
claim_source (Some address) = address
claim_source None = NULL_ADDRESS

-- the claim of an address, or the cannot claim: group 60928 to all, priority 6, the NAME lowest byte first
abbrev pub claim_frame_value : ℕ → Option ℕ → FrameValue
claim_frame_value name address = frame (pdu1_number 6 ADDRESS_CLAIMED GLOBAL_ADDRESS (claim_source address)) (to_le_bytes w64 name)

-- such a frame, of any priority; its source may be 254, and not 255
pub record IsClaimFrame (f : FrameValue) : Type 0 where
  pub group : pgn_of f.id ≡ ADDRESS_CLAIMED
  pub to_all : destination_of f.id ≡ Some GLOBAL_ADDRESS
  pub len : length f.bytes ≡ 8
  pub source : source_of f.id ≢ GLOBAL_ADDRESS

-- who claims which address in it
abbrev pub claim_of : FrameValue → Claim
claim_of f = record { source = source_of f.id; name = from_le_bytes w64 f.bytes }
