-- How the claims heard are kept: by address, only of those that were claimed.
use Rattle.std.specs.Prelude.{ℕ, List, map, Option, Some, None}
use Rattle.std.specs.List.{range_with_len}
use Rattle.std.specs.Ordering.{nat_cmp}
use Rattle.std.specs.BTreeMap.{BTreeMap, get}
use Rattle.can_frame.specs.declared.address.TheConstants.{HOLDABLE_ADDRESSES}

-- the NAME in the last claim of an address
abbrev pub noted_at : Option (BTreeMap ℕ ℕ) → ℕ → Option ℕ
noted_at None address = None
noted_at (Some names) address = get nat_cmp names address

-- the NAMEs in the last claims of all addresses, 0 to 253
unfoldable pub noted_of : Option (BTreeMap ℕ ℕ) → List (Option ℕ)
noted_of names = map (noted_at names) (range_with_len 0 HOLDABLE_ADDRESSES)
