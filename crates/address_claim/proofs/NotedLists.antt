-- The claims noted, as a list.
use Rattle.std.proofs.Common.{◌≡◌, ◌≢◌, ◌<◌, ◌≤◌, ℕ, List, replicate, Option, Some, None, IsSome, length, arith, refl, sym, ◌∙◌}
use Rattle.std.specs.Prelude.{slice_set, slice_index_or}
use Rattle.std.specs.Ordering.{nat_cmp}
use Rattle.std.specs.BTreeMap.{BTreeMap, get, IsEmpty, IsUnchanged, Updates, WritesThrough}
use Rattle.std.proofs.lemmas.List.{get_or-set_same, get_or-set_other}
use Rattle.std.proofs.lemmas.List.FromFn.{length-map-range_with_len}
use Rattle.address_claim.specs.Noted.{noted_at, noted_of}
use Rattle.address_claim.proofs.Places.{placed, set_at, all_same, not_equal}

pub none_noted : noted_of None ≡ replicate 254 None
unfolding noted_of
none_noted = all_same None 254

pub noted_there : (names : Option (BTreeMap ℕ ℕ)) (address : ℕ) → address ≤ 253 → slice_index_or (noted_of names) address None ≡ noted_at names address
unfolding noted_of
noted_there names address le = placed (noted_at names) 254 address None (omega (arith, le))

-- one more claim
changed : (was : Option (BTreeMap ℕ ℕ)) (now : BTreeMap ℕ ℕ) (address name : ℕ) → address ≤ 253 → get nat_cmp now address ≡ Some name → ((q : ℕ) → q ≢ address → get nat_cmp now q ≡ noted_at was q)
    → noted_of (Some now) ≡ slice_set (noted_of was) address (Some name)
unfolding noted_of
changed was now address name le here there = set_at (noted_at was) (noted_at (Some now)) 254 address (Some name) (omega (arith, le)) here there

pub noted_more : (was now : BTreeMap ℕ ℕ) (address name : ℕ) → address ≤ 253 → Updates nat_cmp was now address (Some name)
    → noted_of (Some now) ≡ slice_set (noted_of (Some was)) address (Some name)
noted_more was now address name le u = changed (Some was) now address name le u.1 (λ q apart. u.2 q (not_equal address q apart))

-- a claim of an address that has one
pub noted_over : (was now : BTreeMap ℕ ℕ) (address name : ℕ) → address ≤ 253 → IsSome (get nat_cmp was address)
    → WritesThrough nat_cmp (nat_cmp address) was name now → noted_of (Some now) ≡ slice_set (noted_of (Some was)) address (Some name)
noted_over was now address name le some w = noted_more was now address name le (w.3 some)

-- an empty map has no claims
empty_is_none : (m : BTreeMap ℕ ℕ) → IsEmpty m → (q : ℕ) → get nat_cmp m q ≡ None
empty_is_none m e q = rw e refl

pub noted_first : (was now : BTreeMap ℕ ℕ) (address name : ℕ) → address ≤ 253 → IsEmpty was → Updates nat_cmp was now address (Some name)
    → noted_of (Some now) ≡ slice_set (noted_of None) address (Some name)
noted_first was now address name le e u = changed None now address name le u.1 (λ q apart. u.2 q (not_equal address q apart) ∙ empty_is_none was e q)

-- the same entries, the same list
pub noted_unchanged : (was now : BTreeMap ℕ ℕ) → IsUnchanged was now → noted_of (Some now) ≡ noted_of (Some was)
unfolding noted_of
noted_unchanged was now e = rw e refl

pub noted_long : (names : Option (BTreeMap ℕ ℕ)) → length (noted_of names) ≡ 254
unfolding noted_of
noted_long names = length-map-range_with_len (noted_at names) 0 254

-- what is noted after one more claim: of its address, and of another
pub noted_here : (noted : List (Option ℕ)) (source name address : ℕ) → length noted ≡ 254 → source ≤ 253 → address ≡ source
    → Some name ≡ slice_index_or (slice_set noted source (Some name)) address None
noted_here noted source name address long le e =
    let inside : source < length noted = rw (long) (omega (arith, le)) in
    let same : Some name ≡ slice_index_or (slice_set noted source (Some name)) source None = sym (get_or-set_same noted source (Some name) None inside) in
    rw (e) same

pub noted_elsewhere : (noted : List (Option ℕ)) (source name address : ℕ) → address ≢ source
    → slice_index_or noted address None ≡ slice_index_or (slice_set noted source (Some name)) address None
noted_elsewhere noted source name address apart = sym (get_or-set_other noted source address (Some name) None apart)
