-- The least free address, found by looking at one after another.
use Rattle.std.proofs.Common.{◌≡◌, ◌+◌, ◌-◌, ◌<◌, ◌≤◌, ℕ, false, true, cond, List, length, drop, Option, Some, None, nat_lt, arith, refl, sym, ap, ◌∙◌}
use Rattle.std.specs.Prelude.{slice_index_or, slice_range}
use Rattle.std.specs.List.{position_or_len}
use Rattle.std.specs.Option.{option_map}
use Rattle.std.proofs.lemmas.Bool.{cond_below, cond_above}
use Rattle.std.proofs.lemmas.List.{get_or-take, get_or-drop, length-take, length-drop}
use Rattle.std.proofs.lemmas.List.Sums.{position_or_len_is}
use Rattle.address_claim.specs.Claiming.{is_free, free_address}

-- no address from 128 up to this one is free
abbrev pub IsNoneFree : ℕ → List (Option ℕ) → ℕ → Type 0
IsNoneFree own noted end = (a : ℕ) → 128 ≤ a → a < end → is_free own (slice_index_or noted a None) ≡ false

-- place k of these is address 128 + k
at_place : (noted : List (Option ℕ)) (k : ℕ) → k < 120 → slice_index_or (slice_range noted 128 248) k None ≡ slice_index_or noted (128 + k) None
at_place noted k lt = get_or-take 120 (drop 128 noted) k None lt ∙ get_or-drop 128 noted k None

few : (noted : List (Option ℕ)) → length (slice_range noted 128 248) ≤ 120
few noted = omega (arith, length-take 120 (drop 128 noted))

all_there : (noted : List (Option ℕ)) → length noted ≡ 254 → length (slice_range noted 128 248) ≡ 120
all_there noted long = omega (arith, length-take 120 (drop 128 noted), length-drop 128 noted, long)

-- the first that is free
pub free_found : (own : ℕ) (noted : List (Option ℕ)) (address : ℕ) → length noted ≡ 254 → 128 ≤ address → address < 248 → IsNoneFree own noted address
    → is_free own (slice_index_or noted address None) ≡ true → Some address ≡ free_address own noted
free_found own noted address long least most before here =
    let places : List (Option ℕ) = slice_range noted 128 248 in
    let k : ℕ = address - 128 in
    let place : 128 + k ≡ address = omega (arith, least) in
    let many : length places ≡ 120 = all_there noted long in
    let inside : k < length places = omega (arith, many, place, most) in
    let found : position_or_len (is_free own) places ≡ k = position_or_len_is (is_free own) places k None (omega (arith, inside))
    (λ j lt. ap (is_free own) (at_place noted j (omega (arith, lt, place, most))) ∙ before (128 + j) (omega arith) (omega (arith, lt, place)))
    (λ _. ap (is_free own) (at_place noted k (omega (arith, place, most)) ∙ ap (λ (a : ℕ). slice_index_or noted a None) place) ∙ here) in
    let first : Some k ≡ cond (nat_lt (position_or_len (is_free own) places) (length places)) (Some (position_or_len (is_free own) places)) None =
    rw (found) (cond_below k (length places) (Some k) None inside) in
    ap Some (sym place) ∙ ap (option_map (λ i. 128 + i)) first

-- none is free
pub none_free : (own : ℕ) (noted : List (Option ℕ)) → IsNoneFree own noted 248 → None ≡ free_address own noted
none_free own noted before =
    let places : List (Option ℕ) = slice_range noted 128 248 in
    let short : length places ≤ 120 = few noted in
    let passed : position_or_len (is_free own) places ≡ length places = position_or_len_is (is_free own) places (length places) None (omega arith)
    (λ j lt. ap (is_free own) (at_place noted j (omega (arith, lt, short))) ∙ before (128 + j) (omega arith) (omega (arith, lt, short)))
    (λ lt. absurd (omega (arith, lt))) in
    let none : None ≡ cond (nat_lt (position_or_len (is_free own) places) (length places)) (Some (position_or_len (is_free own) places)) None =
    rw (passed) (cond_above (length places) (length places) (Some (length places)) None None (omega arith) refl) in
    ap (option_map (λ i. 128 + i)) none
