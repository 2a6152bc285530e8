-- The station's own address is never 255, the address of all.
use Rattle.std.proofs.Common.{◌≡◌, ℕ, ◌+◌, ◌<◌, ◌≤◌, Bool, true, false, nat_eq, nat_lt, not, ◌||◌, List, Option, Some, None, if◌then◌else◌, length, drop, refl, arith, length-take}
use Rattle.std.specs.Prelude.{option_map, position, slice_range}
use Rattle.std.proofs.lemmas.Bool.{ne_eqb}
use Rattle.std.proofs.lemmas.List.Quantifiers.{position-Some}
use Rattle.name_field.specs.Fields.{arbitrary_capable_of}
use Rattle.address_claim.specs.Claiming.{ClaimerValue, is_held, is_free, free_address, next_address, noted_after, move_step, held_after, after_claim}
use Rattle.address_claim.specs.declared.claimer.ClaimStep.TheVariants.{Nothing, Defend}

-- 255 is not the address
abbrev pub NotAll : Option ℕ → Type 0
NotAll held = is_held held 255 ≡ false

free_below : (p : Option ℕ → Bool) (xs : List (Option ℕ)) → length xs ≤ 120 → NotAll (option_map (λ k. 128 + k) (position p xs))
free_below p xs short = go (position p xs) refl
  where
    go : (o : Option ℕ) → position p xs ≡ o → NotAll (option_map (λ k. 128 + k) o)
    go None e = refl
    go (Some k) e =
        let below : k < length xs = (position-Some p xs k None e).0 in
        ne_eqb (128 + k) 255 (λ same. let wrong : 128 + k ≡ 255 = same in omega arith)

range_short : (xs : List (Option ℕ)) → length (slice_range xs 128 248) ≤ 120
range_short xs = omega (arith, length-take {A = Option ℕ} 120 (drop 128 xs))

free_apart : (name : ℕ) (noted : List (Option ℕ)) → NotAll (next_address name noted)
free_apart name noted = go (nat_eq (arbitrary_capable_of name) 1)
  where
    go : (b : Bool) → NotAll (if b then free_address name noted else None)
    go true = free_below (is_free name) (slice_range noted 128 248) (range_short noted)
    go false = refl

moved : (o held : Option ℕ) → NotAll o → NotAll (held_after (move_step o) held)
moved None held e = refl
moved (Some a) held e = e

-- a claim leaves it so
pub still_apart : (src m : ℕ) (c : ClaimerValue) → NotAll c.held → NotAll (after_claim src m c).held
still_apart src m c e = go (not (is_held c.held src) || nat_eq m c.name) (nat_lt c.name m)
  where
    go : (b d : Bool)
        → NotAll (held_after (if b then Nothing else if d then Defend else move_step (next_address c.name (noted_after src m c.noted))) c.held)
    go true d = e
    go false true = e
    go false false = moved (next_address c.name (noted_after src m c.noted)) c.held (free_apart c.name (noted_after src m c.noted))
