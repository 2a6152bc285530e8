-- Bits of fields, and fields of a frame.
use Rattle.std.proofs.Common.{ℕ, ◌≡◌, ◌<◌, ◌+◌, ◌/◌, ◌^◌, nat_eq, bit_and, arith, refl, List, [], ◌∷◌, ◌++◌, Option, Some, None, IfSome, length, take, get_or, subst, sym, ap, ◌∙◌}
use Rattle.std.specs.Int.{bit_at}
use Rattle.std.specs.List.{All, AllPairs}
use Rattle.std.proofs.lemmas.Nat.Bits.{shr_and_one, bit_at-lt}
use Rattle.std.proofs.lemmas.Bool.Decides.{nat_tests}
use Rattle.std.proofs.lemmas.List.{length-take, get_or-take, take_more}
use Rattle.std.proofs.lemmas.List.Elements.{All-from_get_or, All-more, All-pop}
use Rattle.std.proofs.lemmas.List.Quantifiers.{all_pairs_push}
use Rattle.vehicle.specs.declared.field_bits.ByteOrder.{ByteOrder}
use Rattle.vehicle.specs.declared.field_bits.ByteOrder.TheVariants.{Intel, Motorola}
use Rattle.vehicle.specs.declared.field_bits.FieldBits.{FieldBits}
use Rattle.vehicle.specs.declared.moving_field.MovingField.{MovingField}
use Rattle.vehicle.specs.Apart.{ShareNoBit}
use Rattle.vehicle.specs.Moving.{IsUncovered, Shows, bit_of, bit_number, place_by, value_at}

-- no two bits of a field stand at one place
pub one_place : (order : ByteOrder) (start size i j : ℕ) → i < size → j < size → place_by order start size i ≡ place_by order start size j → i ≡ j
one_place Intel start size i j a b e = omega arith
one_place Motorola start size i j a b e = omega arith

two_digits : (n : ℕ) → n < 2 → bit_number (nat_eq n 1) ≡ n
two_digits n h = grind (arith, nat_tests)

-- the bit that a program tests
pub tested : (n i : ℕ) → bit_number (nat_eq (bit_and (n / 2 ^ i) 1) 1) ≡ bit_at n i
tested n i = rw (shr_and_one n i) (two_digits (bit_at n i) (bit_at-lt n i))

-- ---- one field more

-- it shows what it is to, and those before show what they did, since none of its bits is one of theirs
pub shown_more : (fs : List MovingField) (i count : ℕ) (f : MovingField) (old new : List ℕ) → i < length fs → f ≡ get_or fs i f
    → AllPairs (λ a b. ShareNoBit a.bits b.bits) fs → All (λ a. Shows a.bits (value_at a.motion count) old) (take i fs)
    → ((n : ℕ) → IsUncovered f.bits n → bit_of new n ≡ bit_of old n) → Shows f.bits (value_at f.motion count) new
    → All (λ a. Shows a.bits (value_at a.motion count) new) (take (i + 1) fs)
shown_more fs i count f old new l is apart shown others here =
    let P : MovingField → Type 0 = λ a. Shows a.bits (value_at a.motion count) new in
    let Q : MovingField → Type 0 = λ a. Shows a.bits (value_at a.motion count) old in
    let R : MovingField → Type 0 = λ a. ShareNoBit a.bits f.bits in
    let from : (k : ℕ) → k < length (take i fs) → R (get_or (take i fs) k f) =
    λ k below. let less : k < i = omega (arith, length-take i fs) in
    let one : ShareNoBit (get_or fs k f).bits (get_or fs i f).bits = apart k i f less l in
    subst R (sym (get_or-take i fs k f less)) (subst (λ g. ShareNoBit (get_or fs k f).bits g.bits) (sym is) one) in
    let all : All R (take i fs) = All-from_get_or R (take i fs) f from in
    let kept : All P (take i fs) = λ k d below j inside. others _ (all k d below j inside) ∙ shown k d below j inside in
    All-more P fs i f l kept (subst P is here)

-- a bit that is of none of them
pub others_more : (fs : List MovingField) (i : ℕ) (f : MovingField) (n : ℕ) → i < length fs → f ≡ get_or fs i f → All (λ a. IsUncovered a.bits n) (take (i + 1) fs)
    → All (λ a. IsUncovered a.bits n) (take i fs) × IsUncovered f.bits n
others_more fs i f n l is none =
    let P : MovingField → Type 0 = λ a. IsUncovered a.bits n in
    let more : All P (take i fs ++ get_or fs i f ∷ []) = rw (take_more fs i f l) at none in
    let parts = All-pop P _ (take i fs) (Some (get_or fs i f)) refl more in
    (parts.0, subst P (sym is) parts.1)

pub one_more_apart : (fs : List MovingField) (i : ℕ) (f : MovingField) → i < length fs → f ≡ get_or fs i f → AllPairs (λ a b. ShareNoBit a.bits b.bits) (take i fs)
    → All (λ a. ShareNoBit a.bits f.bits) (take i fs) → AllPairs (λ a b. ShareNoBit a.bits b.bits) (take (i + 1) fs)
one_more_apart fs i f l is h k =
    let here : take (i + 1) fs ≡ take i fs ++ f ∷ [] = take_more fs i f l ∙ ap (λ y. take i fs ++ y ∷ []) (sym is) in
    rw here (all_pairs_push (λ (a b : MovingField). ShareNoBit a.bits b.bits) (take i fs) f h k)

-- a checksum has no bit of theirs
pub shown_still : (fs : List MovingField) (checksum : Option FieldBits) (count : ℕ) (old new : List ℕ) → ((c : FieldBits) → checksum ≡ Some c → All (λ a. ShareNoBit a.bits c) fs)
    → ((n : ℕ) → IfSome checksum (λ c. IsUncovered c n) → bit_of new n ≡ bit_of old n) → All (λ a. Shows a.bits (value_at a.motion count) old) fs
    → All (λ a. Shows a.bits (value_at a.motion count) new) fs
shown_still fs None count old new apart others shown = λ k d below j inside. others _ tt ∙ shown k d below j inside
shown_still fs (Some c) count old new apart others shown = λ k d below j inside. others _ (apart c refl k d below j inside) ∙ shown k d below j inside
