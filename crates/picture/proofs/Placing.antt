-- The first codes of a message stand in the places of a brief.
use Rattle.std.proofs.Common.{◌≡◌, ℕ, ◌-◌, ◌^◌, ◌<◌, min, List, [], ◌∷◌, length, get_or, Option, Some, None, zero, suc, refl, sym, ap, subst, ◌∙◌, arith, lt-ltb}
use Rattle.std.specs.Option.{option_map_or}
use Rattle.std.specs.Prelude.{IfSome, slice_get, nat_lt, if◌then◌else◌}
use Rattle.trouble_code.specs.Code.{Code, IsCode}
use Rattle.trouble_code.specs.Numbers.{code_of_number, number_of_code}
use Rattle.picture.specs.Briefs.{IsBriefOf, MessageTold, one_by_one}
use Rattle.picture.specs.declared.brief.Brief.{Brief}
use Rattle.picture.specs.declared.brief.TheConstants.{LISTED}

same_code_back : (c : Code) → IsCode c → code_of_number (number_of_code c) ≡ c
same_code_back c h =
    let spn : (code_of_number (number_of_code c)).spn ≡ c.spn = omega (arith, h.0, h.1, h.2) in
    let fmi : (code_of_number (number_of_code c)).fmi ≡ c.fmi = omega (arith, h.0, h.1, h.2) in
    let count : (code_of_number (number_of_code c)).count ≡ c.count = omega (arith, h.0, h.1, h.2) in
    rw (spn, fmi, count) refl

-- of very many codes as many are told one by one as of the greatest 16-bit number
pub told_as_many : (n : ℕ) → one_by_one (min n (2 ^ 16 - 1)) ≡ one_by_one n
told_as_many n = grind arith

pub one_of : (m : MessageTold) (b : Brief) (place listed : ℕ) → IsBriefOf m b → listed ≡ one_by_one (length m.codes) → place < listed → place < one_by_one b.count
one_of m b place listed h e w = rw (h.counted, told_as_many (length m.codes), ← e) w

told_are_kept : (place n : ℕ) → place < one_by_one n → (place < n) × (place < LISTED)
told_are_kept place n w = grind (arith, w)

code_there : (n : ℕ) (r o : Option Code) → n ≡ option_map_or number_of_code o 0 → (o ≡ None → ⊥) → IfSome o IsCode → (IsCode (code_of_number n) → r ≡ Some (code_of_number n)) → r ≡ o
code_there n r None e some lawful read = absurd (some refl)
code_there n r (Some c) e some lawful read =
    let back : code_of_number n ≡ c = ap code_of_number e ∙ same_code_back c lawful in
    read (subst (λ x. IsCode x) (sym back) lawful) ∙ ap Some back

is_there : (codes : List Code) (place : ℕ) → place < length codes → slice_get codes place ≡ None → ⊥
is_there [] place w e = absurd (omega (arith, w))
is_there (c ∷ cs) zero w e = absurd cc
is_there (c ∷ cs) (suc place) w e = is_there cs place (omega (arith, w)) e

-- the code at a place that is told is read from its number
pub code_told : (m : MessageTold) (b : Brief) (place n : ℕ) (r : Option Code) → IsBriefOf m b → place < one_by_one b.count → n ≡ get_or b.places place 0
    → (IsCode (code_of_number n) → r ≡ Some (code_of_number n)) → r ≡ (if nat_lt place (one_by_one (length m.codes)) then slice_get m.codes place else None)
code_told m b place n r h within e read =
    let told : place < one_by_one (length m.codes) = rw (h.counted, told_as_many (length m.codes)) at within in
    let kept = told_are_kept place (length m.codes) told in
    let first = h.first place kept.1 in
    rw (lt-ltb _ _ told) (code_there n r (slice_get m.codes place) (e ∙ first.0) (is_there m.codes place kept.0) first.1 read)
