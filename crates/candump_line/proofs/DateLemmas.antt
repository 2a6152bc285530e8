-- The days of a date.
use Rattle.std.proofs.Common.{◌≡◌, ◌⊎◌, ℕ, zero, suc, ◌+◌, ◌*◌, ◌/◌, ◌%◌, ◌-◌, ◌<◌, ◌≤◌, arith, refl, ap, sym, inl, inr, List, [], ◌∷◌, Option, Some, ◌^◌, ◌∙◌}
use Rattle.std.proofs.lemmas.Bool.Decides.{nat_tests}
use Rattle.std.specs.Prelude.{All}
use Rattle.std.proofs.lemmas.List.Elements.{All-cons, All-nil, All-get_or}
use Rattle.candump_line.specs.Calendar.{days_from_1970, days_of_years, leap_days, month_lengths, IsDate}

zero_or_more : (n : ℕ) → (n ≡ 0) ⊎ (0 < n)
zero_or_more zero = inl refl
zero_or_more (suc n) = inr (omega arith)

-- a year more
year_more : (n days leap : ℕ) → (leap ≡ 0) × (0 < (1970 + n) % 4)
    ⊎ (leap ≡ 1) × ((1970 + n) % 4 ≡ 0) × (0 < (1970 + n) % 100)
    ⊎ (leap ≡ 0) × ((1970 + n) % 100 ≡ 0) × (0 < (1970 + n) % 400)
    ⊎ (leap ≡ 1) × ((1970 + n) % 400 ≡ 0)
    → n * 365 + (n + 1) / 4 + (n + 369) / 400 ≡ days + (n + 69) / 100 → suc n * 365 + (suc n + 1) / 4 + (suc n + 369) / 400 ≡ days + 365 + leap + (suc n + 69) / 100
year_more n days leap (inl h) e = let a = h.0 in let b = h.1 in omega arith
year_more n days leap (inr (inl h)) e = let a = h.0 in let b = h.1 in let c = h.2 in omega arith
year_more n days leap (inr (inr (inl h))) e = let a = h.0 in let b = h.1 in let c = h.2 in omega arith
year_more n days leap (inr (inr (inr h))) e = let a = h.0 in let b = h.1 in omega arith

leap_cases : (year leap : ℕ) → leap ≡ leap_days year → (leap ≡ 0) × (0 < year % 4)
    ⊎ (leap ≡ 1) × (year % 4 ≡ 0) × (0 < year % 100)
    ⊎ (leap ≡ 0) × (year % 100 ≡ 0) × (0 < year % 400)
    ⊎ (leap ≡ 1) × (year % 400 ≡ 0)
leap_cases year leap e = at_four (zero_or_more (year % 4)) (zero_or_more (year % 100)) (zero_or_more (year % 400))
  where
    at_four : ((year % 4 ≡ 0) ⊎ (0 < year % 4)) → ((year % 100 ≡ 0) ⊎ (0 < year % 100)) → ((year % 400 ≡ 0) ⊎ (0 < year % 400)) → (leap ≡ 0) × (0 < year % 4)
        ⊎ (leap ≡ 1) × (year % 4 ≡ 0) × (0 < year % 100)
        ⊎ (leap ≡ 0) × (year % 100 ≡ 0) × (0 < year % 400)
        ⊎ (leap ≡ 1) × (year % 400 ≡ 0)
    at_four (inr a) b c = inl (grind (arith, nat_tests), a)
    at_four (inl a) (inr b) c = inr (inl (grind (arith, nat_tests), a, b))
    at_four (inl a) (inl b) (inr c) = inr (inr (inl (grind (arith, nat_tests), b, c)))
    at_four (inl a) (inl b) (inl c) = inr (inr (inr (grind (arith, nat_tests), c)))

years_sum : (n : ℕ) → n * 365 + (n + 1) / 4 + (n + 369) / 400 ≡ days_of_years n + (n + 69) / 100
unfolding days_of_years
years_sum zero = refl
years_sum (suc n) = year_more n (days_of_years n) (leap_days (1970 + n)) (leap_cases (1970 + n) (leap_days (1970 + n)) refl) (years_sum n)

-- the days before a year
pub years_before : (year days : ℕ) → 1970 ≤ year → days ≡ (year - 1970) * 365 + (year - 1969) / 4 + (year - 1601) / 400 - (year - 1901) / 100 → days ≡ days_of_years (year - 1970)
years_before year days from e =
    let sum = years_sum (year - 1970) in
    let four : year - 1970 + 1 ≡ year - 1969 = omega arith in
    let hundred : year - 1970 + 69 ≡ year - 1901 = omega arith in
    let more : year - 1970 + 369 ≡ year - 1601 = omega arith in
    let whole = rw (four, hundred, more) at sum in
    omega (arith, e, whole)

month_most : (leap : ℕ) → leap ≤ 1 → All (λ n. n ≤ 31) (month_lengths leap)
month_most leap h =
    All-cons (λ n. n ≤ 31) 31 ((28 + leap) ∷ 31 ∷ 30 ∷ 31 ∷ 30 ∷ 31 ∷ 31 ∷ 30 ∷ 31 ∷ 30 ∷ 31 ∷ []) (omega (arith, h)) (All-cons (λ n. n ≤ 31) (28 + leap) (31 ∷ 30 ∷ 31 ∷ 30 ∷ 31 ∷ 31 ∷ 30 ∷ 31 ∷ 30 ∷ 31 ∷ []) (omega (arith, h)) (All-cons (λ n. n ≤ 31) 31 (30 ∷ 31 ∷ 30 ∷ 31 ∷ 31 ∷ 30 ∷ 31 ∷ 30 ∷ 31 ∷ []) (omega (arith, h)) (All-cons (λ n. n ≤ 31) 30 (31 ∷ 30 ∷ 31 ∷ 31 ∷ 30 ∷ 31 ∷ 30 ∷ 31 ∷ []) (omega (arith, h)) (All-cons (λ n. n ≤ 31) 31 (30 ∷ 31 ∷ 31 ∷ 30 ∷ 31 ∷ 30 ∷ 31 ∷ []) (omega (arith, h)) (All-cons (λ n. n ≤ 31) 30 (31 ∷ 31 ∷ 30 ∷ 31 ∷ 30 ∷ 31 ∷ []) (omega (arith, h)) (All-cons (λ n. n ≤ 31) 31 (31 ∷ 30 ∷ 31 ∷ 30 ∷ 31 ∷ []) (omega (arith, h)) (All-cons (λ n. n ≤ 31) 31 (30 ∷ 31 ∷ 30 ∷ 31 ∷ []) (omega (arith, h)) (All-cons (λ n. n ≤ 31) 30 (31 ∷ 30 ∷ 31 ∷ []) (omega (arith, h)) (All-cons (λ n. n ≤ 31) 31 (30 ∷ 31 ∷ []) (omega (arith, h)) (All-cons (λ n. n ≤ 31) 30 (31 ∷ []) (omega (arith, h)) (All-cons (λ n. n ≤ 31) 31 [] (omega (arith, h)) (All-nil (λ n. n ≤ 31)))))))))))))

leap_most : (year : ℕ) → leap_days year ≤ 1
leap_most year = grind (arith, nat_tests)

pub day_small : (year month day : ℕ) → IsDate year month day → day < 100
day_small year month day h =
    let most = All-get_or (λ n. n ≤ 31) (month_lengths (leap_days year)) (month - 1) 0 (omega (arith, h.of_year.0, h.of_year.1)) (month_most (leap_days year) (leap_most year)) in
    omega (arith, h.of_month.1, most)

pub days_read : (y m d year month day : ℕ) (r : Option ℕ) → y ≡ year → m ≡ month → d ≡ day → IsDate year month day → (IsDate y m d → r ≡ Some (days_from_1970 y m d)) → r ≡ Some (days_from_1970 year month day)
days_read y m d year month day r ey em ed date h =
    let told = rw (ey, em, ed) at h in
    told date

pub clock_sum : (h m t hours minutes seconds micros : ℕ) → h ≡ hours → m ≡ minutes → t ≡ seconds * 10 ^ 6 + micros
    → (h * 60 + m) * 60000000 + t ≡ (hours * 60 + minutes) * 60000000 + (seconds * 10 ^ 6 + micros)
clock_sum h m t hours minutes seconds micros eh em et = rw (eh, em, et) refl

pub date_sum : (d t days micros : ℕ) → d ≡ days → t ≡ micros → d * 86400000000 + t ≡ days * 86400000000 + micros
date_sum d t days micros ed et = rw (ed, et) refl

pub micros_as : (m word seconds micros : ℕ) → m ≡ word * 10 ^ 6 + micros → word ≡ seconds → m ≡ seconds * 10 ^ 6 + micros
micros_as m word seconds micros e same = e ∙ ap (λ k. k * 10 ^ 6 + micros) same

pub minute_most : (m seconds micros : ℕ) → m ≡ seconds * 10 ^ 6 + micros → seconds ≤ 60 → micros < 10 ^ 6 → m < 61000000
minute_most m seconds micros e most small = omega (arith, e, most, small)
