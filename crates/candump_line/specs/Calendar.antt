-- Dates of the Gregorian calendar.
use Rattle.std.specs.Prelude.{ℕ, zero, suc, ◌+◌, ◌*◌, ◌-◌, ◌%◌, ◌^◌, ◌<◌, ◌≤◌, ◌≡◌, ◌==◌, ◌&&◌, ◌||◌, not, Bool, if◌then◌else◌, List, [], ◌∷◌, ◌++◌, sum, take, slice_index}
use Rattle.candump_line.specs.LineText.{decimal_digits, micros_of_ticks, IsFraction}

-- each fourth year, and of those that end a century each fourth
abbrev pub is_leap_year : ℕ → Bool
is_leap_year year = (year % 4 == 0) && (not (year % 100 == 0) || (year % 400 == 0))

abbrev pub leap_days : ℕ → ℕ
leap_days year = if is_leap_year year then 1 else 0

-- the days of the months of a year with so many leap days
abbrev pub month_lengths : ℕ → List ℕ
month_lengths leap = 31 ∷ (28 + leap) ∷ 31 ∷ 30 ∷ 31 ∷ 30 ∷ 31 ∷ 31 ∷ 30 ∷ 31 ∷ 30 ∷ 31 ∷ []

-- the days of so many years from 1970 on
unfoldable pub days_of_years : ℕ → ℕ
days_of_years zero = 0
days_of_years (suc n) = days_of_years n + 365 + leap_days (1970 + n)

-- the days from the start of 1970 to a date
abbrev pub days_from_1970 : ℕ → ℕ → ℕ → ℕ
days_from_1970 year month day = days_of_years (year - 1970) + sum (take (month - 1) (month_lengths (leap_days year))) + (day - 1)

-- from 1970 to 9999
pub record IsDate (year month day : ℕ) : Type 0 where
  pub from : 1970 ≤ year
  pub to : year ≤ 9999
  pub of_year : (1 ≤ month) × (month ≤ 12)
  pub of_month : (1 ≤ day) × (day ≤ slice_index (month_lengths (leap_days year)) (month - 1))

-- YYYY-MM-DD, and then `rest`
abbrev pub date_text : ℕ → ℕ → ℕ → List ℕ → List ℕ
date_text year month day rest = decimal_digits 4 year [] ++ 45 ∷ (decimal_digits 2 month [] ++ 45 ∷ (decimal_digits 2 day [] ++ rest))

-- HH:MM:SS, a point and so many digits of a second, and then `rest`
abbrev pub clock_text : ℕ → ℕ → ℕ → ℕ → ℕ → List ℕ → List ℕ
clock_text hours minutes seconds digits ticks rest =
    decimal_digits 2 hours [] ++ 58 ∷ (decimal_digits 2 minutes [] ++ 58 ∷ (decimal_digits 2 seconds [] ++ 46 ∷ (decimal_digits digits ticks [] ++ rest)))

-- a time of day, with a leap second
pub record IsClock (hours minutes seconds digits ticks : ℕ) : Type 0 where
  pub of_day : hours ≤ 23
  pub of_hour : minutes ≤ 59
  pub of_minute : seconds ≤ 60
  pub fraction : IsFraction digits
  pub small : ticks < 10 ^ digits

-- its microseconds
abbrev pub clock_micros : ℕ → ℕ → ℕ → ℕ → ℕ → ℕ
clock_micros hours minutes seconds digits ticks = (hours * 60 + minutes) * 60000000 + (seconds * 10 ^ 6 + micros_of_ticks digits ticks)

-- `YYYY-MM-DD HH:MM:SS` and a fraction, in microseconds from the start of 1970; what is below a microsecond is cut
pub record SpellsDate (time : List ℕ) (micros : ℕ) : Type 0 where
  pub year : ℕ
  pub month : ℕ
  pub day : ℕ
  pub hours : ℕ
  pub minutes : ℕ
  pub seconds : ℕ
  pub digits : ℕ
  pub ticks : ℕ
  pub date : IsDate year month day
  pub clock : IsClock hours minutes seconds digits ticks
  pub laid : time ≡ date_text year month day (32 ∷ clock_text hours minutes seconds digits ticks [])
  pub told : days_from_1970 year month day * 86400000000 + clock_micros hours minutes seconds digits ticks ≡ micros
  pub small : micros < 10 ^ 16
