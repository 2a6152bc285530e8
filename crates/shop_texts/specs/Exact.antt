-- Which text a unit has: that of the most exact row that is for it.
use Rattle.std.specs.Prelude.{◌≡◌, ℕ, ◌+◌, ◌<◌, ◌≤◌, ◌==◌, ◌&&◌, Bool, true, false, Option, None, Some, is_some, if◌then◌else◌, List, ◌∷◌, ◌++◌, length, string_bytes}
use Rattle.std.specs.List.{All}
use Rattle.name_field.specs.Fields.{fields_of}
use Rattle.shop_texts.specs.declared.unit_row.UnitRow.{UnitRow}

-- not given, or given as this number
abbrev pub is_given_as : Option ℕ → ℕ → Bool
is_given_as None n = true
is_given_as (Some given) n = given == n

-- the row is for the unit of this NAME
abbrev pub fits : UnitRow → ℕ → Bool
fits row name = is_given_as row.name name && (is_given_as row.function (fields_of name).function && (is_given_as row.industry_group (fields_of name).industry_group && (is_given_as row.vehicle_system (fields_of name).vehicle_system && is_given_as row.manufacturer (fields_of name).manufacturer)))

-- each is more exact than all behind it together: NAME, function, industry group, vehicle system, manufacturer
abbrev pub exactness : UnitRow → ℕ
exactness row = (if is_some row.name then 16 else 0) + ((if is_some row.function then 8 else 0) + ((if is_some row.industry_group then 4 else 0) + ((if is_some row.vehicle_system then 2 else 0) + (if is_some row.manufacturer then 1 else 0))))

abbrev pub NoneFits : List UnitRow → ℕ → Type 0
NoneFits rows name = All (λ row. fits row name ≡ false) rows

-- the row behind `before` is for the unit; of those before it none for the unit is more exact, and those behind it are less exact
pub record IsMostExact (rows : List UnitRow) (name : ℕ) (before : List UnitRow) (row : UnitRow) (behind : List UnitRow) : Type 0 where
  pub parts : rows ≡ before ++ row ∷ behind
  pub is_for : fits row name ≡ true
  pub not_less : All (λ other. fits other name ≡ true → exactness other ≤ exactness row) before
  pub more : All (λ other. fits other name ≡ true → exactness other < exactness row) behind

-- the text of the most exact row
abbrev pub IsTextOf : List UnitRow → ℕ → List ℕ → Type 0
IsTextOf rows name text = (before : List UnitRow) × (row : UnitRow) × (behind : List UnitRow) × IsMostExact rows name before row behind × (text ≡ string_bytes row.text)

abbrev pub IsPlaceOf : List UnitRow → ℕ → ℕ → Type 0
IsPlaceOf rows name place = (before : List UnitRow) × (row : UnitRow) × (behind : List UnitRow) × IsMostExact rows name before row behind × (length before ≡ place)
