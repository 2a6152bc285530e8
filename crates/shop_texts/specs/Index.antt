-- Where the rows stand, by what they give of the units that they are for.
use Rattle.std.specs.Prelude.{◌≡◌, ◌↔◌, ℕ, ◌+◌, ◌&&◌, Bool, true, false, nat_eq, Option, None, Some, if◌then◌else◌, List, ◌∷◌, ◌++◌, length}
use Rattle.std.specs.HashMap.{HashMap, get}
use Rattle.std.specs.List.{All}
use Rattle.std.specs.Option.{option_eq}
use Rattle.shop_texts.specs.Exact.{fits, exactness}
use Rattle.shop_texts.specs.declared.unit_key.UnitKey.{UnitKey}
use Rattle.shop_texts.specs.declared.unit_row.UnitRow.{UnitRow}

abbrev pub is_same : UnitKey → UnitKey → Bool
is_same a b = option_eq nat_eq a.name b.name && (option_eq nat_eq a.function b.function && (option_eq nat_eq a.industry_group b.industry_group && (option_eq nat_eq a.vehicle_system b.vehicle_system && option_eq nat_eq a.manufacturer b.manufacturer)))

abbrev pub key_of_row : UnitRow → UnitKey
key_of_row row = record { name = row.name; function = row.function; industry_group = row.industry_group; vehicle_system = row.vehicle_system; manufacturer = row.manufacturer }

abbrev pub exactness_of : Bool → Bool → Bool → Bool → Bool → ℕ
exactness_of name function group system manufacturer = (if name then 16 else 0) + ((if function then 8 else 0) + ((if group then 4 else 0) + ((if system then 2 else 0) + (if manufacturer then 1 else 0))))

-- rows give this exactly where they are for the unit and so exact
abbrev pub IsKeyOf : ℕ → ℕ → UnitKey → Type 0
IsKeyOf name exact key = (row : UnitRow) → (is_same (key_of_row row) key ≡ true) ↔ ((fits row name ≡ true) × (exactness row ≡ exact))

abbrev pub NoneGives : UnitKey → List UnitRow → Type 0
NoneGives key rows = All (λ row. is_same (key_of_row row) key ≡ false) rows

-- the place of the last row that gives this; none where no row does
abbrev pub IsLastRow : List UnitRow → UnitKey → Option ℕ → Type 0
IsLastRow rows key None = NoneGives key rows
IsLastRow rows key (Some place) =
    (before : List UnitRow) × (row : UnitRow) × (behind : List UnitRow) × (rows ≡ before ++ row ∷ behind) × (length before ≡ place) × (is_same (key_of_row row) key ≡ true) × NoneGives key behind

-- the index has of each key the last row that gives it
abbrev pub IsIndexed : {S : Type 0} → List UnitRow → HashMap UnitKey ℕ S → Type 0
IsIndexed rows index = (key : UnitKey) → IsLastRow rows key (get is_same index key)
