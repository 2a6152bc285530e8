-- The ten fields of a NAME, as quotients and remainders of its number.
use Rattle.std.specs.Prelude.{ℕ, ◌/◌, ◌%◌, ◌^◌, ◌<◌, ◌+◌, ◌*◌}
use Rattle.name_field.specs.declared.NameFields.{NameFields}

-- whether the NAME may claim another address: the top bit
abbrev pub arbitrary_capable_of : ℕ → ℕ
arbitrary_capable_of n = n / 2 ^ 63

-- three bits
abbrev pub industry_group_of : ℕ → ℕ
industry_group_of n = n / 2 ^ 60 % 2 ^ 3

-- four bits
abbrev pub system_instance_of : ℕ → ℕ
system_instance_of n = n / 2 ^ 56 % 2 ^ 4

-- seven bits
abbrev pub vehicle_system_of : ℕ → ℕ
vehicle_system_of n = n / 2 ^ 49 % 2 ^ 7

-- one bit
abbrev pub reserved_of : ℕ → ℕ
reserved_of n = n / 2 ^ 48 % 2 ^ 1

-- eight bits
abbrev pub function_of : ℕ → ℕ
function_of n = n / 2 ^ 40 % 2 ^ 8

-- five bits
abbrev pub function_instance_of : ℕ → ℕ
function_instance_of n = n / 2 ^ 35 % 2 ^ 5

-- three bits
abbrev pub ecu_instance_of : ℕ → ℕ
ecu_instance_of n = n / 2 ^ 32 % 2 ^ 3

-- eleven bits
abbrev pub manufacturer_of : ℕ → ℕ
manufacturer_of n = n / 2 ^ 21 % 2 ^ 11

-- the low twenty-one bits
abbrev pub identity_of : ℕ → ℕ
identity_of n = n % 2 ^ 21

-- all ten
abbrev pub fields_of : ℕ → NameFields
fields_of n = record {
  arbitrary_capable = arbitrary_capable_of n;
  industry_group = industry_group_of n;
  system_instance = system_instance_of n;
  vehicle_system = vehicle_system_of n;
  reserved = reserved_of n;
  function = function_of n;
  function_instance = function_instance_of n;
  ecu_instance = ecu_instance_of n;
  manufacturer = manufacturer_of n;
  identity = identity_of n;
}

-- each field fits its width
pub record IsInRange (f : NameFields) : Type 0 where
  pub arbitrary_capable : f.arbitrary_capable < 2 ^ 1
  pub industry_group : f.industry_group < 2 ^ 3
  pub system_instance : f.system_instance < 2 ^ 4
  pub vehicle_system : f.vehicle_system < 2 ^ 7
  pub reserved : f.reserved < 2 ^ 1
  pub function : f.function < 2 ^ 8
  pub function_instance : f.function_instance < 2 ^ 5
  pub ecu_instance : f.ecu_instance < 2 ^ 3
  pub manufacturer : f.manufacturer < 2 ^ 11
  pub identity : f.identity < 2 ^ 21

-- the NAME with these fields
abbrev pub name_of_fields : NameFields → ℕ
name_of_fields f =
    f.arbitrary_capable * 2 ^ 63 + f.industry_group * 2 ^ 60 + f.system_instance * 2 ^ 56 + f.vehicle_system * 2 ^ 49 + f.reserved * 2 ^ 48 + f.function * 2 ^ 40 + f.function_instance * 2 ^ 35 + f.ecu_instance * 2 ^ 32 + f.manufacturer * 2 ^ 21 + f.identity

-- the upper and the lower half of that number
abbrev pub high_half_of : NameFields → ℕ
high_half_of f =
    f.arbitrary_capable * 2 ^ 31 + f.industry_group * 2 ^ 28 + f.system_instance * 2 ^ 24 + f.vehicle_system * 2 ^ 17 + f.reserved * 2 ^ 16 + f.function * 2 ^ 8 + f.function_instance * 2 ^ 3 + f.ecu_instance

abbrev pub low_half_of : NameFields → ℕ
low_half_of f = f.manufacturer * 2 ^ 21 + f.identity
