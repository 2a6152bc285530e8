use Rattle.std.proofs.Common.{◌≡◌, ℕ, ◌^◌, ◌<◌, arith, refl}
use Rattle.name_field.specs.Fields.{fields_of, name_of_fields, IsInRange, arbitrary_capable_of, industry_group_of, system_instance_of, vehicle_system_of, reserved_of, function_of, function_instance_of, ecu_instance_of, manufacturer_of, identity_of}
use Rattle.name_field.specs.declared.NameFields.{NameFields}

-- a NAME is the one of its own fields
pub name_of_own_fields : (n : ℕ) → n < 2 ^ 64 → name_of_fields (fields_of n) ≡ n
name_of_own_fields n h = omega arith

-- a NAME with these fields is the one made of them
pub name_of_same_fields : (n : ℕ) (f : NameFields) → n < 2 ^ 64 → fields_of n ≡ f → (name_of_fields f ≡ n) × IsInRange f
name_of_same_fields n f h e = rw (← e) (name_of_own_fields n h, fields_in_range n h)
  where
    fields_in_range : (n : ℕ) → n < 2 ^ 64 → IsInRange (fields_of n)
    fields_in_range n h = record {
      arbitrary_capable = omega arith;
      industry_group = omega arith;
      system_instance = omega arith;
      vehicle_system = omega arith;
      reserved = omega arith;
      function = omega arith;
      function_instance = omega arith;
      ecu_instance = omega arith;
      manufacturer = omega arith;
      identity = omega arith;
    }

-- a NAME made of fields that fit has those fields
pub fields_of_made : (f : NameFields) → IsInRange f → fields_of (name_of_fields f) ≡ f
fields_of_made f r =
    let arbitrary_capable : arbitrary_capable_of (name_of_fields f) ≡ f.arbitrary_capable = omega (arith, r) in
    let industry_group : industry_group_of (name_of_fields f) ≡ f.industry_group = omega (arith, r) in
    let system_instance : system_instance_of (name_of_fields f) ≡ f.system_instance = omega (arith, r) in
    let vehicle_system : vehicle_system_of (name_of_fields f) ≡ f.vehicle_system = omega (arith, r) in
    let reserved : reserved_of (name_of_fields f) ≡ f.reserved = omega (arith, r) in
    let function : function_of (name_of_fields f) ≡ f.function = omega (arith, r) in
    let function_instance : function_instance_of (name_of_fields f) ≡ f.function_instance = omega (arith, r) in
    let ecu_instance : ecu_instance_of (name_of_fields f) ≡ f.ecu_instance = omega (arith, r) in
    let manufacturer : manufacturer_of (name_of_fields f) ≡ f.manufacturer = omega (arith, r) in
    let identity : identity_of (name_of_fields f) ≡ f.identity = omega (arith, r) in
    rw (arbitrary_capable, industry_group, system_instance, vehicle_system, reserved, function, function_instance, ecu_instance, manufacturer, identity) refl
