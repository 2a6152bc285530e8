-- Each NAME in the list of rows has a row.
use Rattle.std.proofs.Common.{◌≡◌, ℕ, zero, suc, Bool, true, false, nat_eq, eq-eqb, cond, List, [], ◌∷◌, Option, Some, None, map, slice_get, refl}
use Rattle.entry_lists.specs.KeptValue.{KeptValue, kept_under}
use Rattle.entry_lists.specs.KnownRows.{row_of}

-- what stands first under a NAME is found, else what stands later
found : (test : Bool) (kept : KeptValue) (later : Option KeptValue) → (later ≡ None → ⊥) → cond test (Some kept) later ≡ None → ⊥
found true kept later some none = cc
found false kept later some none = some none

named_has_kept : (rows : List (ℕ × KeptValue)) (place name : ℕ) → slice_get (map (λ e. e.0) rows) place ≡ Some name → kept_under rows name ≡ None → ⊥
named_has_kept [] place name there none = cc
named_has_kept (e ∷ rows) zero name there none = first (nat_eq name e.0) (eq-eqb name e.0 same) none
  where
    same : name ≡ e.0
    same = cc

    first : (test : Bool) → test ≡ true → cond test (Some e.1) (kept_under rows name) ≡ None → ⊥
    first true is none = cc
    first false is none = cc
named_has_kept (e ∷ rows) (suc place) name there none =
    found (nat_eq name e.0) e.1 (kept_under rows name) (named_has_kept rows place name there) none

-- no row, nothing kept
nothing_kept_without_row : (owners : List (Option ℕ)) (name : ℕ) (kept : Option KeptValue) → row_of owners name kept ≡ None → kept ≡ None
nothing_kept_without_row owners name None none = refl
nothing_kept_without_row owners name (Some kept) none = absurd cc

pub named_has_row : (owners : List (Option ℕ)) (rows : List (ℕ × KeptValue)) (place name : ℕ)
    → slice_get (map (λ e. e.0) rows) place ≡ Some name → row_of owners name (kept_under rows name) ≡ None → ⊥
named_has_row owners rows place name there none = named_has_kept rows place name there (nothing_kept_without_row owners name (kept_under rows name) none)
