-- The newest entries of each list, and how many there were.
use Rattle.std.specs.Prelude.{◌≡◌, ℕ, ◌+◌, ◌-◌, ◌^◌, min, List, [], ◌∷◌, ◌++◌, drop, length, nat_eq, nat_lt, if◌then◌else◌}
use Rattle.std.specs.Option.{unwrap_or}
use Rattle.std.specs.Map.{lookup}
use Rattle.dm_messages.specs.declared.kind.Kind.{Kind}
use Rattle.dm_messages.specs.declared.kind.Kind.TheVariants.{Dm1, Dm2, Dm6}
use Rattle.dm_messages.specs.declared.shown.Shown.{Shown}
use Rattle.entry_lists.specs.Entries.{with_new}
use Rattle.entry_lists.specs.declared.entry.NewEntry.{NewEntry}

-- the newest entries of a list, oldest first, and how many there were in all, up to the greatest 64-bit number
pub record NewestValue (T : Type 0) : Type 0 where
  pub entries : List T
  pub count : ℕ

abbrev pub none_came : {T : Type 0} → NewestValue T
none_came = record { entries = []; count = 0 }

-- what is kept of a list: so many entries at its end, and their count in all
pub record AreNewest {T : Type 0} (keep : ℕ) (all : List T) (kept : NewestValue T) : Type 0 where
  pub entries : kept.entries ≡ drop (length all - keep) all
  pub count : kept.count ≡ min (length all) (2 ^ 64 - 1)

-- one more behind the newest, of which only so many stay
abbrev pub with_newest : {T : Type 0} → ℕ → T → List T → List T
with_newest keep entry entries = if nat_lt keep (length entries + 1) then drop 1 (entries ++ entry ∷ []) else entries ++ entry ∷ []

abbrev pub one_newer : {T : Type 0} → ℕ → T → NewestValue T → NewestValue T
one_newer keep entry kept = record { entries = with_newest keep entry kept.entries; count = min (kept.count + 1) (2 ^ 64 - 1) }

-- what is kept of the list of each kind
pub record NewestKinds (T : Type 0) : Type 0 where
  pub dm1 : NewestValue T
  pub dm2 : NewestValue T
  pub dm6 : NewestValue T

abbrev pub no_kinds : {T : Type 0} → NewestKinds T
no_kinds = record { dm1 = none_came; dm2 = none_came; dm6 = none_came }

abbrev pub newest_in : {T : Type 0} → NewestKinds T → Kind → NewestValue T
newest_in kinds Dm1 = kinds.dm1
newest_in kinds Dm2 = kinds.dm2
newest_in kinds Dm6 = kinds.dm6

abbrev pub with_newer : {T : Type 0} → ℕ → Kind → T → NewestKinds T → NewestKinds T
with_newer keep Dm1 entry kinds = record kinds { dm1 = one_newer keep entry kinds.dm1 }
with_newer keep Dm2 entry kinds = record kinds { dm2 = one_newer keep entry kinds.dm2 }
with_newer keep Dm6 entry kinds = record kinds { dm6 = one_newer keep entry kinds.dm6 }

-- how many entries of a list are kept, and what is kept of the lists by NAME
pub record NewestLists : Type 0 where
  pub keep : ℕ
  pub rows : List (ℕ × NewestKinds Shown)

-- what is kept of the list of a kind under a NAME
abbrev pub newest_under : NewestLists → ℕ → Kind → NewestValue Shown
newest_under lists name kind = newest_in (unwrap_or (lookup (nat_eq name) lists.rows) no_kinds) kind

-- of each of these lists the newest entries are kept
abbrev pub KeepsNewest : NewestLists → (ℕ → Kind → List Shown) → Type 0
KeepsNewest lists all = (n : ℕ) (k : Kind) → AreNewest lists.keep (all n k) (newest_under lists n k)

-- an entry was put
pub record HasNewest (before : NewestLists) (e : NewEntry) (after : NewestLists) : Type 0 where
  pub keep : after.keep ≡ before.keep
  pub lists : (all : ℕ → Kind → List Shown) → KeepsNewest before all → KeepsNewest after (with_new e all)
