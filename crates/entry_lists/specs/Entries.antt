-- Entries of each kind, and by NAME and kind.
use Rattle.std.specs.Prelude.{◌≡◌, ℕ, List, [], ◌∷◌, ◌++◌, Option, Some, None, ◌&&◌, ◌==◌, nat_eq, if◌then◌else◌}
use Rattle.std.specs.Option.{option_map_or}
use Rattle.std.specs.Map.{lookup, set_value}
use Rattle.dm_messages.specs.View.{same_kind}
use Rattle.dm_messages.specs.declared.kind.Kind.{Kind}
use Rattle.dm_messages.specs.declared.kind.Kind.TheVariants.{Dm1, Dm2, Dm6}
use Rattle.dm_messages.specs.declared.shown.Shown.{Shown}
use Rattle.entry_lists.specs.declared.entry.NewEntry.{NewEntry}

-- lists by NAME and kind, with an entry at the end of its own
abbrev pub with_new : NewEntry → (ℕ → Kind → List Shown) → ℕ → Kind → List Shown
with_new e lists n k = if e.name == n && same_kind e.kind k then lists n k ++ e.shown ∷ [] else lists n k

-- and with one, if there is one
abbrev pub with_listed : Option NewEntry → (ℕ → Kind → List Shown) → ℕ → Kind → List Shown
with_listed None lists n k = lists n k
with_listed (Some e) lists n k = with_new e lists n k

-- what became of lists that take an entry so, where one was put, or none
abbrev pub HasPut : {L : Type 0} → (L → NewEntry → L → Type 0) → L → Option NewEntry → L → Type 0
HasPut {L} takes before None after = after ≡ before
HasPut {L} takes before (Some e) after = takes before e after

-- the entries of each kind under a NAME, oldest first
pub record KindsValue : Type 0 where
  pub dm1 : List Shown
  pub dm2 : List Shown
  pub dm6 : List Shown

abbrev pub no_entries : KindsValue
no_entries = record { dm1 = []; dm2 = []; dm6 = [] }

-- the entries of a kind
abbrev pub entries_of : KindsValue → Kind → List Shown
entries_of kinds Dm1 = kinds.dm1
entries_of kinds Dm2 = kinds.dm2
entries_of kinds Dm6 = kinds.dm6

-- with one more entry of a kind
abbrev pub with_entry : Kind → Shown → KindsValue → KindsValue
with_entry Dm1 shown kinds = record kinds { dm1 = kinds.dm1 ++ shown ∷ [] }
with_entry Dm2 shown kinds = record kinds { dm2 = kinds.dm2 ++ shown ∷ [] }
with_entry Dm6 shown kinds = record kinds { dm6 = kinds.dm6 ++ shown ∷ [] }

-- the entries of a kind under a NAME, none where it has none
abbrev pub entries_under : List (ℕ × KindsValue) → ℕ → Kind → List Shown
entries_under rows name kind = option_map_or (λ kinds. entries_of kinds kind) (lookup (nat_eq name) rows) []

-- with an entry; a NAME that has none yet goes last
abbrev pub put_under : NewEntry → List (ℕ × KindsValue) → List (ℕ × KindsValue)
put_under e rows =
    option_map_or (λ kinds. set_value (nat_eq e.name) rows (with_entry e.kind e.shown kinds)) (lookup (nat_eq e.name) rows)
    (rows ++ (e.name, with_entry e.kind e.shown no_entries) ∷ [])

-- the entry was put, and so one list has one more
pub record HasAll (before : List (ℕ × KindsValue)) (e : NewEntry) (after : List (ℕ × KindsValue)) : Type 0 where
  pub rows : after ≡ put_under e before
  pub lists : (n : ℕ) (k : Kind) → entries_under after n k ≡ with_new e (entries_under before) n k
