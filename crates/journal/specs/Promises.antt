-- What is promised of each garage, and of each call that may change one.
use Rattle.std.specs.Prelude.{◌≡◌, ℕ, List, ◌++◌, reverse, take, Option, Some, slice_get}
use Rattle.dm_messages.specs.declared.kind.Kind.{Kind}
use Rattle.dm_messages.specs.declared.shown.Shown.{Shown}
use Rattle.bus_model.specs.Traffic.{Tag, Item, claimed_by}
use Rattle.journal.specs.State.{State}
use Rattle.journal.specs.Worlds.{items_of}
use Rattle.journal.specs.Journal.{GarageValue, AllFit, listed_at}

-- its settings fit, and each event of its journal fits what came before; so every law of journals holds of it
abbrev pub IsLawful : GarageValue → Type 0
IsLawful g = AllFit g.settings g.journal

-- a list with more behind it
abbrev pub IsPrefix : List Shown → List Shown → Type 0
IsPrefix before after = (more : List Shown) × (after ≡ before ++ more)

-- at each station, under each NAME and kind, what was listed stays, and new entries come behind it
pub record KeepsLists (old new : GarageValue) : Type 0 where
  pub grows : (y n : ℕ) (k : Kind) → IsPrefix (listed_at old y n k) (listed_at new y n k)

-- the frames carried, newest first, each with its seat's number and NAME and the message that it is a part of
abbrev pub wire_of : State → List Item
wire_of s = reverse (items_of s)

-- the i-th of them, counted from the oldest
abbrev pub item_at : State → ℕ → Option Item
item_at s i = slice_get (items_of s) i

-- those carried before it, newest first
abbrev pub carried_before : State → ℕ → List Item
carried_before s i = reverse (take i (items_of s))

-- who sends holds the address: where the i-th frame is a part of a message, the last claim of the message's source before
-- it bears the NAME of its seat
abbrev pub IsFromOwner : State → ℕ → Type 0
IsFromOwner s i = (e : Item) (t : Tag) → item_at s i ≡ Some e → e.tag ≡ Some t → claimed_by t.message.source (carried_before s i) ≡ Some e.name
