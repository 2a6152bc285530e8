-- The newest entries of each unit and kind, how many there were, and the units in the order of their first entries.
use Rattle.std.specs.Prelude.{◌≡◌, ℕ, Bool, ◌&&◌, List, [], ◌∷◌, ◌++◌, Option, Some, None, if◌then◌else◌, is_some, map}
use Rattle.std.specs.List.{list_any}
use Rattle.std.specs.Map.{lookup}
use Rattle.std.specs.Option.{unwrap_or}
use Rattle.std.specs.Ordering.{eq_by_cmp}
use Rattle.bus_model.specs.Overheard.{same_who}
use Rattle.bus_model.specs.declared.who.Who.{Who}
use Rattle.bus_model.specs.declared.who.Who.TheVariants as who
use Rattle.can_frame.specs.declared.reading.Reading.{Reading}
use Rattle.dm_messages.specs.View.{same_kind}
use Rattle.dm_messages.specs.declared.kind.Kind.{Kind}
use Rattle.entry_lists.specs.Newest.{AreNewest, NewestKinds, NewestValue, newest_in, no_kinds}
use Rattle.listener.specs.ReadEntries.{EntryRead, entry_read_of, lists_read}
use Rattle.listener.specs.SentEntries.{entry_sent}
use Rattle.listener.specs.contracts.unit_key.UnitKeyOrd.TheImpl as key_order
use Rattle.listener.specs.declared.entry.SentEntry.{SentEntry}
use Rattle.listener.specs.declared.unit_key.UnitKey.{UnitKey}
use Rattle.listener.specs.declared.unit_key.UnitKey.TheVariants as key

-- a unit as a key, and back
abbrev pub unit_key_of : Who → UnitKey
unit_key_of (who.Named n) = key.Named n
unit_key_of (who.Unclaimed a gaps) = key.Unclaimed a gaps

abbrev pub unit_of_key : UnitKey → Who
unit_of_key (key.Named n) = who.Named n
unit_of_key (key.Unclaimed a gaps) = who.Unclaimed a gaps

abbrev pub same_unit_key : UnitKey → UnitKey → Bool
same_unit_key = eq_by_cmp (key_order.ghosts).cmp

-- how many entries of a list are kept, the units that have had some, and what is kept of the lists of each, in the order of the keys
pub record NewestSentValue : Type 0 where
  pub keep : ℕ
  pub order : List UnitKey
  pub units : List (UnitKey × NewestKinds EntryRead)

-- those that have lists are those in the order
abbrev pub HasUnitOrder : List UnitKey → List (UnitKey × NewestKinds EntryRead) → Type 0
HasUnitOrder order units = (q : UnitKey) → list_any (same_unit_key q) order ≡ is_some (lookup (same_unit_key q) units)

-- what is kept of the list of a unit and kind
abbrev pub newest_sent_of : NewestSentValue → Who → Kind → NewestValue EntryRead
newest_sent_of lists w k = newest_in (unwrap_or (lookup (same_unit_key (unit_key_of w)) lists.units) no_kinds) k

-- of each of these lists the newest entries are kept
abbrev pub KeepsNewestSent : NewestSentValue → (Who → Kind → List EntryRead) → Type 0
KeepsNewestSent lists all = (w : Who) (k : Kind) → AreNewest lists.keep (all w k) (newest_sent_of lists w k)

-- the units that have had entries
abbrev pub units_listed : NewestSentValue → List Who
units_listed lists = map unit_of_key lists.order

-- the units with one more behind them, where it is none of them yet
abbrev pub with_unit : Who → List Who → List Who
with_unit w units = if list_any (same_who w) units then units else units ++ w ∷ []

-- and with that of an entry, if there is one
abbrev pub with_unit_read : Option SentEntry → List Who → List Who
with_unit_read None units = units
with_unit_read (Some e) units = with_unit e.who units

-- the units of which a message was overheard that can be read, whole or in part, in the order of their first ones
abbrev pub units_overheard : List Reading → List Who
units_overheard [] = []
units_overheard (x ∷ older) = with_unit_read (entry_sent x older) (units_overheard older)

-- an entry of a unit and kind was put
pub record HasNewestOf (w : Who) (kind : Kind) (e : EntryRead) (before after : NewestSentValue) : Type 0 where
  pub keep : after.keep ≡ before.keep
  pub units : units_listed after ≡ with_unit w (units_listed before)
  pub lists : (all : Who → Kind → List EntryRead) → KeepsNewestSent before all
      → KeepsNewestSent after (λ v k. if same_who w v && same_kind kind k then all v k ++ e ∷ [] else all v k)

abbrev pub HasNewestSent : NewestSentValue → SentEntry → NewestSentValue → Type 0
HasNewestSent before e after = HasNewestOf e.who e.kind (entry_read_of e.to e.read) before after

-- the lists have the newest entries that were overheard of readings, and the units that have had some
pub record KeepsOverheard (lists : NewestSentValue) (h : List Reading) : Type 0 where
  pub newest : KeepsNewestSent lists (lists_read h)
  pub units : units_listed lists ≡ units_overheard h
