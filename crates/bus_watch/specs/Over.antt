-- A watch that starts over: it goes on with who owns which address, with the numbers of gaps, and with its counts.
use Rattle.std.specs.Prelude.{◌≡◌, ◌↔◌, ◌⊎◌, ◌<◌, ◌≤◌, ℕ, List, [], ◌∷◌, Some, None}
use Rattle.bus_model.specs.Heard.{missed_count, owner_heard}
use Rattle.bus_model.specs.Overheard.{address_overheard, gaps_heard, unread_overheard}
use Rattle.can_frame.specs.declared.address.TheConstants.{GREATEST_ADDRESS}
use Rattle.reassembly.specs.Tables.{at}
use Rattle.listener.specs.ListenerSteps.{address_in_tables}
use Rattle.bus_watch.specs.Told.{Addressless, Assumed, Beginning, Read, StandsForAll, Told, all_said, readings_said}
use Rattle.bus_watch.specs.WatchValue.{WatchValue, missed_by, partly_heard, unread_by}

-- how a watch begins that goes on with what another one knows of the bus, shows of it, and has counted
abbrev pub beginning_of : WatchValue → Beginning
beginning_of w = record {
  selection = w.lists.selection;
  skips_bad = w.followed.skips_bad;
  silence = w.followed.silence;
  bus = w.followed.bus;
  contests = w.lists.contests;
  gaps = w.listener.gaps;
  before = record { missed = missed_by w; unread = unread_by w };
  partly = w.partly;
}

-- it was told alone that NAMEs have addresses of which they are the owners, or have none
abbrev pub AreOwners : WatchValue → List Told → Type 0
AreOwners w [] = Unit {0}
AreOwners w (Read l ∷ ts) = ⊥
AreOwners w (Assumed name address ∷ ts) = (at w.listener.owners address ≡ Some name) × AreOwners w ts
AreOwners w (Addressless name ∷ ts) = AreOwners w ts

-- a watch that goes on with the owners of another one alone: with each of them, also of an address that its NAME has left, so with whose each
-- message is that begins; and each NAME has the address that it had
pub record HasOwnersAlone (old new : WatchValue) : Type 0 where
  pub told : List Told
  pub alone : AreOwners old told
  pub stands : StandsForAll (beginning_of old) told new
  pub owners : (a : ℕ) → a ≤ GREATEST_ADDRESS → at new.listener.owners a ≡ at old.listener.owners a
  pub addresses : (name a : ℕ) → a ≤ GREATEST_ADDRESS → (address_in_tables new.listener name ≡ Some a) ↔ (address_in_tables old.listener name ≡ Some a)
  pub gaps : new.listener.gaps ≡ old.listener.gaps
  pub missed : missed_by new ≡ missed_by old
  pub unread : unread_by new ≡ unread_by old
  pub partly : new.partly ≡ old.partly
  pub broken : new.broken ≡ old.broken

-- one that has those of the addresses below this one, and of no other address another owner
pub record HasOwnersBelow (old : WatchValue) (bound : ℕ) (new : WatchValue) : Type 0 where
  pub told : List Told
  pub alone : AreOwners old told
  pub stands : StandsForAll (beginning_of old) told new
  pub owners : (a : ℕ) → (owner_heard a (readings_said (beginning_of old) told) ≡ None) ⊎ (owner_heard a (readings_said (beginning_of old) told) ≡ at old.listener.owners a)
  pub below : (a : ℕ) → a < bound → owner_heard a (readings_said (beginning_of old) told) ≡ at old.listener.owners a
  pub addresses : (n : ℕ) → (address_overheard n (readings_said (beginning_of old) told) ≡ None)
      ⊎ (address_overheard n (readings_said (beginning_of old) told) ≡ address_in_tables old.listener n)
  pub settled : (a n x : ℕ) → a < bound → at old.listener.owners a ≡ Some n → x ≤ GREATEST_ADDRESS → address_in_tables old.listener n ≡ Some x
      → address_overheard n (readings_said (beginning_of old) told) ≡ Some x
  pub gaps : gaps_heard (readings_said (beginning_of old) told) ≡ old.listener.gaps
  pub missed : missed_count (readings_said (beginning_of old) told) ≡ 0
  pub unread : unread_overheard (readings_said (beginning_of old) told) ≡ 0
  pub partly : partly_heard old.partly (all_said (beginning_of old) told).moments ≡ old.partly
  pub broken : new.broken ≡ old.broken
