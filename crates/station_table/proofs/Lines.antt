-- After each thing that a frame can say, the tables have at each address what was then heard of it.
use Rattle.std.proofs.Common.{◌≡◌, ℕ, ◌+◌, ◌<◌, Bool, true, false, ◌==◌, not, ◌&&◌, List, Option, Some, None, is_some, if◌then◌else◌, map, refl, sym, ap, ◌∙◌}
use Rattle.std.specs.Prelude.{slice_index}
use Rattle.address_claim.specs.Claiming.{ClaimerValue, is_held}
use Rattle.can_frame.specs.declared.reading.Reading.{Reading}
use Rattle.dm_messages.specs.declared.shown.Shown.{Shown}
use Rattle.dm_messages.specs.View.{decoding}
use Rattle.parameter_group.specs.Group.{Group}
use Rattle.bus_model.specs.Traffic.{owner_after}
use Rattle.bus_model.specs.Heard.{StationSettings, Joining, Entry, RowHeard, counted, owner_heard, claimer_heard, claimer_after, address_heard, broadcast_after, broadcast_heard, session_after, session_heard, row_after, row_heard, names_after, names_heard, ended_by, is_unreadable, unread_count, missed_count}
use Rattle.entry_lists.specs.KeptValue.{kept_under}
use Rattle.reassembly.specs.Tables.{at}
use Rattle.station_table.specs.StationValue.{StationValue}
use Rattle.station_table.specs.Steps.{with_reading, with_ended}
use Rattle.station_table.specs.StandsFor.{StandsFor, AreTables, most_after, most_heard}
use Rattle.entry_lists.specs.KnownRows.{row_known}
use Rattle.entry_lists.proofs.RowLemmas.{named}

-- what is told of a station: of each address, and of each NAME
pub record Account : Type 0 where
  pub claimer : ClaimerValue
  pub owner : ℕ → Option ℕ
  pub broadcast : ℕ → Option Joining
  pub session : ℕ → Option Joining
  pub limit : ℕ → ℕ
  pub row : ℕ → Option RowHeard
  pub names : List ℕ
  pub missed : ℕ
  pub unread : ℕ

-- the tables have of each address what is told of it
pub record TellsAddresses (granted grant : ℕ) (claimer known : ClaimerValue) (owned : List (Option ℕ)) (announced opened : List (Option Joining)) (limits : List ℕ)
    (owner : ℕ → Option ℕ) (broadcast session : ℕ → Option Joining) (limit : ℕ → ℕ) : Type 0 where
  pub grants : granted ≡ grant
  pub claims : claimer ≡ known
  pub apart : is_held claimer.held 255 ≡ false
  pub places : AreTables owned announced opened limits
  pub owners : (a : ℕ) → a < 256 → at owned a ≡ owner a
  pub broadcasts : (a : ℕ) → a < 256 → at announced a ≡ broadcast a
  pub sessions : (a : ℕ) → a < 256 → at opened a ≡ session a
  pub most : (a : ℕ) → a < 256 → slice_index limits a ≡ limit a

-- the tables have what is told
pub record Tells (grant : ℕ) (s : StationValue) (x : Account) : Type 0 where
  pub addresses : TellsAddresses s.grant grant s.claimer x.claimer s.owners s.broadcasts s.sessions s.most x.owner x.broadcast x.session x.limit
  pub rows : (n : ℕ) → row_known s.owners n (kept_under s.rows n) ≡ x.row n
  pub names : map named s.rows ≡ x.names
  pub missed : s.missed ≡ x.missed
  pub unread : s.unread ≡ x.unread

-- what was heard of the readings
abbrev pub account : StationSettings → List Reading → Account
account r h = record {
  claimer = claimer_heard r h;
  owner = λ a. owner_heard a h;
  broadcast = λ a. broadcast_heard a h;
  session = λ a. session_heard r a h;
  limit = λ a. most_heard r a h;
  row = λ n. row_heard r n h;
  names = names_heard h;
  missed = missed_count h;
  unread = unread_count r h;
}

-- and of one more frame that says this
abbrev pub account_after : StationSettings → Group → List Reading → Account
account_after r g h = record {
  claimer = claimer_after g (claimer_heard r h);
  owner = λ a. owner_after a g (owner_heard a h);
  broadcast = λ a. broadcast_after a g (owner_heard a h) (broadcast_heard a h);
  session = λ a. session_after r.name a g (address_heard r h) (owner_heard a h) (session_heard r a h);
  limit = λ a. most_after a g (address_heard r h) (owner_heard a h) (most_heard r a h);
  row = λ n. row_after r n g h (row_heard r n h);
  names = names_after g (names_heard h);
  missed = missed_count h;
  unread = if is_unreadable (ended_by r g h) then counted (unread_count r h + 1) else unread_count r h;
}

pub tells : (r : StationSettings) (grant : ℕ) (s : StationValue) (h : List Reading) → StandsFor r grant s h → Tells grant s (account r h)
tells r grant s h st = record {
  addresses = record {
    grants = st.grants;
    claims = st.claims;
    apart = st.apart;
    places = st.places;
    owners = st.owners;
    broadcasts = st.broadcasts;
    sessions = st.sessions;
    most = st.most;
  };
  rows = st.rows;
  names = st.names;
  missed = st.missed;
  unread = st.unread;
}

pub stands_as_told : (r : StationSettings) (grant : ℕ) (s : StationValue) (h : List Reading) → Tells grant s (account r h) → StandsFor r grant s h
stands_as_told r grant s h t = record {
  grants = t.addresses.grants;
  claims = t.addresses.claims;
  apart = t.addresses.apart;
  places = t.addresses.places;
  owners = t.addresses.owners;
  broadcasts = t.addresses.broadcasts;
  sessions = t.addresses.sessions;
  most = t.addresses.most;
  rows = t.rows;
  names = t.names;
  missed = t.missed;
  unread = t.unread;
}

-- the tables after one frame that says this
abbrev pub StandsAfter : StationSettings → ℕ → Group → StationValue → List Reading → Type 0
StandsAfter r grant g s h = Tells grant s (account_after r g h)

-- the station's own address
pub held_same : (r : StationSettings) (grant : ℕ) (s : StationValue) (h : List Reading) → StandsFor r grant s h → s.claimer.held ≡ address_heard r h
unfolding address_heard
held_same r grant s h st = rw (st.claims) refl

-- two tests of one number
pub and_true : (b : Bool) → (b && true) ≡ b
and_true true = refl
and_true false = refl

pub and_false : (b : Bool) → (b && false) ≡ false
and_false true = refl
and_false false = refl

-- the tables before a message that ended is read: what else the frame says is there already
pub record Midway (r : StationSettings) (grant : ℕ) (g : Group) (s : StationValue) (h : List Reading) : Type 0 where
  pub tells : Tells grant s (record (account_after r g h) { row = λ n. row_heard r n h; unread = unread_count r h })
  pub rows : (n : ℕ) → row_heard r n h ≡ row_after r n g h (row_heard r n h)

-- a message that ends is read
pub ending : (r : StationSettings) (grant : ℕ) (g : Group) (s : StationValue) (h : List Reading) (o : Option Entry) → Midway r grant g s h → o ≡ ended_by r g h
    → StandsAfter r grant g (with_ended s o) h
ending r grant g s h None mid e = record {
  addresses = mid.tells.addresses;
  rows = λ n. mid.tells.rows n ∙ mid.rows n;
  names = mid.tells.names;
  missed = mid.tells.missed;
  unread = rw (← e) (mid.tells.unread);
}
ending r grant g s h (Some m) mid e = go (decoding m.bytes) refl
  where
    unread_now : (o : Option Shown) → decoding m.bytes ≡ o
        → (if is_unreadable (ended_by r g h) then counted (unread_count r h + 1) else unread_count r h) ≡ (if not (is_some o) then counted (unread_count r h + 1) else unread_count r h)
    unread_now o i = rw (← e, i) refl

    go : (o : Option Shown) → decoding m.bytes ≡ o → StandsAfter r grant g (with_reading s o) h
    go None i = record {
      addresses = mid.tells.addresses;
      rows = λ n. mid.tells.rows n ∙ mid.rows n;
      names = mid.tells.names;
      missed = mid.tells.missed;
      unread = ap (λ (x : ℕ). counted (x + 1)) mid.tells.unread ∙ sym (unread_now None i);
    }
    go (Some v) i = record {
      addresses = mid.tells.addresses;
      rows = λ n. mid.tells.rows n ∙ mid.rows n;
      names = mid.tells.names;
      missed = mid.tells.missed;
      unread = mid.tells.unread ∙ sym (unread_now (Some v) i);
    }
