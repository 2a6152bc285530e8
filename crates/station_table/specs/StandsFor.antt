-- When the station's tables say what a list of readings says.
use Rattle.std.specs.Prelude.{◌≡◌, ℕ, ◌<◌, List, [], ◌∷◌, Option, Some, None, false, ◌&&◌, ◌==◌, is_some, if◌then◌else◌, length, map, slice_index}
use Rattle.address_claim.specs.Claiming.{is_held}
use Rattle.can_frame.specs.declared.reading.Reading.{Reading}
use Rattle.can_frame.specs.declared.reading.Reading.TheVariants.{Frame, Gap, Empty}
use Rattle.can_frame.specs.declared.address.TheConstants.{GLOBAL_ADDRESS}
use Rattle.transport.specs.declared.control.TheConstants.Control.{NO_LIMIT}
use Rattle.transport.specs.declared.control.Control.TheVariants.{Rts}
use Rattle.parameter_group.specs.Group.{Group, ConnectionManagement, group_of}
use Rattle.reassembly.specs.Tables.{at}
use Rattle.bus_model.specs.Heard.{StationSettings, Joining, kind_of, started, owner_heard, claimer_heard, address_heard, broadcast_heard, session_heard, row_heard, names_heard, missed_count, unread_count}
use Rattle.entry_lists.specs.KeptValue.{kept_under}
use Rattle.station_table.specs.StationValue.{StationValue}
use Rattle.entry_lists.specs.KnownRows.{row_known}

-- an Rts that starts a session tells how many packets its sender takes at once
abbrev pub most_after : ℕ → Group → Option ℕ → Option ℕ → ℕ → ℕ
most_after a (ConnectionManagement s d (Rts size packets most pgn)) held own before =
    if (s == a && is_held held d) && is_some (started (kind_of pgn) size own) then most else before
most_after a _ held own before = before

-- how many packets at once the sender of the last session that was started from the address takes
abbrev pub most_heard : StationSettings → ℕ → List Reading → ℕ
most_heard r a [] = NO_LIMIT
most_heard r a (Gap n ∷ older) = most_heard r a older
most_heard r a (Empty ∷ older) = most_heard r a older
most_heard r a (Frame f ∷ older) = most_after a (group_of f) (address_heard r older) (owner_heard a older) (most_heard r a older)

-- the tables are of 256 addresses
pub record AreTables (owned : List (Option ℕ)) (announced opened : List (Option Joining)) (limits : List ℕ) : Type 0 where
  pub owners : length owned ≡ 256
  pub broadcasts : length announced ≡ 256
  pub sessions : length opened ≡ 256
  pub most : length limits ≡ 256

-- each table has at each address what was heard of it
pub record StandsFor (r : StationSettings) (grant : ℕ) (s : StationValue) (h : List Reading) : Type 0 where
  pub grants : s.grant ≡ grant
  pub claims : s.claimer ≡ claimer_heard r h
  pub apart : is_held s.claimer.held GLOBAL_ADDRESS ≡ false
  pub places : AreTables s.owners s.broadcasts s.sessions s.most
  pub owners : (a : ℕ) → a < 256 → at s.owners a ≡ owner_heard a h
  pub broadcasts : (a : ℕ) → a < 256 → at s.broadcasts a ≡ broadcast_heard a h
  pub sessions : (a : ℕ) → a < 256 → at s.sessions a ≡ session_heard r a h
  pub most : (a : ℕ) → a < 256 → slice_index s.most a ≡ most_heard r a h
  pub rows : (n : ℕ) → row_known s.owners n (kept_under s.rows n) ≡ row_heard r n h
  pub names : map (λ e. e.0) s.rows ≡ names_heard h
  pub missed : s.missed ≡ missed_count h
  pub unread : s.unread ≡ unread_count r h
