-- What is saved of a station: frames. A station of its NAME and address reads them, and then a gap, and shows the same.
use Rattle.std.specs.Prelude.{◌≡◌, ◌-◌, ℕ, List, ◌∷◌, Option, None, Some, drop, length, map, reverse, slice_get}
use Rattle.std.specs.Option.{option_map}
use Rattle.bus_model.specs.Heard.{StationSettings, address_heard, addressless, names_heard, owner_heard, row_heard}
use Rattle.can_frame.specs.declared.reading.Reading.{Reading}
use Rattle.can_frame.specs.declared.reading.Reading.TheVariants.{Frame, Gap}
use Rattle.dm_messages.specs.declared.kind.Kind.{Kind}
use Rattle.dm_messages.specs.declared.shown.Shown.{Shown}
use Rattle.entry_lists.specs.KeptValue.{kept_under}
use Rattle.entry_lists.specs.KnownRows.{row_of}
use Rattle.entry_lists.specs.Newest.{NewestLists, newest_under}
use Rattle.entry_lists.specs.declared.row.AckSeen.{AckSeen}
use Rattle.entry_lists.specs.declared.row.Row.{Row}
use Rattle.station_table.specs.Listing.{lists_heard}
use Rattle.station_table.specs.StationValue.{StationValue}
use Rattle.station_c.specs.Records.{frame_recorded}
use Rattle.station_c.specs.declared.records.FrameRecord.{FrameRecord}

-- frames were read, newest first
abbrev pub frames_read : List FrameRecord → List Reading
frames_read frames = reverse (map (λ f. Frame (frame_recorded f)) frames)

-- and a gap behind them: what is restored of frames that were saved
abbrev pub restored : List FrameRecord → List Reading
restored frames = Gap 1 ∷ frames_read frames

-- a station of the same NAME that is opened at an address
abbrev pub opened_at : ℕ → StationSettings → StationSettings
opened_at address r = record { name = r.name; address = address }

-- so many entries at the end of a list
abbrev pub newest_at_end : ℕ → List Shown → List Shown
newest_at_end keep entries = drop (length entries - keep) entries

-- who read `anew` in the place of `h`, at the address that was held, holds that address, and shows the same NAMEs in the same order, each one's row without
-- an address, and the same newest entries of each list; no address has an owner
pub record ShowsAnew (r : StationSettings) (address keep : ℕ) (h anew : List Reading) : Type 0 where
  pub held : address_heard (opened_at address r) anew ≡ Some address
  pub owners : (a : ℕ) → owner_heard a anew ≡ None
  pub names : names_heard anew ≡ names_heard h
  pub rows : (n : ℕ) → row_heard (opened_at address r) n anew ≡ addressless (row_heard r n h)
  pub lists : (n : ℕ) (k : Kind) → newest_at_end keep (lists_heard (opened_at address r) anew n k) ≡ newest_at_end keep (lists_heard r h n k)

-- ---- the same by the tables of two stations and their lists

-- the last acknowledgment in a row, if there is a row
abbrev pub ack_of_row : Option Row → Option (Option AckSeen)
ack_of_row row = option_map (λ (r : Row). r.ack) row

-- of a NAME
abbrev pub ack_shown : StationValue → ℕ → Option (Option AckSeen)
ack_shown s n = ack_of_row (row_of s.owners n (kept_under s.rows n))

-- of a NAME they have the same acknowledgment and keep the same entries
pub record ShowSameOf (n : ℕ) (s t : StationValue) (l m : NewestLists) : Type 0 where
  pub acks : ack_shown t n ≡ ack_shown s n
  pub entries : (k : Kind) → (newest_under m n k).entries ≡ (newest_under l n k).entries

-- what stands at a place of the one's rows stands at that place of the other's
abbrev pub ShowSameAt : ℕ → StationValue → StationValue → NewestLists → NewestLists → Type 0
ShowSameAt place s t l m =
    (n : ℕ) → slice_get (map (λ e. e.0) s.rows) place ≡ Some n → (slice_get (map (λ e. e.0) t.rows) place ≡ Some n) × ShowSameOf n s t l m

pub record ShowSame (s t : StationValue) (l m : NewestLists) : Type 0 where
  pub held : t.claimer.held ≡ s.claimer.held
  pub count : length t.rows ≡ length s.rows
  pub each : (place : ℕ) → ShowSameAt place s t l m
