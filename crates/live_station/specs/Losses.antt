-- Packets of sessions with the station that are missing: until when the next one is waited for, and what is asked for again (SAE J1939-21, 5.10.3; times,
-- counts and reasons from memory).
use Rattle.std.specs.Prelude.{ℕ, ◌+◌, ◌-◌, ◌%◌, ◌++◌, min, Bool, false, not, ◌&&◌, ◌||◌, ◌==◌, nat_le, List, [], ◌∷◌, drop, length, slice_get, slice_index_or, filter, Option, Some, None, is_some, if◌then◌else◌}
use Rattle.std.specs.List.{position}
use Rattle.address_claim.specs.Claiming.{is_held}
use Rattle.dm_messages.specs.View.{pgn_of_kind}
use Rattle.live_unit.specs.Waits.{later}
use Rattle.live_unit.specs.declared.aborting.TheConstants.{ASKED_TOO_OFTEN}
use Rattle.parameter_group.specs.Group.{Group, AddressClaimed, ConnectionManagement, DataTransfer}
use Rattle.station_table.specs.Sessions.{session_of}
use Rattle.station_table.specs.StationValue.{StationValue}
use Rattle.station_table.specs.declared.session.Session.{Session}
use Rattle.transport.specs.declared.control.Control.{Control}
use Rattle.transport.specs.declared.control.Control.TheVariants.{Rts, Cts, Abort}
use Rattle.live_station.specs.declared.loss.Watch.{Watch}
use Rattle.live_station.specs.declared.loss.TheConstants.{GRANT_WAIT, LEFT_ALONE, MOST_AGAIN, MOST_ASKED, MOST_WATCHED, PACKET_WAIT}

-- ---- what is missing

-- the first packet that is missing
abbrev pub next_packet : Session → ℕ
next_packet j = min (j.taken + 1) 255

-- the station has granted all windows before, of as many packets as one grant gives, and the one that the next packet is in: this is its last packet
unfoldable pub window_end : Session → ℕ
window_end j = min (j.taken - j.taken % j.at_once + j.at_once) j.packets

-- so many of those that are missing of it are asked for at once
abbrev pub missing_asked : Session → ℕ
missing_asked j = min (window_end j - j.taken) MOST_ASKED

-- ---- what is waited for of a session

-- of one of which nothing is known: its window was granted
abbrev pub begun_watch : ℕ → Session → Watch
begun_watch source j = record { source = source; last = window_end j; packet = 0; times = 0; until = 0; ended = false }

-- a window was granted
abbrev pub watch_granted : Session → ℕ → Watch → Watch
watch_granted j now w = record w { last = window_end j; until = later now GRANT_WAIT; ended = false }

-- the next packet was joined: where that ends a window, the next one is granted; where it is the last that was asked for, nothing more comes by itself
abbrev pub watch_joined : Session → ℕ → Watch → Watch
watch_joined j now w =
    if j.taken % j.at_once == 0 then watch_granted j now w
    else record w { until = later now PACKET_WAIT; ended = nat_le w.last j.taken }

-- another packet was passed over
abbrev pub watch_passed : ℕ → ℕ → Watch → Watch
watch_passed number now w = record w { until = later now PACKET_WAIT; ended = w.ended || nat_le w.last number }

-- how often the first packet that is missing was asked for again
abbrev pub times_again : Session → Watch → ℕ
times_again j w = if w.packet == next_packet j then w.times else 0

abbrev pub is_asked_enough : Session → Watch → Bool
is_asked_enough j w = nat_le MOST_AGAIN (times_again j w)

-- it is asked for again
abbrev pub watch_asked : Session → ℕ → Watch → Watch
watch_asked j now w = record w {
  last = j.taken + missing_asked j;
  packet = next_packet j;
  times = min (times_again j w + 1) 255;
  until = later now GRANT_WAIT;
  ended = false;
}

-- what is missing is asked for, or the session is given up: asked for too often, or where nothing came any more, left alone
abbrev pub control_again : Session → Watch → Control
control_again j w =
    if is_asked_enough j w then Abort (if w.ended then ASKED_TOO_OFTEN else LEFT_ALONE) (pgn_of_kind j.kind)
    else Cts (missing_asked j) (next_packet j) (pgn_of_kind j.kind)

-- ---- the watches of all sessions

abbrev pub is_from_source : ℕ → Watch → Bool
is_from_source source w = w.source == source

abbrev pub watch_at : List Watch → Option ℕ → Option Watch
watch_at ws None = None
watch_at ws (Some place) = slice_get ws place

abbrev pub watch_of : ℕ → List Watch → Option Watch
watch_of source ws = watch_at ws (position (is_from_source source) ws)

abbrev pub without_watch : ℕ → List Watch → List Watch
without_watch source ws = filter (λ w. not (is_from_source source w)) ws

-- the newest are kept
abbrev pub newest_watches : List Watch → List Watch
newest_watches ws = if nat_le MOST_WATCHED (length ws) then drop 1 ws else ws

abbrev pub with_watch : Watch → List Watch → List Watch
with_watch w ws = newest_watches (without_watch w.source ws) ++ w ∷ []

-- those whose session is open
abbrev pub still_watched : StationValue → List Watch → List Watch
still_watched s ws = filter (λ w. is_some (session_of s w.source)) ws

abbrev pub or_begun : ℕ → Session → Option Watch → Watch
or_begun source j None = begun_watch source j
or_begun source j (Some w) = w

-- a session of this group that began is granted its first packets
abbrev pub watches_begun : ℕ → ℕ → Option Session → ℕ → List Watch → List Watch
watches_begun source pgn None now ws = ws
watches_begun source pgn (Some j) now ws = if pgn_of_kind j.kind == pgn && j.taken == 0 then with_watch (watch_granted j now (begun_watch source j)) ws else ws

abbrev pub watches_controlled : ℕ → Control → StationValue → ℕ → List Watch → List Watch
watches_controlled source (Rts size packets most pgn) s now ws = watches_begun source pgn (session_of s source) now ws
watches_controlled source (Abort reason pgn) s now ws = still_watched s ws
watches_controlled source _ s now ws = ws

-- a packet was joined, which ends the session, or does not
abbrev pub watches_joined : ℕ → Option Session → StationValue → ℕ → List Watch → List Watch
watches_joined source None s now ws = still_watched s ws
watches_joined source (Some j) s now ws = with_watch (watch_joined j now (or_begun source j (watch_of source ws))) ws

-- after what the station was told, by what it knows then
abbrev pub watches_told : Group → StationValue → ℕ → List Watch → List Watch
watches_told (AddressClaimed source name) s now ws = still_watched s ws
watches_told (ConnectionManagement source destination control) s now ws =
    if is_held s.claimer.held destination then watches_controlled source control s now ws else ws
watches_told (DataTransfer source destination bytes) s now ws =
    if is_held s.claimer.held destination then watches_joined source (session_of s source) s now ws else ws
watches_told _ s now ws = ws

-- after a packet of which it was not told
abbrev pub passed_by : Option Watch → List ℕ → ℕ → List Watch → List Watch
passed_by None bytes now ws = ws
passed_by (Some w) bytes now ws = with_watch (watch_passed (slice_index_or bytes 0 0) now w) ws

abbrev pub watches_passed : Group → ℕ → List Watch → List Watch
watches_passed (DataTransfer source destination bytes) now ws = passed_by (watch_of source ws) bytes now ws
watches_passed _ now ws = ws

-- what is missing was asked for, or the session given up
abbrev pub watches_asked : Session → ℕ → Watch → List Watch → List Watch
watches_asked j now w ws = if is_asked_enough j w then without_watch w.source ws else with_watch (watch_asked j now w) ws

-- ---- what is due

-- a packet is to be asked for: its session is open, and the last that was granted was heard, or it was waited for long enough
abbrev pub is_due : StationValue → ℕ → Watch → Bool
is_due s now w = is_some (session_of s w.source) && (w.ended || nat_le w.until now)

-- the first is the one of which nothing was heard or asked for longest
abbrev pub watch_due : StationValue → ℕ → List Watch → Option Watch
watch_due s now ws = watch_at ws (position (is_due s now) ws)
