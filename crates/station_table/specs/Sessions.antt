-- Sessions with the station of which packets are missing.
use Rattle.std.specs.Prelude.{ℕ, Option, Some, None, length}
use Rattle.bus_model.specs.Heard.{Joining}
use Rattle.reassembly.specs.Tables.{at}
use Rattle.transport.specs.Pieces.{packet_count}
use Rattle.station_table.specs.Reactions.{granted_at_once}
use Rattle.station_table.specs.StationValue.{StationValue}
use Rattle.station_table.specs.declared.session.Session.{Session}

-- of what is half joined, where one grant gives so many packets
abbrev pub session_by : ℕ → Option Joining → Option Session
session_by at_once None = None
session_by at_once (Some j) = Some (record { kind = j.tag.kind; packets = packet_count j.size; taken = length j.pieces; at_once = at_once })

-- the one from an address
abbrev pub session_of : StationValue → ℕ → Option Session
session_of s source = session_by (granted_at_once s source) (at s.sessions source)
