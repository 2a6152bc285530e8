-- What a sender owes to a clear to send (SAE J1939-21, TP.CM_CTS).
use Rattle.std.specs.Prelude.{ℕ, ◌+◌, ◌-◌, min, nat_eq, if◌then◌else◌, List, length}
use Rattle.transport.specs.Pieces.{packet_count}

-- a session at its sender: the payload, where it goes, its group, and how many packets were queued
pub record SendingValue : Type 0 where
  pub payload : List ℕ
  pub dest : ℕ
  pub pgn : ℕ
  pub queued : ℕ

-- a session of which no packet was queued yet
abbrev pub new_sending : List ℕ → ℕ → ℕ → SendingValue
new_sending payload dest pgn = record { payload = payload; dest = dest; pgn = pgn; queued = 0 }

-- how many packets are not queued yet
abbrev pub packets_left : SendingValue → ℕ
packets_left s = packet_count (length s.payload) - s.queued

-- how many packets a clear to send lets go: the lesser of the grant and the rest, where it names the first packet not yet
-- queued, else none
abbrev pub packets_granted : SendingValue → ℕ → ℕ → ℕ
packets_granted s granted next = if nat_eq next (s.queued + 1) then min granted (packets_left s) else 0

-- the session after so many packets more
abbrev pub after_queueing : SendingValue → ℕ → SendingValue
after_queueing s count = record { payload = s.payload; dest = s.dest; pgn = s.pgn; queued = s.queued + count }
