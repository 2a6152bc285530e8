-- Messages of several packets that begin and never become whole, by what is half joined before and after a frame.
use Rattle.std.specs.Prelude.{ℕ, zero, suc, ◌+◌, Bool, true, false, not, ◌&&◌, ◌||◌, ◌==◌, min, nat_le, nat_lt, List, [], ◌∷◌, ◌++◌, length, filter, is_some, Option, Some, None, if◌then◌else◌}
use Rattle.address_claim.specs.Claiming.{is_held}
use Rattle.bus_model.specs.Heard.{counted}
use Rattle.bus_model.specs.Overheard.{HalfSent}
use Rattle.bus_model.specs.declared.overheard.Overheard.{Overheard}
use Rattle.bus_model.specs.declared.overheard.Overheard.TheVariants.{Listed, ListedInPart, Unreadable}
use Rattle.parameter_group.specs.Group.{Group, AddressClaimed, ConnectionManagement, DataTransfer}
use Rattle.reassembly.specs.Pacing.{announces, is_over_if, lets_come_if, packet_number}
use Rattle.reassembly.specs.Pairs.{pair_at}
use Rattle.reassembly.specs.Tables.{at}
use Rattle.reassembly.specs.declared.paces.Fate.{Fate}
use Rattle.reassembly.specs.declared.paces.Fate.TheVariants as fates
use Rattle.transport.specs.Pieces.{packet_count}
use Rattle.transport.specs.declared.control.Control.{Control}
use Rattle.transport.specs.declared.control.Control.TheVariants as control
use Rattle.listener.specs.Paced.{PacedValue, half_in}
use Rattle.listener.specs.declared.broken.BrokenBy.{BrokenBy}
use Rattle.listener.specs.declared.broken.BrokenBy.TheVariants.{Late, Packet, Length, Differs, Abort, Anew, Claim}
use Rattle.listener.specs.declared.broken.BrokenMessage.{BrokenMessage}

-- those that the next frame may end, those that the newest one ended, and how many there were
pub record BrokenValue : Type 0 where
  pub suspects : List BrokenMessage
  pub newest : List BrokenMessage
  pub count : ℕ

-- what is half joined from one address to another: nothing where a frame of it came too late
abbrev pub half_joined : PacedValue → ℕ → ℕ → Option HalfSent
half_joined l s d = if is_over_if (pair_at l.paces s d) then None else half_in l.listener s d

-- ---- before the frame

-- what is half joined, as broken for a reason; it has no number yet
abbrev pub suspect_between : ℕ → ℕ → BrokenBy → HalfSent → BrokenMessage
suspect_between s d why half = record {
  count = 0;
  who = half.tag.who;
  kind = half.tag.kind;
  source = s;
  to = d;
  read = length half.pieces;
  of = packet_count half.size;
  why = why;
}

abbrev pub suspect_if : ℕ → ℕ → BrokenBy → Option HalfSent → List BrokenMessage
suspect_if s d why None = []
suspect_if s d why (Some half) = suspect_between s d why half ∷ []

abbrev pub noted_between : PacedValue → BrokenBy → ℕ → ℕ → List BrokenMessage
noted_between l why s d = suspect_if s d why (half_joined l s d)

-- connection management that announces nothing: an abort, of either direction; else the message that it is of can only be late
abbrev pub why_managed : ℕ → Control → BrokenBy
why_managed s (control.Abort reason pgn) = Abort reason s
why_managed s message = Late

abbrev pub ended_by_control : PacedValue → ℕ → ℕ → Control → List BrokenMessage
ended_by_control l s d message =
    if announces d message then noted_between l Anew s d
    else noted_between l (why_managed s message) s d ++ (if s == d then [] else noted_between l (why_managed s message) d s)

-- a packet that is late; that comes again, as it was asked for; that has the next number; or another one
abbrev pub came_late : Fate → Bool
came_late fates.Late = true
came_late _ = false

abbrev pub why_packet : Fate → Bool → ℕ → ℕ → BrokenBy
why_packet its_fate comes_again number read =
    if came_late its_fate then Late
    else (if (nat_lt 0 number && nat_le number read) && comes_again then Differs number
    else (if number == read + 1 then Length number else Packet number (min (read + 1) 255)))

abbrev pub noted_packet : PacedValue → Fate → ℕ → ℕ → List ℕ → Option HalfSent → List BrokenMessage
noted_packet l its_fate s d bytes None = []
noted_packet l its_fate s d bytes (Some half) =
    suspect_between s d (why_packet its_fate (lets_come_if (pair_at l.paces s d) (packet_number bytes)) (packet_number bytes) (length half.pieces)) half ∷ []

-- a claim of another NAME than the owner, of all that is half joined from there to addresses below this one
abbrev pub noted_below : PacedValue → ℕ → ℕ → List BrokenMessage
noted_below l s zero = []
noted_below l s (suc d) = noted_below l s d ++ noted_between l Claim s d

-- of the owner it ends nothing
abbrev pub ended_by_claim : PacedValue → ℕ → ℕ → List BrokenMessage
ended_by_claim l s n = if is_held (at l.listener.owners s) n then [] else noted_below l s 256

-- what is half joined that a frame may end which says this and has this fate
abbrev pub may_end : PacedValue → Fate → Group → List BrokenMessage
may_end l its_fate (ConnectionManagement s d message) = ended_by_control l s d message
may_end l its_fate (DataTransfer s d bytes) = noted_packet l its_fate s d bytes (half_joined l s d)
may_end l its_fate (AddressClaimed s n) = ended_by_claim l s n
may_end l its_fate g = []

-- ---- after it

abbrev pub is_anew : BrokenBy → Bool
is_anew Anew = true
is_anew _ = false

-- broken is what was announced anew, or is half joined no longer
abbrev pub is_broken : PacedValue → BrokenMessage → Bool
is_broken l b = is_anew b.why || not (is_some (half_joined l b.source b.to))

-- and did not become whole
abbrev pub those_broken : PacedValue → Bool → List BrokenMessage → List BrokenMessage
those_broken l whole suspects = if whole then [] else filter (is_broken l) suspects

abbrev pub was_whole : Overheard → Bool
was_whole (Listed who kind source to) = true
was_whole (ListedInPart who kind source to) = true
was_whole (Unreadable who kind source to why) = true
was_whole _ = false

-- with_numbers one after the other, after so many
abbrev pub with_numbers : ℕ → List BrokenMessage → List BrokenMessage
with_numbers count [] = []
with_numbers count (b ∷ bs) = record b { count = counted (count + 1) } ∷ with_numbers (counted (count + 1)) bs

abbrev pub broken_count : ℕ → List BrokenMessage → ℕ
broken_count count [] = count
broken_count count (b ∷ bs) = broken_count (counted (count + 1)) bs
