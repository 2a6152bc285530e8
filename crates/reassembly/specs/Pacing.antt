-- How long a message of several packets may be silent, and which packet comes again as it was asked for (SAE J1939-21, 5.10.3; the sums are
-- ours). Times are microseconds.
use Rattle.std.specs.Prelude.{ℕ, ◌+◌, ◌-◌, Bool, true, false, not, ◌&&◌, ◌==◌, nat_le, nat_lt, List, drop, slice_index_or, Option, Some, None, if◌then◌else◌}
use Rattle.can_frame.specs.declared.address.TheConstants.{GLOBAL_ADDRESS}
use Rattle.transport.specs.Assembling.{has_piece}
use Rattle.transport.specs.declared.control.Control.{Control}
use Rattle.transport.specs.declared.control.Control.TheVariants as control
use Rattle.reassembly.specs.Pairs.{pair_at, with_pair}
use Rattle.reassembly.specs.Partials.{PartialValue}
use Rattle.reassembly.specs.declared.pacing.Awaited.{Awaited}
use Rattle.reassembly.specs.declared.pacing.Awaited.TheVariants as awaits
use Rattle.reassembly.specs.declared.pacing.Grant.{Grant}
use Rattle.reassembly.specs.declared.pacing.Pace.{Pace}
use Rattle.reassembly.specs.declared.pacing.Pace.TheVariants.{UnderWay, Over}
use Rattle.reassembly.specs.declared.pacing.Silence.{Silence}
use Rattle.reassembly.specs.declared.pacing.Silence.TheVariants.{Standard, UpTo, Any}
use Rattle.reassembly.specs.declared.pacing.Step.{Step}
use Rattle.reassembly.specs.declared.pacing.Step.TheVariants.{Cts, Packet}
use Rattle.reassembly.specs.declared.paces.Fate.{Fate}
use Rattle.reassembly.specs.declared.paces.Fate.TheVariants as fate

-- from packet to packet; to the packet behind a clear to send; to a clear to send; and to the one behind a hold
abbrev pub t1 : ℕ
t1 = 750000

abbrev pub t2 : ℕ
t2 = 1250000

abbrev pub t3 : ℕ
t3 = 1250000

abbrev pub t4 : ℕ
t4 = 1050000

-- how long a clear to send may be awaited
abbrev pub longest_to_cts : Awaited → ℕ
longest_to_cts awaits.EndOfHold = t4
longest_to_cts awaited = t3

-- and a packet: where a clear to send that was not read may have let it come, the time of that one more
abbrev pub longest_to_packet : Awaited → ℕ
longest_to_packet awaits.Broadcast = t1
longest_to_packet awaits.FirstCts = t3 + t2
longest_to_packet awaits.Granted = t2
longest_to_packet awaits.Packet = t1
longest_to_packet awaits.NextCts = t3 + t2
longest_to_packet awaits.EndOfHold = t4 + t2

abbrev pub longest : Silence → Step → Awaited → Option ℕ
longest Standard (Cts granted next) awaited = Some (longest_to_cts awaited)
longest Standard (Packet number) awaited = Some (longest_to_packet awaited)
longest (UpTo most) step awaited = Some most
longest Any step awaited = None

-- too late: both times are known, and more lies between them
abbrev pub is_late : Option ℕ → Option ℕ → Option ℕ → Bool
is_late (Some most) (Some since) (Some now) = nat_lt most (now - since)
is_late most since now = false

-- the time of the newest frame that has one
abbrev pub newer : Option ℕ → Option ℕ → Option ℕ
newer (Some now) since = Some now
newer None since = since

-- what is awaited behind a frame: after the last packet that was let come a clear to send
abbrev pub awaited_after : Step → Awaited → Option Grant → Awaited
awaited_after (Cts granted next) awaited grant = if granted == 0 then awaits.EndOfHold else awaits.Granted
awaited_after (Packet number) awaits.Broadcast grant = awaits.Broadcast
awaited_after (Packet number) awaited None = awaits.FirstCts
awaited_after (Packet number) awaited (Some grant) = if nat_lt (number + 1) grant.behind then awaits.Packet else awaits.NextCts

-- what the newest clear to send lets come
abbrev pub granted_after : Step → Option Grant → Option Grant
granted_after (Cts granted next) before = if granted == 0 then before else Some (record { from = next; behind = next + granted })
granted_after (Packet number) before = before

-- a message that is announced
abbrev pub pace_announced : Bool → Option ℕ → Pace
pace_announced to_all now = UnderWay now (if to_all then awaits.Broadcast else awaits.FirstCts) None

-- after a frame: over where that came too late, and for good
abbrev pub pace_after : Silence → Option ℕ → Step → Pace → Pace
pace_after silence now step Over = Over
pace_after silence now step (UnderWay since awaited granted) =
    if is_late (longest silence step awaited) since now then Over
    else UnderWay (newer now since) (awaited_after step awaited granted) (granted_after step granted)

-- and of a pair of addresses: nothing is known of a message that was not announced
abbrev pub paced : Silence → Option ℕ → Step → Option Pace → Option Pace
paced silence now step None = None
paced silence now step (Some pace) = Some (pace_after silence now step pace)

abbrev pub is_over : Pace → Bool
is_over Over = true
is_over (UnderWay since awaited granted) = false

abbrev pub is_over_if : Option Pace → Bool
is_over_if None = false
is_over_if (Some pace) = is_over pace

-- the number of a packet
abbrev pub packet_number : List ℕ → ℕ
packet_number bytes = slice_index_or bytes 0 0

abbrev pub step_of : List ℕ → Step
step_of bytes = Packet (packet_number bytes)

-- ---- between any two addresses

-- a message to this address announces another: a Bam to all, an Rts to one address
abbrev pub announces : ℕ → Control → Bool
announces d (control.Bam size packets pgn) = d == GLOBAL_ADDRESS
announces d (control.Rts size packets most pgn) = not (d == GLOBAL_ADDRESS)
announces d message = false

-- after one more message of connection management: a Bam to all or an Rts to one address announces a message; a clear to send is of the
-- message that goes the other way
abbrev pub paces_managed : Silence → Option ℕ → ℕ → ℕ → Control → List (List (Option Pace)) → List (List (Option Pace))
paces_managed silence now s d (control.Bam size packets pgn) paces =
    if d == GLOBAL_ADDRESS then with_pair paces s d (Some (pace_announced true now)) else paces
paces_managed silence now s d (control.Rts size packets most pgn) paces =
    if d == GLOBAL_ADDRESS then paces else with_pair paces s d (Some (pace_announced false now))
paces_managed silence now s d (control.Cts granted next pgn) paces =
    if s == GLOBAL_ADDRESS then paces else with_pair paces d s (paced silence now (Cts granted next) (pair_at paces d s))
paces_managed silence now s d message paces = paces

-- after one more packet
abbrev pub paces_packeted : Silence → Option ℕ → ℕ → ℕ → List ℕ → List (List (Option Pace)) → List (List (Option Pace))
paces_packeted silence now s d bytes paces = with_pair paces s d (paced silence now (step_of bytes) (pair_at paces s d))

-- ---- what a packet is

-- the newest clear to send lets a packet of this number come
abbrev pub lets_come : Pace → ℕ → Bool
lets_come (UnderWay since awaited (Some grant)) number = nat_le grant.from number
lets_come pace number = false

abbrev pub lets_come_if : Option Pace → ℕ → Bool
lets_come_if None number = false
lets_come_if (Some pace) number = lets_come pace number

-- a packet that was read before, with the same bytes
abbrev pub was_read : {T : Type 0} → List ℕ → Option (PartialValue T) → Bool
was_read bytes None = false
was_read bytes (Some p) = has_piece (Some p.pieces) (packet_number bytes) (drop 1 bytes)

-- late, or of a message that was; or again, since that was asked for; else it is read
abbrev pub fate_of : {T : Type 0} → Silence → Option ℕ → List ℕ → Option Pace → Option (PartialValue T) → Fate
fate_of silence now bytes pace half =
    if is_over_if (paced silence now (step_of bytes) pace) then fate.Late
    else (if lets_come_if pace (packet_number bytes) && was_read bytes half then fate.Again else fate.Read)
