-- Faults that a unit has on purpose: what goes in the place of a frame that it writes, and what it writes beside its rules.
use Rattle.std.specs.Prelude.{ℕ, ◌≡◌, ◌+◌, ◌-◌, ◌*◌, ◌/◌, ◌%◌, ◌==◌, ◌&&◌, Bool, true, false, nat_le, nat_lt, List, [], ◌∷◌, ◌++◌, length, take, drop, Option, Some, None, slice_get, slice_index_or, if◌then◌else◌}
use Rattle.can_frame.specs.Fields.{pgn_of}
use Rattle.can_frame.specs.FrameValue.{FrameValue, frame}
use Rattle.can_frame.specs.declared.group_numbers.TheConstants.{DATA_TRANSFER, DM1}
use Rattle.address_claim.specs.Frames.{claim_frame_value}
use Rattle.live_unit.specs.Waits.{later}
use Rattle.vehicle.specs.declared.fail_line.Deviation.{Deviation}
use Rattle.vehicle.specs.declared.fail_line.Deviation.TheVariants.{Babble, Delay, Drop, Number, Old, Short, Steal, Twice, Zeros}
use Rattle.live_lines.specs.declared.failing.Delayed.{Delayed}
use Rattle.live_lines.specs.declared.failing.Failing.{Failing}
use Rattle.live_lines.specs.declared.faults.Later.{Later}

-- ---- one frame

-- a packet with the number behind its own; behind 255 is 0
abbrev pub misnumbered : FrameValue → FrameValue
misnumbered f = frame f.id ((slice_index_or f.bytes 0 0 + 1) % 256 ∷ drop 1 f.bytes)

-- a byte less
abbrev pub shortened : FrameValue → FrameValue
shortened f = frame f.id (take (length f.bytes - 1) f.bytes)

-- a DM1 in one frame: the bytes behind its code are 0
abbrev pub zeroed : FrameValue → FrameValue
zeroed f = frame f.id (take 6 f.bytes ++ 0 ∷ 0 ∷ [])

-- a DM1 in one frame: the bit of its code that tells the conversion method is 1
abbrev pub aged : FrameValue → FrameValue
aged f = frame f.id (take 5 f.bytes ++ (slice_index_or f.bytes 5 0 % 128 + 128) ∷ drop 6 f.bytes)

abbrev pub altered : Deviation → FrameValue → FrameValue
altered Number f = misnumbered f
altered Short f = shortened f
altered Zeros f = zeroed f
altered Old f = aged f
altered _ f = f

-- a fault can change the frame: a packet; a DM1 in one frame; one with a byte
abbrev pub can_change : Deviation → FrameValue → Bool
can_change Number f = (pgn_of f.id == DATA_TRANSFER) && (length f.bytes == 8)
can_change Short f = nat_le 1 (length f.bytes)
can_change Zeros f = (pgn_of f.id == DM1) && (length f.bytes == 8)
can_change Old f = (pgn_of f.id == DM1) && (length f.bytes == 8)
can_change (Babble g period) f = false
can_change (Steal address period) f = false
can_change _ f = true

-- the frame in the place of one
abbrev pub changed_by : Deviation → FrameValue → FrameValue
changed_by d f = if can_change d f then altered d f else f

-- what goes of a frame, and after how many microseconds
abbrev pub carried : Deviation → FrameValue → List Delayed
carried Drop f = []
carried (Delay wait) f = record { wait = 1000 * wait; frame = f } ∷ []
carried Twice f = record { wait = 0; frame = f } ∷ record { wait = 0; frame = f } ∷ []
carried d f = record { wait = 0; frame = changed_by d f } ∷ []

-- a frame that goes at once, and one that waits
abbrev pub later_list : Option Delayed → List Delayed
later_list None = []
later_list (Some w) = w ∷ []

abbrev pub goes : Option FrameValue → Option Delayed → List Delayed
goes None w = later_list w
goes (Some f) w = record { wait = 0; frame = f } ∷ later_list w

-- ---- which frames it meets

abbrev pub is_of : Option ℕ → FrameValue → Bool
is_of None f = true
is_of (Some group) f = pgn_of f.id == group

-- its time has come and is not over, and it has not happened as often as it may
abbrev pub is_failing : ℕ → Failing → Bool
is_failing now x = x.begun && (nat_le x.from now && (nat_lt now x.until && nat_lt 0 x.left))

abbrev pub touches : ℕ → FrameValue → Failing → Bool
touches now f x = is_failing now x && (is_of x.group f && can_change x.deviation f)

-- the numbers of a seed
abbrev pub next_number : ℕ → ℕ
next_number n = n % 2147483647 * 48271 % 2147483647

-- so many of 100 frames that it touches
abbrev pub is_chosen : Failing → Bool
is_chosen x = nat_lt (next_number x.number % 100) x.share

abbrev pub hits : ℕ → FrameValue → Failing → Bool
hits now f x = touches now f x && is_chosen x

-- the fault behind a frame
abbrev pub behind_frame : ℕ → FrameValue → Failing → Failing
behind_frame now f x =
    if touches now f x then record x { number = next_number x.number; left = if is_chosen x then x.left - 1 else x.left } else x

-- one of them does this, and the frame meets it
pub record Meets (all : List Failing) (d : Deviation) (now : ℕ) (f : FrameValue) : Type 0 where
  pub place : ℕ
  pub one : Failing
  pub at : slice_get all place ≡ Some one
  pub does : one.deviation ≡ d
  pub met : hits now f one ≡ true

-- ---- what waits

abbrev pub waits_from : ℕ → Delayed → Later
waits_from now w = record { at = later now w.wait; frame = w.frame }

abbrev pub with_later : ℕ → Option Delayed → List Later → List Later
with_later now None waiting = waiting
with_later now (Some w) waiting = waiting ++ waits_from now w ∷ []

-- ---- what it adds

-- the frame from an address
abbrev pub from_address : ℕ → FrameValue → FrameValue
from_address source f = frame (f.id / 256 * 256 + source) f.bytes

-- the frame of a babbling unit, from the address that it holds; a claim of an address that it need not hold
abbrev pub IsAdded : Deviation → ℕ → Option ℕ → FrameValue → Type 0
IsAdded (Babble g period) name held f = (own : ℕ) × (held ≡ Some own) × (f ≡ from_address own g)
IsAdded (Steal address period) name held f = f ≡ claim_frame_value name (Some address)
IsAdded _ name held f = ⊥
