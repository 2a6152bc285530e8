-- What each frame of the station says, it may send.
use Rattle.std.proofs.Common.{ℕ, ◌≡◌, ◌+◌, ◌*◌, ◌/◌, ◌%◌, ◌<◌, ◌≤◌, ◌^◌, List, Bool, true, false, Option, Some, None, if◌then◌else◌, refl, sym, subst, arith}
use Rattle.can_frame.specs.Fields.{pdu1_number}
use Rattle.can_frame.specs.FrameValue.{FrameValue}
use Rattle.address_claim.specs.Claiming.{is_held, CanHold}
use Rattle.address_claim.specs.Frames.{claim_frame_value}
use Rattle.requests.specs.Layouts.{request_frame_value, ack_frame_value}
use Rattle.transport.specs.ControlMessage.{control_bytes, control_of}
use Rattle.transport.specs.Messages.{control_frame, packet_frame}
use Rattle.transport.specs.Pieces.{is_message_size}
use Rattle.transport.specs.declared.control.Control.{Control}
use Rattle.transport.specs.declared.control.Control.TheVariants.{Rts, Cts, EndAck, Bam, Abort}
use Rattle.parameter_group.specs.Group.{Group, control_group, group_of}
use Rattle.bus_model.specs.Heard.{kind_of}
use Rattle.bus_model.specs.Machine.{MaySend}
use Rattle.bus_model.proofs.Bridge.{claim_group, says_claim, says_by, says_packet, pgn_from, control_pgn}
use Rattle.bus_model.proofs.Lookback.{held_is}

-- an address held is the one, and can be held
pub held_address : (held : Option ℕ) (a : ℕ) → CanHold held → is_held held a ≡ true → (held ≡ Some a) × (a ≤ 253)
held_address held a hold e = let same = held_is held a e in (same, subst CanHold same hold)

may_as : (n : ℕ) (held : Option ℕ) (f : FrameValue) (g : Group) → group_of f ≡ g → MaySend n held g → MaySend n held (group_of f)
may_as n held f g e may = subst (MaySend n held) (sym e) may

-- its claim, or cannot claim
pub claim_may : (n : ℕ) (held : Option ℕ) → n < 2 ^ 64 → CanHold held → MaySend n held (group_of (claim_frame_value n held))
claim_may n held small hold = may_as n held (claim_frame_value n held) (claim_group n held) (says_claim n held small hold) (own held)
  where
    own : (o : Option ℕ) → MaySend n o (claim_group n o)
    own None = tt
    own (Some a) = (refl, refl)

-- a request from its address, or from 254
pub request_may : (n : ℕ) (held : Option ℕ) (pgn d s : ℕ) → d ≤ 255 → s ≤ 255 → (s ≤ 253 → held ≡ Some s)
    → MaySend n held (group_of (request_frame_value (record { pgn = pgn; dest = d; source = s })))
request_may n held pgn d s l k own =
    may_as n held (request_frame_value (record { pgn = pgn; dest = d; source = s })) _
    (says_by (pdu1_number 6 59904 d s) _ 59904 d s
    (pgn_from (pdu1_number 6 59904 d s) 234 (omega arith) (omega arith) (omega arith) (omega arith)) (omega arith) (omega arith))
    own

-- an acknowledgment
pub ack_may : (n : ℕ) (held : Option ℕ) (control requester pgn d s : ℕ) → d ≤ 255 → s ≤ 255
    → MaySend n held (group_of (ack_frame_value (record { control = control; requester = requester; pgn = pgn; dest = d; source = s })))
ack_may n held control requester pgn d s l k =
    may_as n held (ack_frame_value (record { control = control; requester = requester; pgn = pgn; dest = d; source = s })) _
    (says_by (pdu1_number 6 59392 d s) _ 59392 d s
    (pgn_from (pdu1_number 6 59392 d s) 232 (omega arith) (omega arith) (omega arith) (omega arith)) (omega arith) (omega arith))
    tt

-- no message is started with one address, and none of a kind that stations list is announced to all
abbrev pub IsNoRts : Control → Type 0
IsNoRts (Rts size packets most pgn) = ⊥
IsNoRts (Bam size packets pgn) = kind_of (pgn % 256 + 256 * (pgn / 256 % 256) + 65536 * (pgn / 65536)) ≡ None
IsNoRts _ = Unit {0}

-- connection management that starts none, from its address
pub control_may : (n : ℕ) (held : Option ℕ) (c : Control) (s d : ℕ) → s ≤ 255 → d ≤ 255 → IsNoRts c → held ≡ Some s → MaySend n held (group_of (control_frame c s d))
control_may n held c s d k l starts own =
    may_as n held (control_frame c s d) _ (says_by (pdu1_number 7 60416 d s) (control_bytes c) 60416 d s (control_pgn d s l k) (omega arith) (omega arith)) (go c starts)
  where
    end_ack : (b : Bool) (size packets pgn : ℕ) → MaySend n held (control_group d s (if b then Some (EndAck size packets pgn) else None))
    end_ack true size packets pgn = tt
    end_ack false size packets pgn = tt

    bam : (b : Bool) (size packets pgn : ℕ) → kind_of pgn ≡ None → MaySend n held (control_group d s (if b then Some (Bam size packets pgn) else None))
    bam true size packets pgn none = (own, none)
    bam false size packets pgn none = tt

    go : (c : Control) → IsNoRts c → MaySend n held (control_group d s (control_of (control_bytes c)))
    go (Rts size packets most pgn) starts = absurd starts
    go (Cts granted next pgn) starts = tt
    go (EndAck size packets pgn) starts = end_ack (is_message_size (size % 256 + 256 * (size / 256)) packets) _ packets _
    go (Bam size packets pgn) starts = bam (is_message_size (size % 256 + 256 * (size / 256)) packets) _ packets _ starts
    go (Abort reason pgn) starts = own

-- a packet to all, from its address
pub packet_may : (n : ℕ) (held : Option ℕ) (bytes : List ℕ) (s : ℕ) → s ≤ 255 → held ≡ Some s → MaySend n held (group_of (packet_frame bytes s 255))
packet_may n held bytes s k own = may_as n held (packet_frame bytes s 255) _ (says_packet bytes s 255 (omega arith) k) (own, refl)
