-- What a request asks of a unit (SAE J1939-21, J1939-73), and whom it concerns.
use Rattle.std.specs.Prelude.{ℕ, Bool, ◌&&◌, ◌||◌, ◌==◌, not, nat_le, Option, Some, None, if◌then◌else◌}
use Rattle.can_frame.specs.FrameValue.{FrameValue}
use Rattle.can_frame.specs.declared.address.TheConstants.{GREATEST_ADDRESS, GLOBAL_ADDRESS}
use Rattle.can_frame.specs.declared.group_numbers.TheConstants.{DM3, DM11}
use Rattle.dm_messages.specs.View.{pgn_of_kind}
use Rattle.address_claim.specs.Claiming.{is_held}
use Rattle.requests.specs.Layouts.{ack_frame_value}
use Rattle.dm_messages.specs.declared.kind.Kind.TheVariants.{Dm1, Dm2, Dm6}
use Rattle.unit_trait.specs.declared.question.Clear.TheVariants.{Active, Previous}
use Rattle.unit_trait.specs.declared.question.Question.{Question}
use Rattle.unit_trait.specs.declared.question.Question.TheVariants.{Clear}
use Rattle.node_core.specs.declared.requested.Wanted.{Wanted}
use Rattle.node_core.specs.declared.requested.Wanted.TheVariants as wanted

-- what a request for that group asks for: DM1, DM2, DM6, to clear the active codes (DM11) or the previous ones (DM3)
abbrev pub wanted_by : ℕ → Wanted
wanted_by pgn =
    if pgn == pgn_of_kind Dm1 then wanted.Message Dm1
    else if pgn == pgn_of_kind Dm2 then wanted.Message Dm2
    else if pgn == pgn_of_kind Dm6 then wanted.Message Dm6
    else if pgn == DM11 then wanted.Clear Active
    else if pgn == DM3 then wanted.Clear Previous
    else wanted.Unsupported

-- it goes to all, or to the address held
abbrev pub is_addressed : Option ℕ → ℕ → Bool
is_addressed held destination = destination == GLOBAL_ADDRESS || is_held held destination

-- a request for more than the claim counts where it comes from an address that can be held, and not from the unit's own
abbrev pub may_answer : ℕ → ℕ → Bool
may_answer address source = nat_le source GREATEST_ADDRESS && not (source == address)

-- the acknowledgment to all of a request from `requester`: control 0 is "positive", 1 "negative", 3 "cannot respond now"
abbrev pub acknowledgment : ℕ → ℕ → ℕ → ℕ → FrameValue
acknowledgment control requester pgn address =
    ack_frame_value (record { control = control; requester = requester; pgn = pgn; dest = GLOBAL_ADDRESS; source = address })

-- what it puts to the unit: a clear
abbrev pub put_by : Wanted → Option Question
put_by (wanted.Clear which) = Some (Clear which)
put_by _ = None
