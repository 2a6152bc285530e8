-- What a frame says of a request that was written.
use Rattle.std.specs.Prelude.{ℕ, Bool, true, false, ◌&&◌, ◌||◌, ◌==◌, nat_eq, Option, Some, None, if◌then◌else◌}
use Rattle.can_frame.specs.declared.address.TheConstants.{GLOBAL_ADDRESS}
use Rattle.bus_model.specs.declared.change.Change.{Change}
use Rattle.bus_model.specs.declared.change.Change.TheVariants.{Listed, Unreadable}
use Rattle.dm_messages.specs.View.{pgn_of_kind, same_kind}
use Rattle.dm_messages.specs.declared.kind.Kind.{Kind}
use Rattle.parameter_group.specs.Group.{Group, AddressClaimed, Acknowledgment, Diagnostic, ConnectionManagement, DataTransfer}
use Rattle.transport.specs.declared.control.Control.{Control}
use Rattle.transport.specs.declared.control.Control.TheVariants.{Rts, Bam}
use Rattle.live_station.specs.declared.order.Order.{Order}
use Rattle.live_station.specs.declared.order.Order.TheVariants.{Ask, AskClaim, AskAll, AskAllClaims}
use Rattle.live_station.specs.declared.sign.Sign.{Sign}
use Rattle.live_station.specs.declared.sign.Sign.TheVariants as sign
use Rattle.live_station.specs.declared.open.Asked.{Asked}
use Rattle.live_station.specs.declared.open.Stage.{Stage}
use Rattle.live_station.specs.declared.open.Stage.TheVariants as stage
use Rattle.live_station.specs.declared.open.OpenOrder.{OpenOrder}
use Rattle.live_station.specs.OpenOrders.{group_wanted, kind_wanted}

-- who sends from the address is asked
abbrev pub is_asked_at : Asked → ℕ → Bool
is_asked_at a source = a.to == GLOBAL_ADDRESS || a.to == source

-- a packet goes to all or to the station
abbrev pub is_told_to : Asked → ℕ → Bool
is_told_to a destination = destination == GLOBAL_ADDRESS || destination == a.own

-- the message that is asked for was announced behind the request, to all or to the station
abbrev pub is_marked : Asked → Bool → Bool
is_marked a to_all = if to_all then a.broadcast else a.session

-- the claim that is asked for
abbrev pub claim_sign : Order → ℕ → Sign
claim_sign (AskClaim name) by = if name == by then sign.Claimed else sign.Nothing
claim_sign AskAllClaims by = sign.Claimed
claim_sign _ by = sign.Nothing

-- a group is that of the message that is asked for
abbrev pub is_group_wanted : Option Kind → ℕ → Bool
is_group_wanted None pgn = false
is_group_wanted (Some kind) pgn = pgn_of_kind kind == pgn

-- it is announced, to all or to the station; or another one of the unit's, in its place
abbrev pub began_sign : Order → Asked → Bool → ℕ → Sign
began_sign o a to_all pgn =
    if is_group_wanted (kind_wanted o) pgn then sign.Began to_all else if a.to == GLOBAL_ADDRESS then sign.Nothing else sign.Replaced to_all

abbrev pub announced_sign : Order → Asked → ℕ → Control → Sign
announced_sign o a destination (Bam size packets pgn) = if destination == GLOBAL_ADDRESS then began_sign o a true pgn else sign.Nothing
announced_sign o a destination (Rts size packets most pgn) = if destination == a.own then began_sign o a false pgn else sign.Nothing
announced_sign o a destination _ = sign.Nothing

-- a message of this NAME and kind from this address is the one that is asked for
abbrev pub is_wanted : Order → Asked → ℕ → Kind → ℕ → Bool
is_wanted (Ask name kind) a n k source = name == n && same_kind kind k && is_asked_at a source
is_wanted (AskAll kind) a n k source = same_kind kind k
is_wanted _ a n k source = false

abbrev pub ended_sign : Order → Asked → Change → Sign
ended_sign o a (Listed n k source) = if is_wanted o a n k source then sign.Ended true else sign.Nothing
ended_sign o a (Unreadable n k source) = if is_wanted o a n k source then sign.Ended false else sign.Nothing
ended_sign o a _ = sign.Nothing

-- a packet: one more of a message that was announced behind the request, or its end; of a request to all each message that ends counts
abbrev pub or_packet : Sign → Sign
or_packet sign.Nothing = sign.Packet
or_packet s = s

abbrev pub packet_sign : Bool → Order → Asked → Change → Sign
packet_sign marked o a change =
    if marked then or_packet (ended_sign o a change) else if a.to == GLOBAL_ADDRESS then ended_sign o a change else sign.Nothing

-- an acknowledgment counts of the group that is asked for, from the address that is asked, to the station
abbrev pub ack_sign : Order → Asked → ℕ → ℕ → ℕ → ℕ → ℕ → Sign
ack_sign o a control requester pgn destination source =
    if (source == a.to && pgn == group_wanted o) && (requester == a.own || destination == a.own) then sign.Acknowledged control else sign.Nothing

-- what a frame says, and what it changed
abbrev pub sign_by : Order → Asked → Group → Change → Sign
sign_by o a (AddressClaimed source name) change = claim_sign o name
sign_by o a (Acknowledgment control requester pgn destination source) change = ack_sign o a control requester pgn destination source
sign_by o a (Diagnostic kind source bytes) change = ended_sign o a change
sign_by o a (ConnectionManagement source destination control) change =
    if is_asked_at a source then announced_sign o a destination control else sign.Nothing
sign_by o a (DataTransfer source destination bytes) change =
    if is_asked_at a source && is_told_to a destination then packet_sign (is_marked a (destination == GLOBAL_ADDRESS)) o a change else sign.Nothing
sign_by o a _ change = sign.Nothing

-- and of an open order: nothing while it is not out
abbrev pub sign_staged : Order → Stage → Group → Change → Sign
sign_staged o (stage.Asked a) group change = sign_by o a group change
sign_staged o _ group change = sign.Nothing

abbrev pub sign_for : Option OpenOrder → Group → Change → Sign
sign_for None group change = sign.Nothing
sign_for (Some o) group change = sign_staged o.order o.stage group change
