-- Which frame acknowledges what was asked.
use Rattle.std.proofs.Common.{◌≡◌, ℕ, ◌⊎◌, inl, inr, Bool, true, false, ◌&&◌, ◌||◌, ◌==◌, nat_eq, Option, Some, None, List, if◌then◌else◌, refl, sym, ap, ◌∙◌}
use Rattle.std.proofs.lemmas.Bool.{and_parts, eqb-true}
use Rattle.can_frame.specs.declared.address.TheConstants.{GLOBAL_ADDRESS}
use Rattle.bus_model.specs.declared.change.Change.{Change}
use Rattle.bus_model.specs.declared.change.Change.TheVariants as change
use Rattle.parameter_group.specs.Group.{Group, AddressClaimed, CannotClaim, Request, Acknowledgment, Diagnostic, ConnectionManagement, DataTransfer, Other}
use Rattle.transport.specs.declared.control.Control.{Control}
use Rattle.transport.specs.declared.control.Control.TheVariants.{Rts, Cts, EndAck, Bam, Abort}
use Rattle.live_station.specs.OpenOrders.{group_wanted, kind_wanted}
use Rattle.live_station.specs.Signs.{announced_sign, began_sign, claim_sign, ended_sign, is_asked_at, is_group_wanted, is_marked, is_told_to, is_wanted, or_packet, packet_sign, sign_by}
use Rattle.live_station.specs.declared.open.Asked.{Asked}
use Rattle.live_station.specs.declared.order.Order.{Order}
use Rattle.live_station.specs.declared.order.Order.TheVariants.{Ask, AskClaim, AskAll, AskAllClaims, Clear, Command}
use Rattle.live_station.specs.declared.sign.Sign.{Sign}
use Rattle.live_station.specs.declared.sign.Sign.TheVariants as sign

-- a sign that is no acknowledgment
abbrev IsNone : Sign → Type 0
IsNone (sign.Acknowledged control) = ⊥
IsNone _ = Unit {0}

by_case : (b : Bool) (x y : Sign) → IsNone x → IsNone y → IsNone (if b then x else y)
by_case true x y p q = p
by_case false x y p q = q

none_not : (s : Sign) (c : ℕ) → IsNone s → s ≡ sign.Acknowledged c → ⊥
none_not sign.Nothing c n e = cc
none_not (sign.Acknowledged control) c n e = n
none_not (sign.Began to_all) c n e = cc
none_not (sign.Replaced to_all) c n e = cc
none_not sign.Packet c n e = cc
none_not (sign.Ended is_read) c n e = cc
none_not sign.Claimed c n e = cc

claims : (o : Order) (by : ℕ) → IsNone (claim_sign o by)
claims (Ask name kind) by = tt
claims (AskClaim name) by = by_case (name == by) sign.Claimed sign.Nothing tt tt
claims (AskAll kind) by = tt
claims AskAllClaims by = tt
claims (Clear name what) by = tt
claims (Command name address) by = tt

ends : (o : Order) (a : Asked) (c : Change) → IsNone (ended_sign o a c)
ends o a (change.Listed n k source) = by_case (is_wanted o a n k source) (sign.Ended true) sign.Nothing tt tt
ends o a (change.Unreadable n k source) = by_case (is_wanted o a n k source) (sign.Ended false) sign.Nothing tt tt
ends o a change.Nothing = tt
ends o a (change.Claimed name address displaced) = tt
ends o a (change.GaveUp name) = tt
ends o a (change.Acknowledged name control pgn again) = tt
ends o a (change.Unowned kind source) = tt
ends o a (change.Missed count) = tt

begins : (o : Order) (a : Asked) (to_all : Bool) (pgn : ℕ) → IsNone (began_sign o a to_all pgn)
begins o a to_all pgn =
    by_case (is_group_wanted (kind_wanted o) pgn) (sign.Began to_all) _ tt (by_case (a.to == GLOBAL_ADDRESS) sign.Nothing (sign.Replaced to_all) tt tt)

announces : (o : Order) (a : Asked) (destination : ℕ) (control : Control) → IsNone (announced_sign o a destination control)
announces o a destination (Bam size packets pgn) = by_case (destination == GLOBAL_ADDRESS) _ sign.Nothing (begins o a true pgn) tt
announces o a destination (Rts size packets most pgn) = by_case (destination == a.own) _ sign.Nothing (begins o a false pgn) tt
announces o a destination (Cts granted next pgn) = tt
announces o a destination (EndAck size packets pgn) = tt
announces o a destination (Abort reason pgn) = tt

or_packet_none : (s : Sign) → IsNone s → IsNone (or_packet s)
or_packet_none sign.Nothing n = tt
or_packet_none (sign.Acknowledged control) n = n
or_packet_none (sign.Began to_all) n = tt
or_packet_none (sign.Replaced to_all) n = tt
or_packet_none sign.Packet n = tt
or_packet_none (sign.Ended is_read) n = tt
or_packet_none sign.Claimed n = tt

packets : (marked : Bool) (o : Order) (a : Asked) (c : Change) → IsNone (packet_sign marked o a c)
packets marked o a c =
    by_case marked _ _ (or_packet_none (ended_sign o a c) (ends o a c)) (by_case (a.to == GLOBAL_ADDRESS) _ sign.Nothing (ends o a c) tt)

either : (x y own : ℕ) → (x == own || y == own) ≡ true → (x ≡ own) ⊎ (y ≡ own)
either x y own e = go (x == own) refl
  where
    go : (b : Bool) → (x == own) ≡ b → (x ≡ own) ⊎ (y ≡ own)
    go true f = inl (eqb-true x own f)
    go false f = (let g : (y == own) ≡ true = cc in inr (eqb-true y own g))

-- it is one of the group that was asked for, from the address that was asked, to the station
abbrev pub IsAcknowledgment : Order → Asked → Group → ℕ → Type 0
IsAcknowledgment o a g c =
    (requester : ℕ) × (destination : ℕ) × (g ≡ Acknowledgment c requester (group_wanted o) destination a.to) × ((requester ≡ a.own) ⊎ (destination ≡ a.own))

chosen : (b : Bool) (control c : ℕ) → (if b then sign.Acknowledged control else sign.Nothing) ≡ sign.Acknowledged c → (b ≡ true) × (control ≡ c)
chosen true control c e = (refl, cc)
chosen false control c e = absurd cc

pub acknowledged_by : (o : Order) (a : Asked) (g : Group) (x : Change) (c : ℕ) → sign_by o a g x ≡ sign.Acknowledged c → IsAcknowledgment o a g c
acknowledged_by o a (AddressClaimed source name) x c e = absurd (none_not (claim_sign o name) c (claims o name) e)
acknowledged_by o a (CannotClaim name) x c e = absurd cc
acknowledged_by o a (Request pgn destination source) x c e = absurd cc
acknowledged_by o a (Acknowledgment control requester pgn destination source) x c e =
    let both : (((source == a.to && pgn == group_wanted o) && (requester == a.own || destination == a.own)) ≡ true) × (control ≡ c) = chosen _ control c e in
    let parts : ((source == a.to && pgn == group_wanted o) ≡ true) × ((requester == a.own || destination == a.own) ≡ true) = and_parts _ _ both.0 in
    let from : ((source == a.to) ≡ true) × ((pgn == group_wanted o) ≡ true) = and_parts _ _ parts.0 in
    let of_source : source ≡ a.to = eqb-true source a.to from.0 in
    let of_group : pgn ≡ group_wanted o = eqb-true pgn (group_wanted o) from.1 in
    let of_control : control ≡ c = both.1 in
    (requester, destination, (cc), either requester destination a.own parts.1)
acknowledged_by o a (Diagnostic kind source bytes) x c e = absurd (none_not (ended_sign o a x) c (ends o a x) e)
acknowledged_by o a (ConnectionManagement source destination control) x c e =
    absurd (none_not _ c (by_case (is_asked_at a source) (announced_sign o a destination control) sign.Nothing (announces o a destination control) tt) e)
acknowledged_by o a (DataTransfer source destination bytes) x c e =
    absurd (none_not _ c (by_case (is_asked_at a source && is_told_to a destination) (packet_sign (is_marked a (destination == GLOBAL_ADDRESS)) o a x) sign.Nothing
    (packets (is_marked a (destination == GLOBAL_ADDRESS)) o a x) tt) e)
acknowledged_by o a Other x c e = absurd cc
