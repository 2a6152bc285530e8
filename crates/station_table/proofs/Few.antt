-- A reading puts two frames at most; what a frame says decides what is done.
use Rattle.std.proofs.Common.{◌≡◌, ℕ, ◌≤◌, ◌==◌, ◌&&◌, ◌||◌, Bool, true, false, nat_lt, Option, Some, None, if◌then◌else◌, length, sym, ap, ◌∙◌, arith, subst}
use Rattle.address_claim.specs.Claiming.{ClaimerValue, is_held, claim_step}
use Rattle.address_claim.specs.declared.claimer.ClaimStep.{ClaimStep}
use Rattle.address_claim.specs.declared.claimer.ClaimStep.TheVariants.{Nothing, Defend, Move, CannotClaim as NoAddress}
use Rattle.can_frame.specs.declared.reading.Reading.{Reading}
use Rattle.can_frame.specs.declared.reading.Reading.TheVariants.{Frame, Gap, Empty}
use Rattle.transport.specs.declared.control.Control.{Control}
use Rattle.transport.specs.declared.control.Control.TheVariants.{Rts}
use Rattle.parameter_group.specs.Group.{Group, AddressClaimed, Request, ConnectionManagement, DataTransfer, group_of}
use Rattle.station_table.specs.declared.reaction.Reaction.{Reaction}
use Rattle.station_table.specs.StationValue.{StationValue}
use Rattle.bus_model.specs.declared.change.Change.{Change}
use Rattle.station_table.specs.Changing.{group_changes}
use Rattle.reassembly.specs.Tables.{at}
use Rattle.station_table.specs.Reactions.{claim_reaction, replying, reply_to, granted_at_once, group_reaction, station_reaction}
use Rattle.station_table.specs.Steps.{after_group}

pub after_same : (s t : StationValue) (g said : Group) → said ≡ g → t ≡ after_group s said → t ≡ after_group s g
after_same s t g said e h = h ∙ ap (after_group s) e

pub reaction_same : (s : StationValue) (x : Reaction) (g said : Group) → said ≡ g → x ≡ group_reaction s said → x ≡ group_reaction s g
reaction_same s x g said e h = h ∙ ap (group_reaction s) e

pub changes_same : (s : StationValue) (c : Change) (g said : Group) → said ≡ g → c ≡ group_changes s said → c ≡ group_changes s g
changes_same s c g said e h = h ∙ ap (group_changes s) e

-- two frames at most
abbrev pub IsFew : Reaction → Type 0
IsFew x = length x.put ≤ 2

few_if : (b : Bool) (x y : Reaction) → IsFew x → IsFew y → IsFew (if b then x else y)
few_if true x y p q = p
few_if false x y p q = q

few_claim : (step : ClaimStep) (c : ClaimerValue) → IsFew (claim_reaction step c)
few_claim Nothing c = omega arith
few_claim Defend c = omega arith
few_claim (Move a) c = omega arith
few_claim NoAddress c = omega arith

few_reply : (o : Option Control) (own source : ℕ) → IsFew (replying o own source)
few_reply None own source = omega arith
few_reply (Some c) own source = omega arith

few_group : (s : StationValue) (g : Group) → IsFew (group_reaction s g)
few_group s (AddressClaimed source name) = few_claim (claim_step source name s.claimer) s.claimer
few_group s (Request pgn d source) =
    few_if (pgn == 60928) _ _
    (few_if (is_held s.claimer.held d || d == 255) _ _ (omega arith) (omega arith))
    (few_if (is_held s.claimer.held d && nat_lt source 254) _ _ (omega arith) (omega arith))
few_group s (ConnectionManagement source d (Rts size packets most pgn)) =
    few_if (is_held s.claimer.held d && nat_lt source 254) _ _ (omega arith) (omega arith)
few_group s (DataTransfer source d bytes) =
    few_if (d == 255) _ _ (omega arith)
    (few_if (is_held s.claimer.held d) _ _ (few_reply (reply_to (granted_at_once s source) (at s.sessions source) bytes) d source) (omega arith))
few_group s _ = omega arith

few_reading : (s : StationValue) (x : Reading) → IsFew (station_reaction s x)
few_reading s Empty = omega arith
few_reading s (Gap n) = omega arith
few_reading s (Frame f) = few_group s (group_of f)

pub few_by_group : (s : StationValue) (g : Group) (put : Reaction) → put ≡ group_reaction s g → length put.put ≤ 2
few_by_group s g put e = let P : Reaction → Type 0 = λ y. IsFew y in subst P (sym e) (few_group s g)

pub few_frames : (s : StationValue) (x : Reading) (put : Reaction) → put ≡ station_reaction s x → length put.put ≤ 2
few_frames s x put e = let P : Reaction → Type 0 = λ y. IsFew y in subst P (sym e) (few_reading s x)
