-- What the station holds after a frame: only a claim changes it, and that withdraws all that waits.
use Rattle.std.proofs.Common.{◌≡◌, ℕ, ◌⊎◌, inl, inr, Bool, true, false, ◌==◌, ◌||◌, not, nat_eq, List, [], ◌∷◌, Option, Some, None, if◌then◌else◌, refl, ap, ◌∙◌}
use Rattle.address_claim.specs.Claiming.{ClaimerValue, claim_step, held_after, is_held}
use Rattle.address_claim.specs.declared.claimer.ClaimStep.{ClaimStep}
use Rattle.address_claim.specs.declared.claimer.ClaimStep.TheVariants.{Nothing, Defend, Move, CannotClaim}
use Rattle.bus_model.specs.Heard.{Entry, Joining, entry_under, finished, kind_of, started}
use Rattle.can_frame.specs.declared.address.TheConstants.{GLOBAL_ADDRESS}
use Rattle.dm_messages.specs.View.{decoding}
use Rattle.dm_messages.specs.declared.shown.Shown.{Shown}
use Rattle.entry_lists.specs.declared.row.AckSeen.{AckSeen}
use Rattle.parameter_group.specs.Group.{Group, AddressClaimed, CannotClaim as GaveUp, Request, Acknowledgment, Diagnostic, ConnectionManagement, DataTransfer, Other}
use Rattle.reassembly.specs.Partials.{with_packet}
use Rattle.reassembly.specs.Tables.{at}
use Rattle.station_table.specs.Reactions.{claim_reaction, group_reaction}
use Rattle.station_table.specs.StationValue.{StationValue}
use Rattle.station_table.specs.Steps.{after_group, with_answer, with_ended, with_reading, with_session}
use Rattle.station_table.specs.declared.reaction.Reaction.{Reaction}
use Rattle.transport.specs.declared.control.Control.{Control}
use Rattle.transport.specs.declared.control.Control.TheVariants.{Rts, Cts, EndAck, Bam, Abort}

-- the station claims as before
abbrev Keeps : StationValue → StationValue → Type 0
Keeps s s' = s'.claimer ≡ s.claimer

keeps_if : (s x y : StationValue) (b : Bool) → Keeps s x → Keeps s y → Keeps s (if b then x else y)
keeps_if s x y true p q = p
keeps_if s x y false p q = q

keeps_reading : (s : StationValue) (o : Option Shown) → Keeps s (with_reading s o)
keeps_reading s None = refl
keeps_reading s (Some shown) = refl

keeps_ended : (s : StationValue) (o : Option Entry) → Keeps s (with_ended s o)
keeps_ended s None = refl
keeps_ended s (Some e) = keeps_reading s (decoding e.bytes)

keeps_answer : (s : StationValue) (o : Option ℕ) (ack : AckSeen) → Keeps s (with_answer s o ack)
keeps_answer s None ack = refl
keeps_answer s (Some name) ack = refl

keeps_session : (s : StationValue) (source most : ℕ) (o : Option Joining) → Keeps s (with_session s source most o)
keeps_session s source most None = refl
keeps_session s source most (Some j) = refl

keeps_control : (s : StationValue) (source destination : ℕ) (control : Control) → Keeps s (after_group s (ConnectionManagement source destination control))
keeps_control s source destination (Rts size packets most pgn) =
    keeps_if s _ s (is_held s.claimer.held destination) (keeps_session s source most (started (kind_of pgn) size (at s.owners source))) refl
keeps_control s source destination (Cts granted next pgn) = refl
keeps_control s source destination (EndAck size packets pgn) = refl
keeps_control s source destination (Bam size packets pgn) = keeps_if s _ s (destination == GLOBAL_ADDRESS) refl refl
keeps_control s source destination (Abort reason pgn) = keeps_if s _ s (is_held s.claimer.held destination) refl refl

keeps_packet : (s : StationValue) (source destination : ℕ) (bytes : List ℕ) → Keeps s (after_group s (DataTransfer source destination bytes))
keeps_packet s source destination bytes =
    keeps_if s _ _ (destination == GLOBAL_ADDRESS)
    (keeps_ended s (finished (with_packet bytes (at s.broadcasts source))))
    (keeps_if s _ s (is_held s.claimer.held destination) (keeps_ended s (finished (with_packet bytes (at s.sessions source)))) refl)

-- a frame that is no claim of an address
abbrev pub IsNoClaim : Group → Type 0
IsNoClaim (AddressClaimed source name) = ⊥
IsNoClaim _ = Unit {0}

pub claims_as_before : (s : StationValue) (g : Group) → IsNoClaim g → (after_group s g).claimer ≡ s.claimer
claims_as_before s (AddressClaimed source name) n = absurd n
claims_as_before s (GaveUp name) n = refl
claims_as_before s (Request pgn destination source) n = refl
claims_as_before s (Acknowledgment control requester pgn destination source) n =
    keeps_if s _ s (is_held s.claimer.held requester || is_held s.claimer.held destination)
    (keeps_answer s (at s.owners source) (record { control = control; pgn = pgn })) refl
claims_as_before s (Diagnostic kind source bytes) n = keeps_ended s (entry_under (at s.owners source) kind bytes)
claims_as_before s (ConnectionManagement source destination control) n = keeps_control s source destination control
claims_as_before s (DataTransfer source destination bytes) n = keeps_packet s source destination bytes
claims_as_before s Other n = refl

-- all is withdrawn, or the address is the one that was held
withdraws_or_holds : (step : ClaimStep) (c : ClaimerValue) → ((claim_reaction step c).withdraw ≡ true) ⊎ (held_after step c.held ≡ c.held)
withdraws_or_holds Nothing c = inr refl
withdraws_or_holds Defend c = inl refl
withdraws_or_holds (Move address) c = inl refl
withdraws_or_holds CannotClaim c = inl refl

pub holds_unless_withdrawn : (s : StationValue) (g : Group) → ((group_reaction s g).withdraw ≡ true) ⊎ ((after_group s g).claimer.held ≡ s.claimer.held)
holds_unless_withdrawn s (AddressClaimed source name) = withdraws_or_holds (claim_step source name s.claimer) s.claimer
holds_unless_withdrawn s (GaveUp name) = inr refl
holds_unless_withdrawn s (Request pgn destination source) = inr refl
holds_unless_withdrawn s (Acknowledgment control requester pgn destination source) =
    inr (ap (λ (c : ClaimerValue). c.held) (claims_as_before s (Acknowledgment control requester pgn destination source) tt))
holds_unless_withdrawn s (Diagnostic kind source bytes) = inr (ap (λ (c : ClaimerValue). c.held) (claims_as_before s (Diagnostic kind source bytes) tt))
holds_unless_withdrawn s (ConnectionManagement source destination control) =
    inr (ap (λ (c : ClaimerValue). c.held) (claims_as_before s (ConnectionManagement source destination control) tt))
holds_unless_withdrawn s (DataTransfer source destination bytes) =
    inr (ap (λ (c : ClaimerValue). c.held) (claims_as_before s (DataTransfer source destination bytes) tt))
holds_unless_withdrawn s Other = inr refl

-- the station's NAME is its own
pub named_as_before : (s : StationValue) (g : Group) → (after_group s g).claimer.name ≡ s.claimer.name
named_as_before s (AddressClaimed source name) = refl
named_as_before s (GaveUp name) = refl
named_as_before s (Request pgn destination source) = refl
named_as_before s (Acknowledgment control requester pgn destination source) =
    ap (λ (c : ClaimerValue). c.name) (claims_as_before s (Acknowledgment control requester pgn destination source) tt)
named_as_before s (Diagnostic kind source bytes) = ap (λ (c : ClaimerValue). c.name) (claims_as_before s (Diagnostic kind source bytes) tt)
named_as_before s (ConnectionManagement source destination control) =
    ap (λ (c : ClaimerValue). c.name) (claims_as_before s (ConnectionManagement source destination control) tt)
named_as_before s (DataTransfer source destination bytes) =
    ap (λ (c : ClaimerValue). c.name) (claims_as_before s (DataTransfer source destination bytes) tt)
named_as_before s Other = refl
