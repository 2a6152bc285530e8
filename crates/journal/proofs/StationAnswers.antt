-- What the station withdraws and queues is what the law's machine allows.
use Rattle.std.proofs.Common.{ℕ, ◌≡◌, ◌+◌, ◌-◌, ◌%◌, ◌<◌, ◌≤◌, ◌^◌, ◌==◌, ◌&&◌, ◌||◌, not, min, nat_lt, List, [], ◌∷◌, ◌++◌, length, reverse, Bool, true, false, Option, Some, None, if◌then◌else◌, refl, sym, subst, arith, append-nil}
use Rattle.can_frame.specs.FrameValue.{FrameValue}
use Rattle.address_claim.specs.Claiming.{ClaimerValue, is_held, claim_step, after_claim, held_after, move_step, next_address, noted_after, CanHold}
use Rattle.address_claim.specs.Frames.{claim_frame_value}
use Rattle.address_claim.specs.declared.claimer.ClaimStep.TheVariants.{Nothing, Defend}
use Rattle.requests.specs.Layouts.{ack_frame_value, commanded_bytes}
use Rattle.transport.specs.Messages.{control_frame, frames_of_message, packet_frame}
use Rattle.transport.specs.Pieces.{packet_count, packet as piece}
use Rattle.transport.specs.declared.control.Control.{Control}
use Rattle.transport.specs.declared.control.Control.TheVariants.{Rts, Cts, EndAck, Bam, Abort}
use Rattle.dm_messages.specs.View.{pgn_of_kind}
use Rattle.parameter_group.specs.Group.{Group, AddressClaimed, CannotClaim, Request, Acknowledgment, Diagnostic, ConnectionManagement, DataTransfer, Other, group_of}
use Rattle.reassembly.specs.Partials.{is_whole, with_packet}
use Rattle.reassembly.specs.Tables.{at}
use Rattle.parameter_group.specs.Calm.{is_contest}
use Rattle.bus_model.specs.Heard.{Joining, claimer_after, kind_of, started}
use Rattle.bus_model.specs.Machine.{AllMaySend, MaySend}
use Rattle.station_table.specs.StationValue.{StationValue}
use Rattle.station_table.specs.Steps.{packets_at_once}
use Rattle.station_table.specs.Reactions.{silent, answering, claiming_again, own_claim, claim_reaction, request_reaction, request_for_claims, start_reaction, next_grant, packet_reply, reply_to, granted_at_once, replying, group_reaction, group_asked, asking, commanding}
use Rattle.station_table.specs.declared.reaction.Ask.{Ask}
use Rattle.station_table.specs.declared.reaction.Reaction.{Reaction}
use Rattle.parameter_group.specs.Laws.{sender}
use Rattle.journal.proofs.Saying.{IsNoRts, held_address, claim_may, request_may, ack_may, control_may, packet_may}

-- the claim of that address, or the cannot claim, where the station claims
abbrev pub claims_of : Bool → ℕ → Option ℕ → List FrameValue
claims_of true n held = claim_frame_value n held ∷ []
claims_of false n held = []

-- all that waits is withdrawn where the station claims; what it queues is the claim, then frames that it may send
pub record Answers (r : Reaction) (n : ℕ) (claims : Bool) (held : Option ℕ) : Type 0 where
  pub frames : List FrameValue
  pub may : AllMaySend n held frames
  pub withdraws : r.withdraw ≡ claims
  pub puts : reverse r.put ≡ frames ++ claims_of claims n held

pub silent_answers : (n : ℕ) (held : Option ℕ) → Answers silent n false held
silent_answers n held = record { frames = []; may = tt; withdraws = refl; puts = refl }

pub one_answer : (n : ℕ) (held : Option ℕ) (f : FrameValue) → MaySend n held (group_of f) → Answers (answering f) n false held
one_answer n held f may = record { frames = f ∷ []; may = (may, tt); withdraws = refl; puts = refl }

pub claim_answers : (n : ℕ) (held : Option ℕ) → Answers (claiming_again (claim_frame_value n held)) n true held
claim_answers n held = record { frames = []; may = tt; withdraws = refl; puts = refl }

-- ---- a claim

claimed : (src m : ℕ) (c : ClaimerValue) → Answers (claim_reaction (claim_step src m c) c) c.name (is_held c.held src && not (m == c.name)) (after_claim src m c).held
claimed src m c = go (is_held c.held src) (m == c.name) (nat_lt c.name m) (next_address c.name (noted_after src m c.noted))
  where
    go : (a b d : Bool) (o : Option ℕ)
        → Answers (claim_reaction (if not a || b then Nothing else if d then Defend else move_step o) c) c.name (a && not b) (held_after (if not a || b then Nothing else if d then Defend else move_step o) c.held)
    go false b d o = silent_answers c.name c.held
    go true true d o = silent_answers c.name c.held
    go true false true o = claim_answers c.name c.held
    go true false false None = claim_answers c.name None
    go true false false (Some a) = claim_answers c.name (Some a)

-- ---- a request

requested : (c : ClaimerValue) (pgn d src : ℕ) → c.name < 2 ^ 64 → CanHold c.held → Answers (request_reaction c pgn d src) c.name false c.held
requested c pgn d src small hold = go (pgn == 60928) (is_held c.held d) refl (d == 255) (nat_lt src 254)
  where
    go : (a b : Bool) → is_held c.held d ≡ b → (e f : Bool)
        → Answers (if a then (if b || e then answering (own_claim c) else silent) else if b && f then answering (ack_frame_value (record { control = 1; requester = src; pgn = pgn; dest = 255; source = d })) else silent) c.name false c.held
    go true true i e f = one_answer c.name c.held (own_claim c) (claim_may c.name c.held small hold)
    go true false i true f = one_answer c.name c.held (own_claim c) (claim_may c.name c.held small hold)
    go true false i false f = silent_answers c.name c.held
    go false true i e true =
        let own = held_address c.held d hold i in
        let low = own.1 in
        one_answer c.name c.held _ (ack_may c.name c.held 1 src pgn 255 d (omega arith) (omega arith))
    go false true i e false = silent_answers c.name c.held
    go false false i e f = silent_answers c.name c.held

-- ---- sessions

start_no_rts : (o : Option Joining) (at_once packets pgn : ℕ) → IsNoRts (start_reaction o at_once packets pgn)
start_no_rts None at_once packets pgn = tt
start_no_rts (Some j) at_once packets pgn = tt

-- a connection management message of the station's own address
controlled : (n : ℕ) (held : Option ℕ) (c : Control) (d src : ℕ) → CanHold held → src < 256 → is_held held d ≡ true → IsNoRts c → Answers (answering (control_frame c d src)) n false held
controlled n held c d src hold low i starts =
    let own = held_address held d hold i in
    let small = own.1 in
    one_answer n held (control_frame c d src) (control_may n held c d src (omega arith) (omega arith) starts own.0)

opened : (n : ℕ) (held : Option ℕ) (c : Control) (d src : ℕ) → CanHold held → src < 256 → IsNoRts c
    → Answers (if is_held held d && nat_lt src 254 then answering (control_frame c d src) else silent) n false held
opened n held c d src hold low starts = go (is_held held d) refl (nat_lt src 254)
  where
    go : (a : Bool) → is_held held d ≡ a → (b : Bool) → Answers (if a && b then answering (control_frame c d src) else silent) n false held
    go true i true = controlled n held c d src hold low i starts
    go true i false = silent_answers n held
    go false i b = silent_answers n held

-- a message that is none or starts none
abbrev NoRts : Option Control → Type 0
NoRts None = Unit {0}
NoRts (Some c) = IsNoRts c

grant_no_rts : (at_once : ℕ) (j : Joining) → NoRts (next_grant at_once j)
grant_no_rts at_once j = go (length j.pieces % at_once == 0)
  where
    go : (b : Bool) → NoRts (if b then Some (Cts (min at_once (packet_count j.size - length j.pieces)) (length j.pieces + 1) (pgn_of_kind j.tag.kind)) else None)
    go true = tt
    go false = tt

packet_no_rts : (at_once : ℕ) (before : Joining) (o : Option Joining) → NoRts (packet_reply at_once before o)
packet_no_rts at_once before None = tt
packet_no_rts at_once before (Some j) = go (is_whole j)
  where
    go : (b : Bool) → NoRts (if b then Some (EndAck j.size (packet_count j.size) (pgn_of_kind j.tag.kind)) else next_grant at_once j)
    go true = tt
    go false = grant_no_rts at_once j

reply_no_rts : (at_once : ℕ) (o : Option Joining) (bytes : List ℕ) → NoRts (reply_to at_once o bytes)
reply_no_rts at_once None bytes = tt
reply_no_rts at_once (Some j) bytes = packet_no_rts at_once j (with_packet bytes (Some j))

replied : (n : ℕ) (held : Option ℕ) (o : Option Control) (d src : ℕ) → CanHold held → src < 256 → NoRts o
    → Answers (if d == 255 then silent else (if is_held held d then replying o d src else silent)) n false held
replied n held o d src hold low starts = go (d == 255) (is_held held d) refl o starts
  where
    go : (a b : Bool) → is_held held d ≡ b → (o : Option Control) → NoRts o → Answers (if a then silent else (if b then replying o d src else silent)) n false held
    go true b i o starts = silent_answers n held
    go false false i o starts = silent_answers n held
    go false true i None starts = silent_answers n held
    go false true i (Some c) starts = controlled n held c d src hold low i starts

-- ---- whatever a frame says

answered : (s : StationValue) (g : Group) → s.claimer.name < 2 ^ 64 → CanHold s.claimer.held → sender g < 256
    → Answers (group_reaction s g) s.claimer.name (is_contest s.claimer.name s.claimer.held g) (claimer_after g s.claimer).held
answered s (AddressClaimed src m) small hold low = claimed src m s.claimer
answered s (Request pgn d src) small hold low = requested s.claimer pgn d src small hold
answered s (ConnectionManagement src d (Rts size packets most pgn)) small hold low =
    opened s.claimer.name s.claimer.held (start_reaction (started (kind_of pgn) size (at s.owners src)) (packets_at_once s.grant most) packets pgn) d src hold low
    (start_no_rts (started (kind_of pgn) size (at s.owners src)) (packets_at_once s.grant most) packets pgn)
answered s (DataTransfer src d bytes) small hold low =
    replied s.claimer.name s.claimer.held (reply_to (granted_at_once s src) (at s.sessions src) bytes) d src hold low (reply_no_rts (granted_at_once s src) (at s.sessions src) bytes)
answered s (CannotClaim m) small hold low = silent_answers s.claimer.name s.claimer.held
answered s (Acknowledgment control requester pgn d src) small hold low = silent_answers s.claimer.name s.claimer.held
answered s (Diagnostic kind src bytes) small hold low = silent_answers s.claimer.name s.claimer.held
answered s (ConnectionManagement src d (Cts granted next pgn)) small hold low = silent_answers s.claimer.name s.claimer.held
answered s (ConnectionManagement src d (EndAck size packets pgn)) small hold low = silent_answers s.claimer.name s.claimer.held
answered s (ConnectionManagement src d (Bam size packets pgn)) small hold low = silent_answers s.claimer.name s.claimer.held
answered s (ConnectionManagement src d (Abort reason pgn)) small hold low = silent_answers s.claimer.name s.claimer.held
answered s Other small hold low = silent_answers s.claimer.name s.claimer.held

-- by the claimer's NAME
pub group_answers : (n : ℕ) (s : StationValue) (g : Group) → s.claimer.name ≡ n → n < 2 ^ 64 → CanHold s.claimer.held → sender g < 256
    → Answers (group_reaction s g) n (is_contest n s.claimer.held g) (claimer_after g s.claimer).held
group_answers n s g e small hold low =
    subst (λ (m : ℕ). Answers (group_reaction s g) m (is_contest m s.claimer.held g) (claimer_after g s.claimer).held) e
    (answered s g (subst (λ (m : ℕ). m < 2 ^ 64) (sym e) small) hold low)

-- ---- a gap

pub gap_answers : (c : ClaimerValue) → CanHold c.held → Answers (record { withdraw = true; put = own_claim c ∷ request_for_claims c ∷ [] }) c.name true c.held
gap_answers c hold = record { frames = request_for_claims c ∷ []; may = (go c.held hold, tt); withdraws = refl; puts = refl }
  where
    go : (o : Option ℕ) → CanHold o → MaySend c.name o (group_of (request_for_claims (record { name = c.name; held = o; noted = c.noted })))
    go None h = request_may c.name None 60928 255 254 (omega arith) (omega arith) (λ l. absurd (omega arith))
    go (Some a) h = request_may c.name (Some a) 60928 255 a (omega arith) (omega arith) (λ l. refl)

-- ---- orders

pub ask_answers : (n own : ℕ) (ask : Ask) (d : ℕ) → own ≤ 253 → d ≤ 255 → Answers (asking own ask d) n false (Some own)
ask_answers n own ask d l k = one_answer n (Some own) _ (request_may n (Some own) (group_asked ask) d own k (omega arith) (λ h. refl))

pub command_answers : (n own name address : ℕ) → own ≤ 253 → Answers (commanding own name address) n false (Some own)
command_answers n own name address l =
    let payload : List ℕ = commanded_bytes (record { name = name; address = address }) in
    let packet : (bytes : List ℕ) → MaySend n (Some own) (group_of (packet_frame bytes own 255)) = λ bytes. packet_may n (Some own) bytes own (omega arith) refl in
    record {
      frames = reverse (frames_of_message payload 65240 own 255);
      may = (packet (piece payload 2), (packet (piece payload 1), (control_may n (Some own) (Bam 9 2 65240) own 255 (omega arith) (omega arith) refl refl, tt)));
      withdraws = refl;
      puts = sym (append-nil (reverse (frames_of_message payload 65240 own 255)));
    }
