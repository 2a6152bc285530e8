-- A clear is found positive by its acknowledgment alone.
use Rattle.std.proofs.Common.{◌≡◌, ℕ, ◌⊎◌, inl, inr, Bool, true, false, not, ◌&&◌, ◌||◌, ◌==◌, nat_eq, nat_lt, is_some, Option, Some, None, List, if◌then◌else◌, refl, sym, ap, ◌∙◌, subst}
use Rattle.std.proofs.lemmas.Bool.{and_parts, eqb-true}
use Rattle.address_claim.specs.Claiming.{is_held}
use Rattle.can_frame.specs.declared.address.TheConstants.{GLOBAL_ADDRESS}
use Rattle.live_unit.specs.Waits.{later}
use Rattle.live_station.specs.OpenOrders.{acknowledging_clear, asking_again, asks_what_is_left, command_goes_on, doubt_of, doubted, ending, finding_read, is_still_own, order_acknowledged, order_answered, order_ended, order_goes_on, order_heard, order_signed, signed_or_doubted, still_asked, verdict_now, waiting_on, with_mark, without_mark}
use Rattle.live_station.specs.Positive.{IsFoundPositive, IsPositive}
use Rattle.live_station.specs.declared.open.Asked.{Asked}
use Rattle.live_station.specs.declared.open.OpenOrder.{OpenOrder}
use Rattle.live_station.specs.declared.open.Progress.{Progress}
use Rattle.live_station.specs.declared.open.Progress.TheVariants.{Goes, Ends}
use Rattle.live_station.specs.declared.open.Sight.{Sight}
use Rattle.live_station.specs.declared.open.Stage.{Stage}
use Rattle.live_station.specs.declared.open.Stage.TheVariants as stage
use Rattle.live_station.specs.declared.open.TheConstants.{BUSY_WAIT, MOST_TRIES}
use Rattle.live_station.specs.declared.order.Clearing.{Clearing}
use Rattle.live_station.specs.declared.order.Order.{Order}
use Rattle.live_station.specs.declared.order.Order.TheVariants.{Ask, AskClaim, AskAll, AskAllClaims, Clear, Command}
use Rattle.live_station.specs.declared.sign.Sign.{Sign}
use Rattle.live_station.specs.declared.sign.Sign.TheVariants as sign
use Rattle.live_station.specs.declared.verdict.Doubt.{Doubt}
use Rattle.live_station.specs.declared.verdict.Finding.{Finding}
use Rattle.live_station.specs.declared.verdict.Finding.TheVariants.{Answered, Unread, Positive, Refused, Busy, Obeyed, InDoubt, LostAddress}
use Rattle.live_station.specs.declared.verdict.Verdict.{Verdict}

-- of two cases the one that holds
by_case : (P : Progress → Type 0) (Q : Type 0) (b : Bool) (x y : Progress) → (b ≡ true → P x → Q) → (b ≡ false → P y → Q) → P (if b then x else y) → Q
by_case P Q true x y f g p = f refl p
by_case P Q false x y f g p = g refl p

abbrev Good : Progress → Type 0
Good p = IsPositive (Some p)

-- an order that nothing was found of
abbrev unfound : Order → ℕ → Stage → OpenOrder
unfound order tries st = record { order = order; found = None; tries = tries; stage = st }

-- it ends positive by that finding alone
ended_so : (order : Order) (tries : ℕ) (st : Stage) (finding : Finding) (now : ℕ) → Good (order_ended finding now (unfound order tries st)) → finding ≡ Positive
ended_so (Ask name kind) tries st finding now p = p
ended_so (AskClaim name) tries st finding now p = p
ended_so (AskAll kind) tries st finding now p = p
ended_so AskAllClaims tries st finding now p = p
ended_so (Command name address) tries st finding now p = p
ended_so (Clear name what) tries st finding now p =
    by_case Good (finding ≡ Positive) (asks_what_is_left finding) _ _ (λ _ q. q) (λ _ q. q) p

-- what a positive finding comes from
abbrev pub IsAcknowledgedBy : Order → Stage → Sign → Sight → Type 0
IsAcknowledgedBy order st x v =
    (name : ℕ) × (what : Clearing) × (a : Asked) × (order ≡ Clear name what) × (st ≡ stage.Asked a) × (x ≡ sign.Acknowledged 0) × (doubt_of order a v ≡ None)

doubted_not : (order : Order) (tries : ℕ) (st : Stage) (doubt : Doubt) (now : ℕ) → Good (doubted order doubt now (unfound order tries st)) → ⊥
doubted_not (Ask name kind) tries st doubt now p = p
doubted_not (AskClaim name) tries st doubt now p = p
doubted_not (AskAll kind) tries st doubt now p = p
doubted_not AskAllClaims tries st doubt now p = p
doubted_not (Command name address) tries st doubt now p = p
doubted_not (Clear name what) tries st doubt now p = (let e : InDoubt doubt ≡ Positive = ended_so (Clear name what) tries st (InDoubt doubt) now p in cc)

-- an acknowledgment
refused_not : (order : Order) (tries : ℕ) (st : Stage) (control now : ℕ) → Good (order_ended (Refused control) now (unfound order tries st)) → ⊥
refused_not order tries st control now p = (let e : Refused control ≡ Positive = ended_so order tries st (Refused control) now p in cc)

busy_not : (order : Order) (tries : ℕ) (st : Stage) (now : ℕ) → Good (order_ended Busy now (unfound order tries st)) → ⊥
busy_not order tries st now p = (let e : Busy ≡ Positive = ended_so order tries st Busy now p in cc)

cleared : (order : Order) (control now tries : ℕ) (st : Stage) → Good (acknowledging_clear control now (unfound order tries st) order) → (name : ℕ) × (what : Clearing) × (order ≡ Clear name what)
cleared (Ask name kind) control now tries st p = absurd p
cleared (AskClaim name) control now tries st p = absurd p
cleared (AskAll kind) control now tries st p = absurd p
cleared AskAllClaims control now tries st p = absurd p
cleared (Command name address) control now tries st p = absurd p
cleared (Clear name what) control now tries st p = (name, what, refl)

acknowledged : (order : Order) (tries : ℕ) (st : Stage) (control now : ℕ) → Good (order_acknowledged control now (unfound order tries st))
    → (name : ℕ) × (what : Clearing) × (order ≡ Clear name what) × (control ≡ 0)
acknowledged order tries st control now p =
    let Q : Type 0 = (name : ℕ) × (what : Clearing) × (order ≡ Clear name what) × (control ≡ 0) in
    by_case Good Q (control == 0) _ _
    (λ e q. let c : (name : ℕ) × (what : Clearing) × (order ≡ Clear name what) = cleared order control now tries st q in (c.0, c.1, c.2, eqb-true control 0 e))
    (λ _ q.
    by_case Good Q (control == 3) _ _
    (λ _ r. by_case Good Q (nat_lt tries MOST_TRIES) _ _ (λ _ x. absurd x) (λ _ x. absurd (busy_not order tries st now x)) r)
    (λ _ r. absurd (refused_not order tries st control now r))
    q)
    p

-- an answer
read_not : (is_read : Bool) → finding_read is_read ≡ Positive → ⊥
read_not true e = cc
read_not false e = cc

answered_not : (order : Order) (tries : ℕ) (st : Stage) (is_read : Bool) (a : Asked) (now : ℕ) → Good (order_answered is_read a now (unfound order tries st)) → ⊥
answered_not order tries st is_read a now p =
    by_case Good ⊥ (a.to == GLOBAL_ADDRESS) _ _ (λ _ q. q) (λ _ q. read_not is_read (ended_so order tries st (finding_read is_read) now q)) p

signed : (order : Order) (tries : ℕ) (st : Stage) (x : Sign) (a : Asked) (now : ℕ) → Good (order_signed x a now (unfound order tries st))
    → (name : ℕ) × (what : Clearing) × (order ≡ Clear name what) × (x ≡ sign.Acknowledged 0)
signed order tries st sign.Nothing a now p = absurd p
signed order tries st (sign.Acknowledged control) a now p =
    (let c : (name : ℕ) × (what : Clearing) × (order ≡ Clear name what) × (control ≡ 0) = acknowledged order tries st control now p in
    (c.0, c.1, c.2, ap (λ (k : ℕ). sign.Acknowledged k) c.3))
signed order tries st (sign.Began to_all) a now p = absurd p
signed order tries st (sign.Replaced to_all) a now p = absurd p
signed order tries st sign.Packet a now p = absurd p
signed order tries st (sign.Ended is_read) a now p = absurd (answered_not order tries st is_read a now p)
signed order tries st sign.Claimed a now p = absurd (answered_not order tries st true a now p)

claimed_not : (order : Order) (tries : ℕ) (st : Stage) (doubt : Doubt) (a : Asked) (now : ℕ)
    → Good (if a.to == GLOBAL_ADDRESS then doubted order doubt now (unfound order tries st) else order_ended Answered now (unfound order tries st)) → ⊥
claimed_not order tries st doubt a now p =
    by_case Good ⊥ (a.to == GLOBAL_ADDRESS) _ _
    (λ _ q. doubted_not order tries st doubt now q)
    (λ _ q. let e : Answered ≡ Positive = ended_so order tries st Answered now q in cc)
    p

signed_undoubted : (order : Order) (tries : ℕ) (st : Stage) (d : Option Doubt) (x : Sign) (a : Asked) (now : ℕ)
    → Good (signed_or_doubted d x a now (unfound order tries st))
    → (name : ℕ) × (what : Clearing) × (order ≡ Clear name what) × (x ≡ sign.Acknowledged 0) × (d ≡ None)
signed_undoubted order tries st (Some doubt) sign.Claimed a now p = absurd (claimed_not order tries st doubt a now p)
signed_undoubted order tries st (Some doubt) sign.Nothing a now p = absurd (doubted_not order tries st doubt now p)
signed_undoubted order tries st (Some doubt) (sign.Acknowledged control) a now p = absurd (doubted_not order tries st doubt now p)
signed_undoubted order tries st (Some doubt) (sign.Began to_all) a now p = absurd (doubted_not order tries st doubt now p)
signed_undoubted order tries st (Some doubt) (sign.Replaced to_all) a now p = absurd (doubted_not order tries st doubt now p)
signed_undoubted order tries st (Some doubt) sign.Packet a now p = absurd (doubted_not order tries st doubt now p)
signed_undoubted order tries st (Some doubt) (sign.Ended is_read) a now p = absurd (doubted_not order tries st doubt now p)
signed_undoubted order tries st None x a now p =
    (let c : (name : ℕ) × (what : Clearing) × (order ≡ Clear name what) × (x ≡ sign.Acknowledged 0) = signed order tries st x a now p in (c.0, c.1, c.2, c.3, refl))

-- a command
commanded_not : (name address tries : ℕ) (st : Stage) (v : Sight) (now : ℕ) → Good (command_goes_on address v now (unfound (Command name address) tries st)) → ⊥
commanded_not name address tries st v now p =
    by_case Good ⊥ (is_held v.address address) _ _
    (λ _ q. let e : Obeyed ≡ Positive = ended_so (Command name address) tries st Obeyed now q in cc)
    (λ _ q. by_case Good ⊥ (is_still_own st v) _ _ (λ _ r. r) (λ _ r. let e : LostAddress ≡ Positive = ended_so (Command name address) tries st LostAddress now r in cc) q)
    p

-- each order, written or not
out_acknowledged : (order : Order) (tries : ℕ) (a : Asked) (x : Sign) (v : Sight) (now : ℕ)
    → Good (signed_or_doubted (doubt_of order a v) x a now (unfound order tries (stage.Asked a))) → IsAcknowledgedBy order (stage.Asked a) x v
out_acknowledged order tries a x v now p =
    (let c : (name : ℕ) × (what : Clearing) × (order ≡ Clear name what) × (x ≡ sign.Acknowledged 0) × (doubt_of order a v ≡ None) =
    signed_undoubted order tries (stage.Asked a) (doubt_of order a v) x a now p in
    (c.0, c.1, a, c.2, refl, c.3, c.4))

going_acknowledged : (order : Order) (tries : ℕ) (st : Stage) (x : Sign) (v : Sight) (now : ℕ)
    → Good (order_goes_on order st x v now (unfound order tries st)) → IsAcknowledgedBy order st x v
going_acknowledged (Command name address) tries st x v now p = absurd (commanded_not name address tries st v now p)
going_acknowledged (Ask name kind) tries (stage.Asked a) x v now p = out_acknowledged (Ask name kind) tries a x v now p
going_acknowledged (AskClaim name) tries (stage.Asked a) x v now p = out_acknowledged (AskClaim name) tries a x v now p
going_acknowledged (AskAll kind) tries (stage.Asked a) x v now p = out_acknowledged (AskAll kind) tries a x v now p
going_acknowledged AskAllClaims tries (stage.Asked a) x v now p = out_acknowledged AskAllClaims tries a x v now p
going_acknowledged (Clear name what) tries (stage.Asked a) x v now p = out_acknowledged (Clear name what) tries a x v now p
going_acknowledged (Ask name kind) tries (stage.Waits from by) x v now p = absurd p
going_acknowledged (AskClaim name) tries (stage.Waits from by) x v now p = absurd p
going_acknowledged (AskAll kind) tries (stage.Waits from by) x v now p = absurd p
going_acknowledged AskAllClaims tries (stage.Waits from by) x v now p = absurd p
going_acknowledged (Clear name what) tries (stage.Waits from by) x v now p = absurd p
going_acknowledged (Ask name kind) tries (stage.Commands own next) x v now p = absurd p
going_acknowledged (AskClaim name) tries (stage.Commands own next) x v now p = absurd p
going_acknowledged (AskAll kind) tries (stage.Commands own next) x v now p = absurd p
going_acknowledged AskAllClaims tries (stage.Commands own next) x v now p = absurd p
going_acknowledged (Clear name what) tries (stage.Commands own next) x v now p = absurd p

-- a record of its own parts, of which one is known
with_none : (o : OpenOrder) → o.found ≡ None → o ≡ unfound o.order o.tries o.stage
with_none o e = ap (λ (f : Option Verdict). record { order = o.order; found = f; tries = o.tries; stage = o.stage }) e

pub heard_acknowledged : (o : OpenOrder) (x : Sign) (v : Sight) (now : ℕ) → o.found ≡ None → Good (order_heard x v now o) → IsAcknowledgedBy o.order o.stage x v
heard_acknowledged o x v now e p =
    going_acknowledged o.order o.tries o.stage x v now (subst (λ (w : OpenOrder). Good (order_goes_on o.order o.stage x v now w)) (with_none o e) p)
