-- What a station does stays the same from one time to another, where each time that it waits for has come at both or at neither.
use Rattle.std.proofs.Common.{◌≡◌, ◌≤◌, ℕ, Bool, true, false, not, cond, ◌&&◌, nat_le, nat_lt, List, [], ◌∷◌, length, ◌+◌, Option, Some, None, is_some, if◌then◌else◌, arith, refl, ap, ◌∙◌}
use Rattle.std.specs.List.{All, AllByRecursion, position_or_len}
use Rattle.std.proofs.lemmas.Bool.{ltb-false}
use Rattle.std.proofs.lemmas.List.Elements.{recursion_from_All}
use Rattle.live_unit.specs.Queue.{QueueValue, waits}
use Rattle.live_unit.specs.Times.{lane_due}
use Rattle.live_unit.specs.declared.clock.UnitClock.{UnitClock}
use Rattle.live_unit.specs.declared.queue.Lane.{Lane}
use Rattle.live_station.specs.Turns.{StagesAlike, due_to_go, has_come, order_due, staged_due, to_command, to_go_by, to_go_from, to_one, unanswered}
use Rattle.station_table.specs.StationValue.{StationValue}
use Rattle.live_station.specs.Losses.{is_due, watch_at, watch_due}
use Rattle.live_station.specs.declared.loss.Watch.{Watch}
use Rattle.live_station.specs.Working.{WorkingValue, deed_turn, free_turn, free_turn_behind, has_nothing_waiting, is_at_rest, is_settled, order_turn, outlook_of, turn_at, turn_behind}
use Rattle.live_station.specs.declared.order.Order.{Order}
use Rattle.live_station.specs.declared.order.Order.TheVariants.{Ask, AskClaim, AskAll, AskAllClaims, Clear, Command}
use Rattle.live_station.specs.declared.open.Asked.{Asked}
use Rattle.live_station.specs.declared.open.Stage.{Stage}
use Rattle.live_station.specs.declared.open.Stage.TheVariants as stage
use Rattle.live_station.specs.declared.open.OpenOrder.{OpenOrder}
use Rattle.live_station.specs.declared.open.TheConstants.{MOST_TRIES}
use Rattle.live_station.specs.declared.turn.Deed.{Deed}
use Rattle.live_station.specs.declared.turn.Deed.TheVariants as deed
use Rattle.live_station.specs.declared.turn.Outlook.{Outlook}
use Rattle.live_station.specs.declared.turn.Turn.{Turn}
use Rattle.live_station.specs.declared.turn.Turn.TheVariants as turn
use Rattle.live_station.specs.declared.verdict.Finding.TheVariants.{Answered, Silent}

-- a time has come at both or at neither
abbrev pub Alike : ℕ → ℕ → ℕ → Type 0
Alike time t now = nat_le time t ≡ nat_le time now

one_alike : (address known : Option ℕ) (by t now : ℕ) → has_come known t ≡ has_come known now → Alike by t now
    → to_one address known by t ≡ to_one address known by now
one_alike (Some to) known by t now e f = refl
one_alike None known by t now e f = rw (e, f) refl

command_alike : (name address : ℕ) (at known : Option ℕ) (t now : ℕ) → has_come known t ≡ has_come known now
    → to_command name address at known t ≡ to_command name address at known now
command_alike name address (Some at) known t now e = refl
command_alike name address None known t now e = rw e refl

go_alike : (order : Order) (v : Outlook) (by t now : ℕ) → Alike v.clear_from t now → has_come v.known_from t ≡ has_come v.known_from now → Alike by t now
    → to_go_by order v by t ≡ to_go_by order v by now
go_alike (Ask name kind) v by t now c e f = one_alike v.address v.known_from by t now e f
go_alike (AskClaim name) v by t now c e f = one_alike v.address v.known_from by t now e f
go_alike (AskAll kind) v by t now c e f = refl
go_alike AskAllClaims v by t now c e f = refl
go_alike (Clear name what) v by t now c e f =
    rw c (ap (λ (d : Deed). if nat_le v.clear_from now then d else deed.Nothing) (one_alike v.address v.known_from by t now e f))
go_alike (Command name address) v by t now c e f = command_alike name address v.address v.known_from t now e

from_alike : (held : Option ℕ) (o : OpenOrder) (v : Outlook) (by t now : ℕ) → Alike v.clear_from t now → has_come v.known_from t ≡ has_come v.known_from now
    → Alike by t now → to_go_from held o v by t ≡ to_go_from held o v by now
from_alike None o v by t now c e f = refl
from_alike (Some own) o v by t now c e f =
    ap (λ (d : Deed). if nat_le MOST_TRIES o.tries then deed.Ends Silent else d) (go_alike o.order v by t now c e f)

unanswered_alike : (order : Order) (o : OpenOrder) (v : Outlook) (until t now : ℕ) → Alike v.clear_from t now
    → has_come v.known_from t ≡ has_come v.known_from now → Alike until t now → unanswered order o v until t ≡ unanswered order o v until now
unanswered_alike (Clear name what) o v until t now c e f = refl
unanswered_alike (Command name address) o v until t now c e f = refl
unanswered_alike (Ask name kind) o v until t now c e f = from_alike v.held o v until t now c e f
unanswered_alike (AskClaim name) o v until t now c e f = from_alike v.held o v until t now c e f
unanswered_alike (AskAll kind) o v until t now c e f = from_alike v.held o v until t now c e f
unanswered_alike AskAllClaims o v until t now c e f = from_alike v.held o v until t now c e f

staged_alike : (st : Stage) (o : OpenOrder) (v : Outlook) (t now : ℕ) → StagesAlike st v t now → Alike v.clear_from t now
    → has_come v.known_from t ≡ has_come v.known_from now → staged_due st o v t ≡ staged_due st o v now
staged_alike (stage.Waits from by) o v t now (a, b) c e =
    rw a (ap (λ (d : Deed). if nat_le from now then d else deed.Nothing) (from_alike v.held o v by t now c e b))
staged_alike (stage.Commands own next) o v t now a c e = rw a refl
staged_alike (stage.Asked asked) o v t now a c e =
    rw a (ap (λ (d : Deed). if nat_le asked.until now then (if asked.answered then deed.Ends Answered else d) else deed.Nothing)
    (unanswered_alike o.order o v asked.until t now c e a))

pub order_alike : (o : OpenOrder) (v : Outlook) (t now : ℕ) → StagesAlike o.stage v t now → Alike v.clear_from t now
    → has_come v.known_from t ≡ has_come v.known_from now → order_due o v t ≡ order_due o v now
order_alike o v t now a c e = staged_alike o.stage o v t now a c e

-- ---- the station

lane_alike : (c : UnitClock) (q : QueueValue) (t now : ℕ) → Alike c.claim_from t now → Alike c.settled_from t now → Alike c.packet_from t now
    → lane_due c t q ≡ lane_due c now q
lane_alike c q t now e f g = rw (e, f, g) refl

-- its open order does the same
abbrev pub OrdersAlike : WorkingValue → ℕ → ℕ → Type 0
OrdersAlike s t now = (o : OpenOrder) → s.order ≡ Some o → order_due o (outlook_of s o.order) t ≡ order_due o (outlook_of s o.order) now

order_turn_alike : (s : WorkingValue) (t now : ℕ) (going : Option OpenOrder) → s.order ≡ going → OrdersAlike s t now
    → order_turn t s going ≡ order_turn now s going
order_turn_alike s t now None e a = refl
order_turn_alike s t now (Some o) e a = ap (λ (d : Deed). deed_turn o d) (a o e)

-- each packet that is waited for is at both times, or at neither
abbrev pub WatchesAlike : List Watch → ℕ → ℕ → Type 0
WatchesAlike ws t now = All (λ w. Alike w.until t now) ws

due_alike : (s : StationValue) (w : Watch) (t now : ℕ) → Alike w.until t now → is_due s t w ≡ is_due s now w
due_alike s w t now e = rw e refl

len_alike : (s : StationValue) (ws : List Watch) (t now : ℕ) → AllByRecursion (λ w. Alike w.until t now) ws
    → position_or_len (is_due s t) ws ≡ position_or_len (is_due s now) ws
len_alike s [] t now a = refl
len_alike s (w ∷ ws) t now (a, more) =
    rw (due_alike s w t now a) (ap (λ (n : ℕ). cond (not (is_due s now w)) (1 + n) 0) (len_alike s ws t now more))

first_alike : (s : StationValue) (ws : List Watch) (t now : ℕ) → AllByRecursion (λ w. Alike w.until t now) ws → watch_due s t ws ≡ watch_due s now ws
first_alike s ws t now a =
    ap (λ (n : ℕ). watch_at ws (cond (nat_lt n (length ws)) (Some n) None)) (len_alike s ws t now a)

claims_alike : (s : WorkingValue) (t now : ℕ) → Alike s.claims_by t now → OrdersAlike s t now → free_turn_behind None t s ≡ free_turn_behind None now s
claims_alike s t now e a =
    rw e (ap (λ (x : Turn). if s.asks_claims && nat_le s.claims_by now && is_some s.station.claimer.held then turn.AsksClaims else x) (order_turn_alike s t now s.order refl a))

watched_alike : (due : Option Watch) (s : WorkingValue) (t now : ℕ) → Alike s.claims_by t now → OrdersAlike s t now
    → free_turn_behind due t s ≡ free_turn_behind due now s
watched_alike None s t now e a = claims_alike s t now e a
watched_alike (Some w) s t now e a = refl

free_alike : (s : WorkingValue) (t now : ℕ) → Alike s.claims_by t now → WatchesAlike s.losses t now → OrdersAlike s t now → free_turn t s ≡ free_turn now s
free_alike s t now e ws a =
    ap (λ (o : Option Watch). free_turn_behind o t s) (first_alike s.station s.losses t now (recursion_from_All _ s.losses ws))
    ∙ watched_alike (watch_due s.station now s.losses) s t now e a

behind_alike : (lane : Option Lane) (s : WorkingValue) (t now : ℕ) → Alike s.clock.settled_from t now → free_turn t s ≡ free_turn now s
    → turn_behind lane t s ≡ turn_behind lane now s
behind_alike (Some lane) s t now e f = refl
behind_alike None s t now e f = rw e (ap (λ (x : Turn). if is_settled now s then x else turn.Rests) f)

pub turn_alike : (s : WorkingValue) (t now : ℕ) → Alike s.clock.claim_from t now → Alike s.clock.settled_from t now → Alike s.clock.packet_from t now
    → Alike s.claims_by t now → WatchesAlike s.losses t now → OrdersAlike s t now → turn_at t s ≡ turn_at now s
turn_alike s t now a b c d ws o =
    ap (λ (l : Option Lane). turn_behind l t s) (lane_alike s.clock s.queue t now a b c)
    ∙ behind_alike (lane_due s.clock now s.queue) s t now b (free_alike s t now d ws o)

-- ---- nothing waits, and nothing is asked for

first_of : (a b : Bool) → (a && b) ≡ true → a ≡ true
first_of true b e = refl
first_of false b e = e

rest_of : (a b : Bool) → (a && b) ≡ true → b ≡ true
rest_of true b e = e
rest_of false b e = absurd (let clash : false ≡ true = e in cc)

is_not : (b : Bool) → not b ≡ true → b ≡ false
is_not true e = absurd (let clash : false ≡ true = e in cc)
is_not false e = refl

is_none : (o : Option OpenOrder) → not (is_some o) ≡ true → o ≡ None
is_none None e = refl
is_none (Some o) e = absurd (let clash : false ≡ true = e in cc)

either : (A : Type 0) (x : A) (b : Bool) → (if b then x else x) ≡ x
either A x true = refl
either A x false = refl

no_lane : (c : UnitClock) (now : ℕ) (q : QueueValue) → waits q.claims ≡ false → waits q.singles ≡ false → waits q.session ≡ false → waits q.messages ≡ false
    → lane_due c now q ≡ None
no_lane c now q e f g h = rw (e, f, g, h) (either (Option Lane) None (nat_le c.settled_from now))

none_goes : (c : UnitClock) (now : ℕ) (q : QueueValue) → has_nothing_waiting q ≡ true → lane_due c now q ≡ None
none_goes c now q e =
    (let others : (not (waits q.singles) && (not (waits q.session) && not (waits q.messages))) ≡ true = rest_of _ _ e in
    let last : (not (waits q.session) && not (waits q.messages)) ≡ true = rest_of _ _ others in
    no_lane c now q (is_not _ (first_of _ _ e)) (is_not _ (first_of _ _ others)) (is_not _ (first_of _ _ last)) (is_not _ (rest_of _ _ last)))

none_watched : (ws : List Watch) → nat_lt 0 (length ws) ≡ false → ws ≡ []
none_watched [] e = refl
none_watched (w ∷ ws) e = (let none : length (w ∷ ws) ≤ 0 = ltb-false 0 (length (w ∷ ws)) e in absurd (omega arith))

nothing_free : (s : WorkingValue) (t : ℕ) → s.losses ≡ [] → s.asks_claims ≡ false → s.order ≡ None → turn_behind None t s ≡ turn.Rests
nothing_free s t w e f = rw (w, e, f) (either Turn turn.Rests (is_settled t s))

pub rests_always : (s : WorkingValue) (t : ℕ) → is_at_rest s ≡ true → turn_at t s ≡ turn.Rests
rests_always s t e =
    (let others : (not s.asks_claims && (not (nat_lt 0 (length s.losses)) && has_nothing_waiting s.queue)) ≡ true = rest_of _ _ e in
    let rest : (not (nat_lt 0 (length s.losses)) && has_nothing_waiting s.queue) ≡ true = rest_of _ _ others in
    ap (λ (l : Option Lane). turn_behind l t s) (none_goes s.clock t s.queue (rest_of _ _ rest))
    ∙ nothing_free s t (none_watched s.losses (is_not _ (first_of _ _ rest))) (is_not _ (first_of _ _ others)) (is_none s.order (first_of _ _ e)))
