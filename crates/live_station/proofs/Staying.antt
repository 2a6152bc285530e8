-- A clear that is out stays so only where nothing puts it in doubt.
use Rattle.std.proofs.Common.{◌≡◌, ℕ, Bool, true, false, not, ◌&&◌, ◌||◌, ◌==◌, nat_eq, nat_lt, is_some, Option, Some, None, List, if◌then◌else◌, refl, sym, ap, ◌∙◌, subst}
use Rattle.can_frame.specs.declared.address.TheConstants.{GLOBAL_ADDRESS}
use Rattle.parameter_group.specs.Group.{Group}
use Rattle.station_table.specs.Changing.{group_changes}
use Rattle.station_table.specs.Reactions.{group_reaction}
use Rattle.station_table.specs.StationValue.{StationValue}
use Rattle.station_table.specs.Steps.{after_group}
use Rattle.live_station.specs.OpenOrders.{asks_what_is_left, doubt_of, doubted, finding_read, order_acknowledged, order_answered, order_ended, order_goes_on, order_heard, order_signed, signed_or_doubted}
use Rattle.live_station.specs.Positive.{IsClear, IsOutAs, IsSameRequest, IsUndoubted}
use Rattle.live_station.specs.Signs.{sign_for, sign_staged}
use Rattle.live_station.specs.Working.{WorkingValue, address_of_name, hearing_on, progress_by, sight_of}
use Rattle.live_station.specs.declared.open.Asked.{Asked}
use Rattle.live_station.specs.declared.open.OpenOrder.{OpenOrder}
use Rattle.live_station.specs.declared.open.Progress.{Progress}
use Rattle.live_station.specs.declared.open.Progress.TheVariants.{Goes, Ends}
use Rattle.live_station.specs.declared.open.Sight.{Sight}
use Rattle.live_station.specs.declared.open.Stage.{Stage}
use Rattle.live_station.specs.declared.open.Stage.TheVariants as stage
use Rattle.live_station.specs.declared.open.TheConstants.{MOST_TRIES}
use Rattle.live_station.specs.declared.order.Clearing.{Clearing}
use Rattle.live_station.specs.declared.order.Order.{Order}
use Rattle.live_station.specs.declared.order.Order.TheVariants.{Clear}
use Rattle.live_station.specs.declared.sign.Sign.{Sign}
use Rattle.live_station.specs.declared.sign.Sign.TheVariants as sign
use Rattle.live_station.specs.declared.verdict.Doubt.{Doubt}
use Rattle.live_station.specs.declared.verdict.Finding.{Finding}
use Rattle.live_station.specs.declared.verdict.Finding.TheVariants.{Answered, Positive, Refused, Busy, InDoubt}
use Rattle.live_station.specs.declared.verdict.Verdict.{Verdict}
use Rattle.live_station.proofs.Found.{nothing_doubted}

by_case : (a : Asked) (Q : Type 0) (b : Bool) (x y : Progress) → (b ≡ true → IsOutAs a x → Q) → (b ≡ false → IsOutAs a y → Q) → IsOutAs a (if b then x else y) → Q
by_case a Q true x y f g p = f refl p
by_case a Q false x y f g p = g refl p

-- a clear that is out
abbrev out : ℕ → Clearing → ℕ → Asked → OpenOrder
out name what tries a = record { order = Clear name what; found = None; tries = tries; stage = stage.Asked a }

ended_not : (name : ℕ) (what : Clearing) (tries : ℕ) (a a' : Asked) (finding : Finding) (now : ℕ) → IsOutAs a' (order_ended finding now (out name what tries a)) → ⊥
ended_not name what tries a a' finding now p = by_case a' ⊥ (asks_what_is_left finding) _ _ (λ _ q. q.0) (λ _ q. q) p

same : (a a' : Asked) → stage.Asked a ≡ stage.Asked a' → IsSameRequest a a'
same a a' e = (let s : a ≡ a' = cc in subst (λ (x : Asked). IsSameRequest a x) s (record { own = refl; to = refl; at = refl }))

same_as : (a b a' : Asked) → IsSameRequest a b → stage.Asked b ≡ stage.Asked a' → IsSameRequest a a'
same_as a b a' s e = (let t : b ≡ a' = cc in subst (λ (x : Asked). IsSameRequest a x) t s)

acknowledged : (name : ℕ) (what : Clearing) (tries : ℕ) (a a' : Asked) (control now : ℕ) → IsOutAs a' (order_acknowledged control now (out name what tries a)) → ⊥
acknowledged name what tries a a' control now p =
    by_case a' ⊥ (control == 0) _ _
    (λ _ q. ended_not name what tries a a' Positive now q)
    (λ _ q.
    by_case a' ⊥ (control == 3) _ _
    (λ _ r. by_case a' ⊥ (nat_lt tries MOST_TRIES) _ _ (λ _ x. waits_not x.1) (λ _ x. ended_not name what tries a a' Busy now x) r)
    (λ _ r. ended_not name what tries a a' (Refused control) now r)
    q)
    p
  where
    waits_not : {from by : ℕ} → stage.Waits from by ≡ stage.Asked a' → ⊥
    waits_not e = cc

answered : (name : ℕ) (what : Clearing) (tries : ℕ) (a a' : Asked) (is_read : Bool) (now : ℕ) → IsOutAs a' (order_answered is_read a now (out name what tries a))
    → IsSameRequest a a'
answered name what tries a a' is_read now p =
    by_case a' (IsSameRequest a a') (a.to == GLOBAL_ADDRESS) _ _
    (λ _ q. same_as a _ a' (record { own = refl; to = refl; at = refl }) q.1)
    (λ _ q. absurd (ended_not name what tries a a' (finding_read is_read) now q))
    p

signed : (name : ℕ) (what : Clearing) (tries : ℕ) (a a' : Asked) (x : Sign) (now : ℕ) → IsOutAs a' (order_signed x a now (out name what tries a)) → IsSameRequest a a'
signed name what tries a a' sign.Nothing now p = same a a' p.1
signed name what tries a a' (sign.Acknowledged control) now p = absurd (acknowledged name what tries a a' control now p)
signed name what tries a a' (sign.Began to_all) now p = same_as a _ a' (record { own = refl; to = refl; at = refl }) p.1
signed name what tries a a' (sign.Replaced to_all) now p = same_as a _ a' (record { own = refl; to = refl; at = refl }) p.1
signed name what tries a a' sign.Packet now p = same_as a _ a' (record { own = refl; to = refl; at = refl }) p.1
signed name what tries a a' (sign.Ended is_read) now p = answered name what tries a a' is_read now p
signed name what tries a a' sign.Claimed now p = answered name what tries a a' true now p

doubted_not : (name : ℕ) (what : Clearing) (tries : ℕ) (a a' : Asked) (d : Doubt) (x : Sign) (now : ℕ)
    → IsOutAs a' (signed_or_doubted (Some d) x a now (out name what tries a)) → ⊥
doubted_not name what tries a a' d sign.Claimed now p =
    by_case a' ⊥ (a.to == GLOBAL_ADDRESS) _ _
    (λ _ q. ended_not name what tries a a' (InDoubt d) now q)
    (λ _ q. ended_not name what tries a a' Answered now q)
    p
doubted_not name what tries a a' d sign.Nothing now p = ended_not name what tries a a' (InDoubt d) now p
doubted_not name what tries a a' d (sign.Acknowledged control) now p = ended_not name what tries a a' (InDoubt d) now p
doubted_not name what tries a a' d (sign.Began to_all) now p = ended_not name what tries a a' (InDoubt d) now p
doubted_not name what tries a a' d (sign.Replaced to_all) now p = ended_not name what tries a a' (InDoubt d) now p
doubted_not name what tries a a' d sign.Packet now p = ended_not name what tries a a' (InDoubt d) now p
doubted_not name what tries a a' d (sign.Ended is_read) now p = ended_not name what tries a a' (InDoubt d) now p

stays : (name : ℕ) (what : Clearing) (tries : ℕ) (a a' : Asked) (d : Option Doubt) (x : Sign) (now : ℕ)
    → IsOutAs a' (signed_or_doubted d x a now (out name what tries a)) → (d ≡ None) × IsSameRequest a a'
stays name what tries a a' (Some d) x now p = absurd (doubted_not name what tries a a' d x now p)
stays name what tries a a' None x now p = (refl, signed name what tries a a' x now p)

-- an order that is this one
is_out : (o : OpenOrder) (name : ℕ) (what : Clearing) (a : Asked) → o.order ≡ Clear name what → o.found ≡ None → o.stage ≡ stage.Asked a → o ≡ out name what o.tries a
is_out o name what a e f g = λ i. record { order = e i; found = f i; tries = o.tries; stage = g i }

stays_in : (s : StationValue) (g : Group) (contested : Bool) (x : Sign) (now : ℕ) (o : OpenOrder) (name : ℕ) (what : Clearing) (a a' : Asked)
    → o ≡ out name what o.tries a → IsOutAs a' (order_heard x (sight_of s o.order contested false) now o)
    → IsUndoubted name a contested s × IsSameRequest a a'
stays_in s g contested x now o name what a a' e p =
    let q : IsOutAs a' (order_heard x (sight_of s (Clear name what) contested false) now (out name what o.tries a)) =
    subst (λ (w : OpenOrder). IsOutAs a' (order_heard x (sight_of s w.order contested false) now w)) e p in
    let r : (doubt_of (Clear name what) a (sight_of s (Clear name what) contested false) ≡ None) × IsSameRequest a a' =
    stays name what o.tries a a' (doubt_of (Clear name what) a (sight_of s (Clear name what) contested false)) x now q in
    let u : (s.claimer.held ≡ Some a.own) × (address_of_name s (Some name) ≡ Some a.to) × (contested ≡ false) × (false ≡ false) =
    nothing_doubted name what a (sight_of s (Clear name what) contested false) r.0 in
    (record { held = u.0; address = u.1; uncontested = u.2 }, r.1)

abbrev pub IsOutIn : Asked → Option Progress → Type 0
IsOutIn a None = ⊥
IsOutIn a (Some p) = IsOutAs a p

pub stays_undoubted : (g : Group) (now : ℕ) (s : WorkingValue) (o : OpenOrder) (name : ℕ) (what : Clearing) (a a' : Asked) (p : Progress)
    → s.order ≡ Some o → o.order ≡ Clear name what → o.found ≡ None → o.stage ≡ stage.Asked a
    → progress_by g now s ≡ Some p → IsOutAs a' p
    → IsUndoubted name a (group_reaction s.station g).withdraw (after_group s.station g) × IsSameRequest a a'
stays_undoubted g now s o name what a a' p e ordered found staged goes q =
    let s' : StationValue = after_group s.station g in
    let w : Bool = (group_reaction s.station g).withdraw in
    let x : Sign = sign_staged o.order o.stage g (group_changes s.station g) in
    let r : IsOutIn a' (progress_by g now s) = subst (λ (y : Option Progress). IsOutIn a' y) (sym goes) q in
    let t : IsOutIn a' (Some (order_heard x (sight_of s' o.order w false) now o)) =
    subst (λ (y : Option OpenOrder). IsOutIn a' (hearing_on s' (sign_for y g (group_changes s.station g)) w false now y)) e r in
    stays_in s' g w x now o name what a a' (is_out o name what a ordered found staged) t
