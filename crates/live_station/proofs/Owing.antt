-- All that waits is owed.
use Rattle.std.proofs.Common.{◌≡◌, ℕ, ◌+◌, Bool, true, false, List, [], ◌∷◌, ◌++◌, Option, Some, None, drop, slice_get, if◌then◌else◌, refl, sym, ap, ◌∙◌, subst}
use Rattle.std.proofs.lemmas.List.Elements.{All-append, All-cons, All-drop, All-head, All-nil}
use Rattle.std.specs.List.{All}
use Rattle.can_frame.specs.Fields.{source_of}
use Rattle.can_frame.specs.FrameValue.{FrameValue}
use Rattle.live_unit.specs.Queue.{IsSentFrom, LaneValue, QueueValue, TakesFirst, after_withdrawing, empty_queue, is_claim_frame, lane_of, put_into, putting, with_lane}
use Rattle.live_unit.specs.declared.queue.Lane.{Lane}
use Rattle.live_unit.specs.declared.queue.Lane.TheVariants.{Claims, Singles, Session, Messages}
use Rattle.node_core.specs.Deed.{plain}
use Rattle.node_core.specs.declared.heard.Withdraw.TheVariants as withdraw
use Rattle.node_core.specs.declared.out.Out.{Out}
use Rattle.live_station.specs.Working.{IsOwedFrame, IsOwedFrom, IsFirstFrom, IsOwedOut, OwesAll, with_first}

none_owed : All IsOwedOut []
none_owed = All-nil IsOwedOut

pub owes_nothing : (source : ℕ) → OwesAll (empty_queue source)
owes_nothing source = record { claims = none_owed; singles = none_owed; session = none_owed; messages = none_owed }

pub owes_after_withdrawing : (source : ℕ) (q : QueueValue) → OwesAll (after_withdrawing withdraw.All source q)
owes_after_withdrawing source q = record { claims = none_owed; singles = none_owed; session = none_owed; messages = none_owed }

one_more : (outs : List Out) (f : FrameValue) → All IsOwedOut outs → IsOwedFrame f → All IsOwedOut (outs ++ plain f ∷ [])
one_more outs f all owed = All-append IsOwedOut outs (plain f ∷ []) all (All-cons IsOwedOut (plain f) [] owed none_owed)

put_by : (claim : Bool) (f : FrameValue) (q : QueueValue) → OwesAll q → IsOwedFrame f → OwesAll (put_into (if claim then Claims else Singles) (plain f ∷ []) q)
put_by true f q o owed = record { claims = one_more q.claims.outs f o.claims owed; singles = o.singles; session = o.session; messages = o.messages }
put_by false f q o owed = record { claims = o.claims; singles = one_more q.singles.outs f o.singles owed; session = o.session; messages = o.messages }

pub owes_after_putting : (f : FrameValue) (q : QueueValue) → OwesAll q → IsOwedFrame f → OwesAll (putting false (plain f ∷ []) q)
owes_after_putting f q o owed = put_by (is_claim_frame f) f q o owed

pub owes_after_first : (source : ℕ) (put : List FrameValue) (q : QueueValue) → IsFirstFrom source put → OwesAll q → OwesAll (with_first put q)
owes_after_first source [] q first o = o
owes_after_first source (f ∷ more) q first o = owes_after_putting f q o first.owed

rest_owed : (outs left : List Out) → left ≡ drop 1 outs → All IsOwedOut outs → All IsOwedOut left
rest_owed outs left e all = rw e (All-drop IsOwedOut 1 outs all)

taken : (lane : Lane) (left : LaneValue) (q q' : QueueValue) → left.outs ≡ drop 1 (lane_of lane q).outs → OwesAll q
    → OwesAll (record (with_lane lane left q) { written = q'.written })
taken Claims left q q' e o = record { claims = rest_owed q.claims.outs left.outs e o.claims; singles = o.singles; session = o.session; messages = o.messages }
taken Singles left q q' e o = record { claims = o.claims; singles = rest_owed q.singles.outs left.outs e o.singles; session = o.session; messages = o.messages }
taken Session left q q' e o = record { claims = o.claims; singles = o.singles; session = rest_owed q.session.outs left.outs e o.session; messages = o.messages }
taken Messages left q q' e o = record { claims = o.claims; singles = o.singles; session = o.session; messages = rest_owed q.messages.outs left.outs e o.messages }

pub owes_after_taking : (lane : Lane) (q q' : QueueValue) → TakesFirst lane q q' → OwesAll q → OwesAll q'
owes_after_taking lane q q' t o =
    let w : QueueValue = record q { written = q.written + 1 } in
    subst OwesAll (sym t.is) (taken lane t.left q w t.rest o)

first_owed : (outs : List Out) (o : Out) → slice_get outs 0 ≡ Some o → All IsOwedOut outs → IsOwedFrame o.frame
first_owed [] o e all = absurd cc
first_owed (x ∷ outs) o e all = (let same : x ≡ o = cc in subst IsOwedOut same (All-head IsOwedOut x outs all))

pub owed_in_lane : (lane : Lane) (q : QueueValue) (o : Out) → slice_get (lane_of lane q).outs 0 ≡ Some o → OwesAll q → IsOwedFrame o.frame
owed_in_lane Claims q o e all = first_owed q.claims.outs o e all.claims
owed_in_lane Singles q o e all = first_owed q.singles.outs o e all.singles
owed_in_lane Session q o e all = first_owed q.session.outs o e all.session
owed_in_lane Messages q o e all = first_owed q.messages.outs o e all.messages

-- what is taken leaves the source
source_with : (lane : Lane) (left : LaneValue) (q : QueueValue) → (with_lane lane left q).source ≡ q.source
source_with Claims left q = refl
source_with Singles left q = refl
source_with Session left q = refl
source_with Messages left q = refl

pub source_after_taking : (lane : Lane) (q q' : QueueValue) → TakesFirst lane q q' → q'.source ≡ q.source
source_after_taking lane q q' t = ap (λ (x : QueueValue). x.source) t.is ∙ source_with lane t.left q

-- ---- the first of what is put

put_from : (claim : Bool) (f : FrameValue) (q : QueueValue) → (put_into (if claim then Claims else Singles) (plain f ∷ []) q).source ≡ q.source
put_from true f q = refl
put_from false f q = refl

pub source_after_first : (put : List FrameValue) (q : QueueValue) → (with_first put q).source ≡ q.source
source_after_first [] q = refl
source_after_first (f ∷ more) q = put_from (is_claim_frame f) f q

pub first_put : (put : List FrameValue) (f : FrameValue) (q : QueueValue) → slice_get put 0 ≡ Some f → with_first put q ≡ putting false (plain f ∷ []) q
first_put [] f q e = absurd cc
first_put (x ∷ more) f q e = (let same : x ≡ f = cc in ap (λ (y : FrameValue). putting false (plain y ∷ []) q) same)

pub none_put : (put : List FrameValue) (q : QueueValue) → slice_get put 0 ≡ None → with_first put q ≡ q
none_put [] q e = refl
none_put (x ∷ more) q e = absurd cc

pub first_is : (source : ℕ) (put : List FrameValue) (f : FrameValue) → slice_get put 0 ≡ Some f → IsFirstFrom source put → IsOwedFrom source f
first_is source [] f e first = absurd cc
first_is source (x ∷ more) f e first = (let same : x ≡ f = cc in subst (IsOwedFrom source) same first)

pub source_after_putting : (f : FrameValue) (q : QueueValue) → (putting false (plain f ∷ []) q).source ≡ q.source
source_after_putting f q = put_from (is_claim_frame f) f q
