-- What is due waits.
use Rattle.std.proofs.Common.{ℕ, ◌≡◌, ◌<◌, Bool, true, false, if◌then◌else◌, Option, Some, None, length, refl, subst}
use Rattle.std.proofs.lemmas.Bool.{and_parts, ltb-true}
use Rattle.live_unit.specs.Queue.{QueueValue, lane_of, waits}
use Rattle.live_unit.specs.Times.{lane_due, message_goes, other_lane_due}
use Rattle.live_unit.specs.declared.clock.UnitClock.{UnitClock}
use Rattle.live_unit.specs.declared.queue.Lane.{Lane}
use Rattle.live_unit.specs.declared.queue.Lane.TheVariants.{Claims, Singles, Session, Messages}

from_if : (P : Lane → Type 0) (b : Bool) (x y : Option Lane) (lane : Lane) → (b ≡ true → x ≡ Some lane → P lane) → (b ≡ false → y ≡ Some lane → P lane)
    → (if b then x else y) ≡ Some lane → P lane
from_if P true x y lane t f e = t refl e
from_if P false x y lane t f e = f refl e

here : (q : QueueValue) (one lane : Lane) → waits (lane_of one q) ≡ true → Some one ≡ Some lane → 0 < length (lane_of lane q).outs
here q one lane w e = (let same : one ≡ lane = cc in subst (λ (l : Lane). 0 < length (lane_of l q).outs) same (ltb-true 0 _ w))

-- the lane that is due has a frame
pub due_waits : (c : UnitClock) (now : ℕ) (q : QueueValue) (lane : Lane) → lane_due c now q ≡ Some lane → 0 < length (lane_of lane q).outs
due_waits c now q lane e =
    let P : Lane → Type 0 = λ l. 0 < length (lane_of l q).outs in
    from_if P (waits q.claims) _ _ lane
    (λ w. from_if P _ (Some Claims) None lane (λ _. here q Claims lane w) (λ _ n. absurd cc))
    (λ _.
    from_if P _ (other_lane_due c now q) None lane
    (λ _.
    from_if P (waits q.singles) (Some Singles) _ lane
    (λ w. here q Singles lane w)
    (λ _.
    from_if P (waits q.session) (Some Session) _ lane
    (λ w. here q Session lane w)
    (λ _.
    from_if P (message_goes c now q.messages) (Some Messages) None lane
    (λ w. here q Messages lane (and_parts (waits q.messages) _ w).0)
    (λ _ n. absurd cc))))
    (λ _ n. absurd cc))
    e
