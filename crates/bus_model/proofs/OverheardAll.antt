-- Where a listener missed nothing, each path is clear to it that its receiver left alone.
use Rattle.std.proofs.Common.{◌≡◌, ℕ, Bool, true, false, not, ◌&&◌, List, [], ◌∷◌, if◌then◌else◌, Some, sym, refl, ap, ◌∙◌, subst}
use Rattle.dm_messages.specs.declared.kind.Kind.{Kind}
use Rattle.bus_model.specs.ClearPath.{NoneMissed}
use Rattle.bus_model.specs.Expected.{Missed, Own, Received, Reception, is_anchored, is_claim, is_part, readings}
use Rattle.bus_model.specs.Heard.{StationSettings}
use Rattle.bus_model.specs.Machine.{AreFit, Event, Run, World, start}
use Rattle.bus_model.specs.Messages.{IsAmong, Message}
use Rattle.bus_model.specs.Overheard.{entries_overheard}
use Rattle.bus_model.specs.OverheardExpected.{IsPathOfListener, NoneOwn, is_aborted, is_overheard, is_read_back, is_to_list}
use Rattle.bus_model.specs.OverheardWhole.{is_read_whole, is_unaborted, overheard_whole}
use Rattle.bus_model.specs.Traffic.{Item, claimed_by, says}
use Rattle.bus_model.specs.declared.who.Who.TheVariants.{Named}
use Rattle.bus_model.proofs.Clear.{part_is}
use Rattle.bus_model.proofs.Lawful.{Lawful, tag_of}
use Rattle.bus_model.proofs.Lookback.{Every, claimed_by_skip}
use Rattle.bus_model.proofs.OverheardLaw.{entries_same, listener_exact, on_path}
use Rattle.bus_model.proofs.OverheardTracks.{carried}
use Rattle.bus_model.proofs.SeatLaw.{IsBooked, Numbered}
use Rattle.bus_model.proofs.Tells.{is_listed}

claim_read : (a n : ℕ) (path : List Reception) → NoneOwn path → NoneMissed path → claimed_by a (carried [] path) ≡ Some n → is_anchored a path ≡ true
claim_read a n [] own whole h = cc
claim_read a n (Own e ∷ path) own whole h = absurd own
claim_read a n (Missed es ∷ path) own whole h = absurd whole
claim_read a n (Received e ∷ path) own whole h = by_claim (is_claim a (says e)) refl (claim_read a n path own whole)
  where
    by_claim : (t : Bool) → is_claim a (says e) ≡ t → (claimed_by a (carried [] path) ≡ Some n → is_anchored a path ≡ true) → (if t then true else is_anchored a path) ≡ true
    by_claim true i older = refl
    by_claim false i older = older (sym (claimed_by_skip a (says e) (claimed_by a (carried [] path)) i) ∙ h)

read_back_is : (st : List ℕ) (begun : List Message) (m : Message) → Numbered begun → IsAmong m begun → (path : List Reception) → NoneOwn path → NoneMissed path → Lawful st (carried [] path) → Every (IsBooked begun) (carried [] path) → is_read_back m path ≡ is_unaborted m path
read_back_is st begun m num among [] own whole law booked = refl
read_back_is st begun m num among (Own e ∷ path) own whole law booked = absurd own
read_back_is st begun m num among (Missed es ∷ path) own whole law booked = absurd whole
read_back_is st begun m num among (Received e ∷ path) own whole law booked = by_part (is_part m 0 e.tag) refl (read_back_is st begun m num among path own whole law.1 booked.1)
  where
    by_part : (t : Bool) → is_part m 0 e.tag ≡ t → is_read_back m path ≡ is_unaborted m path
        → (if t then is_anchored m.source path else (not (is_aborted m (says e)) && is_read_back m path)) ≡ (if t then true else (not (is_aborted m (says e)) && is_unaborted m path))
    by_part true i older = claim_read m.source m.name path own whole (law.0.tagged (tag_of m 0) (part_is begun m 0 e.tag num among booked.0 i)).owned
    by_part false i older = ap (λ (b : Bool). not (is_aborted m (says e)) && b) older

overheard_is : (st : List ℕ) (begun : List Message) (m : Message) → Numbered begun → IsAmong m begun → (path : List Reception) → NoneOwn path → NoneMissed path → Lawful st (carried [] path) → Every (IsBooked begun) (carried [] path) → is_overheard m path ≡ is_read_whole m path
overheard_is st begun m num among [] own whole law booked = refl
overheard_is st begun m num among (Own e ∷ path) own whole law booked = absurd own
overheard_is st begun m num among (Missed es ∷ path) own whole law booked = absurd whole
overheard_is st begun m num among (Received e ∷ path) own whole law booked =
    rw (read_back_is st begun m num among (Received e ∷ path) own whole law booked, overheard_is st begun m num among path own whole law.1 booked.1) refl

pub all_listed : (settings : List StationSettings) → AreFit settings → (events : List Event) (w : World) → Run (start settings) events w → (path : List Reception) → (listens : IsPathOfListener w.wire path) → listens.before ≡ [] → NoneMissed path → (n : ℕ) (k : Kind)
    → entries_overheard (Named n) k (readings path) ≡ overheard_whole n k w.begun path
all_listed settings fit events w run path listens first whole n k =
    let on = on_path settings fit events w run path listens in
    let law = subst (λ (old : List Item). Lawful on.names (carried old path)) first on.law in
    let booked = subst (λ (old : List Item). Every (IsBooked w.begun) (carried old path)) first on.booked in
    listener_exact settings fit events w run path listens n k
    ∙ entries_same (λ m. is_listed n k m && is_read_whole m path) (is_to_list n k path) w.begun
    (λ m among. ap (λ (b : Bool). is_listed n k m && b) (overheard_is on.names w.begun m on.numbered among path listens.none_own whole law booked))
