-- A station that is alone on the bus holds the destination of each message of which it receives the first part.
use Rattle.std.proofs.Common.{◌≡◌, ◌≢◌, ℕ, suc, zero, Bool, true, false, ◌||◌, ◌==◌, List, [], ◌∷◌, ◌++◌, length, eq-eqb, set, Option, Some, None, refl, sym, ap, subst, ◌∙◌, inl, inr}
use Rattle.address_claim.specs.Claiming.{is_held}
use Rattle.parameter_group.specs.Group.{AddressClaimed, Group}
use Rattle.parameter_group.specs.Calm.{is_contest}
use Rattle.bus_model.specs.Expected.{Missed, Own, Received, Reception, is_claim, is_for, passed, readings}
use Rattle.bus_model.specs.Heard.{StationSettings, address_heard}
use Rattle.bus_model.specs.Machine.{Answer, Ask, Begin, Begins, Carry, Carry_station, Claims, EndsSession, Event, Hear, IsAt, IsFit, Join, Leave, Miss, Nothing, Read, Replies, Run, Seat, Sends, Station, Step, Turned, World, answered, claim_alone, start, with_heard}
use Rattle.bus_model.specs.Messages.{Broadcast, One, Session, Way, way_of}
use Rattle.bus_model.specs.Traffic.{Item, Tag, claimed_by, is_station, owner_after, says}
use Rattle.bus_model.proofs.Bridge.{address_gap, address_read, session_destination}
use Rattle.bus_model.proofs.Lawful.{Allowed, Continues, IsHonest, Lawful}
use Rattle.bus_model.proofs.Lookback.{Every, IsFrom, IsMine, every_rest, lawful_rest, pick_cases, true_test}
use Rattle.bus_model.proofs.Seats.{swap_test}
use Rattle.bus_model.proofs.Path.{one_to_all, to_all}
use Rattle.bus_model.proofs.SeatLaw.{IsNotNamed, all_ahead, next_heard}
use Rattle.bus_model.proofs.Worlds.{EachStation, WorldLaw, each_station_set, law_start, law_step}

-- where the last claim of an address is the station's, the station holds it
abbrev OnlyHeld : StationSettings → List Reception → Type 0
OnlyHeld r path = (d : ℕ) → claimed_by d (passed path) ≡ Some r.name → address_heard r (readings path) ≡ Some d

-- the station could join each message whose first part this is
abbrev pub IsMeant : StationSettings → Item → List Reception → Type 0
IsMeant r e older = (t : Tag) → e.tag ≡ Some t → t.part ≡ 0 → is_for (address_heard r (readings older)) t.message ≡ true

abbrev AreMeant : StationSettings → List Reception → Type 0
AreMeant r [] = Unit {0}
AreMeant r (Own e ∷ older) = AreMeant r older
AreMeant r (Missed es ∷ older) = AreMeant r older
AreMeant r (Received e ∷ older) = IsMeant r e older × AreMeant r older

record Alone (s : Station) : Type 0 where
  only : OnlyHeld s.settings s.path
  meant : AreMeant s.settings s.path

-- ---- what is claimed

-- another's claim
other_claim : (n d : ℕ) (e : Item) (before : Option ℕ) → IsHonest e.name (says e) → e.name ≢ n → owner_after d (says e) before ≡ Some n → (before ≡ Some n) × (is_claim d (says e) ≡ false)
other_claim n d e before honest ne h = go (says e) honest h
  where
    go : (f : Group) → IsHonest e.name f → owner_after d f before ≡ Some n → (before ≡ Some n) × (is_claim d f ≡ false)
    go (AddressClaimed b m) i h = elim (pick_cases (b == d) (Some m) before (Some n) h) [ inl w ↦ absurd (ne (let g : m ≡ n = cc in sym i ∙ g)) | inr w ↦ (w.1, w.0) ]
    go _ i h = (h, refl)

uncontested : (me d : ℕ) (f : Group) (held : Option ℕ) → is_claim d f ≡ false → held ≡ Some d → is_contest me held f ≡ false
uncontested me d (AddressClaimed b m) held h e =
    let i : is_held held b ≡ false = rw e (swap_test d b ∙ h) in
    rw i refl
uncontested me d _ held h e = refl

only_read : (st : List ℕ) (r : StationSettings) (e : Item) (path : List Reception) → Allowed st e (passed path) → e.name ≢ r.name → OnlyHeld r path → OnlyHeld r (Received e ∷ path)
only_read st r e path allowed ne only d h =
    let q = other_claim r.name d e (claimed_by d (passed path)) allowed.honest ne h in
    let at = only d q.0 in
    address_read r e.frame (readings path) (uncontested r.name d (says e) (address_heard r (readings path)) q.1 at) ∙ at

claimed_missed : (st : List ℕ) (n d : ℕ) (es xs : List Item) → Lawful st (es ++ xs) → Every (IsNotNamed n) es → claimed_by d (es ++ xs) ≡ Some n → claimed_by d xs ≡ Some n
claimed_missed st n d [] xs law ne h = h
claimed_missed st n d (e ∷ es) xs law ne h = claimed_missed st n d es xs law.1 ne.1 (other_claim n d e (claimed_by d (es ++ xs)) law.0.honest ne.0 h).0

only_own : (r : StationSettings) (e : Item) (path : List Reception) → IsFrom (address_heard r (readings path)) (says e) → OnlyHeld r path → OnlyHeld r (Own e ∷ path)
only_own r e path voice only d i = go (says e) (address_heard r (readings path)) (claimed_by d (passed path)) voice (only d) i
  where
    go : (f : Group) (o before : Option ℕ) → IsFrom o f → (before ≡ Some r.name → o ≡ Some d) → owner_after d f before ≡ Some r.name → o ≡ Some d
    go (AddressClaimed b m) o before from only h = elim (pick_cases (b == d) (Some m) before (Some r.name) h) [ inl w ↦ from ∙ ap Some (true_test b d w.0) | inr w ↦ only w.1 ]
    go _ o before from only h = only h

-- ---- what is received

-- a station whose NAME is among these, which are one
its_name : (n m : ℕ) → is_station (n ∷ []) m ≡ true → m ≡ n
its_name n m h = true_test m n (one (m == n) h)
  where
    one : (b : Bool) → (b || false) ≡ true → b ≡ true
    one true h = refl
    one false h = cc

-- the station alone may have asked for a session
meant_part : (n : ℕ) (r : StationSettings) (e : Item) (path : List Reception) → r.name ≡ n → Allowed (n ∷ []) e (passed path) → OnlyHeld r path → IsMeant r e path
meant_part n r e path named allowed only t tag first =
    let p = allowed.tagged t tag in
    go (way_of t.message) refl (subst (Continues (n ∷ []) (way_of t.message) (passed path) t.message) first p.joined)
  where
    or_true : (b : Bool) → (b || true) ≡ true
    or_true true = refl
    or_true false = refl

    go : (w : Way) → way_of t.message ≡ w → Continues (n ∷ []) w (passed path) t.message 0 → is_for (address_heard r (readings path)) t.message ≡ true
    go One i c = let a = one_to_all t.message (allowed.tagged t tag).proper i in rw a refl
    go Broadcast i c = let a = to_all t.message i in rw a refl
    go (Session d) i c =
        let q = session_destination t.message d i in
        let at : address_heard r (readings path) ≡ Some d = only d (c.0.claimed ∙ ap Some (its_name n c.0.name c.0.station ∙ sym named)) in
        let held : is_held (address_heard r (readings path)) t.message.destination ≡ true = rw (at, q.0) (eq-eqb d d refl) in
        rw held (or_true (t.message.destination == 255))

-- ---- the steps

abbrev EachAlone : World → Type 0
EachAlone w = EachStation Alone w.stations

reads_alone : (n : ℕ) (w : World) (y : ℕ) (s : Station) (e : Item) (ahead : List Item) → WorldLaw (n ∷ []) w → IsAt w y s → Alone s → w.wire ≡ ahead ++ e ∷ passed s.path → (asked : List Item) → Alone (record s { asked = asked; path = Received e ∷ s.path })
reads_alone n w y s e ahead law at a i asked =
    let here = law.stations y s at in
    let next = next_heard s.settings.name w.wire (passed s.path) ahead e here.law.past i in
    let rest = lawful_rest (n ∷ []) ahead (e ∷ passed s.path) (subst (Lawful (n ∷ [])) i law.wire) in
    record {
      only = only_read (n ∷ []) s.settings e s.path rest.0 next.1 a.only;
      meant = (meant_part n s.settings e s.path (its_name n s.settings.name here.law.named) rest.0 a.only, a.meant);
    }

misses_alone : (n : ℕ) (w : World) (y : ℕ) (s : Station) (es ahead : List Item) → WorldLaw (n ∷ []) w → IsAt w y s → Alone s → w.wire ≡ ahead ++ (es ++ passed s.path) → (asked : List Item) → Alone (record s { asked = asked; path = Missed es ∷ s.path })
misses_alone n w y s es ahead law at a i asked =
    let here = law.stations y s at in
    let r = s.settings in
    let all = all_ahead r.name w.wire (passed s.path) ahead es here.law.past i in
    let rest = lawful_rest (n ∷ []) ahead (es ++ passed s.path) (subst (Lawful (n ∷ [])) i law.wire) in
    record {
      only = λ d h. address_gap r (length es) (readings s.path) ∙ a.only d (claimed_missed (n ∷ []) r.name d es (passed s.path) rest (every_rest (IsNotNamed r.name) ahead es all) h);
      meant = a.meant;
    }

carries_alone : (n : ℕ) (w : World) (y : ℕ) (s : Station) (e : Item) (rest : List Item) → WorldLaw (n ∷ []) w → IsAt w y s → Alone s → s.asked ≡ rest ++ e ∷ [] → Alone (record s { asked = rest; path = Own e ∷ s.path })
carries_alone n w y s e rest law at a q =
    let here = law.stations y s at in
    let o = address_heard s.settings (readings s.path) in
    let voice = (every_rest (IsMine s.settings.name o None) rest (e ∷ []) (subst (Every (IsMine s.settings.name o None)) q here.law.mine)).0.voice in
    record { only = only_own s.settings e s.path voice a.only; meant = a.meant }

with_station : (w : World) (y : ℕ) (s v : Station) → IsAt w y s → EachAlone w → Alone v → EachStation Alone (set w.stations y v)
with_station w y s v at each new = each_station_set Alone w.stations y v (λ z t ne h. each z t h) new

answered_alone : (w : World) (x : ℕ) (s : Seat) (a : Answer) → EachAlone w → EachAlone (answered w x s a)
answered_alone w x s Nothing each = each
answered_alone w x s (Replies f) each = each
answered_alone w x s (Begins kind memory source destination) each = each
answered_alone w x s (Sends n) each = each
answered_alone w x s EndsSession each = each
answered_alone w x s (Claims o) each = each

step_alone : (n : ℕ) (old : World) (event : Event) (new : World) → WorldLaw (n ∷ []) old → EachAlone old → Step old event new → EachAlone new
step_alone n old (Join m a) new law each h = subst EachAlone (sym h.3) each
step_alone n old (Hear x answer) new law each (s, e, ahead, at, i, may, is) = subst EachAlone (sym is) (answered_alone old x (with_heard s e) answer each)
step_alone n old (Begin x kind memory source) new law each (s, at, held, fit, none, is) = subst EachAlone (sym is) each
step_alone n old (Turned x) new law each h = subst EachAlone (sym h) each
step_alone n old (Carry x) new law each (s, e, rest, at, q, i, is) = subst EachAlone (sym is) each
step_alone n old (Carry_station y) new law each (s, e, rest, at, q, i, is) = subst EachAlone (sym is) (with_station old y s _ at each (carries_alone n old y s e rest law at (each y s at) q))
step_alone n old (Ask y frames) new law each (s, at, may, is) = subst EachAlone (sym is) (with_station old y s _ at each (record { only = (each y s at).only; meant = (each y s at).meant }))
step_alone n old (Read y frames) new law each (s, e, ahead, at, i, may, is) = subst EachAlone (sym is) (with_station old y s _ at each (let a = reads_alone n old y s e ahead law at (each y s at) i [] in record { only = a.only; meant = a.meant }))
step_alone n old (Miss y k frames) new law each (s, es, ahead, at, len, i, may, is) = subst EachAlone (sym is) (with_station old y s _ at each (let a = misses_alone n old y s es ahead law at (each y s at) i [] in record { only = a.only; meant = a.meant }))
step_alone n old (Leave x) new law each (s, at, is) = subst EachAlone (sym is) each

run_alone : (n : ℕ) (old : World) (events : List Event) (new : World) → WorldLaw (n ∷ []) old → EachAlone old → Run old events new → EachAlone new
run_alone n old [] new law each h = subst EachAlone (sym h) each
run_alone n old (e ∷ es) new law each (mid, step, rest) = run_alone n mid es new (law_step (n ∷ []) old e mid law step) (step_alone n old e mid law each step) rest

start_alone : (r : StationSettings) → EachAlone (start (r ∷ []))
start_alone r zero s h = let e : ◌≡◌ {A = Station} (record { settings = r; asked = claim_alone 0 r.name (Some r.address); path = [] }) s = cc in subst Alone e (record { only = λ d i. cc; meant = tt })
start_alone r (suc y) s h = cc

-- at each first part in what the station has of the wire
meant_at : (r : StationSettings) (path after before : List Reception) (e : Item) → path ≡ after ++ Received e ∷ before → AreMeant r path → IsMeant r e before
meant_at r path after before e is all = within r after before e (subst (AreMeant r) is all)
  where
    within : (r : StationSettings) (after before : List Reception) (e : Item) → AreMeant r (after ++ Received e ∷ before) → IsMeant r e before
    within r [] before e h = h.0
    within r (Own f ∷ after) before e h = within r after before e h
    within r (Missed fs ∷ after) before e h = within r after before e h
    within r (Received f ∷ after) before e h = within r after before e h.1

pub meant_for_it : (r : StationSettings) → IsFit r → (events : List Event) (w : World) → Run (start (r ∷ [])) events w → (y : ℕ) (s : Station) → IsAt w y s → (after before : List Reception) (e : Item) → s.path ≡ after ++ Received e ∷ before
    → IsMeant s.settings e before
meant_for_it r fit events w run y s at after before e is =
    let each = run_alone r.name (start (r ∷ [])) events w (law_start (r ∷ []) (fit, tt, tt)) (start_alone r) run in
    meant_at s.settings s.path after before e is (each y s at).meant
