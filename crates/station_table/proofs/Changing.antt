-- What a reading changes by the tables is what was heard to change.
use Rattle.std.proofs.Common.{◌≡◌, ℕ, ◌<◌, Bool, true, false, ◌||◌, ◌==◌, List, ◌∷◌, Option, Some, None, if◌then◌else◌, refl, sym, ap, ◌∙◌, subst}
use Rattle.std.proofs.lemmas.Bool.{eq-eqb, eqb-true}
use Rattle.address_claim.specs.Claiming.{is_held}
use Rattle.bus_model.specs.Changed.{announced_change, answer_change, change_heard, claim_change, displaced_by, ended_change, giving_up, group_change, has_answered, is_again, single_change, still_has}
use Rattle.bus_model.specs.Heard.{Joining, Origin, RowHeard, StationSettings, ack_in_row, address_heard, address_in_row, address_known, broadcast_heard, ended_by, finished, kind_of, owner_heard}
use Rattle.bus_model.specs.declared.change.Change.{Change}
use Rattle.bus_model.specs.declared.change.Change.TheVariants.{Nothing}
use Rattle.can_frame.specs.FrameValue.{FrameValue}
use Rattle.can_frame.specs.declared.reading.Reading.{Reading}
use Rattle.can_frame.specs.declared.reading.Reading.TheVariants.{Frame, Gap, Empty}
use Rattle.dm_messages.specs.declared.kind.Kind.{Kind}
use Rattle.parameter_group.specs.Group.{Group, AddressClaimed, CannotClaim, Request, Acknowledgment, Diagnostic, ConnectionManagement, DataTransfer, Other, group_of}
use Rattle.reassembly.specs.Partials.{with_packet}
use Rattle.reassembly.specs.Tables.{at}
use Rattle.transport.specs.declared.control.Control.{Control}
use Rattle.transport.specs.declared.control.Control.TheVariants.{Bam}
use Rattle.station_table.specs.Changing.{address_by, answers_again, ended_by_packet, group_changes, keeps_address, reading_changes}
use Rattle.entry_lists.specs.KeptValue.{KeptValue, claimed_in, kept_under}
use Rattle.entry_lists.specs.KnownRows.{address_in, row_known, row_of, still_owned}
use Rattle.station_table.specs.StandsFor.{StandsFor}
use Rattle.station_table.specs.StationValue.{StationValue}
use Rattle.station_table.proofs.Lines.{held_same}
use Rattle.station_table.specs.Steps.{after_group, origin_of}
use Rattle.station_table.proofs.Stands.{stands_after}
use Rattle.parameter_group.specs.Laws.{sender, sender_below}
use Rattle.entry_lists.proofs.RowClaims.{address_words}

address_same : (r : StationSettings) (grant : ℕ) (s : StationValue) (h : List Reading) → StandsFor r grant s h → (n : ℕ) → address_by s n ≡ address_known r n h
address_same r grant s h st n = address_words s.owners n (kept_under s.rows n) ∙ ap (λ (o : Option RowHeard). address_in_row o) (st.rows n)

still_same : (r : StationSettings) (grant : ℕ) (s : StationValue) (h : List Reading) → StandsFor r grant s h → (a : ℕ) (own : Option ℕ)
    → keeps_address s own a ≡ still_has r own a h
still_same r grant s h st a None = refl
still_same r grant s h st a (Some m) = ap (λ (o : Option ℕ). is_held o a) (address_same r grant s h st m)

answered_same : (r : StationSettings) (grant : ℕ) (s : StationValue) (h : List Reading) → StandsFor r grant s h → (c p : ℕ) (own : Option ℕ)
    → answers_again s own c p ≡ has_answered r own c p h
answered_same r grant s h st c p None = refl
answered_same r grant s h st c p (Some m) = ap (λ (o : Option RowHeard). is_again c p (ack_in_row o)) (st.rows m)

-- the message that a packet ends
pub packet_same : (r : StationSettings) (grant : ℕ) (s : StationValue) (h : List Reading) (a d : ℕ) (bytes : List ℕ) → a < 256 → StandsFor r grant s h
    → ended_by_packet s a d bytes ≡ ended_by r (DataTransfer a d bytes) h
packet_same r grant s h a d bytes lt st =
    ap (λ (j : Option Joining). if d == 255 then finished (with_packet bytes j) else (if is_held s.claimer.held d then finished (with_packet bytes (at s.sessions a)) else None)) (st.broadcasts a lt)
    ∙ (ap (λ (o : Option ℕ). if d == 255 then finished (with_packet bytes (broadcast_heard a h)) else (if is_held o d then finished (with_packet bytes (at s.sessions a)) else None)) (held_same r grant s h st)
    ∙ ap (λ (j : Option Joining). if d == 255 then finished (with_packet bytes (broadcast_heard a h)) else (if is_held (address_heard r h) d then finished (with_packet bytes j) else None)) (st.sessions a lt))

control_same : (r : StationSettings) (grant : ℕ) (s : StationValue) (h : List Reading) (a d : ℕ) (c : Control) → a < 256 → StandsFor r grant s h
    → group_changes s (ConnectionManagement a d c) ≡ group_change r (ConnectionManagement a d c) h
control_same r grant s h a d (Bam size packets pgn) lt st = ap (λ (o : Option ℕ). if d == 255 then announced_change (kind_of pgn) a o else Nothing) (st.owners a lt)
control_same r grant s h a d _ lt st = refl

group_same : (r : StationSettings) (grant : ℕ) (s : StationValue) (h : List Reading) (g : Group) → sender g < 256 → StandsFor r grant s h
    → group_changes s g ≡ group_change r g h
group_same r grant s h (AddressClaimed a n) lt st =
    ap (λ (o : Option ℕ). claim_change n a (is_held o a) (displaced_by n (at s.owners a) (keeps_address s (at s.owners a) a))) (address_same r grant s h st n)
    ∙ (ap (λ (o : Option ℕ). claim_change n a (is_held (address_known r n h) a) (displaced_by n o (keeps_address s o a))) (st.owners a lt)
    ∙ ap (λ (b : Bool). claim_change n a (is_held (address_known r n h) a) (displaced_by n (owner_heard a h) b)) (still_same r grant s h st a (owner_heard a h)))
group_same r grant s h (CannotClaim n) lt st = ap (giving_up n) (st.rows n)
group_same r grant s h (Acknowledgment c q p d a) lt st =
    ap (λ (o : Option ℕ). answer_change (is_held o q || is_held o d) (at s.owners a) c p (answers_again s (at s.owners a) c p)) (held_same r grant s h st)
    ∙ (ap (λ (o : Option ℕ). answer_change (is_held (address_heard r h) q || is_held (address_heard r h) d) o c p (answers_again s o c p)) (st.owners a lt)
    ∙ ap (λ (b : Bool). answer_change (is_held (address_heard r h) q || is_held (address_heard r h) d) (owner_heard a h) c p b) (answered_same r grant s h st c p (owner_heard a h)))
group_same r grant s h (Diagnostic k a bytes) lt st = ap (λ (o : Option ℕ). single_change k a o bytes) (st.owners a lt)
group_same r grant s h (ConnectionManagement a d c) lt st = control_same r grant s h a d c lt st
group_same r grant s h (DataTransfer a d bytes) lt st = ap (ended_change a) (packet_same r grant s h a d bytes lt st)
group_same r grant s h (Request p d a) lt st = refl
group_same r grant s h Other lt st = refl

pub reading_same : (r : StationSettings) (grant : ℕ) (s : StationValue) (h : List Reading) (x : Reading) → StandsFor r grant s h → reading_changes s x ≡ change_heard r x h
reading_same r grant s h Empty st = refl
reading_same r grant s h (Gap n) st = refl
reading_same r grant s h (Frame f) st = group_same r grant s h (group_of f) (sender_below f) st

-- what a call tells that takes a reading
pub heard_by_reading : (r : StationSettings) (grant : ℕ) (s : StationValue) (h : List Reading) (x : Reading) (c : Change) → c ≡ reading_changes s x → StandsFor r grant s h → c ≡ change_heard r x h
heard_by_reading r grant s h x c e st = e ∙ reading_same r grant s h x st

-- and one that takes what a frame says
pub heard_by_group : (r : StationSettings) (grant : ℕ) (s : StationValue) (h : List Reading) (f : FrameValue) (g : Group) (c : Change) → group_of f ≡ g → c ≡ group_changes s g → StandsFor r grant s h
    → c ≡ change_heard r (Frame f) h
heard_by_group r grant s h f g c is e st = e ∙ (ap (group_changes s) (sym is) ∙ reading_same r grant s h (Frame f) st)

pub stands_by_group : (r : StationSettings) (grant : ℕ) (s t : StationValue) (h : List Reading) (f : FrameValue) (g : Group) → group_of f ≡ g → t ≡ after_group s g → StandsFor r grant s h
    → StandsFor r grant t (Frame f ∷ h)
stands_by_group r grant s t h f g is e st = subst (λ (v : StationValue). StandsFor r grant v (Frame f ∷ h)) (ap (after_group s) is ∙ sym e) (stands_after r grant s h (Frame f) st)

-- the owner of an address has it still where it claimed that last
owner_has : (owners : List (Option ℕ)) (name address : ℕ) (o : Option KeptValue) → at owners address ≡ Some name → is_held (address_in (row_of owners name o)) address ≡ is_held (claimed_in o) address
owner_has owners name address None owned = refl
owner_has owners name address (Some kept) owned = of_claim kept.claimed
  where
    of_claim : (c : Option ℕ) → is_held (still_owned owners name c) address ≡ is_held c address
    of_claim None = refl
    of_claim (Some a) = go (a == address) (is_held (at owners a) name) refl refl
      where
        go : (b c : Bool) → (a == address) ≡ b → is_held (at owners a) name ≡ c → is_held (if c then Some a else None) address ≡ (a == address)
        go b true i j = refl
        go false false i j = sym i
        go true false i j =
            let here : at owners a ≡ Some name = ap (at owners) (eqb-true a address i) ∙ owned in
            let held : is_held (at owners a) name ≡ true = rw here (eq-eqb name name refl) in
            absurd cc

pub lost_by_claim : (s : StationValue) (name address : ℕ) (owner : Option ℕ) → owner ≡ at s.owners address → owner ≡ Some name
    → is_held (claimed_in (kept_under s.rows name)) address ≡ keeps_address s owner address
lost_by_claim s name address owner here is =
    sym (owner_has s.owners name address (kept_under s.rows name) (sym here ∙ is)) ∙ ap (λ (o : Option ℕ). keeps_address s o address) (sym is)

-- the announcement of a message of somebody changes nothing
pub nothing_announced : (k : Option Kind) (source : ℕ) (own : Option ℕ) (o : Origin) (c : Change) → c ≡ Nothing → origin_of k own ≡ Some o → c ≡ announced_change k source own
nothing_announced None source own o c e is = absurd cc
nothing_announced (Some k) source None o c e is = absurd cc
nothing_announced (Some k) source (Some n) o c e is = e
