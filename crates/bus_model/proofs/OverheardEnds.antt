-- What ends at a frame for a listener: at a part of a message that message, where its parts so far were read, and at any other frame none.
use Rattle.std.proofs.Common.{◌≡◌, ◌≢◌, ◌⊎◌, ℕ, suc, zero, ◌≤◌, Bool, true, false, not, ◌&&◌, ◌||◌, ◌==◌, List, [], ◌∷◌, length, drop, take, Option, Some, None, if◌then◌else◌, sym, refl, ap, ◌∙◌, subst, inl, inr, arith}
use Rattle.can_frame.specs.declared.reading.Reading.{Reading}
use Rattle.dm_messages.specs.declared.kind.Kind.{Kind}
use Rattle.parameter_group.specs.Group.{AddressClaimed, ConnectionManagement, DataTransfer, Diagnostic, Group}
use Rattle.transport.specs.Assembling.{is_next}
use Rattle.transport.specs.Pieces.{joined, packet, pieces}
use Rattle.transport.specs.declared.control.Control.TheVariants.{Abort, Bam, Rts}
use Rattle.reassembly.specs.Partials.{is_whole, unfinished, with_packet, with_piece}
use Rattle.bus_model.specs.Expected.{Missed, Own, Received, Reception, is_anchored, is_part, readings}
use Rattle.bus_model.specs.Heard.{kind_of, owner_heard}
use Rattle.bus_model.specs.Messages.{Broadcast, IsAmong, Message, One, Session, Way, last_part_of, payload_sent, way_of}
use Rattle.bus_model.specs.Overheard.{HalfSent, MessageSent, between_after, between_heard, gaps_heard, is_named, is_pair, kept_by_name, newly_sent, sent_by, sent_whole, who_at, who_heard}
use Rattle.bus_model.specs.OverheardExpected.{NoneOwn, is_read_back}
use Rattle.bus_model.specs.Traffic.{Item, Tag, claimed_by, is_station, owner_after, says}
use Rattle.bus_model.specs.declared.who.Who.{Who}
use Rattle.bus_model.specs.declared.who.Who.TheVariants.{Named, Unclaimed}
use Rattle.bus_model.proofs.Bridge.{all_pieces, count_of, many_last, one_last, session_destination}
use Rattle.bus_model.proofs.Lawful.{IsNoStart, IsPlain, IsVoiced, Lawful, PartLaw, group_at, tag_of}
use Rattle.bus_model.proofs.Lookback.{Every, and_parts, ne_test, same_test, true_test}
use Rattle.bus_model.proofs.OverheardParts.{IsSoFar, IsUnder, next_at, whole_at}
use Rattle.bus_model.proofs.OverheardTracks.{IsTrack, carried, cast_track, owner_read, session_track, so_far_read}
use Rattle.bus_model.proofs.Path.{bam_way, later_part, not_one, one_to_all, to_all}
use Rattle.bus_model.proofs.SeatLaw.{IsBooked, Numbered}
use Rattle.bus_model.proofs.Seats.{part_says}
use Rattle.bus_model.proofs.Sessions.{no_one}

-- ---- at a part

-- the message, under whomever
abbrev pub message_under : Who → Message → MessageSent
message_under w m = record { who = w; kind = m.kind; to = m.destination; bytes = payload_sent m }

-- where b the message under its NAME, and else as nobody's, or nothing
abbrev pub IsEnded : Message → Bool → Option MessageSent → Type 0
IsEnded m b o = ((b ≡ false) × (o ≡ None)) ⊎ ((w : Who) × IsUnder m.name b w × (o ≡ Some (message_under w m)))

-- a further packet ends it where it is the last one
next_ends : (m : Message) (d i : ℕ) (b : Bool) (o : Option HalfSent) → m.destination ≡ d → last_part_of m ≡ count_of m → suc i ≤ count_of m → IsSoFar m i b o → IsEnded m (suc i == last_part_of m && b) (sent_whole d (with_packet (packet (payload_sent m) (suc i)) o))
next_ends m d i b o to last le h =
    elim h [
      | inl e ↦ inl (never (suc i == last_part_of m) e.0, ap ends e.1)
      | inr w ↦ subst (λ (t : Bool). IsEnded m (t && b) (ends o)) (ap (λ (c : ℕ). suc i == c) (sym last))
          (by_last w.0 w.1 (suc i == count_of m) refl (ap ends w.2 ∙ (ap (sent_whole d) (next_at w.0 m i le) ∙ rw (whole_at w.0 m (suc i) le) refl)))
    ]
  where
    ends : Option HalfSent → Option MessageSent
    ends v = sent_whole d (with_packet (packet (payload_sent m) (suc i)) v)

    never : (t : Bool) → b ≡ false → t && b ≡ false
    never true e = e
    never false e = refl

    sent : Who → ℕ → List ℕ → MessageSent
    sent w to bytes = record { who = w; kind = m.kind; to = to; bytes = bytes }

    by_last : (w : Who) → IsUnder m.name b w → (t : Bool) → (suc i == count_of m) ≡ t
        → ends o ≡ (if suc i == count_of m then Some (sent w d (joined (length (payload_sent m)) (take (suc i) (pieces (payload_sent m))))) else None) → IsEnded m (t && b) (ends o)
    by_last w u false k e = inl (refl, rw k at e)
    by_last w u true k e =
        inr (
          w,
          u,
          rw k at e ∙ (ap (λ (n : ℕ). Some (sent w d (joined (length (payload_sent m)) (take n (pieces (payload_sent m)))))) (true_test (suc i) (count_of m) k)
              ∙ (ap (λ (v : List ℕ). Some (sent w d v)) (all_pieces m) ∙ ap (λ (v : ℕ). Some (sent w v (payload_sent m))) (sym to))),
        )

-- a part of a message in packets
packet_ends : (st : List ℕ) (begun : List Message) (m : Message) (d : ℕ) (last : List Item → Option Tag) → IsTrack st m d last → m.destination ≡ d → way_of m ≢ One → Numbered begun → IsAmong m begun → (j : ℕ) (e : Item) (old : List Item) (path : List Reception) → NoneOwn path → Lawful st (carried old path) → Every (IsBooked begun) (carried old path)
    → PartLaw st e (tag_of m j) (carried old path) → e.tag ≡ Some (tag_of m j) → ((older : List Reading) → j ≡ 0 → sent_by (says e) older ≡ None) → IsEnded m (j == last_part_of m && is_read_back m (Received e ∷ path)) (sent_by (says e) (readings path))
packet_ends st begun m d last track to many num among zero e old path own law booked p tag none =
    let n = many_last m p.proper many in
    inl (rw (n.0, ne_test 0 (count_of m) (let l = n.1 in omega arith)) refl, none (readings path) refl)
packet_ends st begun m d last track to many num among (suc i) e old path own law booked p tag none =
    let n = many_last m p.proper many in
    let le : suc i ≤ count_of m = (let q : suc i ≤ last_part_of m = p.upto in let l = n.0 in omega arith) in
    let next = track.next e (carried old path) i p in
    let h = so_far_read st begun m d last track n.1 num among old path own law booked i (omega arith) next.1 in
    rw (later_part m i e.tag tag, next.0) (next_ends m d i (is_read_back m path) (between_heard m.source d (readings path)) to n.0 le h)

-- a part of whichever message
pub part_ends : (st : List ℕ) (begun : List Message) (m : Message) (j : ℕ) (e : Item) (old : List Item) (path : List Reception) → Numbered begun → IsAmong m begun → NoneOwn path → Lawful st (carried old path) → Every (IsBooked begun) (carried old path)
    → PartLaw st e (tag_of m j) (carried old path) → e.tag ≡ Some (tag_of m j) → IsEnded m (j == last_part_of m && is_read_back m (Received e ∷ path)) (sent_by (says e) (readings path))
part_ends st begun m j e old path num among own law booked p tag = by_way (way_of m) refl
  where
    said : (w : Way) → way_of m ≡ w → says e ≡ group_at w m j
    said w i = part_says st e (tag_of m j) (carried old path) p ∙ ap (λ (v : Way). group_at v m j) i

    by_way : (w : Way) → way_of m ≡ w → IsEnded m (j == last_part_of m && is_read_back m (Received e ∷ path)) (sent_by (says e) (readings path))
    by_way One i =
        let last = one_last m i in
        let zero_j : j ≡ 0 = (let q : j ≤ last_part_of m = p.upto in omega arith) in
        let first : is_part m 0 e.tag ≡ true = rw (tag, same_test m.number, zero_j) refl in
        let here : (j == last_part_of m) ≡ true = rw (zero_j, last) refl in
        let to : m.destination ≡ 255 = true_test m.destination 255 (one_to_all m p.proper i) in
        let who : Who = who_at (if is_anchored m.source path then Some m.name else None) m.source (gaps_heard (readings path)) in
        rw (here, first, said One i, owner_read m.source m.name old path own p.owned)
        (inr (who, (m.source, gaps_heard (readings path), refl), ap (λ (v : ℕ). Some (single who v)) (sym to)))
      where
        single : Who → ℕ → MessageSent
        single w to = record { who = w; kind = m.kind; to = to; bytes = payload_sent m }
    by_way Broadcast i =
        packet_ends st begun m 255 _ (cast_track st m i) (true_test m.destination 255 (to_all m i)) (not_one m i) num among j e old path own law booked p tag
        (λ older z. rw (said Broadcast i, z) refl)
    by_way (Session d) i =
        packet_ends st begun m d _ (session_track st m d p.proper i) (session_destination m d i).0 (no_one m d i) num among j e old path own law booked p tag
        (λ older z. rw (said (Session d) i, z) refl)

-- ---- at a frame that is no part

-- under that NAME, if under any
abbrev pub IsUnderNoOther : ℕ → Who → Type 0
IsUnderNoOther n (Named m) = m ≡ n
IsUnderNoOther n (Unclaimed a gaps) = Unit {0}

-- what is half sent to all is of the unit that claimed the source last
abbrev pub IsUnits : List ℕ → Option ℕ → Option HalfSent → Type 0
IsUnits st claimed None = Unit {0}
IsUnits st claimed (Some j) = (n : ℕ) × (claimed ≡ Some n) × (is_station st n ≡ false) × IsUnderNoOther n j.tag.who

units_if : (st : List ℕ) (c : Option ℕ) (o r : Option HalfSent) (t : Bool) → (t ≡ true → IsUnits st c o) → IsUnits st c r → IsUnits st c (if t then o else r)
units_if st c o r true h g = h refl
units_if st c o r false h g = g

units_packet : (st : List ℕ) (c : Option ℕ) (q : List ℕ) (o : Option HalfSent) → IsUnits st c o → IsUnits st c (unfinished (with_packet q o))
units_packet st c q None h = tt
units_packet st c q (Some j) h = by_next (is_next j.size j.pieces q)
  where
    by_next : (t : Bool) → IsUnits st c (unfinished (if t then Some (with_piece (drop 1 q) j) else None))
    by_next false = tt
    by_next true = by_whole (is_whole (with_piece (drop 1 q) j))
      where
        by_whole : (t : Bool) → IsUnits st c (if t then None else Some (with_piece (drop 1 q) j))
        by_whole true = tt
        by_whole false = h

units_claim : (st : List ℕ) (c : Option ℕ) (m : ℕ) (o : Option HalfSent) → IsUnits st c o → IsUnits st (Some m) (kept_by_name m o)
units_claim st c m None h = tt
units_claim st c m (Some j) h = by_name (is_named m j.tag.who) refl
  where
    named_is : (w : Who) → is_named m w ≡ true → IsUnderNoOther h.0 w → m ≡ h.0
    named_is (Named x) i u = true_test m x i ∙ u
    named_is (Unclaimed a gaps) i u = cc

    by_name : (t : Bool) → is_named m j.tag.who ≡ t → IsUnits st (Some m) (if t then Some j else None)
    by_name false i = tt
    by_name true i = (h.0, ap Some (named_is j.tag.who i h.3), h.2, h.3)

-- an announcement to all: only a unit's is one of a diagnostic message
units_start : (st : List ℕ) (e : Item) (old : List Item) (path : List Reception) → Lawful st (e ∷ carried old path) → NoneOwn path → (s d x y p : ℕ) → says e ≡ ConnectionManagement s d (Bam x y p) → IsUnits st (claimed_by s (carried old path)) (newly_sent (kind_of p) x (who_heard s (readings path)))
units_start st e old path law own s d x y p f = by_tag e.tag refl
  where
    by_tag : (o : Option Tag) → e.tag ≡ o → IsUnits st (claimed_by s (carried old path)) (newly_sent (kind_of p) x (who_heard s (readings path)))
    by_tag None g = let k : kind_of p ≡ None = subst IsNoStart f (law.0.starts g) in subst (λ (v : Option Kind). IsUnits st (claimed_by s (carried old path)) (newly_sent v x (who_heard s (readings path)))) (sym k) tt
    by_tag (Some t) g =
        let part = law.0.tagged t g in
        let source = (bam_way (way_of t.message) t.message t.part s d x y p (sym f ∙ part_says st e t (carried old path) part)).1 in
        let owned : claimed_by s (carried old path) ≡ Some t.message.name = subst (λ (v : ℕ). claimed_by v (carried old path) ≡ Some t.message.name) source part.owned in
        by_kind (kind_of p) owned part.unit (under (is_anchored s path) (owner_read s t.message.name old path own owned))
      where
        under : (b : Bool) → owner_heard s (readings path) ≡ (if b then Some t.message.name else None) → IsUnderNoOther t.message.name (who_heard s (readings path))
        under true o = rw o refl
        under false o = rw o tt

        by_kind : (k : Option Kind) → claimed_by s (carried old path) ≡ Some t.message.name → is_station st t.message.name ≡ false → IsUnderNoOther t.message.name (who_heard s (readings path)) → IsUnits st (claimed_by s (carried old path)) (newly_sent k x (who_heard s (readings path)))
        by_kind None owned unit u = tt
        by_kind (Some k) owned unit u = (t.message.name, owned, unit, u)

units_half : (st : List ℕ) (old : List Item) (path : List Reception) → Lawful st (carried old path) → NoneOwn path → (a : ℕ) → IsUnits st (claimed_by a (carried old path)) (between_heard a 255 (readings path))
units_half st old [] law own a = tt
units_half st old (Own e ∷ path) law own a = absurd own
units_half st old (Missed es ∷ path) law own a = tt
units_half st old (Received e ∷ path) law own a = by_frame (units_half st old path law.1 own a) (says e) refl
  where
    before : Option HalfSent
    before = between_heard a 255 (readings path)

    claimed : Option ℕ
    claimed = claimed_by a (carried old path)

    never : (t : Bool) → t && false ≡ true → ⊥
    never true h = cc
    never false h = cc

    by_frame : IsUnits st claimed before → (f : Group) → says e ≡ f → IsUnits st (owner_after a f claimed) (between_after a 255 f (who_heard a (readings path)) before)
    by_frame h (ConnectionManagement s d (Bam x y p)) g =
        units_if st claimed (newly_sent (kind_of p) x (who_heard a (readings path))) before (is_pair a 255 s d && 255 == 255)
        (λ i. let same : s ≡ a = true_test s a (and_parts (s == a) (d == 255) (and_parts (is_pair a 255 s d) (255 == 255) i).0).0 in
        subst (λ (v : ℕ). IsUnits st (claimed_by v (carried old path)) (newly_sent (kind_of p) x (who_heard v (readings path)))) same (units_start st e old path law own s d x y p g)) h
    by_frame h (ConnectionManagement s d (Rts x y z p)) g =
        units_if st claimed (newly_sent (kind_of p) x (who_heard a (readings path))) before (is_pair a 255 s d && not (255 == 255)) (λ i. absurd (never (is_pair a 255 s d) i)) h
    by_frame h (ConnectionManagement s d (Abort x p)) g =
        units_if st claimed None before ((is_pair a 255 s d || is_pair 255 a s d) && not (255 == 255)) (λ i. tt) h
    by_frame h (DataTransfer s d q) g =
        units_if st claimed (unfinished (with_packet q before)) before (is_pair a 255 s d) (λ i. units_packet st claimed q before h) h
    by_frame h (AddressClaimed s m) g = by_source (s == a)
      where
        by_source : (t : Bool) → IsUnits st (if t then Some m else claimed) (if t then kept_by_name m before else before)
        by_source true = units_claim st claimed m before h
        by_source false = h
    by_frame h f g = h

-- a station's packets end no unit's message
pub other_ends_none : (st : List ℕ) (e : Item) (old : List Item) (path : List Reception) → Lawful st (e ∷ carried old path) → NoneOwn path → e.tag ≡ None → sent_by (says e) (readings path) ≡ None
other_ends_none st e old path law own none = by_seat (is_station st e.name) refl
  where
    nothing : (c : Option ℕ) → c ≡ Some e.name → is_station st e.name ≡ true → (o : Option HalfSent) → IsUnits st c o → o ≡ None
    nothing c v station None h = refl
    nothing c v station (Some j) h = let n = h.1 in let same : e.name ≡ h.0 = cc in absurd (clash (ap (is_station st) same ∙ h.2))
      where
        clash : is_station st e.name ≡ false → ⊥
        clash k = cc

    by_frame : is_station st e.name ≡ true → (f : Group) → says e ≡ f → sent_by f (readings path) ≡ None
    by_frame station (Diagnostic k s q) f = absurd (subst IsNoStart f (law.0.starts none))
    by_frame station (DataTransfer s d q) f =
        let to : d ≡ 255 = subst IsNoStart f (law.0.starts none) in
        let v : claimed_by s (carried old path) ≡ Some e.name = subst (λ (g : Group). IsVoiced e.name g (carried old path)) f law.0.voiced in
        rw to (ap (λ (o : Option HalfSent). sent_whole 255 (with_packet q o)) (nothing (claimed_by s (carried old path)) v station (between_heard s 255 (readings path)) (units_half st old path law.1 own s)))
    by_frame station _ f = refl

    plain : (f : Group) → IsPlain f → sent_by f (readings path) ≡ None
    plain (Diagnostic k s q) h = absurd h
    plain (DataTransfer s d q) h = absurd h
    plain _ h = refl

    by_seat : (t : Bool) → is_station st e.name ≡ t → sent_by (says e) (readings path) ≡ None
    by_seat true i = by_frame i (says e) refl
    by_seat false i = plain (says e) (law.0.plain none i)
