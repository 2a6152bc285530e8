-- Back along a lawful wire, what a listener's readings say of a message in packets.
use Rattle.std.proofs.Common.{◌≡◌, ◌⊎◌, ℕ, suc, zero, ◌<◌, ◌≤◌, Bool, true, false, ◌&&◌, ◌||◌, ◌==◌, List, [], ◌∷◌, ◌++◌, length, Option, Some, None, if◌then◌else◌, sym, refl, ap, ◌∙◌, subst, inl, inr, arith, append_assoc}
use Rattle.dm_messages.specs.View.{pgn_of_kind}
use Rattle.parameter_group.specs.Group.{AddressClaimed, ConnectionManagement, DataTransfer, Group}
use Rattle.transport.specs.Pieces.{packet}
use Rattle.transport.specs.declared.control.Control.TheVariants.{Abort, Bam, Rts}
use Rattle.bus_model.specs.Expected.{Missed, Own, Received, Reception, is_anchored, passed, readings}
use Rattle.bus_model.specs.Heard.{kind_of, owner_heard}
use Rattle.bus_model.specs.Messages.{Broadcast, IsAmong, IsProper, Message, Session, Way, is_session, payload_sent, way_of}
use Rattle.bus_model.specs.Overheard.{HalfSent, between_after, between_heard, gaps_heard, is_pair, newly_sent, who_heard}
use Rattle.bus_model.specs.OverheardExpected.{NoneOwn, is_read_back}
use Rattle.bus_model.specs.Traffic.{Item, Tag, claimed_by, is_station, says}
use Rattle.bus_model.specs.declared.who.Who.{Who}
use Rattle.bus_model.proofs.Bridge.{count_of, session_destination, session_to}
use Rattle.bus_model.proofs.Lawful.{Allowed, IsNoStart, IsPlain, IsVoiced, Lawful, PartLaw, breaks, cast, group_at, is_cast, is_foreign, is_sess, sess, tag_of}
use Rattle.bus_model.proofs.Lookback.{Every, and_parts, ne_test, pick_cases, same_test, true_test}
use Rattle.bus_model.proofs.OverheardParts.{IsBystander, IsSoFar, begins, goes_on, stays}
use Rattle.bus_model.proofs.Path.{bam_way, cast_claimed, cast_unit, continues_is, dt_way, first_is_part, later_part, not_first, owner_step, to_all}
use Rattle.bus_model.proofs.SeatLaw.{IsBooked, Numbered}
use Rattle.bus_model.proofs.Seats.{part_says}
use Rattle.bus_model.proofs.Sessions.{break_foreign, continues_session, pack_way, rts_way, sess_claimed}

-- the frames carried up to the end of a path that began after the old ones
abbrev pub carried : List Item → List Reception → List Item
carried old [] = old
carried old (Own e ∷ path) = e ∷ carried old path
carried old (Received e ∷ path) = e ∷ carried old path
carried old (Missed es ∷ path) = es ++ carried old path

pub carried_is : (old : List Item) (path : List Reception) → carried old path ≡ passed path ++ old
carried_is old [] = refl
carried_is old (Own e ∷ path) = ap (λ (v : List Item). e ∷ v) (carried_is old path)
carried_is old (Received e ∷ path) = ap (λ (v : List Item). e ∷ v) (carried_is old path)
carried_is old (Missed es ∷ path) = ap (λ (v : List Item). es ++ v) (carried_is old path) ∙ sym (append_assoc es (passed path) old)

-- the owner of an address whose last claim was read, with nothing missed since
pub owner_read : (a n : ℕ) (old : List Item) (path : List Reception) → NoneOwn path → claimed_by a (carried old path) ≡ Some n → owner_heard a (readings path) ≡ (if is_anchored a path then Some n else None)
owner_read a n old [] own h = refl
owner_read a n old (Own e ∷ path) own h = absurd own
owner_read a n old (Missed es ∷ path) own h = refl
owner_read a n old (Received e ∷ path) own h = owner_step a n (says e) (claimed_by a (carried old path)) (owner_heard a (readings path)) (is_anchored a path) (owner_read a n old path own) h

-- no part of the message
abbrev pub IsNoPartOf : Message → Item → Type 0
IsNoPartOf m e = (t : Tag) → e.tag ≡ Some t → t.message ≡ m → ⊥

-- A walk back along the wire that finds the message's last part: its first part announces it, each later one is the next packet behind the part
-- before it, and what the walk passes over leaves it alone.
pub record IsTrack (st : List ℕ) (m : Message) (d : ℕ) (last : List Item → Option Tag) : Type 0 where
  pub first : (e : Item) (xs : List Item) → PartLaw st e (tag_of m 0) xs → (who : Who) (o : Option HalfSent)
      → between_after m.source d (says e) who o ≡ newly_sent (kind_of (pgn_of_kind m.kind)) (length (payload_sent m)) who
  pub next : (e : Item) (xs : List Item) (i : ℕ) → PartLaw st e (tag_of m (suc i)) xs
      → (says e ≡ DataTransfer m.source d (packet (payload_sent m) (suc i))) × (last xs ≡ Some (tag_of m i))
  pub back : (e : Item) (xs : List Item) (j : ℕ) → Allowed st e xs → Lawful st xs → last (e ∷ xs) ≡ Some (tag_of m j)
      → (e.tag ≡ Some (tag_of m j)) ⊎ ((last xs ≡ Some (tag_of m j)) × IsBystander m d (says e) × IsNoPartOf m e)

-- ---- broadcasts

-- a frame from the source that is tagged with no broadcast of the NAME neither announces one nor is a packet to all
cast_bystander : (st : List ℕ) (m : Message) (j : ℕ) (e : Item) (xs : List Item) → way_of m ≡ Broadcast → Allowed st e xs → Lawful st xs → cast m.name m.source xs ≡ Some (tag_of m j) → is_foreign m.name m.source (says e) ≡ false → is_cast m.name e.tag ≡ false → (f : Group) → says e ≡ f → IsBystander m 255 f
cast_bystander st m j e xs way allowed law c foreign notcast = by_frame
  where
    mine : claimed_by m.source xs ≡ Some m.name
    mine = cast_claimed st m j xs law c

    named : (s : ℕ) → s ≡ m.source → claimed_by s xs ≡ Some e.name → e.name ≡ m.name
    named s i v = let k : claimed_by m.source xs ≡ Some e.name = subst (λ (u : ℕ). claimed_by u xs ≡ Some e.name) i v in let l = mine in cc

    of_name : (t : Tag) → e.tag ≡ Some t → way_of t.message ≡ Broadcast → e.name ≡ m.name → ⊥
    of_name t g w same =
        let n : t.message.name ≡ m.name = sym (allowed.tagged t g).name ∙ same in
        let yes : is_cast m.name (Some t) ≡ true = rw (w, n, same_test m.name) refl in
        let nos : is_cast m.name (Some t) ≡ false = rw g at notcast in
        cc

    plain : e.tag ≡ None → e.name ≡ m.name → IsPlain (says e)
    plain g same = allowed.plain g (ap (is_station st) same ∙ cast_unit st m j xs law c)

    no_bam : (s d x y p : ℕ) → says e ≡ ConnectionManagement s d (Bam x y p) → s ≡ m.source → (tag : Option Tag) → e.tag ≡ tag → ⊥
    no_bam s d x y p f i tag g = by_tag tag g (named s i (subst (λ (v : Group). IsVoiced e.name v xs) f allowed.voiced))
      where
        by_tag : (tag : Option Tag) → e.tag ≡ tag → e.name ≡ m.name → ⊥
        by_tag None g n = subst IsPlain f (plain g n)
        by_tag (Some t) g n = of_name t g (bam_way (way_of t.message) t.message t.part s d x y p (sym f ∙ part_says st e t xs (allowed.tagged t g))).0 n

    no_packet : (s d : ℕ) (q : List ℕ) → says e ≡ DataTransfer s d q → s ≡ m.source → d ≡ 255 → (tag : Option Tag) → e.tag ≡ tag → ⊥
    no_packet s d q f i k tag g = by_tag tag g (named s i (subst (λ (v : Group). IsVoiced e.name v xs) f allowed.voiced))
      where
        by_tag : (tag : Option Tag) → e.tag ≡ tag → e.name ≡ m.name → ⊥
        by_tag None g n = subst IsPlain f (plain g n)
        by_tag (Some t) g n =
            let p = allowed.tagged t g in
            of_name t g (dt_way (way_of t.message) t.message t.part s d q (λ b w. session_to t.message b p.proper w) k (sym f ∙ part_says st e t xs p)).0 n

    no_session : (t : Bool) → t && false ≡ false
    no_session true = refl
    no_session false = refl

    by_frame : (f : Group) → says e ≡ f → IsBystander m 255 f
    by_frame (AddressClaimed s n) g = subst (λ (v : Group). is_foreign m.name m.source v ≡ false) g foreign
    by_frame (ConnectionManagement s d (Abort x p)) g = rw (to_all m way) (no_session (is_pair m.source 255 s d || is_pair 255 m.source s d))
    by_frame (ConnectionManagement s d (Bam x y p)) g = λ who o. rw (other (is_pair m.source 255 s d) refl) refl
      where
        other : (t : Bool) → is_pair m.source 255 s d ≡ t → t ≡ false
        other false i = refl
        other true i = absurd (no_bam s d x y p g (true_test s m.source (and_parts (s == m.source) (d == 255) i).0) e.tag refl)
    by_frame (ConnectionManagement s d (Rts x y z p)) g = λ who o. rw (no_session (is_pair m.source 255 s d)) refl
    by_frame (DataTransfer s d q) g = λ who o. rw (other (is_pair m.source 255 s d) refl) refl
      where
        other : (t : Bool) → is_pair m.source 255 s d ≡ t → t ≡ false
        other false i = refl
        other true i =
            let k = and_parts (s == m.source) (d == 255) i in
            absurd (no_packet s d q g (true_test s m.source k.0) (true_test d 255 k.1) e.tag refl)
    by_frame f g = λ who o. refl

pub cast_track : (st : List ℕ) (m : Message) → way_of m ≡ Broadcast → IsTrack st m 255 (cast m.name m.source)
cast_track st m w = record {
  first = λ e xs p who o.
      let f : says e ≡ group_at Broadcast m 0 = part_says st e (tag_of m 0) xs p ∙ ap (λ (v : Way). group_at v m 0) w in
      rw (f, same_test m.source) refl;
  next = λ e xs i p. (part_says st e (tag_of m (suc i)) xs p ∙ ap (λ (v : Way). group_at v m (suc i)) w, continues_is st (way_of m) xs m i w p.joined);
  back = λ e xs j allowed law c.
      elim (pick_cases (is_foreign m.name m.source (says e)) None (if is_cast m.name e.tag then e.tag else cast m.name m.source xs) (Some (tag_of m j)) c) [
        | inl v ↦ cc v.1
        | inr v ↦ (elim (pick_cases (is_cast m.name e.tag) e.tag (cast m.name m.source xs) (Some (tag_of m j)) v.1) [
          | inl u ↦ inl u.1
          | inr u ↦ inr (u.1, cast_bystander st m j e xs w allowed law u.1 v.0 u.0 (says e) refl, not_of e u.0)
        ])
      ];
}
  where
    not_of : (e : Item) → is_cast m.name e.tag ≡ false → IsNoPartOf m e
    not_of e h t g same =
        let yes : is_cast m.name (Some t) ≡ true = rw (same, same_test m.name, w) refl in
        let nos : is_cast m.name (Some t) ≡ false = rw g at h in
        cc

-- ---- sessions

session_bystander : (st : List ℕ) (m : Message) (d j : ℕ) (e : Item) (xs : List Item) → IsProper m → way_of m ≡ Session d → Allowed st e xs → Lawful st xs → sess m.name m.source d xs ≡ Some (tag_of m j) → breaks m.name m.source d e.name (says e) ≡ false → is_sess m.name e.tag ≡ false → (f : Group) → says e ≡ f → IsBystander m d f
session_bystander st m d j e xs ok way allowed law c unbroken notsess = by_frame
  where
    mine : claimed_by m.source xs ≡ Some m.name
    mine = sess_claimed st m d j xs law c

    small : d ≤ 253
    small = session_to m d ok way

    to_one : (d == 255) ≡ false
    to_one = ne_test d 255 (let l = small in omega arith)

    of_name : (t : Tag) → e.tag ≡ Some t → is_session (way_of t.message) ≡ true → t.message.source ≡ m.source → ⊥
    of_name t g w s =
        let o : claimed_by m.source xs ≡ Some t.message.name = subst (λ (v : ℕ). claimed_by v xs ≡ Some t.message.name) s (allowed.tagged t g).owned in
        let n : t.message.name ≡ m.name = (let i = mine in cc) in
        let yes : is_sess m.name (Some t) ≡ true = rw (w, n, same_test m.name) refl in
        let nos : is_sess m.name (Some t) ≡ false = rw g at notsess in
        cc

    no_rts : (s a x y z k : ℕ) → says e ≡ ConnectionManagement s a (Rts x y z k) → s ≡ m.source → (tag : Option Tag) → e.tag ≡ tag → ⊥
    no_rts s a x y z k f i None g = subst IsNoStart f (allowed.starts g)
    no_rts s a x y z k f i (Some t) g =
        let w = rts_way (way_of t.message) t.message t.part s a x y z k (sym f ∙ part_says st e t xs (allowed.tagged t g)) in
        of_name t g w.0 (w.1 ∙ i)

    no_packet : (s a : ℕ) (q : List ℕ) → a ≡ d → says e ≡ DataTransfer s a q → s ≡ m.source → (tag : Option Tag) → e.tag ≡ tag → ⊥
    no_packet s a q same f i None g = let k : a ≡ 255 = subst IsNoStart f (allowed.starts g) in let l = small in absurd (omega arith)
    no_packet s a q same f i (Some t) g =
        let le : a ≤ 253 = subst (λ (v : ℕ). v ≤ 253) (sym same) small in
        let w = pack_way (way_of t.message) t.message t.part s a q le (sym f ∙ part_says st e t xs (allowed.tagged t g)) in
        of_name t g w.0 (w.1 ∙ i)

    -- who sends it does not abort it, or the walk had stopped
    no_own_abort : (s a x p : ℕ) → says e ≡ ConnectionManagement s a (Abort x p) → (s == m.source && a == d) ≡ true → ⊥
    no_own_abort s a x p g i =
        let k = and_parts (s == m.source) (a == d) i in
        let voice : claimed_by s xs ≡ Some e.name = subst (λ (v : Group). IsVoiced e.name v xs) g allowed.voiced in
        let name : e.name ≡ m.name = (let q = mine in let v : claimed_by m.source xs ≡ Some e.name = subst (λ (u : ℕ). claimed_by u xs ≡ Some e.name) (true_test s m.source k.0) voice in cc) in
        let b : breaks m.name m.source d e.name (ConnectionManagement s a (Abort x p)) ≡ false = subst (λ (v : Group). breaks m.name m.source d e.name v ≡ false) g unbroken in
        let q : (true && (true && true)) ≡ false = rw (name, same_test m.name, k.0, k.1) at b in
        cc

    by_frame : (f : Group) → says e ≡ f → IsBystander m d f
    by_frame (AddressClaimed s n) g = subst (λ (v : Group). is_foreign m.name m.source v ≡ false) g (break_foreign m.name m.source d e.name (says e) unbroken)
    by_frame (ConnectionManagement s a (Abort x p)) g =
        rw ((session_destination m d way).0, to_one) (by_pair (s == m.source && a == d) refl (s == d && a == m.source))
      where
        by_pair : (t : Bool) → (s == m.source && a == d) ≡ t → (u : Bool) → ((t || u) && true) ≡ u
        by_pair true i u = absurd (no_own_abort s a x p g i)
        by_pair false i true = refl
        by_pair false i false = refl
    by_frame (ConnectionManagement s a (Bam x y p)) g = λ who o. rw (to_one, never (is_pair m.source d s a)) refl
      where
        never : (t : Bool) → t && false ≡ false
        never false = refl
        never true = refl
    by_frame (ConnectionManagement s a (Rts x y z p)) g = λ who o. rw (other (is_pair m.source d s a) refl) refl
      where
        other : (t : Bool) → is_pair m.source d s a ≡ t → t ≡ false
        other false i = refl
        other true i = absurd (no_rts s a x y z p g (true_test s m.source (and_parts (s == m.source) (a == d) i).0) e.tag refl)
    by_frame (DataTransfer s a q) g = λ who o. rw (other (is_pair m.source d s a) refl) refl
      where
        other : (t : Bool) → is_pair m.source d s a ≡ t → t ≡ false
        other false i = refl
        other true i =
            let k = and_parts (s == m.source) (a == d) i in
            absurd (no_packet s a q (true_test a d k.1) g (true_test s m.source k.0) e.tag refl)
    by_frame f g = λ who o. refl

pub session_track : (st : List ℕ) (m : Message) (d : ℕ) → IsProper m → way_of m ≡ Session d → IsTrack st m d (sess m.name m.source d)
session_track st m d ok w = record {
  first = λ e xs p who o.
      let f : says e ≡ group_at (Session d) m 0 = part_says st e (tag_of m 0) xs p ∙ ap (λ (v : Way). group_at v m 0) w in
      let to : (d == 255) ≡ false = (let s = session_to m d ok w in ne_test d 255 (omega arith)) in
      rw (f, same_test m.source, same_test d, to) refl;
  next = λ e xs i p. (part_says st e (tag_of m (suc i)) xs p ∙ ap (λ (v : Way). group_at v m (suc i)) w, continues_session st (way_of m) xs m d i w p.joined);
  back = λ e xs j allowed law c.
      elim (pick_cases (breaks m.name m.source d e.name (says e)) None (if is_sess m.name e.tag then e.tag else sess m.name m.source d xs) (Some (tag_of m j)) c) [
        | inl v ↦ cc v.1
        | inr v ↦ (elim (pick_cases (is_sess m.name e.tag) e.tag (sess m.name m.source d xs) (Some (tag_of m j)) v.1) [
          | inl u ↦ inl u.1
          | inr u ↦ inr (u.1, session_bystander st m d j e xs ok w allowed law u.1 v.0 u.0 (says e) refl, not_of e u.0)
        ])
      ];
}
  where
    not_of : (e : Item) → is_sess m.name e.tag ≡ false → IsNoPartOf m e
    not_of e h t g same =
        let yes : is_sess m.name (Some t) ≡ true = rw (same, same_test m.name, w) refl in
        let nos : is_sess m.name (Some t) ≡ false = rw g at h in
        cc

-- ---- the walk

-- the part itself
part_read : (st : List ℕ) (m : Message) (d : ℕ) (last : List Item → Option Tag) → IsTrack st m d last → 0 < count_of m → (j : ℕ) (e : Item) (old : List Item) (path : List Reception) → NoneOwn path → j ≤ count_of m → PartLaw st e (tag_of m j) (carried old path) → e.tag ≡ Some (tag_of m j)
    → ((i : ℕ) → i ≤ count_of m → last (carried old path) ≡ Some (tag_of m i) → IsSoFar m i (is_read_back m path) (between_heard m.source d (readings path)))
    → IsSoFar m j (is_read_back m (Received e ∷ path)) (between_heard m.source d (readings (Received e ∷ path)))
part_read st m d last track some zero e old path own le p tag before =
    rw (first_is_part m e.tag tag, track.first e (carried old path) p (who_heard m.source (readings path)) (between_heard m.source d (readings path)), owner_read m.source m.name old path own p.owned)
    (begins m (is_anchored m.source path) m.source (gaps_heard (readings path)) some)
part_read st m d last track some (suc i) e old path own le p tag before =
    let n = track.next e (carried old path) i p in
    rw (later_part m i e.tag tag, n.0, same_test m.source, same_test d)
    (goes_on m i (is_read_back m path) (between_heard m.source d (readings path)) (omega arith) (before i (omega arith) n.1))

-- back from part j: what the listener has half sent
pub so_far_read : (st : List ℕ) (begun : List Message) (m : Message) (d : ℕ) (last : List Item → Option Tag) → IsTrack st m d last → 0 < count_of m → Numbered begun → IsAmong m begun → (old : List Item) (path : List Reception) → NoneOwn path → Lawful st (carried old path) → Every (IsBooked begun) (carried old path)
    → (j : ℕ) → j ≤ count_of m → last (carried old path) ≡ Some (tag_of m j) → IsSoFar m j (is_read_back m path) (between_heard m.source d (readings path))
so_far_read st begun m d last track some num among old [] own law booked j le h = inl (refl, refl)
so_far_read st begun m d last track some num among old (Own e ∷ path) own law booked j le h = absurd own
so_far_read st begun m d last track some num among old (Missed es ∷ path) own law booked j le h = inl (refl, refl)
so_far_read st begun m d last track some num among old (Received e ∷ path) own law booked j le h =
    elim (track.back e (carried old path) j law.0 law.1 h) [
      | inl tag ↦ part_read st m d last track some j e old path own le (law.0.tagged (tag_of m j) tag) tag (so_far_read st begun m d last track some num among old path own law.1 booked.1)
      | inr other ↦
          rw (not_first begun m e num among booked.0 other.2)
          (stays m j d (says e) (who_heard m.source (readings path)) (is_read_back m path) (between_heard m.source d (readings path)) other.1
          (so_far_read st begun m d last track some num among old path own law.1 booked.1 j le other.0))
    ]
