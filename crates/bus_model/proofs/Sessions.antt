-- What the station has half joined of sessions, reading by reading.
use Rattle.std.proofs.Common.{◌≡◌, ◌≢◌, ℕ, suc, zero, ◌<◌, ◌≤◌, Bool, true, false, not, ◌&&◌, ◌==◌, List, [], ◌∷◌, ◌++◌, length, drop, Option, Some, None, if◌then◌else◌, sym, refl, ap, ◌∙◌, subst, inl, inr, arith}
use Rattle.address_claim.specs.Claiming.{is_held, CanHold}
use Rattle.can_frame.specs.declared.reading.Reading.{Reading}
use Rattle.can_frame.specs.declared.reading.Reading.TheVariants.{Empty, Frame, Gap}
use Rattle.dm_messages.specs.View.{pgn_of_kind}
use Rattle.dm_messages.specs.declared.kind.Kind.{Kind}
use Rattle.parameter_group.specs.Group.{Acknowledgment, AddressClaimed, CannotClaim, ConnectionManagement, DataTransfer, Diagnostic, Group, Other, Request, group_of}
use Rattle.transport.specs.Assembling.{is_next}
use Rattle.transport.specs.Pieces.{packet}
use Rattle.transport.specs.declared.control.Control.TheVariants.{Abort, Bam, Cts, EndAck, Rts}
use Rattle.bus_model.specs.Expected.{Missed, Own, Received, Reception, is_anchored, is_for, is_part, is_unbroken, passed, readings}
use Rattle.reassembly.specs.Partials.{is_whole, unfinished, with_packet}
use Rattle.parameter_group.specs.Calm.{is_contest}
use Rattle.bus_model.specs.Heard.{Joining, StationSettings, address_heard, is_kind, kept_by_owner, kind_of, or_else, owner_heard, session_after, session_heard, started, without_kind}
use Rattle.bus_model.specs.Machine.{IsFit}
use Rattle.bus_model.specs.Messages.{Broadcast, IsAmong, IsProper, Message, One, Session, Way, is_session, last_part_of, payload_sent, way_of}
use Rattle.bus_model.specs.Traffic.{Item, Tag, claimed_by, owner_after, says}
use Rattle.bus_model.proofs.Bridge.{address_hold, address_read, count_of, many_last, session_destination}
use Rattle.bus_model.proofs.Lawful.{Allowed, Continues, IsNoStart, IsVoiced, Lawful, PartLaw, breaks, group_at, is_foreign, is_sess, sess, tag_of}
use Rattle.bus_model.proofs.Lookback.{Every, and_parts, held_is, ne_test, or_parts, pick_cases, same_test, true_test}
use Rattle.bus_model.proofs.Path.{IsStations, Marked, claim_keeps, first_is_part, first_unbroken, half, half_open, kept, later_part, next_piece, not_first, owner_anchored, started_half}
use Rattle.bus_model.proofs.Seats.{part_says, swap_test}
use Rattle.bus_model.proofs.SeatLaw.{IsBooked, Numbered}

pub break_foreign : (n a d by : ℕ) (f : Group) → breaks n a d by f ≡ false → is_foreign n a f ≡ false
break_foreign n a d by (AddressClaimed s m) h = (or_parts (s == a && not (m == n)) (s == d) h).0
break_foreign n a d by _ h = refl

-- while a session may go on, its source is claimed by its NAME
pub sess_claimed : (st : List ℕ) (m : Message) (d j : ℕ) (xs : List Item) → Lawful st xs → sess m.name m.source d xs ≡ Some (tag_of m j) → claimed_by m.source xs ≡ Some m.name
sess_claimed st m d j [] law h = cc
sess_claimed st m d j (e ∷ xs) law h =
    elim (pick_cases (breaks m.name m.source d e.name (says e)) None (if is_sess m.name e.tag then e.tag else sess m.name m.source d xs) (Some (tag_of m j)) h) [
      | inl w ↦ cc w.1
      | inr w ↦
          claim_keeps m.name m.source (says e) (claimed_by m.source xs) (break_foreign m.name m.source d e.name (says e) w.0)
          (elim (pick_cases (is_sess m.name e.tag) e.tag (sess m.name m.source d xs) (Some (tag_of m j)) w.1) [
            | inl v ↦ (law.0.tagged (tag_of m j) v.1).owned
            | inr v ↦ sess_claimed st m d j xs law.1 v.1
          ])
    ]

pub continues_session : (st : List ℕ) (w : Way) (older : List Item) (m : Message) (d i : ℕ) → w ≡ Session d → Continues st w older m (suc i) → sess m.name m.source d older ≡ Some (tag_of m i)
continues_session st One older m d i e h = cc
continues_session st Broadcast older m d i e h = cc
continues_session st (Session b) older m d i e h = let g : b ≡ d = cc in subst (λ (v : ℕ). sess m.name m.source v older ≡ Some (tag_of m i)) g h

pub rts_way : (w : Way) (x : Message) (p : ℕ) (s d a b c k : ℕ) → ConnectionManagement s d (Rts a b c k) ≡ group_at w x p → (is_session w ≡ true) × (x.source ≡ s)
rts_way One x p s d a b c k h = cc
rts_way Broadcast x zero s d a b c k h = cc
rts_way Broadcast x (suc p) s d a b c k h = cc
rts_way (Session e) x zero s d a b c k h = (refl, cc)
rts_way (Session e) x (suc p) s d a b c k h = cc

pub pack_way : (w : Way) (x : Message) (p : ℕ) (s d : ℕ) (q : List ℕ) → d ≤ 253 → DataTransfer s d q ≡ group_at w x p → (is_session w ≡ true) × (x.source ≡ s)
pack_way One x p s d q le h = cc
pack_way Broadcast x zero s d q le h = cc
pack_way Broadcast x (suc p) s d q le h = let i : d ≡ 255 = cc in absurd (omega arith)
pack_way (Session e) x zero s d q le h = cc
pack_way (Session e) x (suc p) s d q le h = (refl, cc)

-- a session's part that may go on, and the path back to it: where that is unbroken, the station has the
-- destination's address; and where it has that address, it has joined just the parts so far
pub record SessionAt (r : StationSettings) (path : List Reception) (m : Message) (d j : ℕ) : Type 0 where
  pub held : is_unbroken r m path ≡ true → address_heard r (readings path) ≡ Some d
  pub joined : address_heard r (readings path) ≡ Some d → session_heard r m.source (readings path) ≡ half m j (is_unbroken r m path)

abbrev pub SessionsLaw : StationSettings → List Reception → Type 0
SessionsLaw r path = (m : Message) (d j : ℕ) → (way_of m) ≡ Session d → sess m.name m.source d (passed path) ≡ Some (tag_of m j) → SessionAt r path m d j

-- the frame of another neither starts nor goes on nor drops the session
pub skip_session : (r : StationSettings) (st : List ℕ) (m : Message) (d j : ℕ) (e : Item) (xs : List Item) (held own : Option ℕ) (b : Bool) → CanHold held → Allowed st e xs → Lawful st xs → sess m.name m.source d xs ≡ Some (tag_of m j) → (b ≡ true → held ≡ Some d) → breaks m.name m.source d e.name (says e) ≡ false → is_sess m.name e.tag ≡ false → session_after r.name m.source (says e) held own (half m j b) ≡ half m j b
skip_session r st m d j e xs held own b can allowed law c at unbroke notsess = by_frame (says e) refl
  where
    mine : claimed_by m.source xs ≡ Some m.name
    mine = sess_claimed st m d j xs law c

    of_name : (t : Tag) → e.tag ≡ Some t → is_session (way_of t.message) ≡ true → t.message.source ≡ m.source → ⊥
    of_name t g w s =
        let p = allowed.tagged t g in
        let o : claimed_by m.source xs ≡ Some t.message.name = subst (λ (v : ℕ). claimed_by v xs ≡ Some t.message.name) s p.owned in
        let n : t.message.name ≡ m.name = (let i = mine in cc) in
        let yes : is_sess m.name (Some t) ≡ true = rw (w, n, same_test m.name) refl in
        let nos : is_sess m.name (Some t) ≡ false = rw g at notsess in
        cc

    no_rts : (s a x y z k : ℕ) (tag : Option Tag) → e.tag ≡ tag → says e ≡ ConnectionManagement s a (Rts x y z k) → s ≡ m.source → ⊥
    no_rts s a x y z k None g f i = subst IsNoStart f (allowed.starts g)
    no_rts s a x y z k (Some t) g f i =
        let w = rts_way (way_of t.message) t.message t.part s a x y z k (sym f ∙ part_says st e t xs (allowed.tagged t g)) in
        of_name t g w.0 (w.1 ∙ i)

    no_pack : (s a : ℕ) (q : List ℕ) (tag : Option Tag) → a ≤ 253 → e.tag ≡ tag → says e ≡ DataTransfer s a q → s ≡ m.source → ⊥
    no_pack s a q None le g f i = let k : a ≡ 255 = subst IsNoStart f (allowed.starts g) in absurd (omega arith)
    no_pack s a q (Some t) le g f i =
        let w = pack_way (way_of t.message) t.message t.part s a q le (sym f ∙ part_says st e t xs (allowed.tagged t g)) in
        of_name t g w.0 (w.1 ∙ i)

    by_claim : (s n : ℕ) → breaks m.name m.source d e.name (AddressClaimed s n) ≡ false → session_after r.name m.source (AddressClaimed s n) held own (half m j b) ≡ half m j b
    by_claim s n h = go b at
      where
        p : ((s == m.source && not (n == m.name)) ≡ false) × ((s == d) ≡ false)
        p = or_parts (s == m.source && not (n == m.name)) (s == d) h

        go : (b : Bool) → (b ≡ true → held ≡ Some d) → session_after r.name m.source (AddressClaimed s n) held own (half m j b) ≡ half m j b
        go true at =
            let i : is_held held s ≡ false = (let q = at refl in rw q (swap_test d s ∙ p.1)) in
            rw i (kept m j n true (s == m.source) (n == m.name) refl p.0)
        go false at = none (is_contest r.name held (AddressClaimed s n)) (s == m.source)
          where
            none : (t u : Bool) → (if t then None else (if u then kept_by_owner n None else None)) ≡ half m j false
            none true u = refl
            none false true = refl
            none false false = refl

    by_abort : (s a x p : ℕ) → says e ≡ ConnectionManagement s a (Abort x p) → breaks m.name m.source d e.name (ConnectionManagement s a (Abort x p)) ≡ false → session_after r.name m.source (ConnectionManagement s a (Abort x p)) held own (half m j b) ≡ half m j b
    by_abort s a x p g h = test (s == m.source) refl
      where
        test : (t : Bool) → (s == m.source) ≡ t → (if t && is_held held a then without_kind (kind_of p) (half m j b) else half m j b) ≡ half m j b
        test false i = refl
        test true i = go b at
          where
            same : s ≡ m.source
            same = true_test s m.source i

            voice : claimed_by s xs ≡ Some e.name
            voice = subst (λ (v : Group). IsVoiced e.name v xs) g allowed.voiced

            name : e.name ≡ m.name
            name = let q = mine in let v : claimed_by m.source xs ≡ Some e.name = subst (λ (u : ℕ). claimed_by u xs ≡ Some e.name) same voice in cc

            away : (a == d) ≡ false
            away = let q : (true && (true && (a == d))) ≡ false = rw (name, same_test m.name, i) at h in q

            go : (b : Bool) → (b ≡ true → held ≡ Some d) → (if true && is_held held a then without_kind (kind_of p) (half m j b) else half m j b) ≡ half m j b
            go true at =
                let q = at refl in
                let f : is_held held a ≡ false = rw q (swap_test d a ∙ away) in
                rw f refl
            go false at = none (is_held held a)
              where
                none : (t : Bool) → (if t then without_kind (kind_of p) None else None) ≡ half m j false
                none true = refl
                none false = refl

    held_small : (a : ℕ) → is_held held a ≡ true → a ≤ 253
    held_small a h = by_held held can h
      where
        by_held : (o : Option ℕ) → CanHold o → is_held o a ≡ true → a ≤ 253
        by_held None c g = cc
        by_held (Some b) c g = subst (λ (v : ℕ). v ≤ 253) (true_test b a g) c

    by_frame : (f : Group) → says e ≡ f → session_after r.name m.source f held own (half m j b) ≡ half m j b
    by_frame (AddressClaimed s n) g = by_claim s n (subst (λ (v : Group). breaks m.name m.source d e.name v ≡ false) g unbroke)
    by_frame (ConnectionManagement s a (Rts x y z k)) g = test (s == m.source && is_held held a) refl
      where
        test : (t : Bool) → (s == m.source && is_held held a) ≡ t → (if t then or_else (started (kind_of k) x own) (half m j b) else half m j b) ≡ half m j b
        test false i = refl
        test true i = absurd (no_rts s a x y z k e.tag refl g (true_test s m.source (and_parts (s == m.source) (is_held held a) i).0))
    by_frame (DataTransfer s a q) g = test (s == m.source && is_held held a) refl
      where
        test : (t : Bool) → (s == m.source && is_held held a) ≡ t → (if t then unfinished (with_packet q (half m j b)) else half m j b) ≡ half m j b
        test false i = refl
        test true i = (let k = and_parts (s == m.source) (is_held held a) i in absurd (no_pack s a q e.tag (held_small a k.1) refl g (true_test s m.source k.0)))
    by_frame (ConnectionManagement s a (Abort x p)) g = by_abort s a x p g (subst (λ (v : Group). breaks m.name m.source d e.name v ≡ false) g unbroke)
    by_frame _ g = refl

-- what does not break the session does not contest the station's address
pub unbreaking : (me n a d by : ℕ) (f : Group) (held : Option ℕ) → breaks n a d by f ≡ false → held ≡ Some d → is_contest me held f ≡ false
unbreaking me n a d by (AddressClaimed s m) held h e =
    let p = or_parts (s == a && not (m == n)) (s == d) h in
    let i : is_held held s ≡ false = rw e (swap_test d s ∙ p.1) in
    rw i refl
unbreaking me n a d by _ held h e = refl

-- nor does a part of a message
pub part_uncontested : (me : ℕ) (held : Option ℕ) (w : Way) (m : Message) (j : ℕ) → is_contest me held (group_at w m j) ≡ false
part_uncontested me held One m j = refl
part_uncontested me held Broadcast m zero = refl
part_uncontested me held Broadcast m (suc j) = refl
part_uncontested me held (Session d) m zero = refl
part_uncontested me held (Session d) m (suc j) = refl

-- so the station stays at its address
pub address_part : (r : StationSettings) (st : List ℕ) (e : Item) (m : Message) (j : ℕ) (path : List Reception) → PartLaw st e (tag_of m j) (passed path) → address_heard r (readings (Received e ∷ path)) ≡ address_heard r (readings path)
address_part r st e m j path p =
    address_read r e.frame (readings path) (ap (is_contest r.name (address_heard r (readings path))) (part_says st e (tag_of m j) (passed path) p) ∙ part_uncontested r.name (address_heard r (readings path)) (way_of m) m j)

-- a piece of the session
pub piece_joined : (m : Message) (d i : ℕ) (held : Option ℕ) (b : Bool) → IsProper m → way_of m ≢ One → i < count_of m → (b ≡ true → held ≡ Some d) → (if true && is_held held d then unfinished (with_packet (packet (payload_sent m) (suc i)) (half m i b)) else half m i b) ≡ half m (suc i) b
piece_joined m d i held true ok w l at = let q = at refl in rw (q, same_test d) (ap unfinished (next_piece m i true ok w l))
piece_joined m d i held false ok w l at = none (is_held held d)
  where
    none : (t : Bool) → (if true && t then unfinished (with_packet (packet (payload_sent m) (suc i)) None) else None) ≡ half m (suc i) false
    none true = refl
    none false = refl

pub no_one : (m : Message) (d : ℕ) → way_of m ≡ Session d → way_of m ≢ One
no_one m d w h = let e : Session d ≡ One = sym w ∙ h in cc

pub or_started : (m : Message) (b : Bool) (before : Option Joining) → 0 < count_of m → (b ≡ false → before ≡ None) → or_else (half m 0 b) before ≡ half m 0 b
or_started m true before l none = rw (half_open m 0 l) refl
or_started m false before l none = none refl

-- what is half joined from an address belongs to its owner
pub session_after_owned : (me a : ℕ) (g : Group) (held own : Option ℕ) (before : Option Joining) → ((j : Joining) → before ≡ Some j → own ≡ Some j.tag.owner) → (j : Joining) → session_after me a g held own before ≡ Some j → owner_after a g own ≡ Some j.tag.owner
session_after_owned me a (AddressClaimed s n) held own before ih j h =
    elim (pick_cases (is_contest me held (AddressClaimed s n)) None (if s == a then kept_by_owner n before else before) (Some j) h) [
      | inl v ↦ cc v.1
      | inr v ↦
          elim (pick_cases (s == a) (kept_by_owner n before) before (Some j) v.1) [
            | inl u ↦ rw (u.0) (keep before u.1)
            | inr u ↦ rw (u.0) (ih j u.1)
          ]
    ]
  where
    keep : (o : Option Joining) → kept_by_owner n o ≡ Some j → Some n ≡ Some j.tag.owner
    keep None e = cc
    keep (Some b) e =
        elim (pick_cases (n == b.tag.owner) (Some b) None (Some j) e) [
          | inl w ↦ (let q : b ≡ j = cc in ap Some (true_test n b.tag.owner w.0 ∙ ap (λ (v : Joining). v.tag.owner) q))
          | inr w ↦ cc w.1
        ]
session_after_owned me a (ConnectionManagement s d (Rts x y z p)) held own before ih j h =
    elim (pick_cases (s == a && is_held held d) (or_else (started (kind_of p) x own) before) before (Some j) h) [
      | inl v ↦ start (kind_of p) own refl v.1
      | inr v ↦ ih j v.1
    ]
  where
    start : (k : Option Kind) (o : Option ℕ) → own ≡ o → or_else (started k x o) before ≡ Some j → own ≡ Some j.tag.owner
    start None o e g = ih j g
    start (Some k) None e g = ih j g
    start (Some k) (Some n) e g =
        let q : ◌≡◌ {A = Joining} (record { tag = record { owner = n; kind = k }; size = x; pieces = [] }) j = cc in
        e ∙ ap (λ (v : Joining). Some v.tag.owner) q
session_after_owned me a (ConnectionManagement s d (Abort x p)) held own before ih j h =
    elim (pick_cases (s == a && is_held held d) (without_kind (kind_of p) before) before (Some j) h) [
      | inl v ↦ drops before refl v.1
      | inr v ↦ ih j v.1
    ]
  where
    drops : (o : Option Joining) → before ≡ o → without_kind (kind_of p) o ≡ Some j → own ≡ Some j.tag.owner
    drops None i e = cc
    drops (Some b) i e =
        elim (pick_cases (is_kind b.tag.kind (kind_of p)) None (Some b) (Some j) e) [
          | inl w ↦ cc w.1
          | inr w ↦ ih j (i ∙ w.1)
        ]
session_after_owned me a (DataTransfer s d q) held own before ih j h =
    elim (pick_cases (s == a && is_held held d) (unfinished (with_packet q before)) before (Some j) h) [
      | inl v ↦ more before refl v.1
      | inr v ↦ ih j v.1
    ]
  where
    more : (o : Option Joining) → before ≡ o → unfinished (with_packet q o) ≡ Some j → own ≡ Some j.tag.owner
    more None i e = cc
    more (Some b) i e = next (is_next b.size b.pieces q) e
      where
        grew : Joining
        grew = record b { pieces = b.pieces ++ drop 1 q ∷ [] }

        next : (t : Bool) → unfinished (if t then Some (record b { pieces = b.pieces ++ drop 1 q ∷ [] }) else None) ≡ Some j → own ≡ Some j.tag.owner
        next false e = cc
        next true e =
            elim (pick_cases (is_whole (record b { pieces = b.pieces ++ drop 1 q ∷ [] })) None (Some (record b { pieces = b.pieces ++ drop 1 q ∷ [] })) (Some j) e) [
              | inl w ↦ cc w.1
              | inr w ↦ (let g : ◌≡◌ {A = Joining} (record b { pieces = b.pieces ++ drop 1 q ∷ [] }) j = cc in ih b i ∙ ap (λ (v : Joining). Some v.tag.owner) g)
            ]
session_after_owned me a (ConnectionManagement s d (Bam x y p)) held own before ih j h = ih j h
session_after_owned me a (ConnectionManagement s d (Cts x y p)) held own before ih j h = ih j h
session_after_owned me a (ConnectionManagement s d (EndAck x y p)) held own before ih j h = ih j h
session_after_owned me a (CannotClaim n) held own before ih j h = ih j h
session_after_owned me a (Request p d s) held own before ih j h = ih j h
session_after_owned me a (Acknowledgment c q p d s) held own before ih j h = ih j h
session_after_owned me a (Diagnostic k s q) held own before ih j h = ih j h
session_after_owned me a Other held own before ih j h = ih j h

pub session_owned : (r : StationSettings) (a : ℕ) (rs : List Reading) (j : Joining) → session_heard r a rs ≡ Some j → owner_heard a rs ≡ Some j.tag.owner
session_owned r a [] j h = cc
session_owned r a (Gap n ∷ rs) j h = cc
session_owned r a (Empty ∷ rs) j h = session_owned r a rs j h
session_owned r a (Frame f ∷ rs) j h = session_after_owned r.name a (group_of f) (address_heard r rs) (owner_heard a rs) (session_heard r a rs) (session_owned r a rs) j h

-- a contest drops all sessions
contest_drops : (me a : ℕ) (g : Group) (held own : Option ℕ) (before : Option Joining) → is_contest me held g ≡ true → session_after me a g held own before ≡ None
contest_drops me a (AddressClaimed s n) held own before h = rw h refl
contest_drops me a _ held own before h = cc

for_session : (held : Option ℕ) (m : Message) (d : ℕ) → way_of m ≡ Session d → is_for held m ≡ is_held held d
for_session held m d w =
    let q = session_destination m d w in
    let no : (d == 255) ≡ false = ne_test d 255 q.1 in
    rw (q.0, no) refl

-- a part of the session is read
pub session_part : (r : StationSettings) (st : List ℕ) (m : Message) (d j : ℕ) (e : Item) (path : List Reception) → Marked r.name path → e.name ≢ r.name → way_of m ≡ Session d → PartLaw st e (tag_of m j) (passed path) → e.tag ≡ Some (tag_of m j) → SessionsLaw r path → SessionAt r (Received e ∷ path) m d j
session_part r st m d zero e path mk ne w p tag law =
    let f : says e ≡ ConnectionManagement m.source d (Rts (length (payload_sent m)) (count_of m) 255 (pgn_of_kind m.kind)) = part_says st e (tag_of m 0) (passed path) p ∙ ap (λ (v : Way). group_at v m 0) w in
    let o = owner_anchored r.name m.source m.name path mk (λ g. ne (p.name ∙ g)) p.owned in
    let l = (many_last m p.proper (no_one m d w)).1 in
    let first = first_is_part m e.tag tag in
    let stays = address_part r st e m 0 path p in
    record {
      held = λ h.
          let u : (is_for (address_heard r (readings path)) m && is_anchored m.source path) ≡ true = rw first at h in
          let v = (and_parts (is_for (address_heard r (readings path)) m) (is_anchored m.source path) u).0 in
          stays ∙ held_is (address_heard r (readings path)) d (sym (for_session (address_heard r (readings path)) m d w) ∙ v);
      joined = λ now.
          let at : address_heard r (readings path) ≡ Some d = sym stays ∙ now in
          let yes : is_for (address_heard r (readings path)) m ≡ true = for_session (address_heard r (readings path)) m d w ∙ rw at (same_test d) in
          subst (λ (b : Bool). session_heard r m.source (readings (Received e ∷ path)) ≡ half m 0 b) (sym (first_unbroken r m e path first yes))
          (rw (f, at, same_test m.source, same_test d, o)
          (ap (λ (v : Option Joining). or_else v (session_heard r m.source (readings path))) (started_half m (is_anchored m.source path) l)
          ∙ or_started m (is_anchored m.source path) (session_heard r m.source (readings path)) l (λ u. none o u (session_heard r m.source (readings path)) refl)));
    }
  where
    none : owner_heard m.source (readings path) ≡ (if is_anchored m.source path then Some m.name else None) → is_anchored m.source path ≡ false → (x : Option Joining) → session_heard r m.source (readings path) ≡ x → x ≡ None
    none o u None i = refl
    none o u (Some x) i =
        let a = session_owned r m.source (readings path) x i in
        let b : owner_heard m.source (readings path) ≡ None = o ∙ rw u refl in
        cc
session_part r st m d (suc i) e path mk ne w p tag law =
    let f : says e ≡ DataTransfer m.source d (packet (payload_sent m) (suc i)) = part_says st e (tag_of m (suc i)) (passed path) p ∙ ap (λ (v : Way). group_at v m (suc i)) w in
    let before = law m d i w (continues_session st (way_of m) (passed path) m d i w p.joined) in
    let le = (many_last m p.proper (no_one m d w)).0 in
    let place : suc i ≤ last_part_of m = p.upto in
    let later = later_part m i e.tag tag in
    let stays = address_part r st e m (suc i) path p in
    record {
      held = λ h. (let u : is_unbroken r m path ≡ true = rw later at h in stays ∙ before.held u);
      joined = λ now. rw (f, before.joined (sym stays ∙ now), same_test m.source, later) (piece_joined m d i (address_heard r (readings path)) (is_unbroken r m path) p.proper (no_one m d w) (omega arith) before.held);
    }

-- a frame is read
pub sessions_read : (r : StationSettings) (st : List ℕ) → IsFit r → (begun : List Message) (e : Item) (path : List Reception) → Numbered begun → Lawful st (e ∷ passed path) → Marked r.name (Received e ∷ path) → Every (IsBooked begun) (e ∷ passed path) → SessionsLaw r path → SessionsLaw r (Received e ∷ path)
sessions_read r st fit begun e path num law mk booked before m d j w c =
    elim (pick_cases (breaks m.name m.source d e.name (says e)) None (if is_sess m.name e.tag then e.tag else sess m.name m.source d (passed path)) (Some (tag_of m j)) c) [
      | inl v ↦ cc v.1
      | inr v ↦
          elim (pick_cases (is_sess m.name e.tag) e.tag (sess m.name m.source d (passed path)) (Some (tag_of m j)) v.1) [
            | inl u ↦ session_part r st m d j e path mk.1 mk.0 w (law.0.tagged (tag_of m j) u.1) u.1 before
            | inr u ↦ other v.0 u.0 u.1 (before m d j w u.1)
          ]
    ]
  where
    begun_of : (xs : List Item) → Every (IsBooked begun) xs → sess m.name m.source d xs ≡ Some (tag_of m j) → IsAmong m begun
    begun_of [] h i = cc
    begun_of (x ∷ xs) h i =
        elim (pick_cases (breaks m.name m.source d x.name (says x)) None (if is_sess m.name x.tag then x.tag else sess m.name m.source d xs) (Some (tag_of m j)) i) [
          | inl v ↦ cc v.1
          | inr v ↦
              elim (pick_cases (is_sess m.name x.tag) x.tag (sess m.name m.source d xs) (Some (tag_of m j)) v.1) [
                | inl u ↦ h.0 (tag_of m j) u.1
                | inr u ↦ begun_of xs h.1 u.1
              ]
        ]

    other : breaks m.name m.source d e.name (says e) ≡ false → is_sess m.name e.tag ≡ false → sess m.name m.source d (passed path) ≡ Some (tag_of m j) → SessionAt r path m d j → SessionAt r (Received e ∷ path) m d j
    other f n c ih = record {
      held = λ h. (let u : is_unbroken r m path ≡ true = rw later at h in address_read r e.frame (readings path) (calm u) ∙ ih.held u);
      joined = λ now. by_contest (is_contest r.name (address_heard r (readings path)) (says e)) refl now;
    }
      where
        later : is_part m 0 e.tag ≡ false
        later = not_first begun m e num (begun_of (passed path) booked.1 c) booked.0 (λ t g same.
            let yes : is_sess m.name (Some t) ≡ true = rw (same, same_test m.name, w) refl in
            let nos : is_sess m.name (Some t) ≡ false = rw g at n in
            cc)

        calm : is_unbroken r m path ≡ true → is_contest r.name (address_heard r (readings path)) (says e) ≡ false
        calm u = unbreaking r.name m.name m.source d e.name (says e) (address_heard r (readings path)) f (ih.held u)

        broken : is_contest r.name (address_heard r (readings path)) (says e) ≡ true → (b : Bool) → is_unbroken r m path ≡ b → None ≡ half m j b
        broken k true i = let q = calm i in cc
        broken k false i = refl

        by_contest : (b : Bool) → is_contest r.name (address_heard r (readings path)) (says e) ≡ b → address_heard r (readings (Received e ∷ path)) ≡ Some d → session_heard r m.source (readings (Received e ∷ path)) ≡ half m j (is_unbroken r m (Received e ∷ path))
        by_contest true k now =
            contest_drops r.name m.source (says e) (address_heard r (readings path)) (owner_heard m.source (readings path)) (session_heard r m.source (readings path)) k
            ∙ rw later (broken k (is_unbroken r m path) refl)
        by_contest false k now =
            rw (ih.joined (sym (address_read r e.frame (readings path) k) ∙ now), later)
            (skip_session r st m d j e (passed path) (address_heard r (readings path)) (owner_heard m.source (readings path)) (is_unbroken r m path) (address_hold r (readings path) fit) law.0 law.1 c ih.held f n)

-- a frame of the station's own passes
pub sessions_own : (r : StationSettings) (e : Item) (path : List Reception) → IsStations r.name e → SessionsLaw r path → SessionsLaw r (Own e ∷ path)
sessions_own r e path own before m d j w c =
    elim (pick_cases (breaks m.name m.source d e.name (says e)) None (if is_sess m.name e.tag then e.tag else sess m.name m.source d (passed path)) (Some (tag_of m j)) c) [
      | inl v ↦ cc v.1
      | inr v ↦
          (let ih = before m d j w (subst (λ (o : Option Tag). (if is_sess m.name o then o else sess m.name m.source d (passed path)) ≡ Some (tag_of m j)) own.tag v.1) in
          record { held = ih.held; joined = ih.joined })
    ]

-- frames are missed
pub sessions_missed : (r : StationSettings) (es : List Item) (path : List Reception) → SessionsLaw r (Missed es ∷ path)
sessions_missed r es path m d j w c = record { held = λ h. cc; joined = λ now. refl }
