-- Whom a unit answers: who asks for a session, and who is refused one, is not the open session's destination.
use Rattle.std.proofs.Common.{◌≡◌, ◌≢◌, ℕ, suc, zero, ◌≤◌, Bool, true, false, not, ◌&&◌, ◌==◌, List, [], ◌∷◌, ◌++◌, Option, Some, None, if◌then◌else◌, sym, refl, ap, ◌∙◌, subst, inl, inr}
use Rattle.parameter_group.specs.Group.{Acknowledgment, AddressClaimed, CannotClaim, ConnectionManagement, DataTransfer, Diagnostic, Group, Other, Request}
use Rattle.transport.specs.declared.control.Control.TheVariants.{Abort, Bam, Cts, EndAck, Rts}
use Rattle.bus_model.specs.Expected.{is_claim}
use Rattle.address_claim.specs.Claiming.{is_held}
use Rattle.bus_model.specs.Machine.{IsRequestFrom, IsRtsFrom, MayReply, Seat, session_address, with_heard}
use Rattle.bus_model.specs.Messages.{Broadcast, Message, One, Session, Way, way_of}
use Rattle.bus_model.specs.Traffic.{Item, Tag, claimed_by, is_station, owner_after, says}
use Rattle.bus_model.proofs.Lawful.{Allowed, Continues, IsAtStation, IsNoStart, IsPlain, IsVoiced, Lawful, PartLaw, breaks, group_at, is_sess, sess, tag_of}
use Rattle.bus_model.proofs.Lookback.{Every, IsMine, claimed_by_skip, ne_test, or_parts, pick_cases}
use Rattle.bus_model.proofs.Seats.{IsReply, claimed_other, part_says}
use Rattle.bus_model.proofs.Begins.{OpensAt}
use Rattle.bus_model.proofs.SeatLaw.{OpenLaw, SeatLaw}

pub request_keeps : (a d : ℕ) (x : Option ℕ) (g : Group) → IsRequestFrom d g → owner_after a g x ≡ x
request_keeps a d x (Request p b s) h = refl
request_keeps a d x _ h = absurd h

pub request_voice : (n d : ℕ) (older : List Item) (g : Group) → d ≤ 253 → IsRequestFrom d g → IsVoiced n g older → claimed_by d older ≡ Some n
request_voice n d older (Request p b s) le h v = subst (λ (x : ℕ). claimed_by x older ≡ Some n) h (v (subst (λ (x : ℕ). x ≤ 253) (sym h) le))
request_voice n d older _ le h v = absurd h

pub request_not_plain : (d : ℕ) (g : Group) → IsRequestFrom d g → IsPlain g → ⊥
request_not_plain d (Request p b s) h v = v
request_not_plain d _ h v = absurd h

pub request_no_part : (d : ℕ) (w : Way) (m : Message) (j : ℕ) → IsRequestFrom d (group_at w m j) → ⊥
request_no_part d One m j h = h
request_no_part d Broadcast m zero h = h
request_no_part d Broadcast m (suc j) h = h
request_no_part d (Session b) m zero h = h
request_no_part d (Session b) m (suc j) h = h

-- a session that is asked for by a station
pub asked_for : (st : List ℕ) (s : Seat) (e : Item) (m : Message) (d : ℕ) → d ≤ 253 → Allowed st e s.heard → Every (IsMine s.name s.held s.session) s.queue → IsRequestFrom d (says e) → s.held ≡ Some m.source → d ≢ m.source → s.session ≡ None → OpensAt st (with_heard s e) m d
asked_for st s e m d le allowed mine f held apart none = record {
  station = record {
    name = e.name;
    station = by_name (is_station st e.name) refl;
    claimed =
        claimed_other s.name s.held s.session m.source d s.queue (e ∷ s.heard) mine held apart
        ∙ (request_keeps d d (claimed_by d s.heard) (says e) f ∙ request_voice e.name d s.heard (says e) le f allowed.voiced);
  };
  apart = apart;
  none = none;
}
  where
    by_tag : (o : Option Tag) → e.tag ≡ o → is_station st e.name ≡ false → ⊥
    by_tag None g ne = request_not_plain d (says e) f (allowed.plain g ne)
    by_tag (Some t) g ne = request_no_part d (way_of t.message) t.message t.part (subst (IsRequestFrom d) (part_says st e t s.heard (allowed.tagged t g)) f)

    by_name : (b : Bool) → is_station st e.name ≡ b → is_station st e.name ≡ true
    by_name true i = i
    by_name false i = absurd (by_tag e.tag refl i)

-- while a session may go on, its destination is claimed by a station
station_more : (st : List ℕ) (d : ℕ) (e : Item) (xs : List Item) → owner_after d (says e) (claimed_by d xs) ≡ claimed_by d xs → IsAtStation st d xs → IsAtStation st d (e ∷ xs)
station_more st d e xs same at = record { name = at.name; station = at.station; claimed = same ∙ at.claimed }

pub sess_dest : (st : List ℕ) (m : Message) (d j : ℕ) (xs : List Item) → (way_of m) ≡ Session d → Lawful st xs → sess m.name m.source d xs ≡ Some (tag_of m j) → IsAtStation st d xs
sess_dest st m d j [] w law h = cc
sess_dest st m d j (e ∷ xs) w law h =
    elim (pick_cases (breaks m.name m.source d e.name (says e)) None (if is_sess m.name e.tag then e.tag else sess m.name m.source d xs) (Some (tag_of m j)) h) [
      | inl u ↦ cc u.1
      | inr u ↦
          station_more st d e xs (claimed_by_skip d (says e) (claimed_by d xs) (not_claim (says e) u.0))
          (elim (pick_cases (is_sess m.name e.tag) e.tag (sess m.name m.source d xs) (Some (tag_of m j)) u.1) [
            | inl v ↦ at j (law.0.tagged (tag_of m j) v.1) (λ i. sess_dest st m d i xs w law.1)
            | inr v ↦ sess_dest st m d j xs w law.1 v.1
          ])
    ]
  where
    not_claim : (f : Group) → breaks m.name m.source d e.name f ≡ false → is_claim d f ≡ false
    not_claim (AddressClaimed b n) g = (or_parts (b == m.source && not (n == m.name)) (b == d) g).1
    not_claim _ g = refl

    by_way : (w : Way) (j : ℕ) → w ≡ Session d → Continues st w xs m j → ((i : ℕ) → sess m.name m.source d xs ≡ Some (tag_of m i) → IsAtStation st d xs) → IsAtStation st d xs
    by_way One j e h ih = cc
    by_way Broadcast j e h ih = cc
    by_way (Session b) zero e h ih = let g : b ≡ d = cc in subst (λ (v : ℕ). IsAtStation st v xs) g h.0
    by_way (Session b) (suc i) e h ih = let g : b ≡ d = cc in ih i (subst (λ (v : ℕ). sess m.name m.source v xs ≡ Some (tag_of m i)) g h)

    at : (j : ℕ) → PartLaw st e (tag_of m j) xs → ((i : ℕ) → sess m.name m.source d xs ≡ Some (tag_of m i) → IsAtStation st d xs) → IsAtStation st d xs
    at j p ih = by_way (way_of m) j w p.joined ih

-- who sent an Rts is not the open session's destination
pub sender_apart : (st : List ℕ) (wire : List Item) (begun : List Message) (s : Seat) (e : Item) (d : ℕ) → SeatLaw st wire begun (with_heard s e) → Allowed st e s.heard → IsRtsFrom d (says e) → is_held (session_address s.session) d ≡ false
sender_apart st wire begun s e d law allowed rts = by_open s.session refl
  where
    by_open : (o : Option Tag) → s.session ≡ o → is_held (session_address o) d ≡ false
    by_open None i = refl
    by_open (Some t) i =
        rw p.way (ne_test p.dest d away)
      where
        p : OpenLaw begun (with_heard s e) t
        p = law.session t i

        of_rts : (f : Group) → IsRtsFrom d f → owner_after p.dest f (claimed_by p.dest s.heard) ≡ claimed_by p.dest s.heard
        of_rts (ConnectionManagement a b (Rts x y z k)) h = refl
        of_rts _ h = absurd h

        at : IsAtStation st p.dest (s.queue ++ e ∷ s.heard)
        at = sess_dest st t.message p.dest t.part (s.queue ++ e ∷ s.heard) p.way law.track p.sofar

        station : claimed_by p.dest s.heard ≡ Some at.name
        station =
            sym (claimed_other s.name s.held s.session t.message.source p.dest s.queue (e ∷ s.heard) law.mine p.held p.apart ∙ of_rts (says e) rts)
            ∙ at.claimed

        no_start : (f : Group) → IsRtsFrom d f → IsNoStart f → ⊥
        no_start (ConnectionManagement a b (Rts x y z k)) h g = g
        no_start _ h g = absurd h

        rts_source : (w : Way) (m : Message) (j : ℕ) → IsRtsFrom d (group_at w m j) → m.source ≡ d
        rts_source One m j h = absurd h
        rts_source Broadcast m zero h = absurd h
        rts_source Broadcast m (suc j) h = absurd h
        rts_source (Session b) m zero h = h
        rts_source (Session b) m (suc j) h = absurd h

        by_tag : (o : Option Tag) → e.tag ≡ o → p.dest ≡ d → ⊥
        by_tag None g same = no_start (says e) rts (allowed.starts g)
        by_tag (Some u) g same =
            let q = allowed.tagged u g in
            let r = rts_source (way_of u.message) u.message u.part (subst (IsRtsFrom d) (part_says st e u s.heard q) rts) in
            let own : claimed_by p.dest s.heard ≡ Some u.message.name = subst (λ (v : ℕ). claimed_by v s.heard ≡ Some u.message.name) (r ∙ sym same) q.owned in
            (let k = station in let same : at.name ≡ u.message.name = cc in let no : is_station st at.name ≡ false = ap (is_station st) same ∙ q.unit in let yes = at.station in cc)

        away : p.dest ≢ d
        away = by_tag e.tag refl

pub may_reply : (st : List ℕ) (wire : List Item) (begun : List Message) (s : Seat) (e : Item) (g : Group) → SeatLaw st wire begun (with_heard s e) → Allowed st e s.heard → MayReply (with_heard s e) (says e) g → IsReply (with_heard s e) g
may_reply st wire begun s e (AddressClaimed a m) law allowed h = h
may_reply st wire begun s e (CannotClaim m) law allowed h = tt
may_reply st wire begun s e (ConnectionManagement a d (Abort k p)) law allowed h = (h.0, sender_apart st wire begun s e d law allowed h.1)
may_reply st wire begun s e (ConnectionManagement a d (Cts k n p)) law allowed h = tt
may_reply st wire begun s e (ConnectionManagement a d (EndAck k n p)) law allowed h = tt
may_reply st wire begun s e (ConnectionManagement a d (Rts x y z p)) law allowed h = h
may_reply st wire begun s e (ConnectionManagement a d (Bam x y p)) law allowed h = h
may_reply st wire begun s e (Acknowledgment c r p d a) law allowed h = tt
may_reply st wire begun s e Other law allowed h = tt
may_reply st wire begun s e (Diagnostic k a p) law allowed h = h
may_reply st wire begun s e (DataTransfer a d p) law allowed h = h
may_reply st wire begun s e (Request p d a) law allowed h = h
