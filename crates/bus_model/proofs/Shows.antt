-- A reading adds the same entry to what is heard and to what is expected.
use Rattle.std.proofs.Common.{◌≡◌, ◌≢◌, ℕ, suc, zero, ◌≤◌, Bool, true, false, ◌&&◌, ◌==◌, List, [], ◌∷◌, ◌++◌, length, take, drop, Option, Some, None, if◌then◌else◌, refl, sym, ap, ◌∙◌, subst, inl, inr, arith}
use Rattle.address_claim.specs.Claiming.{is_held}
use Rattle.can_frame.specs.declared.reading.Reading.{Reading}
use Rattle.dm_messages.specs.View.{pgn_of_kind}
use Rattle.dm_messages.specs.declared.kind.Kind.{Kind}
use Rattle.transport.specs.Assembling.{is_next}
use Rattle.parameter_group.specs.Group.{Acknowledgment, AddressClaimed, CannotClaim, ConnectionManagement, DataTransfer, Diagnostic, Group, Other, Request}
use Rattle.transport.specs.Pieces.{joined, packet, pieces}
use Rattle.transport.specs.declared.control.Control.TheVariants.{Abort, Bam, Cts, EndAck, Rts}
use Rattle.bus_model.specs.Expected.{Missed, Own, Received, Reception, is_anchored, is_part, is_unbroken, passed, readings}
use Rattle.reassembly.specs.Partials.{is_whole, unfinished, with_packet}
use Rattle.bus_model.specs.Heard.{Entry, Joining, StationSettings, address_heard, broadcast_after, broadcast_heard, ended_by, entry_under, finished, kept_by_owner, kind_of, owner_heard, session_heard, started}
use Rattle.bus_model.specs.Messages.{Broadcast, IsAmong, IsProper, Message, One, Session, Way, last_part_of, payload_sent, way_of}
use Rattle.bus_model.specs.Traffic.{Item, Tag, claimed_by, is_station, owner_after, says}
use Rattle.bus_model.proofs.Bridge.{all_pieces, count_of, many_last, one_last, session_to}
use Rattle.bus_model.proofs.Lawful.{IsNoStart, IsPlain, IsVoiced, Lawful, PartLaw, group_at, tag_of}
use Rattle.bus_model.proofs.Lookback.{Every, and_parts, held_is, ne_test, pick_cases, same_test, true_test}
use Rattle.bus_model.proofs.Path.{Marked, bam_way, continues_is, first_unbroken, for_all, grown, joined_path, later_part, next_piece, not_one, one_to_all, owner_anchored, whole_is}
use Rattle.bus_model.proofs.Seats.{part_says}
use Rattle.bus_model.proofs.Sessions.{SessionAt, SessionsLaw, continues_session, no_one}
use Rattle.bus_model.proofs.SeatLaw.{IsBooked, Numbered}

abbrev pub entry : Message → Entry
entry m = record { name = m.name; kind = m.kind; bytes = payload_sent m }

-- what ends at a part: the message, at its last part, where the path is unbroken
abbrev pub gained : Message → ℕ → Bool → Option Entry
gained m j b = if j == last_part_of m && b then Some (entry m) else None

pub none_gained : (m : Message) (t : Bool) → None ≡ (if t && false then Some (entry m) else None)
none_gained m true = refl
none_gained m false = refl

pub whole_gained : (m : Message) (j : ℕ) (b : Bool) → IsProper m → last_part_of m ≡ count_of m → j ≤ count_of m → finished (grown m j b) ≡ gained m j b
whole_gained m j false ok last le = none_gained m (j == last_part_of m)
whole_gained m j true ok last le = rw (whole_is m j le, last) (go (j == count_of m) refl)
  where
    go : (t : Bool) → (j == count_of m) ≡ t → (if t then Some (record { name = m.name; kind = m.kind; bytes = joined (length (payload_sent m)) (take j (pieces (payload_sent m))) }) else None) ≡ (if t && true then Some (entry m) else None)
    go false i = refl
    go true i = rw (true_test j (count_of m) i, all_pieces m) refl

pub not_start : (m : Message) (b : Bool) → IsProper m → way_of m ≢ One → None ≡ gained m 0 b
not_start m b ok w =
    let last = many_last m ok w in
    rw (last.0, ne_test 0 (count_of m) (let l = last.1 in omega arith)) refl

pub ended_at : (w : Way) (r : StationSettings) (st : List ℕ) (begun : List Message) (m : Message) (j : ℕ) (e : Item) (path : List Reception) → way_of m ≡ w → Numbered begun → IsAmong m begun → Lawful st (e ∷ passed path) → Marked r.name (Received e ∷ path) → Every (IsBooked begun) (passed path) → SessionsLaw r path → e.tag ≡ Some (tag_of m j) → PartLaw st e (tag_of m j) (passed path) → ended_by r (says e) (readings path) ≡ gained m j (is_unbroken r m (Received e ∷ path))
ended_at One r st begun m j e path w num among law mk booked sl tag p =
    let last = one_last m w in
    let zero_j : j ≡ 0 = (let q : j ≤ last_part_of m = p.upto in omega arith) in
    let f : says e ≡ Diagnostic m.kind m.source (payload_sent m) = part_says st e (tag_of m j) (passed path) p ∙ ap (λ (v : Way). group_at v m j) w in
    let o = owner_anchored r.name m.source m.name path mk.1 (λ g. mk.0 (p.name ∙ g)) p.owned in
    let t : is_part m 0 e.tag ≡ true = rw (tag, same_test m.number, zero_j) refl in
    let first = first_unbroken r m e path t (for_all (address_heard r (readings path)) m (one_to_all m p.proper w)) in
    subst (λ (b : Bool). ended_by r (says e) (readings path) ≡ gained m j b) (sym first) (rw (f, o, last, zero_j) (go (is_anchored m.source path)))
  where
    go : (b : Bool) → entry_under (if b then Some m.name else None) m.kind (payload_sent m) ≡ (if b then Some (entry m) else None)
    go true = refl
    go false = refl
ended_at Broadcast r st begun m zero e path w num among law mk booked sl tag p =
    let f : says e ≡ ConnectionManagement m.source 255 (Bam (length (payload_sent m)) (count_of m) (pgn_of_kind m.kind)) = part_says st e (tag_of m 0) (passed path) p ∙ ap (λ (v : Way). group_at v m 0) w in
    rw f (not_start m (is_unbroken r m (Received e ∷ path)) p.proper (not_one m w))
ended_at Broadcast r st begun m (suc i) e path w num among law mk booked sl tag p =
    let last = (many_last m p.proper (not_one m w)).0 in
    let le : suc i ≤ count_of m = (let q : suc i ≤ last_part_of m = p.upto in omega arith) in
    let f : says e ≡ DataTransfer m.source 255 (packet (payload_sent m) (suc i)) = part_says st e (tag_of m (suc i)) (passed path) p ∙ ap (λ (v : Way). group_at v m (suc i)) w in
    let c = continues_is st (way_of m) (passed path) m i w p.joined in
    let h = joined_path r st begun m i path num among w (omega arith) law.1 mk.1 booked c in
    let n = next_piece m i (is_unbroken r m path) p.proper (not_one m w) le in
    rw (f, h, n, later_part m i e.tag tag) (whole_gained m (suc i) (is_unbroken r m path) p.proper last le)
ended_at (Session d) r st begun m zero e path w num among law mk booked sl tag p =
    let f : says e ≡ ConnectionManagement m.source d (Rts (length (payload_sent m)) (count_of m) 255 (pgn_of_kind m.kind)) = part_says st e (tag_of m 0) (passed path) p ∙ ap (λ (v : Way). group_at v m 0) w in
    rw f (not_start m (is_unbroken r m (Received e ∷ path)) p.proper (no_one m d w))
ended_at (Session d) r st begun m (suc i) e path w num among law mk booked sl tag p =
    let last = (many_last m p.proper (no_one m d w)).0 in
    let le : suc i ≤ count_of m = (let q : suc i ≤ last_part_of m = p.upto in omega arith) in
    let f : says e ≡ DataTransfer m.source d (packet (payload_sent m) (suc i)) = part_says st e (tag_of m (suc i)) (passed path) p ∙ ap (λ (v : Way). group_at v m (suc i)) w in
    let at = sl m d i w (continues_session st (way_of m) (passed path) m d i w p.joined) in
    let to : (d == 255) ≡ false = (let s = session_to m d p.proper w in ne_test d 255 (omega arith)) in
    rw (f, to, later_part m i e.tag tag) (by_held (is_held (address_heard r (readings path)) d) refl last le at p.proper)
  where
    by_held : (h : Bool) → is_held (address_heard r (readings path)) d ≡ h → last_part_of m ≡ count_of m → suc i ≤ count_of m → SessionAt r path m d i → IsProper m
        → (if h then finished (with_packet (packet (payload_sent m) (suc i)) (session_heard r m.source (readings path))) else None) ≡ gained m (suc i) (is_unbroken r m path)
    by_held true h last le at ok =
        rw (at.joined (held_is (address_heard r (readings path)) d h))
        (ap finished (next_piece m i (is_unbroken r m path) ok (no_one m d w) le) ∙ whole_gained m (suc i) (is_unbroken r m path) ok last le)
    by_held false h last le at ok = none (is_unbroken r m path) refl
      where
        none : (b : Bool) → is_unbroken r m path ≡ b → None ≡ gained m (suc i) b
        none true u = let q = at.held u in let yes : is_held (address_heard r (readings path)) d ≡ true = rw q (same_test d) in cc
        none false u = none_gained m (suc i == last_part_of m)

pub ended_plain : (r : StationSettings) (f : Group) (rs : List Reading) → IsPlain f → ended_by r f rs ≡ None
ended_plain r (Diagnostic k s p) rs h = absurd h
ended_plain r (DataTransfer s d p) rs h = absurd h
ended_plain r _ rs h = refl

-- a half joined broadcast is a unit's, and belongs to the owner of its source
pub casts_owned : (r : StationSettings) (st : List ℕ) (path : List Reception) → Lawful st (passed path) → Marked r.name path → (a : ℕ) (j : Joining) → broadcast_heard a (readings path) ≡ Some j
    → (owner_heard a (readings path) ≡ Some j.tag.owner) × (is_station st j.tag.owner ≡ false)
casts_owned r st [] law mk a j h = cc
casts_owned r st (Own e ∷ path) law mk a j h = casts_owned r st path law.1 mk.1 a j h
casts_owned r st (Missed es ∷ path) law mk a j h = cc
casts_owned r st (Received e ∷ path) law mk a j h = by_frame (casts_owned r st path law.1 mk.1 a) (says e) refl h
  where
    own : Option ℕ
    own = owner_heard a (readings path)

    before : Option Joining
    before = broadcast_heard a (readings path)

    Older : Type 0
    Older = (b : Joining) → before ≡ Some b → (own ≡ Some b.tag.owner) × (is_station st b.tag.owner ≡ false)

    -- a start
    started_by : (s d x y p : ℕ) → says e ≡ ConnectionManagement s d (Bam x y p) → s ≡ a → (k : Option Kind) → kind_of p ≡ k → (o : Option ℕ) → own ≡ o → started k x o ≡ Some j → (own ≡ Some j.tag.owner) × (is_station st j.tag.owner ≡ false)
    started_by s d x y p f same None q o i g = cc
    started_by s d x y p f same (Some k) q None i g = cc
    started_by s d x y p f same (Some k) q (Some n) i g = (mine, by_tag e.tag refl)
      where
        mine : own ≡ Some j.tag.owner
        mine = let u : ◌≡◌ {A = Joining} (record { tag = record { owner = n; kind = k }; size = x; pieces = [] }) j = cc in i ∙ ap (λ (v : Joining). Some v.tag.owner) u

        by_tag : (o : Option Tag) → e.tag ≡ o → is_station st j.tag.owner ≡ false
        by_tag None none = let v : kind_of p ≡ None = subst IsNoStart f (law.0.starts none) in cc
        by_tag (Some t) tag =
            let p = law.0.tagged t tag in
            let w = bam_way (way_of t.message) t.message t.part s d x y _ (sym f ∙ part_says st e t (passed path) p) in
            let source : t.message.source ≡ a = w.1 ∙ same in
            let claimed : claimed_by a (passed path) ≡ Some t.message.name = subst (λ (v : ℕ). claimed_by v (passed path) ≡ Some t.message.name) source p.owned in
            let o = owner_anchored r.name a t.message.name path mk.1 (λ g. mk.0 (p.name ∙ g)) claimed in
            by_anchor t p (is_anchored a path) o
          where
            by_anchor : (t : Tag) → PartLaw st e t (passed path) → (b : Bool) → own ≡ (if b then Some t.message.name else None) → is_station st j.tag.owner ≡ false
            by_anchor t p true o = let n : j.tag.owner ≡ t.message.name = (let m = mine in cc) in ap (is_station st) n ∙ p.unit
            by_anchor t p false o = let m = mine in cc

    keep : Older → (n : ℕ) (o : Option Joining) → before ≡ o → kept_by_owner n o ≡ Some j → (Some n ≡ Some j.tag.owner) × (is_station st j.tag.owner ≡ false)
    keep older n None i g = cc
    keep older n (Some b) i g = elim (pick_cases (n == b.tag.owner) (Some b) None (Some j) g) [
      | inl w ↦ (let q : b ≡ j = cc in (ap Some (true_test n b.tag.owner w.0 ∙ ap (λ (v : Joining). v.tag.owner) q), subst (λ (v : Joining). is_station st v.tag.owner ≡ false) q (older b i).1))
      | inr w ↦ cc w.1
    ]

    more : Older → (q : List ℕ) (o : Option Joining) → before ≡ o → unfinished (with_packet q o) ≡ Some j → (own ≡ Some j.tag.owner) × (is_station st j.tag.owner ≡ false)
    more older q None i g = cc
    more older q (Some b) i g = next (is_next b.size b.pieces q) g
      where
        next : (t : Bool) → unfinished (if t then Some (record b { pieces = b.pieces ++ drop 1 q ∷ [] }) else None) ≡ Some j → (own ≡ Some j.tag.owner) × (is_station st j.tag.owner ≡ false)
        next false g = cc
        next true g =
            elim (pick_cases (is_whole (record b { pieces = b.pieces ++ drop 1 q ∷ [] })) None (Some (record b { pieces = b.pieces ++ drop 1 q ∷ [] })) (Some j) g) [
              | inl w ↦ cc w.1
              | inr w ↦ (let v : ◌≡◌ {A = Joining} (record b { pieces = b.pieces ++ drop 1 q ∷ [] }) j = cc in subst (λ (v : Joining). (own ≡ Some v.tag.owner) × (is_station st v.tag.owner ≡ false)) v (older b i))
            ]

    by_frame : Older → (f : Group) → says e ≡ f → broadcast_after a f own before ≡ Some j → (owner_after a f own ≡ Some j.tag.owner) × (is_station st j.tag.owner ≡ false)
    by_frame older (ConnectionManagement s d (Bam x y p)) f g = elim (pick_cases (s == a && d == 255) (started (kind_of p) x own) before (Some j) g) [
      | inl w ↦ started_by s d x y p f (true_test s a (and_parts (s == a) (d == 255) w.0).0) (kind_of p) refl own refl w.1
      | inr w ↦ older j w.1
    ]
    by_frame older (DataTransfer s d q) f g = elim (pick_cases (s == a && d == 255) (unfinished (with_packet q before)) before (Some j) g) [
      | inl w ↦ more older q before refl w.1
      | inr w ↦ older j w.1
    ]
    by_frame older (AddressClaimed s n) f g = elim (pick_cases (s == a) (kept_by_owner n before) before (Some j) g) [
      | inl w ↦ rw w.0 (keep older n before refl w.1)
      | inr w ↦ rw w.0 (older j w.1)
    ]
    by_frame older (ConnectionManagement s d (Rts x y z p)) f g = older j g
    by_frame older (ConnectionManagement s d (Cts x y p)) f g = older j g
    by_frame older (ConnectionManagement s d (EndAck x y p)) f g = older j g
    by_frame older (ConnectionManagement s d (Abort x p)) f g = older j g
    by_frame older (CannotClaim n) f g = older j g
    by_frame older (Request p d s) f g = older j g
    by_frame older (Acknowledgment c q p d s) f g = older j g
    by_frame older (Diagnostic k s q) f g = older j g
    by_frame older Other f g = older j g

-- so another station's frame ends no message
pub ended_other : (r : StationSettings) (st : List ℕ) (e : Item) (path : List Reception) → Lawful st (e ∷ passed path) → Marked r.name (Received e ∷ path) → e.tag ≡ None → is_station st e.name ≡ true → ended_by r (says e) (readings path) ≡ None
ended_other r st e path law mk none station = by_frame (says e) refl
  where
    no_cast : (s : ℕ) → claimed_by s (passed path) ≡ Some e.name → (o : Option Joining) → broadcast_heard s (readings path) ≡ o → o ≡ None
    no_cast s v None i = refl
    no_cast s v (Some j) i =
        let c = casts_owned r st path law.1 mk.1 s j i in
        let o = owner_anchored r.name s e.name path mk.1 mk.0 v in
        absurd (by_anchor (is_anchored s path) o c.0 c.1)
      where
        by_anchor : (b : Bool) → owner_heard s (readings path) ≡ (if b then Some e.name else None) → owner_heard s (readings path) ≡ Some j.tag.owner → is_station st j.tag.owner ≡ false → ⊥
        by_anchor true o q n = let same : j.tag.owner ≡ e.name = cc in let other : is_station st e.name ≡ false = ap (is_station st) (sym same) ∙ n in cc
        by_anchor false o q n = cc

    by_frame : (f : Group) → says e ≡ f → ended_by r f (readings path) ≡ None
    by_frame (Diagnostic k s p) f = absurd (subst IsNoStart f (law.0.starts none))
    by_frame (DataTransfer s d q) f =
        let to : d ≡ 255 = subst IsNoStart f (law.0.starts none) in
        let v : claimed_by s (passed path) ≡ Some e.name = subst (λ (g : Group). IsVoiced e.name g (passed path)) f law.0.voiced in
        let nothing = no_cast s v (broadcast_heard s (readings path)) refl in
        rw (to, nothing) refl
    by_frame _ f = refl
