-- In a run with one station, whose address nobody else claims, it takes part as the rules say, but that it may abort what it goes on with.
use Rattle.std.proofs.Common.{◌≡◌, ◌≢◌, ℕ, suc, zero, ◌+◌, ◌<◌, ◌^◌, Bool, true, false, ◌==◌, List, [], ◌∷◌, ◌++◌, length, set, slice_get, Option, Some, None, if◌then◌else◌, sym, refl, ap, ◌∙◌, subst, inl, inr}
use Rattle.address_claim.specs.Claiming.{CanHold}
use Rattle.address_claim.specs.Frames.{claim_frame_value}
use Rattle.can_frame.specs.FrameValue.{FrameValue}
use Rattle.can_frame.specs.declared.reading.Reading.{Reading}
use Rattle.parameter_group.specs.Calm.{is_contest}
use Rattle.parameter_group.specs.Group.{Acknowledgment, AddressClaimed, CannotClaim, ConnectionManagement, DataTransfer, Diagnostic, Group, Other, Request, group_of}
use Rattle.transport.specs.declared.control.Control.TheVariants.{Abort, Bam, Cts, EndAck, Rts}
use Rattle.bus_model.specs.Beside.{ClaimsOwn, GoesOnWithNone, IsClaimedAlone, IsOrderly, TakesPart}
use Rattle.bus_model.specs.Expected.{Missed, Own, Received, Reception, passed, readings}
use Rattle.bus_model.specs.Heard.{StationSettings, address_heard}
use Rattle.bus_model.specs.Machine.{AllMaySend, Answer, Ask, Begin, Begins, Carry, Carry_station, Claims, EndsSession, Event, Hear, IsFit, IsRtsFrom, Join, Leave, MayAnswer, MayReply, MaySend, Miss, Nothing, Read, Replies, Run, Seat, Sends, Station, Step, Turned, World, all_plain, answered, claim_alone, granted, granted_one, joined_seat, message_at, missed, new_stations, parts_upto, plain_item, received, session_ended, start, station_address, with_asked, with_heard, with_message, yielded}
use Rattle.bus_model.specs.Messages.{Broadcast, Message, One, Session, Way, way_of}
use Rattle.bus_model.specs.Traffic.{Item, Tag, claimed_by, is_station, owner_after, says}
use Rattle.bus_model.proofs.Bridge.{address_first, address_gap, address_read, claim_group, kind_back, says_claim}
use Rattle.bus_model.proofs.Lawful.{Allowed, IsHonest, IsNoStart, IsPlain, IsVoiced, Lawful, PartLaw, group_at}
use Rattle.bus_model.proofs.Lookback.{Every, every_append, every_front, every_rest, lawful_rest, ne_test, same_test, true_test}
use Rattle.bus_model.proofs.Path.{IsStations}
use Rattle.bus_model.proofs.Seats.{kept_each, part_says}
use Rattle.bus_model.proofs.SeatLaw.{next_heard}
use Rattle.bus_model.proofs.Worlds.{WorldLaw, law_start, law_step, slice_get_push, slice_get_set}

-- ---- nobody else claims the address

module _ (r : StationSettings) where
  abbrev pub IsAlone : List Item → Type 0
  IsAlone xs = IsClaimedAlone r.name r.address xs

  alone_rest : (xs ys : List Item) → IsAlone (xs ++ ys) → IsAlone ys
  alone_rest [] ys h = h
  alone_rest (x ∷ xs) ys h = alone_rest xs ys h.1

  owner_own : (m : ℕ) (g : Group) (o : Option ℕ) → ClaimsOwn r.name r.address g → ((k : ℕ) → o ≡ Some k → k ≡ r.name) → owner_after r.address g o ≡ Some m → m ≡ r.name
  owner_own m (AddressClaimed s k) o own ih e = go (s == r.address) refl e
    where
      go : (b : Bool) → (s == r.address) ≡ b → (if b then Some k else o) ≡ Some m → m ≡ r.name
      go true i e = let q : k ≡ m = cc in sym q ∙ own (true_test s r.address i)
      go false i e = ih m e
  owner_own m _ o own ih e = ih m e

  claimed_own : (xs : List Item) → IsAlone xs → (m : ℕ) → claimed_by r.address xs ≡ Some m → m ≡ r.name
  claimed_own [] alone m e = cc
  claimed_own (x ∷ xs) alone m e = owner_own m (says x) (claimed_by r.address xs) alone.0 (λ k i. claimed_own xs alone.1 k i) e

  abbrev pub unit_of : List ℕ
  unit_of = r.name ∷ []

  unit_named : (n : ℕ) → n ≢ r.name → is_station unit_of n ≡ false
  unit_named n ne = rw (ne_test n r.name ne) refl

  named_unit : (n : ℕ) → is_station unit_of n ≡ false → n ≢ r.name
  named_unit n none e = let yes : is_station unit_of r.name ≡ true = rw (same_test r.name) refl in let also : is_station unit_of r.name ≡ false = ap (is_station unit_of) (sym e) ∙ none in cc

  -- a message of a unit comes from another address
  part_apart : (e : Item) (t : Tag) (older : List Item) → PartLaw unit_of e t older → IsAlone older → t.message.source ≢ r.address
  part_apart e t older law alone i =
      named_unit t.message.name law.unit (claimed_own older alone t.message.name (subst (λ (a : ℕ). claimed_by a older ≡ Some t.message.name) i law.owned))

  -- ---- who receives a frame of the station's is asked for nothing

  abbrev pub NoAbort : Group → Type 0
  NoAbort (ConnectionManagement s d (Abort reason pgn)) = d ≢ r.address
  NoAbort _ = Unit {0}

  -- a frame that is no part of a message does not abort to the station
  abbrev pub IsQuiet : Item → Type 0
  IsQuiet e = e.tag ≡ None → NoAbort (says e)

  rts_source : (d : ℕ) (w : Way) (m : Message) (j : ℕ) → IsRtsFrom d (group_at w m j) → m.source ≡ d
  rts_source d One m j h = absurd h
  rts_source d Broadcast m zero h = absurd h
  rts_source d Broadcast m (suc j) h = absurd h
  rts_source d (Session b) m zero h = h
  rts_source d (Session b) m (suc j) h = absurd h

  rts_starts : (d : ℕ) (g : Group) → IsRtsFrom d g → IsNoStart g → ⊥
  rts_starts d (ConnectionManagement a b (Rts x y z k)) h s = s
  rts_starts d _ h s = absurd h

  rts_apart : (e : Item) (older : List Item) (d : ℕ) → Allowed unit_of e older → IsAlone older → IsRtsFrom d (says e) → d ≢ r.address
  rts_apart e older d allowed alone rts = by_tag e.tag refl
    where
      by_tag : (o : Option Tag) → e.tag ≡ o → d ≢ r.address
      by_tag None i same = rts_starts d (says e) rts (allowed.starts i)
      by_tag (Some t) i same =
          let law = allowed.tagged t i in
          part_apart e t older law alone (rts_source d (way_of t.message) t.message t.part (subst (IsRtsFrom d) (part_says unit_of e t older law) rts) ∙ same)

  reply_quiet : (s : Seat) (e : Item) (older : List Item) (g : Group) → Allowed unit_of e older → IsAlone older → MayReply s (says e) g → NoAbort g
  reply_quiet s e older (ConnectionManagement a d (Abort k p)) allowed alone may = rts_apart e older d allowed alone may.1
  reply_quiet s e older _ allowed alone may = tt

  claim_quiet : (x n : ℕ) (o : Option ℕ) → n < 2 ^ 64 → CanHold o → IsQuiet (plain_item x n (claim_frame_value n o))
  claim_quiet x n o small hold = λ i. subst NoAbort (sym (says_claim n o small hold)) (none o)
    where
      none : (o : Option ℕ) → NoAbort (claim_group n o)
      none None = tt
      none (Some a) = tt

  -- ---- what a unit sends is orderly

  part_orderly : (w : Way) (m : Message) (j : ℕ) (hs : List Reading) → m.source ≢ r.address → IsOrderly r (group_at w m j) hs
  part_orderly One m j hs ne = ne
  part_orderly Broadcast m zero hs ne = ne
  part_orderly Broadcast m (suc j) hs ne = ne
  part_orderly (Session d) m zero hs ne = (ne, λ i none. (let known = kind_back m.kind in cc))
  part_orderly (Session d) m (suc j) hs ne = ne

  plain_orderly : (e : Item) (older : List Item) (hs : List Reading) (g : Group) → IsPlain g → IsHonest e.name g → IsVoiced e.name g older → NoAbort g → ClaimsOwn r.name r.address g → e.name ≢ r.name → IsAlone older → IsOrderly r g hs
  plain_orderly e older hs (AddressClaimed s n) plain honest voiced quiet own ne alone = λ i. ne (sym honest ∙ own i)
  plain_orderly e older hs (ConnectionManagement s d (Abort k p)) plain honest voiced quiet own ne alone =
      (λ i. ne (claimed_own older alone e.name (subst (λ (a : ℕ). claimed_by a older ≡ Some e.name) i voiced)), λ i. absurd (quiet i))
  plain_orderly e older hs (ConnectionManagement s d (Rts a b c k)) plain honest voiced quiet own ne alone = absurd plain
  plain_orderly e older hs (ConnectionManagement s d (Bam a b k)) plain honest voiced quiet own ne alone = absurd plain
  plain_orderly e older hs (ConnectionManagement s d (Cts a b k)) plain honest voiced quiet own ne alone = tt
  plain_orderly e older hs (ConnectionManagement s d (EndAck a b k)) plain honest voiced quiet own ne alone = tt
  plain_orderly e older hs (Diagnostic k s p) plain honest voiced quiet own ne alone = absurd plain
  plain_orderly e older hs (DataTransfer s d p) plain honest voiced quiet own ne alone = absurd plain
  plain_orderly e older hs (Request p d s) plain honest voiced quiet own ne alone = tt
  plain_orderly e older hs (CannotClaim n) plain honest voiced quiet own ne alone = tt
  plain_orderly e older hs (Acknowledgment c q p d s) plain honest voiced quiet own ne alone = tt
  plain_orderly e older hs Other plain honest voiced quiet own ne alone = tt

  orderly : (e : Item) (older : List Item) (hs : List Reading) → Allowed unit_of e older → e.name ≢ r.name → IsQuiet e → IsAlone (e ∷ older) → IsOrderly r (says e) hs
  orderly e older hs allowed ne quiet alone = by_tag e.tag refl
    where
      by_tag : (o : Option Tag) → e.tag ≡ o → IsOrderly r (says e) hs
      by_tag None i = plain_orderly e older hs (says e) (allowed.plain i (unit_named e.name ne)) allowed.honest allowed.voiced (quiet i) alone.0 ne alone.1
      by_tag (Some t) i =
          let law = allowed.tagged t i in
          subst (λ (g : Group). IsOrderly r g hs) (sym (part_says unit_of e t older law)) (part_orderly (way_of t.message) t.message t.part hs (part_apart e t older law alone.1))

  uncontested : (g : Group) (hs : List Reading) → IsOrderly r g hs → is_contest r.name (Some r.address) g ≡ false
  uncontested (AddressClaimed s n) hs ne = rw (ne_test r.address s (λ i. ne (sym i))) refl
  uncontested _ hs ne = refl

  -- ---- what holds of a world

  -- it takes part as the rules say, but that it may abort what it goes on with
  abbrev pub TakesPartBut : List Reception → Type 0
  TakesPartBut [] = Unit {0}
  TakesPartBut (Own e ∷ older) = MaySend r.name (Some r.address) (says e) × TakesPartBut older
  TakesPartBut (Received e ∷ older) = IsOrderly r (says e) (readings older) × TakesPartBut older
  TakesPartBut (Missed es ∷ older) = TakesPartBut older

  both_parts : (path : List Reception) → TakesPartBut path → GoesOnWithNone r path → TakesPart r path
  both_parts [] part aborts = tt
  both_parts (Own e ∷ older) part aborts = ((part.0, aborts.0), both_parts older part.1 aborts.1)
  both_parts (Received e ∷ older) part aborts = (part.0, both_parts older part.1 aborts)
  both_parts (Missed es ∷ older) part aborts = both_parts older part aborts

  abbrev pub MayBeSent : Item → Type 0
  MayBeSent e = MaySend r.name (Some r.address) (says e)

  pub record IsPost (s : Station) : Type 0 where
    pub same : s.settings ≡ r
    pub asked' : Every MayBeSent s.asked
    pub held : address_heard r (readings s.path) ≡ Some r.address
    pub part : TakesPartBut s.path

  abbrev pub IsQuietAside : Item → Type 0
  IsQuietAside e = e.name ≢ r.name → IsQuiet e

  pub record QuietLaw (w : World) : Type 0 where
    pub queues : (x : ℕ) (s : Seat) → slice_get w.seats x ≡ Some s → Every IsQuiet s.queue
    pub posts : (y : ℕ) (s : Station) → slice_get w.stations y ≡ Some s → IsPost s
    pub wire' : Every IsQuietAside w.wire

  -- ---- one seat changes

  parts_quiet : (k : ℕ) (m : Message) (j : ℕ) → Every IsQuiet (parts_upto k m j)
  parts_quiet k m zero = (λ i. cc, tt)
  parts_quiet k m (suc j) = (λ i. cc, parts_quiet k m j)

  one_quiet : (s : Seat) (o : Option Tag) → Every IsQuiet s.queue → Every IsQuiet ((granted_one s o).queue)
  one_quiet s None q = q
  one_quiet s (Some t) q = (λ i. cc, q)

  granted_quiet : (n : ℕ) (s : Seat) → Every IsQuiet s.queue → Every IsQuiet ((granted s n).queue)
  granted_quiet zero s q = q
  granted_quiet (suc n) s q = granted_quiet n (granted_one s s.session) (one_quiet s s.session q)

  quiet_seat : (w : World) (x : ℕ) (v : Seat) → Every IsQuiet v.queue → QuietLaw w → (new : World) → new.seats ≡ set w.seats x v → new.stations ≡ w.stations → new.wire ≡ w.wire → QuietLaw new
  quiet_seat w x v q law new seats stations wire = record {
    queues = λ y t h. elim (slice_get_set w.seats x y v t (subst (λ (l : List Seat). slice_get l y ≡ Some t) seats h)) [
      | inl i ↦ subst (λ (u : Seat). Every IsQuiet u.queue) (sym i.1) q
      | inr i ↦ law.queues y t i.1
    ];
    posts = λ y s h. law.posts y s (subst (λ (l : List Station). slice_get l y ≡ Some s) stations h);
    wire' = subst (Every IsQuietAside) (sym wire) law.wire';
  }

  quiet_station : (w : World) (y : ℕ) (v : Station) → IsPost v → QuietLaw w → (new : World) → new.seats ≡ w.seats → new.stations ≡ set w.stations y v → new.wire ≡ w.wire → QuietLaw new
  quiet_station w y v post law new seats stations wire = record {
    queues = λ x s h. law.queues x s (subst (λ (l : List Seat). slice_get l x ≡ Some s) seats h);
    posts = λ z t h. elim (slice_get_set w.stations y z v t (subst (λ (l : List Station). slice_get l z ≡ Some t) stations h)) [
      | inl i ↦ subst IsPost (sym i.1) post
      | inr i ↦ law.posts z t i.1
    ];
    wire' = subst (Every IsQuietAside) (sym wire) law.wire';
  }

  quiet_answered : (st : List ℕ) (w : World) (x : ℕ) (s : Seat) (e : Item) (a : Answer) → s.name < 2 ^ 64 → Allowed unit_of e s.heard → IsAlone s.heard → Every IsQuiet s.queue → QuietLaw w → MayAnswer w (with_heard s e) (says e) a
      → QuietLaw (answered w x (with_heard s e) a)
  quiet_answered st w x s e Nothing small allowed alone q law may = quiet_seat w x (with_heard s e) q law _ refl refl refl
  quiet_answered st w x s e (Replies f) small allowed alone q law may =
      quiet_seat w x (record (with_heard s e) { queue = plain_item s.number s.name f ∷ s.queue }) (λ i. reply_quiet (with_heard s e) e s.heard (group_of f) allowed alone may.1, q) law _ refl refl refl
  quiet_answered st w x s e (Begins kind memory source destination) small allowed alone q law may =
      let m = message_at w (with_heard s e) kind memory source destination in
      quiet_seat w x (with_message (with_heard s e) m) (every_append IsQuiet _ s.queue (parts_quiet s.number m _) q) law _ refl refl refl
  quiet_answered st w x s e (Sends n) small allowed alone q law may = quiet_seat w x (granted (with_heard s e) n) (granted_quiet n (with_heard s e) q) law _ refl refl refl
  quiet_answered st w x s e EndsSession small allowed alone q law may = quiet_seat w x (session_ended (with_heard s e)) (kept_each IsQuiet s.queue q) law _ refl refl refl
  quiet_answered st w x s e (Claims to) small allowed alone q law may = quiet_seat w x (yielded (with_heard s e) to) (claim_quiet s.number s.name to small may, tt) law _ refl refl refl

  -- ---- a station asks

  all_may : (y n : ℕ) (fs : List FrameValue) (asked : List Item) → AllMaySend r.name (Some r.address) fs → Every MayBeSent asked → Every MayBeSent (all_plain y n fs ++ asked)
  all_may y n [] asked may q = q
  all_may y n (f ∷ fs) asked may q = (may.0, all_may y n fs asked may.1 q)

  may_here : (settings : StationSettings) (hs : List Reading) (fs : List FrameValue) → settings ≡ r → address_heard r hs ≡ Some r.address → AllMaySend settings.name (address_heard settings hs) fs → AllMaySend r.name (Some r.address) fs
  may_here settings hs fs same held may =
      subst (λ (o : Option ℕ). AllMaySend r.name o fs) held (subst (λ (q : StationSettings). AllMaySend q.name (address_heard q hs) fs) same may)

  asks : (y : ℕ) (s : Station) (frames : List FrameValue) → IsPost s → AllMaySend s.settings.name (station_address s) frames → IsPost (with_asked y s frames)
  asks y s frames post may = record {
    same = post.same;
    asked' = all_may y s.settings.name frames s.asked (may_here s.settings (readings s.path) frames post.same post.held may) post.asked';
    held = post.held;
    part = post.part;
  }

  own_claim : IsFit r → (y n : ℕ) (o : Option ℕ) → n ≡ r.name → o ≡ Some r.address → Every MayBeSent (claim_alone y n o)
  own_claim fit y n o name held = rw (name, held) (subst (MaySend r.name (Some r.address)) (sym (says_claim r.name (Some r.address) fit.name fit.address)) (refl, refl), tt)

  reads : (y : ℕ) (s : Station) (e : Item) → IsPost s → IsOrderly r (says e) (readings s.path) → IsPost (received y s e)
  reads y s e post order =
      let calm : is_contest r.name (address_heard r (readings s.path)) (says e) ≡ false = ap (λ (o : Option ℕ). is_contest r.name o (says e)) post.held ∙ uncontested (says e) (readings s.path) order in
      let here : is_contest s.settings.name (station_address s) (says e) ≡ false = subst (λ (q : StationSettings). is_contest q.name (address_heard q (readings s.path)) (says e) ≡ false) (sym post.same) calm in
      record {
        same = post.same;
        asked' = rw here post.asked';
        held = address_read r e.frame (readings s.path) calm ∙ post.held;
        part = (order, post.part);
      }

  misses : IsFit r → (y : ℕ) (s : Station) (es : List Item) → IsPost s → IsPost (missed y s es)
  misses fit y s es post = record {
    same = post.same;
    asked' = own_claim fit y s.settings.name (station_address s) (ap (λ (q : StationSettings). q.name) post.same) (subst (λ (q : StationSettings). address_heard q (readings s.path) ≡ Some r.address) (sym post.same) post.held);
    held = address_gap r (length es) (readings s.path) ∙ post.held;
    part = post.part;
  }

  -- ---- each event

  alone_step : (old : World) (event : Event) (new : World) → Step old event new → IsAlone new.wire → IsAlone old.wire
  alone_step old (Join n a) new h alone = let same : new.wire ≡ old.wire = ap (λ (w : World). w.wire) h.3 in subst IsAlone same alone
  alone_step old (Hear x answer) new (s, e, ahead, at, i, may, is) alone = subst IsAlone (ap (λ (w : World). w.wire) is ∙ by_answer answer) alone
    where
      by_answer : (a : Answer) → (answered old x (with_heard s e) a).wire ≡ old.wire
      by_answer Nothing = refl
      by_answer (Replies f) = refl
      by_answer (Begins kind memory source destination) = refl
      by_answer (Sends n) = refl
      by_answer EndsSession = refl
      by_answer (Claims to) = refl
  alone_step old (Begin x kind memory source) new (s, at, held, fit, none, is) alone = subst IsAlone (ap (λ (w : World). w.wire) is) alone
  alone_step old (Turned x) new h alone = subst IsAlone (ap (λ (w : World). w.wire) h) alone
  alone_step old (Carry x) new (s, e, rest, at, q, i, is) alone = (subst IsAlone (ap (λ (w : World). w.wire) is) alone).1
  alone_step old (Carry_station y) new (s, e, rest, at, q, i, is) alone = (subst IsAlone (ap (λ (w : World). w.wire) is) alone).1
  alone_step old (Ask y frames) new (s, at, may, is) alone = subst IsAlone (ap (λ (w : World). w.wire) is) alone
  alone_step old (Read y frames) new (s, e, ahead, at, i, may, is) alone = subst IsAlone (ap (λ (w : World). w.wire) is) alone
  alone_step old (Miss y n frames) new (s, es, ahead, at, len, i, may, is) alone = subst IsAlone (ap (λ (w : World). w.wire) is) alone
  alone_step old (Leave x) new (s, at, is) alone = subst IsAlone (ap (λ (w : World). w.wire) is) alone

  alone_run : (old : World) (events : List Event) (new : World) → Run old events new → IsAlone new.wire → IsAlone old.wire
  alone_run old [] new h alone = subst IsAlone (ap (λ (w : World). w.wire) h) alone
  alone_run old (e ∷ es) new (mid, step, rest) alone = alone_step old e mid step (alone_run mid es new rest alone)

  quiet_step : IsFit r → (old : World) (event : Event) (new : World) → WorldLaw unit_of old → IsAlone old.wire → QuietLaw old → Step old event new → QuietLaw new
  quiet_step fit old (Join n a) new world alone law h = subst QuietLaw (sym h.3) (record {
    queues = λ y t g. elim (slice_get_push old.seats y (joined_seat old n a) t g) [
      | inl w ↦ law.queues y t w
      | inr w ↦ subst (λ (u : Seat). Every IsQuiet u.queue) (sym w.1) (claim_quiet (length old.stations + length old.seats) n (Some a) h.1 h.2, tt)
    ];
    posts = law.posts;
    wire' = law.wire';
  })
  quiet_step fit old (Hear x answer) new world alone law (s, e, ahead, at, i, may, is) =
      let rest = lawful_rest unit_of ahead (e ∷ s.heard) (subst (Lawful unit_of) i world.wire) in
      let back = alone_rest ahead (e ∷ s.heard) (subst IsAlone i alone) in
      subst QuietLaw (sym is) (quiet_answered unit_of old x s e answer (world.seats x s at).unit.small rest.0 back.1 (law.queues x s at.0) law may)
  quiet_step fit old (Begin x kind memory source) new world alone law (s, at, held, ok, none, is) =
      let m = message_at old s kind memory source 255 in
      subst QuietLaw (sym is) (quiet_seat old x (with_message s m) (every_append IsQuiet _ s.queue (parts_quiet s.number m _) (law.queues x s at.0)) law _ refl refl refl)
  quiet_step fit old (Turned x) new world alone law h = subst QuietLaw (sym h) law
  quiet_step fit old (Carry x) new world alone law (s, e, rest, at, q, i, is) =
      let own = subst (Every IsQuiet) q (law.queues x s at.0) in
      subst QuietLaw (sym is) (record {
        queues = λ y t h. elim (slice_get_set old.seats x y (record s { queue = rest; heard = e ∷ old.wire }) t h) [
          | inl w ↦ subst (λ (u : Seat). Every IsQuiet u.queue) (sym w.1) (every_front IsQuiet rest (e ∷ []) own)
          | inr w ↦ law.queues y t w.1
        ];
        posts = law.posts;
        wire' = (λ ne. (every_rest IsQuiet rest (e ∷ []) own).0, law.wire');
      })
  quiet_step fit old (Carry_station y) new world alone law (s, e, rest, at, q, i, is) =
      let post = law.posts y s at in
      let asked = subst (Every MayBeSent) q post.asked' in
      let mine = subst (Every (IsStations s.settings.name)) q (world.stations y s at).law.stations in
      let name : e.name ≡ r.name = (every_rest (IsStations s.settings.name) rest (e ∷ []) mine).0.name ∙ ap (λ (p : StationSettings). p.name) post.same in
      let carried : IsPost (record s { asked = rest; path = Own e ∷ s.path }) = record {
        same = post.same;
        asked' = every_front MayBeSent rest (e ∷ []) asked;
        held = post.held;
        part = ((every_rest MayBeSent rest (e ∷ []) asked).0, post.part);
      } in
      subst QuietLaw (sym is) (record {
        queues = law.queues;
        posts = λ z t h. elim (slice_get_set old.stations y z (record s { asked = rest; path = Own e ∷ s.path }) t h) [
          | inl w ↦ subst IsPost (sym w.1) carried
          | inr w ↦ law.posts z t w.1
        ];
        wire' = (λ ne. absurd (ne name), law.wire');
      })
  quiet_step fit old (Ask y frames) new world alone law (s, at, may, is) =
      subst QuietLaw (sym is) (quiet_station old y (with_asked y s frames) (asks y s frames (law.posts y s at) may) law _ refl refl refl)
  quiet_step fit old (Read y frames) new world alone law (s, e, ahead, at, i, may, is) =
      let post = law.posts y s at in
      let here = world.stations y s at in
      let rest = lawful_rest unit_of ahead (e ∷ passed s.path) (subst (Lawful unit_of) i world.wire) in
      let back = alone_rest ahead (e ∷ passed s.path) (subst IsAlone i alone) in
      let ne : e.name ≢ r.name = subst (λ (p : StationSettings). e.name ≢ p.name) post.same (next_heard s.settings.name old.wire (passed s.path) ahead e here.law.past i).1 in
      let quiet = (every_rest IsQuietAside ahead (e ∷ passed s.path) (subst (Every IsQuietAside) i law.wire')).0 ne in
      let order = orderly e (passed s.path) (readings s.path) rest.0 ne quiet back in
      subst QuietLaw (sym is) (quiet_station old y (with_asked y (received y s e) frames) (asks y (received y s e) frames (reads y s e post order) may) law _ refl refl refl)
  quiet_step fit old (Miss y n frames) new world alone law (s, es, ahead, at, len, i, may, is) =
      subst QuietLaw (sym is) (quiet_station old y (with_asked y (missed y s es) frames) (asks y (missed y s es) frames (misses fit y s es (law.posts y s at)) may) law _ refl refl refl)
  quiet_step fit old (Leave x) new world alone law (s, at, is) =
      subst QuietLaw (sym is) (quiet_seat old x (record s { live = false; queue = [] }) tt law _ refl refl refl)

  quiet_run : IsFit r → (old : World) (events : List Event) (new : World) → WorldLaw unit_of old → QuietLaw old → Run old events new → IsAlone new.wire → QuietLaw new
  quiet_run fit old [] new world law h alone = subst QuietLaw (sym h) law
  quiet_run fit old (e ∷ es) new world law (mid, step, rest) alone =
      let here : IsAlone old.wire = alone_step old e mid step (alone_run mid es new rest alone) in
      quiet_run fit mid es new (law_step unit_of old e mid world step) (quiet_step fit old e mid world here law step) rest alone

  quiet_start : IsFit r → QuietLaw (start (r ∷ []))
  quiet_start fit = record {
    queues = λ x s h. cc;
    posts = first;
    wire' = tt;
  }
    where
      first : (y : ℕ) (s : Station) → slice_get (new_stations 0 (r ∷ [])) y ≡ Some s → IsPost s
      first zero s h =
          let e : ◌≡◌ {A = Station} (record { settings = r; asked = claim_alone 0 r.name (Some r.address); path = [] }) s = cc in
          subst IsPost e (record { same = refl; asked' = own_claim fit 0 r.name (Some r.address) refl refl; held = address_first r; part = tt })
      first (suc y) s h = cc

-- so where it goes on with no session that it aborts, it takes part
pub takes_part : (r : StationSettings) → IsFit r → (events : List Event) (w : World) → Run (start (r ∷ [])) events w → (y : ℕ) (s : Station) → slice_get w.stations y ≡ Some s
    → IsClaimedAlone r.name r.address w.wire → GoesOnWithNone r s.path → TakesPart r s.path
takes_part r fit events w run y s at alone aborts =
    let law = quiet_run r fit (start (r ∷ [])) events w (law_start (r ∷ []) (fit, tt, tt)) (quiet_start r fit) run alone in
    both_parts r s.path (law.posts y s at).part aborts
