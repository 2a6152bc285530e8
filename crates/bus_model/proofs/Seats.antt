-- A seat's own frames behind what it has heard.
use Rattle.std.proofs.Common.{◌≡◌, ◌≢◌, ℕ, suc, zero, ◌<◌, ◌≤◌, Bool, true, false, not, ◌&&◌, ◌==◌, List, [], ◌∷◌, ◌++◌, Option, Some, None, if◌then◌else◌, sym, refl, ap, ◌∙◌, subst, inl, inr, arith}
use Rattle.std.proofs.lemmas.Bool.{false_from_ne_true}
use Rattle.address_claim.specs.Claiming.{is_held}
use Rattle.can_frame.specs.FrameValue.{FrameValue}
use Rattle.dm_messages.specs.declared.kind.Kind.{Kind}
use Rattle.parameter_group.specs.Group.{Acknowledgment, AddressClaimed, CannotClaim, ConnectionManagement, DataTransfer, Diagnostic, Group, Other, Request, group_of}
use Rattle.transport.specs.declared.control.Control.TheVariants.{Abort, Bam, Cts, EndAck, Rts}
use Rattle.bus_model.specs.Expected.{is_claim}
use Rattle.dm_messages.specs.View.{same_kind}
use Rattle.parameter_group.specs.Calm.{is_contest, cuts}
use Rattle.bus_model.specs.Machine.{Seat, is_of_session, session_address, way_address, item_of_part, parts_upto, plain_item, without_session}
use Rattle.bus_model.specs.Messages.{Broadcast, IsProper, Message, One, Session, Way, is_broadcast, is_session, last_part_of, way_of}
use Rattle.bus_model.specs.Order.{IsBefore}
use Rattle.bus_model.specs.Traffic.{Item, Tag, claimed_by, is_station, owner_after, says}
use Rattle.bus_model.proofs.Bridge.{claim_group, says_part}
use Rattle.bus_model.proofs.Lawful.{Allowed, Continues, Follows, IsHonest, IsNoStart, IsPlain, IsVoiced, Lawful, PartLaw, breaks, cast, group_at, is_cast, is_foreign, is_of, last_of, sess, tag_of}
use Rattle.bus_model.proofs.Lookback.{EachTag, Every, HasTag, IsFrom, IsMine, and_parts, claimed_by_skip, follows_first, kind_same, last_of_each, last_of_is, ne_test, part_same, same_kind_self, same_test, true_test}
use Rattle.bus_model.proofs.Order.{all_before}

-- a part is no claim
pub part_no_claim : (a : ℕ) (w : Way) (m : Message) (j : ℕ) (d : Option ℕ) → owner_after a (group_at w m j) d ≡ d
part_no_claim a One m j d = refl
part_no_claim a Broadcast m zero d = refl
part_no_claim a Broadcast m (suc j) d = refl
part_no_claim a (Session b) m zero d = refl
part_no_claim a (Session b) m (suc j) d = refl

pub part_not_foreign : (n a : ℕ) (w : Way) (m : Message) (j : ℕ) → is_foreign n a (group_at w m j) ≡ false
part_not_foreign n a One m j = refl
part_not_foreign n a Broadcast m zero = refl
part_not_foreign n a Broadcast m (suc j) = refl
part_not_foreign n a (Session b) m zero = refl
part_not_foreign n a (Session b) m (suc j) = refl

pub part_breaks_none : (n a d by : ℕ) (w : Way) (m : Message) (j : ℕ) → breaks n a d by (group_at w m j) ≡ false
part_breaks_none n a d by One m j = refl
part_breaks_none n a d by Broadcast m zero = refl
part_breaks_none n a d by Broadcast m (suc j) = refl
part_breaks_none n a d by (Session b) m zero = refl
part_breaks_none n a d by (Session b) m (suc j) = refl

pub part_honest : (n : ℕ) (w : Way) (m : Message) (j : ℕ) → IsHonest n (group_at w m j)
part_honest n One m j = tt
part_honest n Broadcast m zero = tt
part_honest n Broadcast m (suc j) = tt
part_honest n (Session b) m zero = tt
part_honest n (Session b) m (suc j) = tt

pub part_voiced : (n : ℕ) (w : Way) (m : Message) (j : ℕ) (older : List Item) → claimed_by m.source older ≡ Some n → IsVoiced n (group_at w m j) older
part_voiced n One m j older own = tt
part_voiced n Broadcast m zero older own = own
part_voiced n Broadcast m (suc j) older own = own
part_voiced n (Session b) m zero older own = tt
part_voiced n (Session b) m (suc j) older own = own

pub part_from : (held : Option ℕ) (w : Way) (m : Message) (j : ℕ) → held ≡ Some m.source → IsFrom held (group_at w m j)
part_from held One m j own = tt
part_from held Broadcast m zero own = own
part_from held Broadcast m (suc j) own = own
part_from held (Session b) m zero own = tt
part_from held (Session b) m (suc j) own = own

pub claimed_parts : (x a : ℕ) (m : Message) (j : ℕ) (track : List Item) → IsProper m → j ≤ last_part_of m → claimed_by a (parts_upto x m j ++ track) ≡ claimed_by a track
claimed_parts x a m zero track ok le = rw (says_part m 0 ok le) (part_no_claim a (way_of m) m 0 (claimed_by a track))
claimed_parts x a m (suc j) track ok le = rw (says_part m (suc j) ok le) (part_no_claim a (way_of m) m (suc j) (claimed_by a (parts_upto x m j ++ track)) ∙ claimed_parts x a m j track ok (omega arith))

pub is_of_self : (m : Message) (j : ℕ) → is_of m.name m.kind (Some (tag_of m j)) ≡ true
is_of_self m j = rw (same_test m.name) (same_kind_self m.kind)

pub last_of_parts : (x : ℕ) (m : Message) (j : ℕ) (track : List Item) → last_of m.name m.kind (parts_upto x m j ++ track) ≡ Some (tag_of m j)
last_of_parts x m zero track = rw (is_of_self m 0) refl
last_of_parts x m (suc j) track = rw (is_of_self m (suc j)) refl

pub kinds_apart : (k l : Kind) → k ≢ l → same_kind k l ≡ false
kinds_apart k l h = false_from_ne_true (same_kind k l) (λ e. h (kind_same k l e))

pub and_false : (b : Bool) → b && false ≡ false
and_false true = refl
and_false false = refl

-- parts of another kind
pub last_of_others : (x n : ℕ) (k : Kind) (m : Message) (j : ℕ) (track : List Item) → m.kind ≢ k → last_of n k (parts_upto x m j ++ track) ≡ last_of n k track
last_of_others x n k m zero track ne = rw (kinds_apart m.kind k ne, and_false (m.name == n)) refl
last_of_others x n k m (suc j) track ne = rw (kinds_apart m.kind k ne, and_false (m.name == n)) (last_of_others x n k m j track ne)

-- parts of no session
pub sess_others : (x n a d : ℕ) (m : Message) (j : ℕ) (track : List Item) → IsProper m → j ≤ last_part_of m → is_session (way_of m) ≡ false → sess n a d (parts_upto x m j ++ track) ≡ sess n a d track
sess_others x n a d m zero track ok le nos = rw (says_part m 0 ok le, part_breaks_none n a d m.name (way_of m) m 0, nos, and_false (m.name == n)) refl
sess_others x n a d m (suc j) track ok le nos = rw (says_part m (suc j) ok le, part_breaks_none n a d m.name (way_of m) m (suc j), nos, and_false (m.name == n)) (sess_others x n a d m j track ok (omega arith) nos)

pub sess_self : (x : ℕ) (m : Message) (d j : ℕ) (xs : List Item) → IsProper m → j ≤ last_part_of m → (way_of m) ≡ Session d → sess m.name m.source d (item_of_part x m j ∷ xs) ≡ Some (tag_of m j)
sess_self x m d j xs ok le e = rw (says_part m j ok le, part_breaks_none m.name m.source d m.name (way_of m) m j, e, same_test m.name) refl

-- what a later part looks back to, by its way
pub continues_at : (x : ℕ) (st : List ℕ) (w : Way) (m : Message) (j : ℕ) (xs : List Item) → IsProper m → j ≤ last_part_of m → (way_of m) ≡ w → Continues st w (item_of_part x m j ∷ xs) m (suc j)
continues_at x st One m j xs ok le e = tt
continues_at x st Broadcast m j xs ok le e = rw (says_part m j ok le, part_not_foreign m.name m.source (way_of m) m j, e, same_test m.name) refl
continues_at x st (Session d) m j xs ok le e = sess_self x m d j xs ok le e

pub continues_parts : (x : ℕ) (st : List ℕ) (m : Message) (j : ℕ) (track : List Item) → IsProper m → j ≤ last_part_of m → Continues st (way_of m) (parts_upto x m j ++ track) m (suc j)
continues_parts x st m zero track ok le = continues_at x st (way_of m) m 0 track ok le refl
continues_parts x st m (suc j) track ok le = continues_at x st (way_of m) m (suc j) (parts_upto x m j ++ track) ok le refl

pub part_allowed : (x : ℕ) (st : List ℕ) (m : Message) (j : ℕ) (older : List Item) → PartLaw st (item_of_part x m j) (tag_of m j) older → Allowed st (item_of_part x m j) older
part_allowed x st m j older law = record {
  tagged = λ t g. let e : t ≡ tag_of m j = cc in subst (λ (v : Tag). PartLaw st (item_of_part x m j) v older) (sym e) law;
  plain = λ g h. cc;
  starts = λ g. cc;
  honest = subst (IsHonest m.name) (sym (says_part m j law.proper law.upto)) (part_honest m.name (way_of m) m j);
  voiced = subst (λ (g : Group). IsVoiced m.name g older) (sym (says_part m j law.proper law.upto)) (part_voiced m.name (way_of m) m j older law.owned);
}

-- a new message's parts may stand behind what its seat has
pub parts_lawful : (x : ℕ) (st : List ℕ) (m : Message) (j : ℕ) (track : List Item) → IsProper m → x ≡ m.seat → is_station st m.name ≡ false → j ≤ last_part_of m → Lawful st track → claimed_by m.source track ≡ Some m.name → Continues st (way_of m) track m 0 → EachTag (λ t. t.message.number < m.number) track → Lawful st (parts_upto x m j ++ track)
parts_lawful x st m zero track ok own_seat unit le law own first older = (
  part_allowed x st m 0 track (record {
    proper = ok;
    frame = refl;
    seat = own_seat;
    name = refl;
    unit = unit;
    upto = le;
    owned = own;
    order = follows_first (last_of m.name m.kind track) m (λ s e. last_of_each (λ t. t.message.number < m.number) m.name m.kind track s older e);
    joined = first;
  }),
  law,
)
parts_lawful x st m (suc j) track ok own_seat unit le law own first older = (
  part_allowed x st m (suc j) (parts_upto x m j ++ track) (record {
    proper = ok;
    frame = refl;
    seat = own_seat;
    name = refl;
    unit = unit;
    upto = le;
    owned = claimed_parts x m.source m j track ok (omega arith) ∙ own;
    order = subst (λ (v : Option Tag). Follows v (tag_of m (suc j))) (sym (last_of_parts x m j track)) (inr (refl, refl));
    joined = continues_parts x st m j track ok (omega arith);
  }),
  parts_lawful x st m j track ok own_seat unit (omega arith) law own first older,
)

-- the next part of the open session
pub next_lawful : (x : ℕ) (st : List ℕ) (m : Message) (d j : ℕ) (track : List Item) → IsProper m → x ≡ m.seat → is_station st m.name ≡ false → (way_of m) ≡ Session d → suc j ≤ last_part_of m → Lawful st track → claimed_by m.source track ≡ Some m.name → last_of m.name m.kind track ≡ Some (tag_of m j) → sess m.name m.source d track ≡ Some (tag_of m j) → Lawful st (item_of_part x m (suc j) ∷ track)
next_lawful x st m d j track ok own_seat unit w le law own last sofar = (
  part_allowed x st m (suc j) track (record {
    proper = ok;
    frame = refl;
    seat = own_seat;
    name = refl;
    unit = unit;
    upto = le;
    owned = own;
    order = subst (λ (v : Option Tag). Follows v (tag_of m (suc j))) (sym last) (inr (refl, refl));
    joined = subst (λ (v : Way). Continues st v track m (suc j)) (sym w) sofar;
  }),
  law,
)

-- an untagged frame of a unit
pub plain_no_start : (f : Group) → IsPlain f → IsNoStart f
plain_no_start (ConnectionManagement s d (Rts a b c k)) h = h
plain_no_start (ConnectionManagement s d (Bam a b k)) h = absurd h
plain_no_start (Diagnostic k s p) h = h
plain_no_start (DataTransfer s d p) h = absurd h
plain_no_start _ h = tt

pub sent_allowed : (st : List ℕ) (x n : ℕ) (f : FrameValue) (g : Group) (older : List Item) → group_of f ≡ g → IsPlain g → IsHonest n g → IsVoiced n g older → Allowed st (plain_item x n f) older
sent_allowed st x n f g older e p h v = record {
  tagged = λ t i. cc;
  plain = λ t i. subst IsPlain (sym e) p;
  starts = λ t. subst IsNoStart (sym e) (plain_no_start g p);
  honest = subst (IsHonest n) (sym e) h;
  voiced = subst (λ (h : Group). IsVoiced n h older) (sym e) v;
}

pub claim_plain : (n : ℕ) (o : Option ℕ) → IsPlain (claim_group n o)
claim_plain n None = tt
claim_plain n (Some a) = tt

pub claim_honest : (n : ℕ) (o : Option ℕ) → IsHonest n (claim_group n o)
claim_honest n None = tt
claim_honest n (Some a) = refl

pub claim_voiced : (n : ℕ) (o : Option ℕ) (older : List Item) → IsVoiced n (claim_group n o) older
claim_voiced n None older = tt
claim_voiced n (Some a) older = tt

pub claim_from : (n : ℕ) (o : Option ℕ) → IsFrom o (claim_group n o)
claim_from n None = tt
claim_from n (Some a) = refl

pub claim_owns : (n : ℕ) (o : Option ℕ) (a : ℕ) (d : Option ℕ) → o ≡ Some a → owner_after a (claim_group n o) d ≡ Some n
claim_owns n None a d e = cc
claim_owns n (Some b) a d e = let i : b ≡ a = cc in rw (i, same_test a) refl

-- a reply that is no abort to the open session's destination
abbrev pub IsReply : Seat → Group → Type 0
IsReply s (AddressClaimed a m) = (s.held ≡ Some a) × (m ≡ s.name)
IsReply s (CannotClaim m) = Unit {0}
IsReply s (ConnectionManagement a d (Abort k p)) = (s.held ≡ Some a) × (is_held (session_address s.session) d ≡ false)
IsReply s (ConnectionManagement a d (Cts k n p)) = Unit {0}
IsReply s (ConnectionManagement a d (EndAck k n p)) = Unit {0}
IsReply s (Acknowledgment c r p d a) = Unit {0}
IsReply s Other = Unit {0}
IsReply s _ = ⊥

pub reply_plain : (s : Seat) (f : Group) → IsReply s f → IsPlain f
reply_plain s (AddressClaimed a m) h = tt
reply_plain s (CannotClaim m) h = tt
reply_plain s (Request p d a) h = h
reply_plain s (Acknowledgment c r p d a) h = tt
reply_plain s (Diagnostic k a p) h = h
reply_plain s (ConnectionManagement a d (Rts x y z p)) h = h
reply_plain s (ConnectionManagement a d (Cts x y p)) h = tt
reply_plain s (ConnectionManagement a d (EndAck x y p)) h = tt
reply_plain s (ConnectionManagement a d (Bam x y p)) h = h
reply_plain s (ConnectionManagement a d (Abort x p)) h = tt
reply_plain s (DataTransfer a d p) h = h
reply_plain s Other h = tt

pub reply_honest : (s : Seat) (f : Group) → IsReply s f → IsHonest s.name f
reply_honest s (AddressClaimed a m) h = h.1
reply_honest s _ h = tt

pub reply_from : (s : Seat) (f : Group) → IsReply s f → IsFrom s.held f
reply_from s (AddressClaimed a m) h = h.0
reply_from s (ConnectionManagement a d (Abort k p)) h = h.0
reply_from s (Request p d a) h = absurd h
reply_from s (ConnectionManagement a d (Bam x y p)) h = absurd h
reply_from s (DataTransfer a d p) h = absurd h
reply_from s _ h = tt

pub reply_voiced : (s : Seat) (f : Group) (older : List Item) → IsReply s f → ((a : ℕ) → s.held ≡ Some a → claimed_by a older ≡ Some s.name) → IsVoiced s.name f older
reply_voiced s (ConnectionManagement a d (Abort k p)) older h own = own a h.0
reply_voiced s (Request p d a) older h own = absurd h
reply_voiced s (ConnectionManagement a d (Bam x y p)) older h own = absurd h
reply_voiced s (DataTransfer a d p) older h own = absurd h
reply_voiced s _ older h own = tt

pub cond_same : {A : Type 0} (t : Bool) (x y : A) → x ≡ y → (if t then y else x) ≡ y
cond_same true x y i = refl
cond_same false x y i = i

-- a reply keeps the address
pub reply_owns : (s : Seat) (f : Group) (a : ℕ) (d : Option ℕ) → IsReply s f → d ≡ Some s.name → owner_after a f d ≡ Some s.name
reply_owns s (AddressClaimed b m) a d h e = rw h.1 (cond_same (b == a) d (Some s.name) e)
reply_owns s _ a d h e = e

pub swap_test : (x y : ℕ) → (x == y) ≡ (y == x)
swap_test x y = grind arith

-- a reply does not break the open session
pub reply_breaks_none : (s : Seat) (f : Group) (t : Tag) (d : ℕ) → IsReply s f → s.session ≡ Some t → (way_of t.message) ≡ Session d → s.held ≡ Some t.message.source → d ≢ t.message.source → t.message.name ≡ s.name → breaks t.message.name t.message.source d s.name f ≡ false
reply_breaks_none s (AddressClaimed b m) t d h o w held ne n =
    let i : b ≡ t.message.source = cc in
    let j : m ≡ t.message.name = h.1 ∙ sym n in
    let k = ne_test t.message.source d (λ g. ne (sym g)) in
    rw (i, j, same_test t.message.source, same_test t.message.name, k) refl
reply_breaks_none s (ConnectionManagement a b (Abort k p)) t d h o w held ne n =
    let g : is_held (way_address (way_of t.message)) b ≡ false = rw o at h.1 in
    let i : (d == b) ≡ false = rw w at g in
    let j : (b == d) ≡ false = swap_test b d ∙ i in
    rw (j, and_false (a == t.message.source), and_false (s.name == t.message.name)) refl
reply_breaks_none s _ t d h o w held ne n = refl

-- a foreign claim that does not contest the address held is of another address
pub uncontested : (n m : ℕ) (held : Option ℕ) (f : Group) (a : ℕ) → is_contest n held f ≡ false → IsHonest m f → m ≢ n → held ≡ Some a → is_claim a f ≡ false
uncontested n m held (AddressClaimed b l) a c h ne e =
    let i = ne_test l n (λ g. ne (sym h ∙ g)) in
    let d : is_held held b && not false ≡ false = rw i at c in
    let d2 : is_held (Some a) b && not false ≡ false = rw e at d in
    flip (a == b) (b == a) d2 (swap_test a b)
  where
    flip : (t u : Bool) → t && not false ≡ false → t ≡ u → u ≡ false
    flip true u h e = cc
    flip false u h e = sym e
uncontested n m held _ a c h ne e = refl

pub uncut_is : (o : Option Tag) (f : Group) (t : Tag) (d : ℕ) → cuts (session_address o) f ≡ false → o ≡ Some t → (way_of t.message) ≡ Session d → is_claim d f ≡ false
uncut_is o (AddressClaimed b l) t d c e w =
    let g : is_held (way_address (way_of t.message)) b ≡ false = rw e at c in
    let i : (d == b) ≡ false = rw w at g in
    swap_test b d ∙ i
uncut_is o _ t d c e w = refl

-- claims queued are of the address held alone
pub claimed_other : (n : ℕ) (held : Option ℕ) (session : Option Tag) (a d : ℕ) (q h : List Item) → Every (IsMine n held session) q → held ≡ Some a → d ≢ a → claimed_by d (q ++ h) ≡ claimed_by d h
claimed_other n held session a d [] h mine e ne = refl
claimed_other n held session a d (x ∷ xs) h mine e ne =
    claimed_by_skip d (says x) (claimed_by d (xs ++ h)) (nos (says x) mine.0.voice) ∙ claimed_other n held session a d xs h mine.1 e ne
  where
    nos : (f : Group) → IsFrom held f → is_claim d f ≡ false
    nos (AddressClaimed b m) i = let g : b ≡ a = cc in rw g (ne_test a d (λ j. ne (sym j)))
    nos _ i = refl

-- the tags that are kept
pub every_kept : (P : Item → Type 0) (q h : List Item) → Every P (q ++ h) → Every P (without_session q ++ h)
every_kept P [] h e = e
every_kept P (x ∷ xs) h e = go (every_kept P xs h e.1) (is_of_session x.tag)
  where
    go : Every P (without_session xs ++ h) → (b : Bool) → Every P ((if b then without_session xs else x ∷ without_session xs) ++ h)
    go ih true = ih
    go ih false = (e.0, ih)

pub kept_each : (P : Item → Type 0) (q : List Item) → Every P q → Every P (without_session q)
kept_each P [] e = tt
kept_each P (x ∷ xs) e = go (kept_each P xs e.1) (is_of_session x.tag)
  where
    go : Every P (without_session xs) → (b : Bool) → Every P (if b then without_session xs else x ∷ without_session xs)
    go ih true = ih
    go ih false = (e.0, ih)

-- what the frame of a part says
pub part_says : (st : List ℕ) (e : Item) (t : Tag) (older : List Item) → PartLaw st e t older → says e ≡ group_at (way_of t.message) t.message t.part
part_says st e t older law = ap group_of law.frame ∙ says_part t.message t.part law.proper law.upto

-- a frame of a session is no claim and no part of a broadcast
pub session_no_claim : (st : List ℕ) (x : Item) (xs : List Item) (a : ℕ) (d : Option ℕ) → Allowed st x xs → is_of_session x.tag ≡ true → owner_after a (says x) d ≡ d
session_no_claim st x xs a d law h = go x.tag refl h
  where
    go : (o : Option Tag) → x.tag ≡ o → is_of_session o ≡ true → owner_after a (says x) d ≡ d
    go None g h = cc
    go (Some t) g h = rw (part_says st x t xs (law.tagged t g)) (part_no_claim a (way_of t.message) t.message t.part d)

pub session_not_cast : (n : ℕ) (o : Option Tag) → is_of_session o ≡ true → is_cast n o ≡ false
session_not_cast n None h = refl
session_not_cast n (Some t) h = go (way_of t.message) h
  where
    go : (w : Way) → is_session w ≡ true → (t.message.name == n && is_broadcast w) ≡ false
    go One h = cc
    go Broadcast h = cc
    go (Session d) h = and_false (t.message.name == n)

pub session_not_foreign : (st : List ℕ) (n a : ℕ) (x : Item) (xs : List Item) → Allowed st x xs → is_of_session x.tag ≡ true → is_foreign n a (says x) ≡ false
session_not_foreign st n a x xs law h = go x.tag refl h
  where
    go : (o : Option Tag) → x.tag ≡ o → is_of_session o ≡ true → is_foreign n a (says x) ≡ false
    go None g h = cc
    go (Some t) g h = rw (part_says st x t xs (law.tagged t g)) (part_not_foreign n a (way_of t.message) t.message t.part)

pub claimed_kept : (st : List ℕ) (a : ℕ) (q h : List Item) → Lawful st (q ++ h) → claimed_by a (without_session q ++ h) ≡ claimed_by a (q ++ h)
claimed_kept st a [] h law = refl
claimed_kept st a (x ∷ xs) h law = go (claimed_kept st a xs h law.1) (is_of_session x.tag) refl
  where
    go : claimed_by a (without_session xs ++ h) ≡ claimed_by a (xs ++ h) → (b : Bool) → is_of_session x.tag ≡ b → claimed_by a ((if b then without_session xs else x ∷ without_session xs) ++ h) ≡ claimed_by a ((x ∷ xs) ++ h)
    go ih true i = ih ∙ sym (session_no_claim st x (xs ++ h) a (claimed_by a (xs ++ h)) law.0 i)
    go ih false i = ap (owner_after a (says x)) ih

pub cast_kept : (st : List ℕ) (n a : ℕ) (q h : List Item) → Lawful st (q ++ h) → cast n a (without_session q ++ h) ≡ cast n a (q ++ h)
cast_kept st n a [] h law = refl
cast_kept st n a (x ∷ xs) h law = go (cast_kept st n a xs h law.1) (is_of_session x.tag) refl
  where
    go : cast n a (without_session xs ++ h) ≡ cast n a (xs ++ h) → (b : Bool) → is_of_session x.tag ≡ b → cast n a ((if b then without_session xs else x ∷ without_session xs) ++ h) ≡ cast n a ((x ∷ xs) ++ h)
    go ih true i = rw (session_not_foreign st n a x (xs ++ h) law.0 i, session_not_cast n x.tag i) ih
    go ih false i = ap (λ (v : Option Tag). if is_foreign n a (says x) then None else (if is_cast n x.tag then x.tag else v)) ih

-- the order of what is kept
pub follows_kept : (st : List ℕ) (t : Tag) (q h : List Item) → Lawful st (q ++ h) → is_session (way_of t.message) ≡ false → Follows (last_of t.message.name t.message.kind (q ++ h)) t → Follows (last_of t.message.name t.message.kind (without_session q ++ h)) t
follows_kept st t [] h law nos f = f
follows_kept st t (x ∷ xs) h law nos f = go (is_of_session x.tag) refl (follows_kept st t xs h law.1 nos)
  where
    n : ℕ
    n = t.message.name

    k : Kind
    k = t.message.kind

    dropped : (u : Tag) → x.tag ≡ Some u → is_session (way_of u.message) ≡ true → (u.message.name ≡ n) × (u.message.kind ≡ k) → Follows (Some u) t → Follows (last_of n k (without_session xs ++ h)) t
    dropped u g s same f =
        elim f [
          | inl v ↦ by_last (last_of n k (without_session xs ++ h)) refl v.0 v.1
          | inr v ↦ absurd (let w : is_session (way_of u.message) ≡ false = ap (λ (y : Message). is_session (way_of y)) v.0 ∙ nos in cc)
        ]
      where
        before : EachTag (IsBefore u) (without_session xs ++ h)
        before = every_kept (HasTag (IsBefore u)) xs h (all_before st u (xs ++ h) law.1 (law.0.tagged u g).order)

        by_last : (o : Option Tag) → last_of n k (without_session xs ++ h) ≡ o → u.message.number < t.message.number → t.part ≡ 0 → Follows o t
        by_last None e lt z = z
        by_last (Some s) e lt z =
            let b = last_of_each (IsBefore u) n k (without_session xs ++ h) s before e in
            let q = and_parts (s.message.name == n) (same_kind s.message.kind k) (last_of_is n k (without_session xs ++ h) s e) in
            elim (b (true_test s.message.name n q.0 ∙ sym same.0) (kind_same s.message.kind k q.1 ∙ sym same.1)) [
              | inl v ↦ inl (omega arith, z)
              | inr v ↦ inl (let g : s.message.number ≡ u.message.number = ap (λ (y : Message). y.number) v.0 in omega arith, z)
            ]

    at_tag : (o : Option Tag) → x.tag ≡ o → is_of_session o ≡ true → (Follows (last_of n k (xs ++ h)) t → Follows (last_of n k (without_session xs ++ h)) t) → (b : Bool) → is_of n k o ≡ b → Follows (if b then o else last_of n k (xs ++ h)) t → Follows (last_of n k (without_session xs ++ h)) t
    at_tag None g s ih b i f = cc
    at_tag (Some u) g s ih true i f =
        let q = and_parts (u.message.name == n) (same_kind u.message.kind k) i in
        dropped u g s (true_test u.message.name n q.0, kind_same u.message.kind k q.1) f
    at_tag (Some u) g s ih false i f = ih f

    go : (b : Bool) → is_of_session x.tag ≡ b → (Follows (last_of n k (xs ++ h)) t → Follows (last_of n k (without_session xs ++ h)) t) → Follows (last_of n k ((if b then without_session xs else x ∷ without_session xs) ++ h)) t
    go true i ih = at_tag x.tag refl i ih (is_of n k x.tag) refl f
    go false i ih = both (is_of n k x.tag) f
      where
        both : (b : Bool) → Follows (if b then x.tag else last_of n k (xs ++ h)) t → Follows (if b then x.tag else last_of n k (without_session xs ++ h)) t
        both true f = f
        both false f = ih f

pub not_session : (o : Option Tag) (t : Tag) → o ≡ Some t → is_of_session o ≡ false → is_session (way_of t.message) ≡ false
not_session None t e h = cc
not_session (Some u) t e h = let g : u ≡ t = cc in subst (λ (v : Tag). is_session (way_of v.message) ≡ false) g h

pub way_not_session : (w : Way) (d : ℕ) → is_session w ≡ false → w ≡ Session d → ⊥
way_not_session One d h e = cc
way_not_session Broadcast d h e = cc
way_not_session (Session b) d h e = cc

pub voiced_kept : (st : List ℕ) (n : ℕ) (f : Group) (q h : List Item) → Lawful st (q ++ h) → IsVoiced n f (q ++ h) → IsVoiced n f (without_session q ++ h)
voiced_kept st n (ConnectionManagement s d (Abort k p)) q h law v = claimed_kept st s q h law ∙ v
voiced_kept st n (Request p d s) q h law v = λ le. claimed_kept st s q h law ∙ v le
voiced_kept st n (ConnectionManagement s d (Bam x y p)) q h law v = claimed_kept st s q h law ∙ v
voiced_kept st n (DataTransfer s d p) q h law v = claimed_kept st s q h law ∙ v
voiced_kept st n _ q h law v = tt

-- the frames of the session may be withdrawn
pub lawful_kept : (st : List ℕ) (q h : List Item) → Lawful st (q ++ h) → Lawful st (without_session q ++ h)
lawful_kept st [] h law = law
lawful_kept st (x ∷ xs) h law = go (lawful_kept st xs h law.1) (is_of_session x.tag) refl
  where
    go : Lawful st (without_session xs ++ h) → (b : Bool) → is_of_session x.tag ≡ b → Lawful st ((if b then without_session xs else x ∷ without_session xs) ++ h)
    go ih true i = ih
    go ih false i = (
      record {
        tagged = λ t g.
            let nos = not_session x.tag t g i in
            let p = law.0.tagged t g in
            part_same st x t (xs ++ h) (without_session xs ++ h)
            (record {
              owned = claimed_kept st t.message.source xs h law.1;
              casts = cast_kept st t.message.name t.message.source xs h law.1;
              sessions = λ d w. absurd (way_not_session (way_of t.message) d nos w);
            })
            (follows_kept st t xs h law.1 nos p.order)
            p;
        plain = law.0.plain;
        starts = law.0.starts;
        honest = law.0.honest;
        voiced = voiced_kept st x.name (says x) xs h law.1 law.0.voiced;
      },
      ih,
    )
