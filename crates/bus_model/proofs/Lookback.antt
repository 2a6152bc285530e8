-- A foreign frame in the middle changes nothing that a seat's own frames look back to.
use Rattle.std.proofs.Common.{◌≡◌, ◌≢◌, ◌⊎◌, ℕ, suc, zero, ◌<◌, ◌≤◌, Bool, true, false, ◌&&◌, ◌||◌, ◌==◌, List, [], ◌∷◌, ◌++◌, Option, Some, None, if◌then◌else◌, sym, refl, ap, ◌∙◌, subst, inl, inr, arith, ne_eqb}
use Rattle.address_claim.specs.Claiming.{is_held}
use Rattle.dm_messages.specs.declared.kind.Kind.{Kind}
use Rattle.dm_messages.specs.declared.kind.Kind.TheVariants.{Dm1, Dm2, Dm6}
use Rattle.parameter_group.specs.Group.{AddressClaimed, ConnectionManagement, DataTransfer, Group, Request}
use Rattle.transport.specs.declared.control.Control.TheVariants.{Abort, Bam}
use Rattle.bus_model.specs.Expected.{is_claim}
use Rattle.dm_messages.specs.View.{same_kind}
use Rattle.bus_model.specs.Messages.{Broadcast, Message, One, Session, Way, way_of}
use Rattle.bus_model.specs.Traffic.{Item, Tag, claimed_by, owner_after, says}
use Rattle.bus_model.proofs.Lawful.{Allowed, Continues, Follows, IsVoiced, Lawful, PartLaw, breaks, cast, is_cast, is_foreign, is_of, is_sess, last_of, sess, tag_of}

pub ne_test : (m n : ℕ) → m ≢ n → (m == n) ≡ false
ne_test m n h = ne_eqb m n h

pub same_test : (n : ℕ) → (n == n) ≡ true
same_test n = grind arith

pub true_test : (m n : ℕ) → (m == n) ≡ true → m ≡ n
true_test m n h = grind arith

pub same_kind_self : (k : Kind) → same_kind k k ≡ true
same_kind_self Dm1 = refl
same_kind_self Dm2 = refl
same_kind_self Dm6 = refl

pub kind_same : (k l : Kind) → same_kind k l ≡ true → k ≡ l
kind_same Dm1 Dm1 h = refl
kind_same Dm2 Dm2 h = refl
kind_same Dm6 Dm6 h = refl
kind_same Dm1 Dm2 h = cc
kind_same Dm1 Dm6 h = cc
kind_same Dm2 Dm1 h = cc
kind_same Dm2 Dm6 h = cc
kind_same Dm6 Dm1 h = cc
kind_same Dm6 Dm2 h = cc

pub and_parts : (a b : Bool) → a && b ≡ true → (a ≡ true) × (b ≡ true)
and_parts true b h = (refl, h)
and_parts false b h = cc

pub or_parts : (a b : Bool) → a || b ≡ false → (a ≡ false) × (b ≡ false)
or_parts true b h = cc
or_parts false b h = (refl, h)

pub pick_cases : {A : Type 0} (b : Bool) (o r v : A) → (if b then o else r) ≡ v → ((b ≡ true) × (o ≡ v)) ⊎ ((b ≡ false) × (r ≡ v))
pick_cases true o r v h = inl (refl, h)
pick_cases false o r v h = inr (refl, h)

-- an address that is held
pub held_is : (held : Option ℕ) (address : ℕ) → is_held held address ≡ true → held ≡ Some address
held_is None address h = cc
held_is (Some a) address h = ap Some (true_test a address h)

pub claimed_by_skip : (a : ℕ) (f : Group) (d : Option ℕ) → is_claim a f ≡ false → owner_after a f d ≡ d
claimed_by_skip a (AddressClaimed s n) d h = rw h
claimed_by_skip a _ d h = refl

pub foreign_from_claim : (n a : ℕ) (f : Group) → is_claim a f ≡ false → is_foreign n a f ≡ false
foreign_from_claim n a (AddressClaimed s m) h = rw h
foreign_from_claim n a _ h = refl

pub breaks_from_claim : (n a d by : ℕ) (f : Group) → is_claim a f ≡ false → is_claim d f ≡ false → by ≢ n → breaks n a d by f ≡ false
breaks_from_claim n a d by (AddressClaimed s m) h g ne = rw (h, g)
breaks_from_claim n a d by (ConnectionManagement s e (Abort k p)) h g ne = let i = ne_test by n ne in rw i
breaks_from_claim n a d by _ h g ne = refl

pub claimed_skip : (a : ℕ) (q : List Item) (e : Item) (h : List Item) → is_claim a (says e) ≡ false → claimed_by a (q ++ e ∷ h) ≡ claimed_by a (q ++ h)
claimed_skip a [] e h i = claimed_by_skip a (says e) (claimed_by a h) i
claimed_skip a (x ∷ xs) e h i = ap (owner_after a (says x)) (claimed_skip a xs e h i)

pub last_of_skip : (n : ℕ) (k : Kind) (q : List Item) (e : Item) (h : List Item) → is_of n k e.tag ≡ false → last_of n k (q ++ e ∷ h) ≡ last_of n k (q ++ h)
last_of_skip n k [] e h i = rw i
last_of_skip n k (x ∷ xs) e h i = ap (λ (v : Option Tag). if is_of n k x.tag then x.tag else v) (last_of_skip n k xs e h i)

pub cast_skip : (n a : ℕ) (q : List Item) (e : Item) (h : List Item) → is_foreign n a (says e) ≡ false → is_cast n e.tag ≡ false → cast n a (q ++ e ∷ h) ≡ cast n a (q ++ h)
cast_skip n a [] e h i j = rw (i, j)
cast_skip n a (x ∷ xs) e h i j = ap (λ (v : Option Tag). if is_foreign n a (says x) then None else (if is_cast n x.tag then x.tag else v)) (cast_skip n a xs e h i j)

pub sess_skip : (n a d : ℕ) (q : List Item) (e : Item) (h : List Item) → breaks n a d e.name (says e) ≡ false → is_sess n e.tag ≡ false → sess n a d (q ++ e ∷ h) ≡ sess n a d (q ++ h)
sess_skip n a d [] e h i j = rw (i, j)
sess_skip n a d (x ∷ xs) e h i j = ap (λ (v : Option Tag). if breaks n a d x.name (says x) then None else (if is_sess n x.tag then x.tag else v)) (sess_skip n a d xs e h i j)

-- the tag is of no message of the NAME
abbrev pub IsNotOf : ℕ → Item → Type 0
IsNotOf n e = (t : Tag) → e.tag ≡ Some t → t.message.name ≢ n

pub of_apart : (n : ℕ) (k : Kind) (o : Option Tag) → ((t : Tag) → o ≡ Some t → t.message.name ≢ n) → is_of n k o ≡ false
of_apart n k None h = refl
of_apart n k (Some t) h = let i = ne_test t.message.name n (h t refl) in rw i

pub cast_apart : (n : ℕ) (o : Option Tag) → ((t : Tag) → o ≡ Some t → t.message.name ≢ n) → is_cast n o ≡ false
cast_apart n None h = refl
cast_apart n (Some t) h = let i = ne_test t.message.name n (h t refl) in rw i

pub sess_apart : (n : ℕ) (o : Option Tag) → ((t : Tag) → o ≡ Some t → t.message.name ≢ n) → is_sess n o ≡ false
sess_apart n None h = refl
sess_apart n (Some t) h = let i = ne_test t.message.name n (h t refl) in rw i

-- what a part's law is about: two lists that look the same to it
pub record LooksSame (m : Message) (xs ys : List Item) : Type 0 where
  pub owned : claimed_by m.source ys ≡ claimed_by m.source xs
  pub casts : cast m.name m.source ys ≡ cast m.name m.source xs
  pub sessions : (d : ℕ) → (way_of m) ≡ Session d → (sess m.name m.source d ys ≡ sess m.name m.source d xs) × (claimed_by d ys ≡ claimed_by d xs)

pub continues_same : (st : List ℕ) (w : Way) (m : Message) (j : ℕ) (xs ys : List Item) → (way_of m) ≡ w → LooksSame m xs ys → Continues st w xs m j → Continues st w ys m j
continues_same st One m j xs ys w same h = tt
continues_same st Broadcast m zero xs ys w same h = tt
continues_same st Broadcast m (suc j) xs ys w same h = same.casts ∙ h
continues_same st (Session d) m zero xs ys w same h = (record { name = h.0.name; station = h.0.station; claimed = (same.sessions d w).1 ∙ h.0.claimed }, h.1)
continues_same st (Session d) m (suc j) xs ys w same h = (same.sessions d w).0 ∙ h

pub part_same : (st : List ℕ) (x : Item) (t : Tag) (xs ys : List Item) → LooksSame t.message xs ys → Follows (last_of t.message.name t.message.kind ys) t → PartLaw st x t xs → PartLaw st x t ys
part_same st x t xs ys same order law = record {
  proper = law.proper;
  frame = law.frame;
  seat = law.seat;
  name = law.name;
  unit = law.unit;
  upto = law.upto;
  owned = same.owned ∙ law.owned;
  order = order;
  joined = continues_same st (way_of t.message) t.message t.part xs ys refl same law.joined;
}

-- a session among the frames queued is the open one
abbrev pub InSession : Way → Option Tag → Message → Type 0
InSession One o m = Unit {0}
InSession Broadcast o m = Unit {0}
InSession (Session d) o m = (j : ℕ) × (o ≡ Some (tag_of (m) (j)))

abbrev pub IsFrom : Option ℕ → Group → Type 0
IsFrom held (ConnectionManagement s d (Abort k p)) = held ≡ Some s
IsFrom held (Request p d s) = s ≤ 253 → held ≡ Some s
IsFrom held (AddressClaimed s m) = held ≡ Some s
IsFrom held (ConnectionManagement s d (Bam size packets pgn)) = held ≡ Some s
IsFrom held (DataTransfer s d p) = held ≡ Some s
IsFrom held _ = Unit {0}

-- a frame queued: what it is part of has the NAME, and it is from the address held
pub record IsMine (n : ℕ) (held : Option ℕ) (session : Option Tag) (x : Item) : Type 0 where
  pub name : x.name ≡ n
  pub tags : (t : Tag) → x.tag ≡ Some t → (t.message.name ≡ n) × (held ≡ Some t.message.source) × InSession (way_of t.message) session t.message
  pub voice : IsFrom held (says x)

-- P of each
abbrev pub Every : (Item → Type 0) → List Item → Type 0
Every P [] = Unit {0}
Every P (x ∷ xs) = P x × Every P xs

-- a frame that touches neither the address held nor the open session's destination
pub record IsApart (n : ℕ) (held : Option ℕ) (session : Option Tag) (e : Item) : Type 0 where
  pub name : e.name ≢ n
  pub tags : IsNotOf n e
  pub quiet : (a : ℕ) → held ≡ Some a → is_claim a (says e) ≡ false
  pub uncut : (t : Tag) (d : ℕ) → session ≡ Some t → (way_of t.message) ≡ Session d → is_claim d (says e) ≡ false

pub voiced_skip : (n : ℕ) (held : Option ℕ) (f : Group) (xs : List Item) (e : Item) (h : List Item) → IsFrom held f → ((a : ℕ) → held ≡ Some a → is_claim a (says e) ≡ false) → IsVoiced n f (xs ++ h) → IsVoiced n f (xs ++ e ∷ h)
voiced_skip n held (ConnectionManagement s d (Abort k p)) xs e h from quiet v = claimed_skip s xs e h (quiet s from) ∙ v
voiced_skip n held (Request p d s) xs e h from quiet v = λ le. claimed_skip s xs e h (quiet s (from le)) ∙ v le
voiced_skip n held (ConnectionManagement s d (Bam x y p)) xs e h from quiet v = claimed_skip s xs e h (quiet s from) ∙ v
voiced_skip n held (DataTransfer s d p) xs e h from quiet v = claimed_skip s xs e h (quiet s from) ∙ v
voiced_skip n held _ xs e h from quiet v = tt

pub session_uncut : (w : Way) (d : ℕ) (o : Option Tag) (m : Message) (e : Item) → w ≡ Session d → InSession w o m → (way_of m) ≡ w → ((t : Tag) (d : ℕ) → o ≡ Some t → (way_of t.message) ≡ Session d → is_claim d (says e) ≡ false) → is_claim d (says e) ≡ false
session_uncut One d o m e w i q h = cc
session_uncut Broadcast d o m e w i q h = cc
session_uncut (Session b) d o m e w i q h = h _ d i.1 (q ∙ w)

pub insert_same : (n : ℕ) (held : Option ℕ) (session : Option Tag) (m : Message) (xs : List Item) (e : Item) (h : List Item) → m.name ≡ n → held ≡ Some m.source → InSession (way_of m) session m → IsApart n held session e → LooksSame m (xs ++ h) (xs ++ e ∷ h)
insert_same n held session m xs e h name from in' apart =
    let quiet = apart.quiet m.source from in
    let tags : IsNotOf m.name e = λ t g i. apart.tags t g (i ∙ name) in
    record {
      owned = claimed_skip m.source xs e h quiet;
      casts = cast_skip m.name m.source xs e h (foreign_from_claim m.name m.source (says e) quiet) (cast_apart m.name e.tag tags);
      sessions = λ d w.
          let uncut = session_uncut (way_of m) d session m e w in' refl apart.uncut in (
            sess_skip m.name m.source d xs e h (breaks_from_claim m.name m.source d e.name (says e) quiet uncut (λ i. apart.name (i ∙ name))) (sess_apart m.name e.tag tags),
            claimed_skip d xs e h uncut,
          );
    }

-- a foreign frame that is no claim of the address held or of the open session's destination may stand in the middle
pub insert : (st : List ℕ) (n : ℕ) (held : Option ℕ) (session : Option Tag) (q : List Item) (e : Item) (h : List Item) → Lawful st (q ++ h) → Every (IsMine n held session) q → IsApart n held session e → Allowed st e h → Lawful st (q ++ e ∷ h)
insert st n held session [] e h law mine apart allowed = (allowed, law)
insert st n held session (x ∷ xs) e h law mine apart allowed = (
  record {
    tagged = λ t g.
        let m = mine.0.tags t g in
        let p = law.0.tagged t g in
        let tags : IsNotOf t.message.name e = λ u i j. apart.tags u i (j ∙ m.0) in
        part_same st x t (xs ++ h) (xs ++ e ∷ h)
        (insert_same n held session t.message xs e h m.0 m.1 m.2 apart)
        (subst (λ (v : Option Tag). Follows v t) (sym (last_of_skip t.message.name t.message.kind xs e h (of_apart t.message.name t.message.kind e.tag tags))) p.order)
        p;
    plain = law.0.plain;
    starts = law.0.starts;
    honest = law.0.honest;
    voiced = voiced_skip x.name held (says x) xs e h mine.0.voice apart.quiet law.0.voiced;
  },
  insert st n held session xs e h law.1 mine.1 apart allowed,
)

pub lawful_rest : (st : List ℕ) (xs ys : List Item) → Lawful st (xs ++ ys) → Lawful st ys
lawful_rest st [] ys h = h
lawful_rest st (x ∷ xs) ys h = lawful_rest st xs ys h.1

abbrev pub HasTag : (Tag → Type 0) → Item → Type 0
HasTag P x = (t : Tag) → x.tag ≡ Some t → P t

-- each tag has P
abbrev pub EachTag : (Tag → Type 0) → List Item → Type 0
EachTag P xs = Every (HasTag P) xs

pub every_append : (P : Item → Type 0) (xs ys : List Item) → Every P xs → Every P ys → Every P (xs ++ ys)
every_append P [] ys h g = g
every_append P (x ∷ xs) ys h g = (h.0, every_append P xs ys h.1 g)

pub every_front : (P : Item → Type 0) (xs ys : List Item) → Every P (xs ++ ys) → Every P xs
every_front P [] ys h = tt
every_front P (x ∷ xs) ys h = (h.0, every_front P xs ys h.1)

pub every_rest : (P : Item → Type 0) (xs ys : List Item) → Every P (xs ++ ys) → Every P ys
every_rest P [] ys h = h
every_rest P (x ∷ xs) ys h = every_rest P xs ys h.1

pub every_weaker : (P Q : Item → Type 0) (xs : List Item) → ((x : Item) → P x → Q x) → Every P xs → Every Q xs
every_weaker P Q [] f h = tt
every_weaker P Q (x ∷ xs) f h = (f x h.0, every_weaker P Q xs f h.1)

pub last_of_each : (P : Tag → Type 0) (n : ℕ) (k : Kind) (xs : List Item) (t : Tag) → EachTag P xs → last_of n k xs ≡ Some t → P t
last_of_each P n k [] t h e = cc
last_of_each P n k (x ∷ xs) t h e =
    elim (pick_cases (is_of n k x.tag) x.tag (last_of n k xs) (Some t) e) [
      | inl w ↦ h.0 t w.1
      | inr w ↦ last_of_each P n k xs t h.1 w.1
    ]

pub last_of_is : (n : ℕ) (k : Kind) (xs : List Item) (t : Tag) → last_of n k xs ≡ Some t → is_of n k (Some t) ≡ true
last_of_is n k [] t e = cc
last_of_is n k (x ∷ xs) t e =
    elim (pick_cases (is_of n k x.tag) x.tag (last_of n k xs) (Some t) e) [
      | inl w ↦ ap (is_of n k) (sym w.1) ∙ w.0
      | inr w ↦ last_of_is n k xs t w.1
    ]

pub follows_first : (o : Option Tag) (m : Message) → ((s : Tag) → o ≡ Some s → s.message.number < m.number) → Follows o (tag_of (m) (0))
follows_first None m h = refl
follows_first (Some s) m h = inl (h s refl, refl)
