-- The listener's law: at each reading of its path one entry comes to what it lists and to what it is to list, or none to both.
use Rattle.std.proofs.Common.{◌≡◌, ◌≢◌, ℕ, ◌<◌, ◌≤◌, Bool, true, false, ◌&&◌, ◌==◌, List, [], ◌∷◌, ◌++◌, length, Option, Some, None, if◌then◌else◌, sym, refl, ap, ◌∙◌, subst, inl, inr, arith}
use Rattle.dm_messages.specs.View.{decoding, same_kind}
use Rattle.dm_messages.specs.declared.kind.Kind.{Kind}
use Rattle.bus_model.specs.Expected.{Missed, Own, Received, Reception, is_part, readings}
use Rattle.bus_model.specs.Heard.{StationSettings}
use Rattle.bus_model.specs.Machine.{AreFit, Event, Run, World, names_of, new_stations, start}
use Rattle.bus_model.specs.Messages.{IsAmong, IsProper, Message, last_part_of, payload_sent}
use Rattle.bus_model.specs.Order.{IsBefore}
use Rattle.bus_model.specs.Overheard.{EntrySent, MessageSent, entries_overheard, put_sent, put_shown, same_who, sent_by}
use Rattle.bus_model.specs.OverheardExpected.{AreSent, IsPathOfListener, NoneOwn, entries_of_messages, entry_of, expected_overheard, is_overheard, is_read_back, is_to_list}
use Rattle.bus_model.specs.Traffic.{Item, Tag, says}
use Rattle.bus_model.specs.declared.who.Who.{Who}
use Rattle.bus_model.specs.declared.who.Who.TheVariants.{Named}
use Rattle.bus_model.proofs.Bridge.{reads_back}
use Rattle.bus_model.proofs.Lawful.{Lawful}
use Rattle.bus_model.proofs.Lookback.{EachTag, Every, HasTag, and_parts, every_rest, kind_same, lawful_rest, same_test, true_test}
use Rattle.bus_model.proofs.Order.{all_before}
use Rattle.bus_model.proofs.OverheardEnds.{IsEnded, other_ends_none, part_ends}
use Rattle.bus_model.proofs.OverheardParts.{IsUnder}
use Rattle.bus_model.proofs.OverheardTracks.{carried, carried_is}
use Rattle.bus_model.proofs.Path.{same_message}
use Rattle.bus_model.proofs.SeatLaw.{IsBooked, Numbered, number_below}
use Rattle.bus_model.proofs.Tells.{IsNotLast, is_listed, not_part}
use Rattle.bus_model.proofs.Worlds.{law_run, law_start}

-- ---- one message more among those that came

pub entries_same : (p q : Message → Bool) (begun : List Message) → ((x : Message) → IsAmong x begun → q x ≡ p x) → entries_of_messages q begun ≡ entries_of_messages p begun
entries_same p q [] h = refl
entries_same p q (x ∷ begun) h = rw (h x (inl refl), entries_same p q begun (λ y i. h y (inr i))) refl

-- it comes before all others: none of those begun after it came
pub entries_more : (p q : Message → Bool) (m : Message) (begun : List Message) → Numbered begun → IsAmong m begun → q m ≡ true → p m ≡ false
    → ((x : Message) → IsAmong x begun → x.number ≢ m.number → q x ≡ p x) → ((x : Message) → IsAmong x begun → m.number < x.number → p x ≡ false) → entries_of_messages q begun ≡ entry_of m ∷ entries_of_messages p begun
entries_more p q m [] num among now old same newer = absurd among
entries_more p q m (x ∷ begun) num among now old same newer =
    elim among [
      | inl g ↦
          (let at : m.number ≡ length begun = subst (λ (v : Message). v.number ≡ length begun) g num.0 in
          rw (ap q g ∙ now, ap p g ∙ old, entries_same p q begun (λ y i. same y (inr i) (λ e. let below = number_below y begun i num.1 in omega arith)), ap entry_of g) refl)
      | inr i ↦
          (let below = number_below m begun i num.1 in
          let none : p x ≡ false = newer x (inl refl) (let at = num.0 in omega arith) in
          let other : q x ≡ p x = same x (inl refl) (λ e. let at = num.0 in omega arith) in
          rw (other ∙ none, none) (entries_more p q m begun num.1 i now old (λ y j. same y (inr j)) (λ y j. newer y (inr j))))
    ]

-- a list with an entry before it, or without
abbrev pub one_more : Bool → EntrySent → List EntrySent → List EntrySent
one_more b v l = if b then v ∷ l else l

-- the part that is read is the last one of a message to list, all of which was read
abbrev pub lists_at : ℕ → Kind → Tag → List Reception → Bool
lists_at n k t path = is_listed n k t.message && (t.part == last_part_of t.message && is_read_back t.message path)

-- ---- what is to be listed

none_on_path : (x : Message) (old : List Item) (path : List Reception) → EachTag (IsNotLast x) (carried old path) → is_overheard x path ≡ false
none_on_path x old [] h = refl
none_on_path x old (Own e ∷ path) h = none_on_path x old path h.1
none_on_path x old (Missed es ∷ path) h = none_on_path x old path (every_rest (HasTag (IsNotLast x)) es (carried old path) h)
none_on_path x old (Received e ∷ path) h = rw (not_part x e.tag h.0) (none_on_path x old path h.1)

part_expected : (st : List ℕ) (begun : List Message) (e : Item) (old : List Item) (path : List Reception) (t : Tag) (n : ℕ) (k : Kind) → Numbered begun → Lawful st (e ∷ carried old path) → Every (IsBooked begun) (e ∷ carried old path) → e.tag ≡ Some t
    → expected_overheard n k begun (Received e ∷ path) ≡ one_more (lists_at n k t (Received e ∷ path)) (entry_of t.message) (expected_overheard n k begun path)
part_expected st begun e old path t n k num law booked tag = by_listing (lists_at n k t (Received e ∷ path)) refl
  where
    m : Message
    m = t.message

    before : Message → Bool
    before = is_to_list n k path

    now : Message → Bool
    now = is_to_list n k (Received e ∷ path)

    among : IsAmong m begun
    among = booked.0 t tag

    order : EachTag (IsBefore t) (carried old path)
    order = all_before st t (carried old path) law.1 (law.0.tagged t tag).order

    -- at this part, where it is no last one of x, nothing comes of x
    unless_last : (x : Message) → is_part x (last_part_of x) e.tag ≡ false → now x ≡ before x
    unless_last x h = rw h refl

    of_another : (x : Message) → x.number ≢ m.number → now x ≡ before x
    of_another x ne = unless_last x (not_part x e.tag (λ s g i l. let q : t ≡ s = cc in ne (sym i ∙ ap (λ (v : Tag). v.message.number) (sym q))))

    -- the last part of no message of the same NAME and kind that was begun later is older, nor of this one where this is its last
    none_older : (x : Message) → IsAmong x begun → m.number ≤ x.number → x.name ≡ m.name → x.kind ≡ m.kind → (x.number ≡ m.number → t.part ≡ last_part_of x) → is_overheard x path ≡ false
    none_older x i le name kind at = none_on_path x old path (each (carried old path) order booked.1)
      where
        one : (s : Tag) → IsBefore t s → IsAmong s.message begun → IsNotLast x s
        one s b j c d =
            let same : s.message ≡ x = same_message s.message x begun num j i c in
            elim (b (ap (λ (v : Message). v.name) same ∙ name) (ap (λ (v : Message). v.kind) same ∙ kind)) [
              | inl u ↦ omega arith
              | inr u ↦ (let g : x.number ≡ m.number = ap (λ (v : Message). v.number) (sym same ∙ u.0) in let f = at g in omega arith)
            ]

        each : (xs : List Item) → EachTag (IsBefore t) xs → Every (IsBooked begun) xs → EachTag (IsNotLast x) xs
        each [] b c = tt
        each (y ∷ ys) b c = (λ s g. one s (b.0 s g) (c.0 s g), each ys b.1 c.1)

    -- this message, before this part
    not_yet : (t.part == last_part_of m) ≡ true → before m ≡ false
    not_yet h = rw (none_older m among (omega arith) refl refl (λ g. true_test t.part (last_part_of m) h)) (never (is_listed n k m))
      where
        never : (u : Bool) → u && false ≡ false
        never true = refl
        never false = refl

    -- and at it
    at_last : (t.part == last_part_of m) ≡ true → now m ≡ (is_listed n k m && is_read_back m (Received e ∷ path))
    at_last h = let here : is_part m (last_part_of m) e.tag ≡ true = rw (tag, same_test m.number) h in rw here refl

    newer : is_listed n k m ≡ true → (x : Message) → IsAmong x begun → m.number < x.number → before x ≡ false
    newer listed x i l = by_listed (is_listed n k x) refl
      where
        by_listed : (u : Bool) → is_listed n k x ≡ u → u && is_overheard x path ≡ false
        by_listed false h = refl
        by_listed true h =
            let a = and_parts (x.name == n) (same_kind x.kind k) h in
            let b = and_parts (m.name == n) (same_kind m.kind k) listed in
            none_older x i (omega arith) (true_test x.name n a.0 ∙ sym (true_test m.name n b.0)) (kind_same x.kind k a.1 ∙ sym (kind_same m.kind k b.1)) (λ g. absurd (omega arith))

    by_listing : (u : Bool) → lists_at n k t (Received e ∷ path) ≡ u → expected_overheard n k begun (Received e ∷ path) ≡ one_more u (entry_of m) (expected_overheard n k begun path)
    by_listing true h =
        let a = and_parts (is_listed n k m) (t.part == last_part_of m && is_read_back m (Received e ∷ path)) h in
        let b = and_parts (t.part == last_part_of m) (is_read_back m (Received e ∷ path)) a.1 in
        entries_more before now m begun num among (at_last b.0 ∙ rw (a.0, b.1) refl) (not_yet b.0) (λ x i ne. of_another x ne) (newer a.0)
    by_listing false h = entries_same before now begun (λ x i. one x i (x.number == m.number) refl)
      where
        nothing : (u : Bool) → (t.part == last_part_of m) ≡ u → now m ≡ before m
        nothing true g = at_last g ∙ (rw g at h ∙ sym (not_yet g))
        nothing false g = unless_last m (rw (tag, same_test m.number) g)

        one : (x : Message) → IsAmong x begun → (u : Bool) → (x.number == m.number) ≡ u → now x ≡ before x
        one x i true g = subst (λ (v : Message). now v ≡ before v) (sym (same_message x m begun num i among (true_test x.number m.number g))) (nothing (t.part == last_part_of m) refl)
        one x i false g = of_another x (λ q. let yes : (x.number == m.number) ≡ true = rw q (same_test m.number) in cc)

-- ---- what is listed

part_listed : (n : ℕ) (k : Kind) (m : Message) (b : Bool) (o : Option MessageSent) (l : List EntrySent) → IsProper m → IsEnded m b o → put_sent (Named n) k o l ≡ one_more (is_listed n k m && b) (entry_of m) l
part_listed n k m b o l ok h =
    elim h [
      | inl e ↦ rw (e.1, e.0, never (is_listed n k m)) refl
      | inr w ↦ ap (λ (v : Option MessageSent). put_sent (Named n) k v l) w.2 ∙ by_name b w.0 w.1
    ]
  where
    never : (u : Bool) → u && false ≡ false
    never true = refl
    never false = refl

    read : (u : Bool) → (if u then put_shown m.destination (decoding (payload_sent m)) l else l) ≡ one_more (u && true) (entry_of m) l
    read true = rw (reads_back m ok) refl
    read false = refl

    by_name : (b : Bool) (w : Who) → IsUnder m.name b w → put_sent (Named n) k (Some (record { who = w; kind = m.kind; to = m.destination; bytes = payload_sent m })) l ≡ one_more (is_listed n k m && b) (entry_of m) l
    by_name true w u = rw u.2 (read (is_listed n k m))
    by_name false w u = rw (u.2, never (is_listed n k m)) refl

-- along any path
exact : (st : List ℕ) (begun : List Message) (old : List Item) (path : List Reception) → Numbered begun → NoneOwn path → Lawful st (carried old path) → Every (IsBooked begun) (carried old path) → (n : ℕ) (k : Kind) → entries_overheard (Named n) k (readings path) ≡ expected_overheard n k begun path
exact st begun old [] num own law booked n k = nothing begun
  where
    nothing : (begun : List Message) → [] ≡ expected_overheard n k begun []
    nothing [] = refl
    nothing (m ∷ older) = nothing older ∙ none (is_listed n k m) (entries_of_messages (is_to_list n k []) older)
      where
        none : (u : Bool) (l : List EntrySent) → l ≡ one_more (u && false) (entry_of m) l
        none true l = refl
        none false l = refl
exact st begun old (Own e ∷ path) num own law booked n k = absurd own
exact st begun old (Missed es ∷ path) num own law booked n k = exact st begun old path num own (lawful_rest st es (carried old path) law) (every_rest (IsBooked begun) es (carried old path) booked) n k
exact st begun old (Received e ∷ path) num own law booked n k = by_tag (exact st begun old path num own law.1 booked.1 n k) e.tag refl
  where
    by_tag : entries_overheard (Named n) k (readings path) ≡ expected_overheard n k begun path → (o : Option Tag) → e.tag ≡ o → put_sent (Named n) k (sent_by (says e) (readings path)) (entries_overheard (Named n) k (readings path)) ≡ expected_overheard n k begun (Received e ∷ path)
    by_tag same None g =
        rw (other_ends_none st e old path law own g)
        (same ∙ entries_same (is_to_list n k (Received e ∷ path)) (is_to_list n k path) begun (λ x i. rw g refl))
    by_tag same (Some t) g =
        let p = law.0.tagged t g in
        part_listed n k t.message (t.part == last_part_of t.message && is_read_back t.message (Received e ∷ path)) (sent_by (says e) (readings path)) (entries_overheard (Named n) k (readings path)) p.proper
        (part_ends st begun t.message t.part e old path num (booked.0 t g) own law.1 booked.1 p g)
        ∙ (ap (one_more (lists_at n k t (Received e ∷ path)) (entry_of t.message)) same ∙ sym (part_expected st begun e old path t n k num law booked g))

-- ---- that it was sent, under whomever

sent_listed : (k : Kind) (begun : List Message) (w : Who) (m : Message) (b : Bool) (o : Option MessageSent) (l : List EntrySent) → IsAmong m begun → IsProper m → IsEnded m b o → AreSent k begun l → AreSent k begun (put_sent w k o l)
sent_listed k begun w m b o l among ok h all =
    elim h [
      | inl e ↦ rw e.1 all
      | inr u ↦ rw u.2 (by_list (same_who u.0 w) (same_kind m.kind k) refl)
    ]
  where
    by_list : (t u : Bool) → same_kind m.kind k ≡ u → AreSent k begun (if t && u then put_shown m.destination (decoding (payload_sent m)) l else l)
    by_list true true i = rw (reads_back m ok) ((m, among, kind_same m.kind k i, refl), all)
    by_list true false i = all
    by_list false u i = all

all_sent : (st : List ℕ) (begun : List Message) (old : List Item) (path : List Reception) → Numbered begun → NoneOwn path → Lawful st (carried old path) → Every (IsBooked begun) (carried old path) → (w : Who) (k : Kind) → AreSent k begun (entries_overheard w k (readings path))
all_sent st begun old [] num own law booked w k = tt
all_sent st begun old (Own e ∷ path) num own law booked w k = absurd own
all_sent st begun old (Missed es ∷ path) num own law booked w k = all_sent st begun old path num own (lawful_rest st es (carried old path) law) (every_rest (IsBooked begun) es (carried old path) booked) w k
all_sent st begun old (Received e ∷ path) num own law booked w k = by_tag (all_sent st begun old path num own law.1 booked.1 w k) e.tag refl
  where
    by_tag : AreSent k begun (entries_overheard w k (readings path)) → (o : Option Tag) → e.tag ≡ o → AreSent k begun (put_sent w k (sent_by (says e) (readings path)) (entries_overheard w k (readings path)))
    by_tag all None g = rw (other_ends_none st e old path law own g) all
    by_tag all (Some t) g =
        let p = law.0.tagged t g in
        sent_listed k begun w t.message _ (sent_by (says e) (readings path)) (entries_overheard w k (readings path)) (booked.0 t g) p.proper
        (part_ends st begun t.message t.part e old path num (booked.0 t g) own law.1 booked.1 p g) all

-- ---- in a run

-- what holds of the wire holds as far as the listener's path goes
pub record OnPath (begun : List Message) (old : List Item) (path : List Reception) : Type 0 where
  pub names : List ℕ
  pub numbered : Numbered begun
  pub law : Lawful names (carried old path)
  pub booked : Every (IsBooked begun) (carried old path)

pub on_path : (settings : List StationSettings) → AreFit settings → (events : List Event) (w : World) → Run (start settings) events w → (path : List Reception) → (listens : IsPathOfListener w.wire path) → OnPath w.begun listens.before path
on_path settings fit events w run path listens =
    let st = names_of (new_stations 0 settings) in
    let law = law_run st (start settings) events w (law_start settings fit) run in
    let along : w.wire ≡ listens.later ++ carried listens.before path = listens.along ∙ ap (λ (v : List Item). listens.later ++ v) (sym (carried_is listens.before path)) in
    record {
      names = st;
      numbered = law.numbered;
      law = lawful_rest st listens.later (carried listens.before path) (subst (Lawful st) along law.wire);
      booked = every_rest (IsBooked w.begun) listens.later (carried listens.before path) (subst (Every (IsBooked w.begun)) along law.booked);
    }

pub listener_exact : (settings : List StationSettings) → AreFit settings → (events : List Event) (w : World) → Run (start settings) events w → (path : List Reception) → IsPathOfListener w.wire path → (n : ℕ) (k : Kind) → entries_overheard (Named n) k (readings path) ≡ expected_overheard n k w.begun path
listener_exact settings fit events w run path listens n k =
    let on = on_path settings fit events w run path listens in
    exact on.names w.begun listens.before path on.numbered listens.none_own on.law on.booked n k

pub listener_sent : (settings : List StationSettings) → AreFit settings → (events : List Event) (w : World) → Run (start settings) events w → (path : List Reception) → IsPathOfListener w.wire path → (who : Who) (k : Kind) → AreSent k w.begun (entries_overheard who k (readings path))
listener_sent settings fit events w run path listens who k =
    let on = on_path settings fit events w run path listens in
    all_sent on.names w.begun listens.before path on.numbered listens.none_own on.law on.booked who k
