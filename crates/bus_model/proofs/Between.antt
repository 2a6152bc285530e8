-- What is half sent between two addresses is what looking back finds.
use Rattle.std.proofs.Common.{◌≡◌, ◌≢◌, ℕ, suc, ◌<◌, ◌≤◌, Bool, true, false, not, ◌&&◌, ◌||◌, ◌==◌, List, [], ◌∷◌, ◌++◌, length, drop, slice_index, Option, Some, None, if◌then◌else◌, sym, refl, ap, ◌∙◌, subst, inl, inr, arith}
use Rattle.can_frame.specs.FrameValue.{FrameValue}
use Rattle.can_frame.specs.declared.reading.Reading.{Reading}
use Rattle.can_frame.specs.declared.reading.Reading.TheVariants.{Empty, Frame, Gap}
use Rattle.dm_messages.specs.declared.kind.Kind.{Kind}
use Rattle.parameter_group.specs.Group.{Acknowledgment, AddressClaimed, CannotClaim, ConnectionManagement, DataTransfer, Diagnostic, Group, Other, Request, group_of}
use Rattle.transport.specs.Assembling.{is_next}
use Rattle.transport.specs.Pieces.{packet_count}
use Rattle.transport.specs.declared.control.Control.TheVariants.{Abort, Bam, Cts, EndAck, Rts}
use Rattle.reassembly.specs.Partials.{is_whole, unfinished, with_packet}
use Rattle.bus_model.specs.Heard.{kind_of}
use Rattle.bus_model.specs.LookBack.{AreNumbered, packet_before, packets_heard, pieces_of}
use Rattle.bus_model.specs.Overheard.{HalfSent, newly_sent, between_after, between_heard, is_named, is_pair, kept_by_name, who_heard}
use Rattle.bus_model.specs.OverheardBack.{EndNone, EndsNone, IsAnnouncement}
use Rattle.bus_model.specs.declared.who.Who.{Who}
use Rattle.bus_model.specs.declared.who.Who.TheVariants.{Named, Unclaimed}
use Rattle.bus_model.proofs.Half.{IsNext, length_pieces_of, next_facts, next_from}
use Rattle.bus_model.proofs.Lookback.{and_parts, ne_test, pick_cases, same_test, true_test}

or_right : (b : Bool) → (b || true) ≡ true
or_right true = refl
or_right false = refl

pub named_is : (n : ℕ) (w : Who) → is_named n w ≡ true → w ≡ Named n
named_is n (Named m) h = ap (λ (v : ℕ). Named v) (sym (true_test n m h))
named_is n (Unclaimed a g) h = absurd cc

-- a packet that was taken
pub record TakenFrom (q : List ℕ) (before : Option HalfSent) (j : HalfSent) : Type 0 where
  pub old : HalfSent
  pub was : before ≡ Some old
  pub next : IsNext old.size old.pieces q
  pub grown : j ≡ record old { pieces = old.pieces ++ drop 1 q ∷ [] }

pub taken_from : (q : List ℕ) (before : Option HalfSent) (j : HalfSent) → with_packet q before ≡ Some j → TakenFrom q before j
taken_from q None j h = cc
taken_from q (Some b) j h =
    elim (pick_cases (is_next b.size b.pieces q) (Some (record b { pieces = b.pieces ++ drop 1 q ∷ [] })) None (Some j) h) [
      | inl w ↦ record { old = b; was = refl; next = next_facts b.size b.pieces q w.0; grown = cc }
      | inr w ↦ cc w.1
    ]

pub half_open : (o : Option HalfSent) (j : HalfSent) → unfinished o ≡ Some j → o ≡ Some j
half_open None j h = cc
half_open (Some b) j h = elim (pick_cases (is_whole b) None (Some b) (Some j) h) [ inl w ↦ cc w.1 | inr w ↦ w.1 ]

-- half sent from a to d
pub record HalfBetween (a d : ℕ) (j : HalfSent) (rs : List Reading) : Type 0 where
  pub pgn : ℕ
  pub since : List Reading
  pub start : FrameValue
  pub before : List Reading
  pub split : rs ≡ since ++ Frame start ∷ before
  pub starts : IsAnnouncement a d j.size pgn (group_of start)
  pub kind : kind_of pgn ≡ Some j.tag.kind
  pub who : j.tag.who ≡ who_heard a before
  pub quiet : EndNone a d j.tag.who since
  pub numbered : AreNumbered (packets_heard a d since)
  pub pieces : j.pieces ≡ pieces_of (packets_heard a d since)

between_empty : (a d : ℕ) (j : HalfSent) (rs : List Reading) → HalfBetween a d j rs → HalfBetween a d j (Empty ∷ rs)
between_empty a d j rs h = record { pgn = h.pgn; since = Empty ∷ h.since; start = h.start; before = h.before; split = ap (λ (v : List Reading). Empty ∷ v) h.split; starts = h.starts; kind = h.kind; who = h.who; quiet = h.quiet; numbered = h.numbered; pieces = h.pieces }

-- a frame that leaves it as it is
between_more : (a d : ℕ) (j : HalfSent) (f : FrameValue) (rs : List Reading) → EndsNone a d j.tag.who (group_of f) → ((l : List (List ℕ)) → packet_before a d (group_of f) l ≡ l) → HalfBetween a d j rs → HalfBetween a d j (Frame f ∷ rs)
between_more a d j f rs q p h = record {
  pgn = h.pgn;
  since = Frame f ∷ h.since;
  start = h.start;
  before = h.before;
  split = ap (λ (v : List Reading). Frame f ∷ v) h.split;
  starts = h.starts;
  kind = h.kind;
  who = h.who;
  quiet = (q, h.quiet);
  numbered = subst AreNumbered (sym (p (packets_heard a d h.since))) h.numbered;
  pieces = h.pieces ∙ ap pieces_of (sym (p (packets_heard a d h.since)));
}

-- the next packet is taken
between_taken : (a d : ℕ) (b : HalfSent) (f : FrameValue) (q : List ℕ) (rs : List Reading) → group_of f ≡ DataTransfer a d q → IsNext b.size b.pieces q → HalfBetween a d b rs → HalfBetween a d (record b { pieces = b.pieces ++ drop 1 q ∷ [] }) (Frame f ∷ rs)
between_taken a d b f q rs e next h =
    let ps : packets_heard a d (Frame f ∷ h.since) ≡ q ∷ packets_heard a d h.since = rw (e, same_test a, same_test d) refl in
    let len : length b.pieces ≡ length (packets_heard a d h.since) = ap (λ (v : List (List ℕ)). length v) h.pieces ∙ length_pieces_of (packets_heard a d h.since) in
    let number : slice_index q 0 ≡ suc (length (packets_heard a d h.since)) = next.number ∙ ap suc len in
    record {
      pgn = h.pgn;
      since = Frame f ∷ h.since;
      start = h.start;
      before = h.before;
      split = ap (λ (v : List Reading). Frame f ∷ v) h.split;
      starts = h.starts;
      kind = h.kind;
      who = h.who;
      quiet = (subst (EndsNone a d b.tag.who) (sym e) tt, h.quiet);
      numbered = subst AreNumbered (sym ps) (next.len, number, h.numbered);
      pieces = ap (λ (v : List (List ℕ)). v ++ drop 1 q ∷ []) h.pieces ∙ ap pieces_of (sym ps);
    }

-- an Rts that is none of the pair
not_of_pair : (a d s e : ℕ) → (is_pair a d s e && not (d == 255)) ≡ false → s ≡ a → e ≡ d → d ≡ 255
not_of_pair a d s e w i k = go (d == 255) refl
  where
    go : (b : Bool) → (d == 255) ≡ b → d ≡ 255
    go true t = true_test d 255 t
    go false t = (let y : (is_pair a d s e && not (d == 255)) ≡ true = rw (i, k, same_test a, same_test d, t) refl in absurd cc)

-- an abort that is by neither of the two
not_by_either : (a d s e : ℕ) → ((is_pair a d s e || is_pair d a s e) && not (d == 255)) ≡ false → d ≢ 255 → (s ≡ a → e ≢ d) × (s ≡ d → e ≢ a)
not_by_either a d s e w one = (
  λ i k. (let y : ((is_pair a d s e || is_pair d a s e) && not (d == 255)) ≡ true = rw (i, k, same_test a, same_test d, ne_test d 255 one) refl in absurd cc),
  λ i k. (let y : ((is_pair a d s e || is_pair d a s e) && not (d == 255)) ≡ true = rw (i, k, same_test d, same_test a, or_right (d == a && a == d), ne_test d 255 one) refl in absurd cc),
)

-- what an announcement begins
between_begun : (a d : ℕ) (j : HalfSent) (f : FrameValue) (rs : List Reading) (size pgn : ℕ) → IsAnnouncement a d size pgn (group_of f) → newly_sent (kind_of pgn) size (who_heard a rs) ≡ Some j → HalfBetween a d j (Frame f ∷ rs)
between_begun a d j f rs size pgn starts h = go (kind_of pgn) refl h
  where
    go : (k : Option Kind) → kind_of pgn ≡ k → newly_sent k size (who_heard a rs) ≡ Some j → HalfBetween a d j (Frame f ∷ rs)
    go None i g = cc
    go (Some k) i g =
        let q : ◌≡◌ {A = HalfSent} (record { tag = record { who = who_heard a rs; kind = k }; size = size; pieces = [] }) j = cc in
        subst (λ (z : HalfSent). HalfBetween a d z (Frame f ∷ rs)) q (record {
          pgn = pgn;
          since = [];
          start = f;
          before = rs;
          split = refl;
          starts = starts;
          kind = i;
          who = refl;
          quiet = tt;
          numbered = tt;
          pieces = refl;
        })

between_step : (a d : ℕ) (j : HalfSent) (f : FrameValue) (rs : List Reading) → ((i : HalfSent) → between_heard a d rs ≡ Some i → HalfBetween a d i rs) → (g : Group) → group_of f ≡ g → between_after a d g (who_heard a rs) (between_heard a d rs) ≡ Some j → HalfBetween a d j (Frame f ∷ rs)
between_step a d j f rs ih (ConnectionManagement s e (Bam x y p)) eg h =
    elim (pick_cases (is_pair a d s e && d == 255) (newly_sent (kind_of p) x (who_heard a rs)) (between_heard a d rs) (Some j) h) [
      | inl w ↦
          (let t = and_parts (is_pair a d s e) (d == 255) w.0 in
          let u = and_parts (s == a) (e == d) t.0 in
          between_begun a d j f rs x p (subst (IsAnnouncement a d x p) (sym eg) (true_test s a u.0, true_test e d u.1, true_test d 255 t.1, refl, refl)) w.1)
      | inr w ↦ between_more a d j f rs (subst (EndsNone a d j.tag.who) (sym eg) (λ i k l. let y : (is_pair a d s e && d == 255) ≡ true = rw (i, k, l, same_test a) refl in absurd cc)) (λ l. rw eg refl) (ih j w.1)
    ]
between_step a d j f rs ih (ConnectionManagement s e (Rts x y z p)) eg h =
    elim (pick_cases (is_pair a d s e && not (d == 255)) (newly_sent (kind_of p) x (who_heard a rs)) (between_heard a d rs) (Some j) h) [
      | inl w ↦
          (let t = and_parts (is_pair a d s e) (not (d == 255)) w.0 in
          let u = and_parts (s == a) (e == d) t.0 in
          let one : d ≢ 255 = (λ l. let y : not (d == 255) ≡ false = rw l refl in absurd cc) in
          between_begun a d j f rs x p (subst (IsAnnouncement a d x p) (sym eg) (true_test s a u.0, true_test e d u.1, one, refl, refl)) w.1)
      | inr w ↦ between_more a d j f rs (subst (EndsNone a d j.tag.who) (sym eg) (not_of_pair a d s e w.0)) (λ l. rw eg refl) (ih j w.1)
    ]
between_step a d j f rs ih (ConnectionManagement s e (Abort x p)) eg h =
    elim (pick_cases ((is_pair a d s e || is_pair d a s e) && not (d == 255)) None (between_heard a d rs) (Some j) h) [
      | inl w ↦ cc w.1
      | inr w ↦ between_more a d j f rs (subst (EndsNone a d j.tag.who) (sym eg) (not_by_either a d s e w.0)) (λ l. rw eg refl) (ih j w.1)
    ]
between_step a d j f rs ih (DataTransfer s e q) eg h =
    elim (pick_cases (is_pair a d s e) (unfinished (with_packet q (between_heard a d rs))) (between_heard a d rs) (Some j) h) [
      | inl w ↦
          (let t = and_parts (s == a) (e == d) w.0 in
          let k = taken_from q (between_heard a d rs) j (half_open (with_packet q (between_heard a d rs)) j w.1) in
          let at : group_of f ≡ DataTransfer a d q = eg ∙ rw (true_test s a t.0, true_test e d t.1) refl in
          subst (λ (z : HalfSent). HalfBetween a d z (Frame f ∷ rs)) (sym k.grown) (between_taken a d k.old f q rs at k.next (ih k.old k.was)))
      | inr w ↦ between_more a d j f rs (subst (EndsNone a d j.tag.who) (sym eg) tt) (λ l. rw (eg, w.0) refl) (ih j w.1)
    ]
between_step a d j f rs ih (AddressClaimed s n) eg h =
    elim (pick_cases (s == a) (kept_by_name n (between_heard a d rs)) (between_heard a d rs) (Some j) h) [
      | inl w ↦ keep (between_heard a d rs) refl w.1
      | inr w ↦ between_more a d j f rs (subst (EndsNone a d j.tag.who) (sym eg) (λ i. let y : (s == a) ≡ true = rw i (same_test a) in absurd cc)) (λ l. rw eg refl) (ih j w.1)
    ]
  where
    keep : (o : Option HalfSent) → between_heard a d rs ≡ o → kept_by_name n o ≡ Some j → HalfBetween a d j (Frame f ∷ rs)
    keep None i g = cc
    keep (Some b) i g =
        elim (pick_cases (is_named n b.tag.who) (Some b) None (Some j) g) [
          | inl w ↦ (let q : b ≡ j = cc in subst (λ (z : HalfSent). HalfBetween a d z (Frame f ∷ rs)) q (between_more a d b f rs (subst (EndsNone a d b.tag.who) (sym eg) (λ u. named_is n b.tag.who w.0)) (λ l. rw eg refl) (ih b i)))
          | inr w ↦ cc w.1
        ]
between_step a d j f rs ih (ConnectionManagement s e (Cts x y p)) eg h = between_more a d j f rs (subst (EndsNone a d j.tag.who) (sym eg) tt) (λ l. rw eg refl) (ih j h)
between_step a d j f rs ih (ConnectionManagement s e (EndAck x y p)) eg h = between_more a d j f rs (subst (EndsNone a d j.tag.who) (sym eg) tt) (λ l. rw eg refl) (ih j h)
between_step a d j f rs ih (CannotClaim m) eg h = between_more a d j f rs (subst (EndsNone a d j.tag.who) (sym eg) tt) (λ l. rw eg refl) (ih j h)
between_step a d j f rs ih (Request p e s) eg h = between_more a d j f rs (subst (EndsNone a d j.tag.who) (sym eg) tt) (λ l. rw eg refl) (ih j h)
between_step a d j f rs ih (Acknowledgment c q p e s) eg h = between_more a d j f rs (subst (EndsNone a d j.tag.who) (sym eg) tt) (λ l. rw eg refl) (ih j h)
between_step a d j f rs ih (Diagnostic k s q) eg h = between_more a d j f rs (subst (EndsNone a d j.tag.who) (sym eg) tt) (λ l. rw eg refl) (ih j h)
between_step a d j f rs ih Other eg h = between_more a d j f rs (subst (EndsNone a d j.tag.who) (sym eg) tt) (λ l. rw eg refl) (ih j h)

pub between_back : (a d : ℕ) (rs : List Reading) (j : HalfSent) → between_heard a d rs ≡ Some j → HalfBetween a d j rs
between_back a d [] j h = cc
between_back a d (Gap n ∷ rs) j h = cc
between_back a d (Empty ∷ rs) j h = between_empty a d j rs (between_back a d rs j h)
between_back a d (Frame f ∷ rs) j h = between_step a d j f rs (between_back a d rs) (group_of f) refl h

-- the message so far, of these packets
abbrev pub sending : Who → Kind → ℕ → List (List ℕ) → HalfSent
sending w k size ps = record { tag = record { who = w; kind = k }; size = size; pieces = pieces_of ps }

pub packet_added : (w : Who) (k : Kind) (size : ℕ) (q : List ℕ) (ps : List (List ℕ)) → AreNumbered (q ∷ ps) → suc (length ps) ≤ packet_count size → with_packet q (Some (sending w k size ps)) ≡ Some (sending w k size (q ∷ ps))
packet_added w k size q ps num l =
    let len = length_pieces_of ps in
    let next = next_from size (pieces_of ps) q (record { len = num.0; number = num.1 ∙ ap suc (sym len); room = omega arith }) in
    rw next refl

not_whole_yet : (w : Who) (k : Kind) (size : ℕ) (ps : List (List ℕ)) → length ps < packet_count size → unfinished (Some (sending w k size ps)) ≡ Some (sending w k size ps)
not_whole_yet w k size ps l =
    let len = length_pieces_of ps in
    let f : is_whole (sending w k size ps) ≡ false = ne_test (length (pieces_of ps)) (packet_count size) (omega arith) in
    rw f refl

begins_between : (a d : ℕ) (w : Who) (k : Kind) (size pgn : ℕ) (g : Group) (before : List Reading) → IsAnnouncement a d size pgn g → kind_of pgn ≡ Some k → who_heard a before ≡ w
    → between_after a d g (who_heard a before) (between_heard a d before) ≡ Some (sending w k size [])
begins_between a d w k size pgn (ConnectionManagement s e (Bam x y p)) before i kd wh = rw (i.0, i.1, i.2, same_test a, i.3, i.4, kd, wh) refl
begins_between a d w k size pgn (ConnectionManagement s e (Rts x y z p)) before i kd wh = rw (i.0, i.1, same_test a, same_test d, ne_test d 255 i.2, i.3, i.4, kd, wh) refl
begins_between a d w k size pgn (ConnectionManagement s e (Abort x p)) before i kd wh = absurd i
begins_between a d w k size pgn (ConnectionManagement s e (Cts x y p)) before i kd wh = absurd i
begins_between a d w k size pgn (ConnectionManagement s e (EndAck x y p)) before i kd wh = absurd i
begins_between a d w k size pgn (DataTransfer s e q) before i kd wh = absurd i
begins_between a d w k size pgn (AddressClaimed s n) before i kd wh = absurd i
begins_between a d w k size pgn (CannotClaim n) before i kd wh = absurd i
begins_between a d w k size pgn (Request p e s) before i kd wh = absurd i
begins_between a d w k size pgn (Acknowledgment c q p e s) before i kd wh = absurd i
begins_between a d w k size pgn (Diagnostic l s q) before i kd wh = absurd i
begins_between a d w k size pgn Other before i kd wh = absurd i

pub between_from : (a d : ℕ) (w : Who) (k : Kind) (size pgn : ℕ) (start : FrameValue) (since before : List Reading) → IsAnnouncement a d size pgn (group_of start) → kind_of pgn ≡ Some k → who_heard a before ≡ w → EndNone a d w since → AreNumbered (packets_heard a d since) → length (packets_heard a d since) < packet_count size → between_heard a d (since ++ Frame start ∷ before) ≡ Some (sending w k size (packets_heard a d since))
between_from a d w k size pgn start [] before s kd wh quiet num l = begins_between a d w k size pgn (group_of start) before s kd wh
between_from a d w k size pgn start (Gap m ∷ since) before s kd wh quiet num l = absurd quiet
between_from a d w k size pgn start (Empty ∷ since) before s kd wh quiet num l = between_from a d w k size pgn start since before s kd wh quiet num l
between_from a d w k size pgn start (Frame f ∷ since) before st kd wh quiet num l =
    go (group_of f) refl (λ u v. between_from a d w k size pgn start since before st kd wh quiet.1 u v)
  where
    rs : List Reading
    rs = since ++ Frame start ∷ before

    ps : List (List ℕ)
    ps = packets_heard a d since

    quiet_at : (g : Group) → group_of f ≡ g → EndsNone a d w g
    quiet_at g e = subst (EndsNone a d w) e quiet.0

    num_at : (g : Group) → group_of f ≡ g → AreNumbered (packet_before a d g ps)
    num_at g e = subst (λ (v : Group). AreNumbered (packet_before a d v ps)) e num

    len_at : (g : Group) → group_of f ≡ g → length (packet_before a d g ps) < packet_count size
    len_at g e = subst (λ (v : Group). length (packet_before a d v ps) < packet_count size) e l

    here : Option HalfSent
    here = Some (sending w k size ps)

    go : (g : Group) → group_of f ≡ g → (AreNumbered ps → length ps < packet_count size → between_heard a d rs ≡ here) → between_after a d (group_of f) (who_heard a rs) (between_heard a d rs) ≡ Some (sending w k size (packet_before a d (group_of f) ps))
    go (ConnectionManagement s e (Bam x y p)) eg ih = rw eg (test (is_pair a d s e && d == 255) refl)
      where
        test : (t : Bool) → (is_pair a d s e && d == 255) ≡ t → (if t then newly_sent (kind_of p) x (who_heard a rs) else between_heard a d rs) ≡ here
        test true i =
            (let v = and_parts (is_pair a d s e) (d == 255) i in
            let u = and_parts (s == a) (e == d) v.0 in
            absurd (quiet_at (ConnectionManagement s e (Bam x y p)) eg (true_test s a u.0) (true_test e d u.1) (true_test d 255 v.1)))
        test false i = ih (num_at (ConnectionManagement s e (Bam x y p)) eg) (len_at (ConnectionManagement s e (Bam x y p)) eg)
    go (ConnectionManagement s e (Rts x y z p)) eg ih = rw eg (test (is_pair a d s e && not (d == 255)) refl)
      where
        test : (t : Bool) → (is_pair a d s e && not (d == 255)) ≡ t → (if t then newly_sent (kind_of p) x (who_heard a rs) else between_heard a d rs) ≡ here
        test true i =
            (let v = and_parts (is_pair a d s e) (not (d == 255)) i in
            let u = and_parts (s == a) (e == d) v.0 in
            let all = quiet_at (ConnectionManagement s e (Rts x y z p)) eg (true_test s a u.0) (true_test e d u.1) in
            let y : not (d == 255) ≡ false = rw all refl in
            absurd cc)
        test false i = ih (num_at (ConnectionManagement s e (Rts x y z p)) eg) (len_at (ConnectionManagement s e (Rts x y z p)) eg)
    go (ConnectionManagement s e (Abort x p)) eg ih = rw eg (test ((is_pair a d s e || is_pair d a s e) && not (d == 255)) refl)
      where
        either : (b : Bool) → is_pair a d s e ≡ b → (b || is_pair d a s e) ≡ true → (not (d == 255)) ≡ true → ⊥
        either true i o one =
            (let u = and_parts (s == a) (e == d) i in
            (quiet_at (ConnectionManagement s e (Abort x p)) eg (λ (all : d ≡ 255). let y : not (d == 255) ≡ false = rw all refl in absurd cc)).0 (true_test s a u.0) (true_test e d u.1))
        either false i o one =
            (let u = and_parts (s == d) (e == a) o in
            (quiet_at (ConnectionManagement s e (Abort x p)) eg (λ (all : d ≡ 255). let y : not (d == 255) ≡ false = rw all refl in absurd cc)).1 (true_test s d u.0) (true_test e a u.1))

        test : (t : Bool) → ((is_pair a d s e || is_pair d a s e) && not (d == 255)) ≡ t → (if t then None else between_heard a d rs) ≡ here
        test true i = (let v = and_parts (is_pair a d s e || is_pair d a s e) (not (d == 255)) i in absurd (either (is_pair a d s e) refl v.0 v.1))
        test false i = ih (num_at (ConnectionManagement s e (Abort x p)) eg) (len_at (ConnectionManagement s e (Abort x p)) eg)
    go (DataTransfer s e q) eg ih = rw eg (test (is_pair a d s e) (num_at (DataTransfer s e q) eg) (len_at (DataTransfer s e q) eg))
      where
        test : (t : Bool) → AreNumbered (if t then q ∷ ps else ps) → length (if t then q ∷ ps else ps) < packet_count size → (if t then unfinished (with_packet q (between_heard a d rs)) else between_heard a d rs) ≡ Some (sending w k size (if t then q ∷ ps else ps))
        test false nm len = ih nm len
        test true nm len = rw (ih nm.2 (omega arith), packet_added w k size q ps nm (omega arith)) (not_whole_yet w k size (q ∷ ps) len)
    go (AddressClaimed s m) eg ih = rw (eg, ih (num_at (AddressClaimed s m) eg) (len_at (AddressClaimed s m) eg)) (test (s == a) refl)
      where
        test : (t : Bool) → (s == a) ≡ t → (if t then kept_by_name m here else here) ≡ here
        test false i = refl
        test true i = rw (quiet_at (AddressClaimed s m) eg (true_test s a i), same_test m) refl
    go (ConnectionManagement s e (Cts x y p)) eg ih = rw eg (ih (num_at (ConnectionManagement s e (Cts x y p)) eg) (len_at (ConnectionManagement s e (Cts x y p)) eg))
    go (ConnectionManagement s e (EndAck x y p)) eg ih = rw eg (ih (num_at (ConnectionManagement s e (EndAck x y p)) eg) (len_at (ConnectionManagement s e (EndAck x y p)) eg))
    go (CannotClaim m) eg ih = rw eg (ih (num_at (CannotClaim m) eg) (len_at (CannotClaim m) eg))
    go (Request p e s) eg ih = rw eg (ih (num_at (Request p e s) eg) (len_at (Request p e s) eg))
    go (Acknowledgment c q p e s) eg ih = rw eg (ih (num_at (Acknowledgment c q p e s) eg) (len_at (Acknowledgment c q p e s) eg))
    go (Diagnostic x s q) eg ih = rw eg (ih (num_at (Diagnostic x s q) eg) (len_at (Diagnostic x s q) eg))
    go Other eg ih = rw eg (ih (num_at Other eg) (len_at Other eg))
