-- The walk back along what a listener read is the path clear to it, said by looking back.
use Rattle.std.proofs.Common.{◌≡◌, ◌≢◌, ℕ, suc, zero, ◌≤◌, Bool, true, false, not, ◌&&◌, ◌==◌, List, [], ◌∷◌, ◌++◌, Option, Some, None, if◌then◌else◌, sym, refl, ap, ◌∙◌, subst, inl, inr, arith, append_assoc}
use Rattle.bus_model.specs.ClearPath.{IsReceived, NoneMissed}
use Rattle.bus_model.specs.Expected.{Missed, Own, Received, Reception, is_anchored, is_part, passed}
use Rattle.bus_model.specs.Heard.{StationSettings}
use Rattle.bus_model.specs.Machine.{AreFit, Event, Run, World, start}
use Rattle.bus_model.specs.Messages.{IsAmong, Message, last_part_of}
use Rattle.bus_model.specs.Order.{IsBefore}
use Rattle.bus_model.specs.OverheardClearPath.{IsOnListenersClearPath, NoneAborts}
use Rattle.bus_model.specs.OverheardExpected.{IsPathOfListener, NoneOwn, is_aborted, is_overheard, is_read_back}
use Rattle.bus_model.specs.Traffic.{Item, Tag, says}
use Rattle.bus_model.proofs.Clear.{anchor, anchored_from, false_test, follows_back, is_part_self, later_read, part_is}
use Rattle.bus_model.proofs.Lawful.{Follows, Lawful, is_of, last_of, tag_of}
use Rattle.bus_model.proofs.Lookback.{EachTag, Every, HasTag, and_parts, every_rest, lawful_rest, pick_cases, same_kind_self, same_test, true_test}
use Rattle.bus_model.proofs.Order.{all_before}
use Rattle.bus_model.proofs.OverheardLaw.{on_path}
use Rattle.bus_model.proofs.OverheardTracks.{carried}
use Rattle.bus_model.proofs.Path.{later_part, same_message}
use Rattle.bus_model.proofs.SeatLaw.{IsBooked, Numbered}

not_is : (b : Bool) → not b ≡ true → b ≡ false
not_is false h = refl
not_is true h = cc

-- ---- what the walk finds

-- it comes to part 0, to which it was read back
pub record ReadBack (m : Message) (path : List Reception) : Type 0 where
  pub upper : List Reception
  pub first : Item
  pub older : List Reception
  pub split : path ≡ upper ++ Received first ∷ older
  pub is_it : is_part m 0 first.tag ≡ true
  pub whole : NoneMissed upper
  pub unaborted : NoneAborts m upper
  pub anchor : is_anchored m.source older ≡ true

read_back : (m : Message) (path : List Reception) → NoneOwn path → is_read_back m path ≡ true → ReadBack m path
read_back m [] own h = cc
read_back m (Own e ∷ path) own h = absurd own
read_back m (Missed es ∷ path) own h = cc
read_back m (Received e ∷ path) own h =
    elim (pick_cases (is_part m 0 e.tag) (is_anchored m.source path) (not (is_aborted m (says e)) && is_read_back m path) true h) [
      | inl w ↦ record { upper = []; first = e; older = path; split = refl; is_it = w.0; whole = tt; unaborted = tt; anchor = w.1 }
      | inr w ↦
          (let both = and_parts (not (is_aborted m (says e))) (is_read_back m path) w.1 in
          let p = read_back m path own both.1 in
          record { upper = Received e ∷ p.upper; first = p.first; older = p.older; split = ap (λ (v : List Reception). Received e ∷ v) p.split; is_it = p.is_it; whole = p.whole; unaborted = (not_is (is_aborted m (says e)) both.0, p.unaborted); anchor = p.anchor })
    ]

-- each part up to the newest one was read
parts_read : (st : List ℕ) (begun : List Message) (m : Message) → Numbered begun → IsAmong m begun → (old : List Item) (path : List Reception) → NoneOwn path → Lawful st (carried old path) → Every (IsBooked begun) (carried old path)
    → (j i : ℕ) → last_of m.name m.kind (carried old path) ≡ Some (tag_of m j) → is_read_back m path ≡ true → i ≤ j → IsReceived m i path
parts_read st begun m num among old [] own law booked j i l u le = cc
parts_read st begun m num among old (Own e ∷ path) own law booked j i l u le = absurd own
parts_read st begun m num among old (Missed es ∷ path) own law booked j i l u le = cc
parts_read st begun m num among old (Received e ∷ path) own law booked j i l u le =
    elim (pick_cases (is_of m.name m.kind e.tag) e.tag (last_of m.name m.kind (carried old path)) (Some (tag_of m j)) l) [
      | inl w ↦ here j (i == j) refl w.1 le (law.0.tagged (tag_of m j) w.1).order (parts_read st begun m num among old path own law.1 booked.1)
      | inr w ↦ later_read m i (Received e) path (parts_read st begun m num among old path own law.1 booked.1 j i w.1 (rest (not_first w.0 (is_part m 0 e.tag) refl)) le)
    ]
  where
    rest : is_part m 0 e.tag ≡ false → is_read_back m path ≡ true
    rest h = (and_parts (not (is_aborted m (says e))) (is_read_back m path) (rw h at u)).1

    of_it : (o : Option Tag) → e.tag ≡ o → is_part m 0 o ≡ true → is_of m.name m.kind o ≡ true
    of_it None g h = cc
    of_it (Some t) g h =
        let q = and_parts (t.message.number == m.number) (t.part == 0) h in
        let same = same_message t.message m begun num (booked.0 t g) among (true_test t.message.number m.number q.0) in
        rw (same, same_test m.name) (same_kind_self m.kind)

    not_first : is_of m.name m.kind e.tag ≡ false → (b : Bool) → is_part m 0 e.tag ≡ b → is_part m 0 e.tag ≡ false
    not_first h true p = absurd (let y = of_it e.tag refl p in cc)
    not_first h false p = p

    here : (j : ℕ) (b : Bool) → (i == j) ≡ b → e.tag ≡ Some (tag_of m j) → i ≤ j → Follows (last_of m.name m.kind (carried old path)) (tag_of m j)
        → ((k l : ℕ) → last_of m.name m.kind (carried old path) ≡ Some (tag_of m k) → is_read_back m path ≡ true → l ≤ k → IsReceived m l path) → IsReceived m i (Received e ∷ path)
    here j true c g le f older = record { later = []; item = e; earlier = path; split = refl; is_it = rw (true_test i j c) (is_part_self m j e.tag g) }
    here zero false c g le f older = absurd (let ne : i ≢ 0 = false_test i 0 c in ne (omega arith))
    here (suc j) false c g le f older =
        later_read m i (Received e) path
        (older j i (follows_back m j (last_of m.name m.kind (carried old path)) f) (rest (later_part m j e.tag g)) (let ne : i ≢ suc j = false_test i (suc j) c in omega arith))

pub later_clear : (m : Message) (x : Reception) (path : List Reception) → IsOnListenersClearPath m path → IsOnListenersClearPath m (x ∷ path)
later_clear m x path h = record {
  parts = λ j le. later_read m j x path (h.parts j le);
  after = x ∷ h.after;
  last = h.last;
  older = h.older;
  split = ap (λ (v : List Reception). x ∷ v) h.split;
  is_last = h.is_last;
  upper = h.upper;
  first = h.first;
  lower = h.lower;
  claim = h.claim;
  before = h.before;
  stretch = h.stretch;
  is_first = h.is_first;
  is_claim' = h.is_claim';
  upper_whole = h.upper_whole;
  lower_whole = h.lower_whole;
  latest = h.latest;
  unaborted = h.unaborted;
}

clear_is : (st : List ℕ) (begun : List Message) (m : Message) → Numbered begun → IsAmong m begun → (old : List Item) (path : List Reception) → NoneOwn path → Lawful st (carried old path) → Every (IsBooked begun) (carried old path) → is_overheard m path ≡ true → IsOnListenersClearPath m path
clear_is st begun m num among old [] own law booked h = cc
clear_is st begun m num among old (Own e ∷ path) own law booked h = absurd own
clear_is st begun m num among old (Missed es ∷ path) own law booked h =
    later_clear m (Missed es) path (clear_is st begun m num among old path own (lawful_rest st es (carried old path) law) (every_rest (IsBooked begun) es (carried old path) booked) h)
clear_is st begun m num among old (Received e ∷ path) own law booked h =
    elim (pick_cases (is_part m (last_part_of m) e.tag) (is_read_back m (Received e ∷ path)) (is_overheard m path) true h) [
      | inl w ↦
          (let tag = part_is begun m (last_part_of m) e.tag num among booked.0 w.0 in
          let of : is_of m.name m.kind e.tag ≡ true = rw (tag, same_test m.name) (same_kind_self m.kind) in
          let newest : last_of m.name m.kind (carried old (Received e ∷ path)) ≡ Some (tag_of m (last_part_of m)) = rw of tag in
          let p = read_back m (Received e ∷ path) own w.1 in
          let q = anchor m.source p.older p.anchor in
          record {
            parts = λ j le. parts_read st begun m num among old (Received e ∷ path) own law booked (last_part_of m) j newest w.1 le;
            after = [];
            last = e;
            older = path;
            split = refl;
            is_last = w.0;
            upper = p.upper;
            first = p.first;
            lower = q.lower;
            claim = q.claim;
            before = q.before;
            stretch = p.split ∙ ap (λ (v : List Reception). p.upper ++ Received p.first ∷ v) q.split;
            is_first = p.is_it;
            is_claim' = q.is_it;
            upper_whole = p.whole;
            lower_whole = q.whole;
            latest = q.latest;
            unaborted = p.unaborted;
          })
      | inr w ↦ later_clear m (Received e) path (clear_is st begun m num among old path own law.1 booked.1 w.1)
    ]

-- ---- and it finds it

carried_append : (old : List Item) (xs ys : List Reception) → carried old (xs ++ ys) ≡ passed xs ++ carried old ys
carried_append old [] ys = refl
carried_append old (Own e ∷ xs) ys = ap (λ (v : List Item). e ∷ v) (carried_append old xs ys)
carried_append old (Received e ∷ xs) ys = ap (λ (v : List Item). e ∷ v) (carried_append old xs ys)
carried_append old (Missed es ∷ xs) ys = ap (λ (v : List Item). es ++ v) (carried_append old xs ys) ∙ sym (append_assoc es (passed xs) (carried old ys))

-- no part stands twice
not_again : (st : List ℕ) (m : Message) (j : ℕ) (e d : Item) (old : List Item) (mid before : List Reception) → Lawful st (e ∷ carried old (mid ++ Received d ∷ before)) → e.tag ≡ Some (tag_of m j) → d.tag ≡ Some (tag_of m j) → ⊥
not_again st m j e d old mid before law g h =
    let all = all_before st (tag_of m j) (carried old (mid ++ Received d ∷ before)) law.1 (law.0.tagged (tag_of m j) g).order in
    let from = every_rest (HasTag (IsBefore (tag_of m j))) (passed mid) (d ∷ carried old before) (subst (EachTag (IsBefore (tag_of m j))) (carried_append old mid (Received d ∷ before)) all) in
    elim (from.0 (tag_of m j) h refl refl) [ inl u ↦ omega arith | inr u ↦ omega arith ]

own_rest : (xs ys : List Reception) → NoneOwn (xs ++ ys) → NoneOwn ys
own_rest [] ys h = h
own_rest (Own e ∷ xs) ys h = absurd h
own_rest (Received e ∷ xs) ys h = own_rest xs ys h
own_rest (Missed es ∷ xs) ys h = own_rest xs ys h

read_back_from : (st : List ℕ) (begun : List Message) (m : Message) → Numbered begun → IsAmong m begun → (old : List Item) (upper older : List Reception) (first : Item) → NoneOwn upper → Lawful st (carried old (upper ++ Received first ∷ older)) → Every (IsBooked begun) (carried old (upper ++ Received first ∷ older))
    → NoneMissed upper → NoneAborts m upper → is_part m 0 first.tag ≡ true → first.tag ≡ Some (tag_of m 0) → is_anchored m.source older ≡ true → is_read_back m (upper ++ Received first ∷ older) ≡ true
read_back_from st begun m num among old [] older first own law booked whole unaborted f g a = rw (f, a) refl
read_back_from st begun m num among old (Own e ∷ upper) older first own law booked whole unaborted f g a = absurd own
read_back_from st begun m num among old (Missed es ∷ upper) older first own law booked whole unaborted f g a = absurd whole
read_back_from st begun m num among old (Received e ∷ upper) older first own law booked whole unaborted f g a =
    by_part (is_part m 0 e.tag) refl (read_back_from st begun m num among old upper older first own law.1 booked.1 whole unaborted.1 f g a)
  where
    by_part : (t : Bool) → is_part m 0 e.tag ≡ t → is_read_back m (upper ++ Received first ∷ older) ≡ true
        → (if t then is_anchored m.source (upper ++ Received first ∷ older) else (not (is_aborted m (says e)) && is_read_back m (upper ++ Received first ∷ older))) ≡ true
    by_part true i h = absurd (not_again st m 0 e first old upper older law (part_is begun m 0 e.tag num among booked.0 i) g)
    by_part false i h = rw (unaborted.0) h

overheard_from : (st : List ℕ) (begun : List Message) (m : Message) → Numbered begun → IsAmong m begun → (old : List Item) (after older : List Reception) (last : Item) → NoneOwn after → Lawful st (carried old (after ++ Received last ∷ older)) → Every (IsBooked begun) (carried old (after ++ Received last ∷ older))
    → is_part m (last_part_of m) last.tag ≡ true → last.tag ≡ Some (tag_of m (last_part_of m)) → is_read_back m (Received last ∷ older) ≡ true → is_overheard m (after ++ Received last ∷ older) ≡ true
overheard_from st begun m num among old [] older last own law booked i g u = rw i u
overheard_from st begun m num among old (Own e ∷ after) older last own law booked i g u = absurd own
overheard_from st begun m num among old (Missed es ∷ after) older last own law booked i g u =
    overheard_from st begun m num among old after older last own (lawful_rest st es (carried old (after ++ Received last ∷ older)) law) (every_rest (IsBooked begun) es (carried old (after ++ Received last ∷ older)) booked) i g u
overheard_from st begun m num among old (Received e ∷ after) older last own law booked i g u =
    by_part (is_part m (last_part_of m) e.tag) refl (overheard_from st begun m num among old after older last own law.1 booked.1 i g u)
  where
    by_part : (t : Bool) → is_part m (last_part_of m) e.tag ≡ t → is_overheard m (after ++ Received last ∷ older) ≡ true → (if t then is_read_back m (Received e ∷ (after ++ Received last ∷ older)) else is_overheard m (after ++ Received last ∷ older)) ≡ true
    by_part true c h = absurd (not_again st m (last_part_of m) e last old after older law (part_is begun m (last_part_of m) e.tag num among booked.0 c) g)
    by_part false c h = h

own_front : (xs ys : List Reception) → NoneOwn (xs ++ ys) → NoneOwn xs
own_front [] ys h = tt
own_front (Own e ∷ xs) ys h = absurd h
own_front (Received e ∷ xs) ys h = own_front xs ys h
own_front (Missed es ∷ xs) ys h = own_front xs ys h

found : (st : List ℕ) (begun : List Message) (m : Message) → Numbered begun → IsAmong m begun → (old : List Item) (path : List Reception) → NoneOwn path → Lawful st (carried old path) → Every (IsBooked begun) (carried old path) → IsOnListenersClearPath m path → is_overheard m path ≡ true
found st begun m num among old path own law booked h =
    let from = Received h.last ∷ h.older in
    let rest = h.lower ++ Received h.claim ∷ h.before in
    let law_all = subst (λ (v : List Reception). Lawful st (carried old v)) h.split law in
    let booked_all = subst (λ (v : List Reception). Every (IsBooked begun) (carried old v)) h.split booked in
    let own_all = subst NoneOwn h.split own in
    let law_last = lawful_rest st (passed h.after) (carried old from) (subst (λ (v : List Item). Lawful st v) (carried_append old h.after from) law_all) in
    let booked_last = every_rest (IsBooked begun) (passed h.after) (carried old from) (subst (Every (IsBooked begun)) (carried_append old h.after from) booked_all) in
    let own_last = subst NoneOwn h.stretch (own_rest h.after from own_all) in
    let law_stretch = subst (λ (v : List Reception). Lawful st (carried old v)) h.stretch law_last in
    let booked_stretch = subst (λ (v : List Reception). Every (IsBooked begun) (carried old v)) h.stretch booked_last in
    let booked_first = (every_rest (IsBooked begun) (passed h.upper) (h.first ∷ carried old rest) (subst (Every (IsBooked begun)) (carried_append old h.upper (Received h.first ∷ rest)) booked_stretch)).0 in
    let back = read_back_from st begun m num among old h.upper rest h.first (own_front h.upper (Received h.first ∷ rest) own_last) law_stretch booked_stretch h.upper_whole h.unaborted h.is_first
    (part_is begun m 0 h.first.tag num among booked_first h.is_first) (anchored_from m.source h.lower h.before h.claim h.lower_whole h.latest h.is_claim') in
    ap (is_overheard m) h.split
    ∙ overheard_from st begun m num among old h.after h.older h.last (own_front h.after from own_all) law_all booked_all h.is_last
    (part_is begun m (last_part_of m) h.last.tag num among booked_last.0 h.is_last) (ap (is_read_back m) h.stretch ∙ back)

-- ---- in a run

pub overheard_to_clear : (settings : List StationSettings) → AreFit settings → (events : List Event) (w : World) → Run (start settings) events w → (path : List Reception) → IsPathOfListener w.wire path → (m : Message) → IsAmong m w.begun → is_overheard m path ≡ true → IsOnListenersClearPath m path
overheard_to_clear settings fit events w run path listens m among h =
    let on = on_path settings fit events w run path listens in
    clear_is on.names w.begun m on.numbered among listens.before path listens.none_own on.law on.booked h

pub clear_to_overheard : (settings : List StationSettings) → AreFit settings → (events : List Event) (w : World) → Run (start settings) events w → (path : List Reception) → IsPathOfListener w.wire path → (m : Message) → IsAmong m w.begun → IsOnListenersClearPath m path → is_overheard m path ≡ true
clear_to_overheard settings fit events w run path listens m among h =
    let on = on_path settings fit events w run path listens in
    found on.names w.begun m on.numbered among listens.before path listens.none_own on.law on.booked h
