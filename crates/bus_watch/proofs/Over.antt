-- A watch that is told of one owner after another.
use Rattle.std.proofs.Common.{◌≡◌, ◌⊎◌, inl, inr, ◌<◌, ◌≤◌, ◌+◌, ◌==◌, ◌^◌, ℕ, zero, suc, Bool, true, false, Option, Some, None, refl, sym, subst, ap, ◌∙◌, List, [], ◌∷◌, if◌then◌else◌, arith, ⊎_elim}
use Rattle.std.specs.Prelude.{◌-◌, is_some}
use Rattle.std.proofs.Math.Nat.{min-eq_left, min-le_right}
use Rattle.std.proofs.lemmas.Bool.{eq-eqb, eqb-true}
use Rattle.address_claim.specs.Claiming.{is_held}
use Rattle.address_claim.specs.Frames.{claim_frame_value}
use Rattle.bus_model.specs.Heard.{RowHeard, address_in_row, counted, missed_count, owner_heard, without_address}
use Rattle.bus_model.specs.Overheard.{address_overheard, gaps_heard, row_overheard, row_with_group, sent_by, unread_overheard, is_lost_on}
use Rattle.bus_model.specs.Changed.{displaced_by}
use Rattle.bus_model.specs.OverheardChanged.{change_overheard, claim_overheard, gave_up, group_overheard, has_still}
use Rattle.bus_model.specs.Traffic.{owner_after}
use Rattle.bus_model.specs.declared.change.Displaced.{Displaced}
use Rattle.bus_model.specs.declared.overheard.Overheard.TheVariants.{GaveUp, Nothing}
use Rattle.bus_model.proofs.Bridge.{says_claim}
use Rattle.bus_model.proofs.Lookback.{held_is}
use Rattle.can_frame.specs.FrameValue.{FrameValue}
use Rattle.can_frame.specs.declared.reading.Reading.{Reading}
use Rattle.can_frame.specs.declared.reading.Reading.TheVariants.{Frame}
use Rattle.entry_lists.specs.KeptValue.{KeptValue, kept_under}
use Rattle.entry_lists.specs.KnownRows.{address_in, row_known, row_of, still_owned}
use Rattle.listener.specs.ListenerSteps.{address_in_tables, new_listener}
use Rattle.listener.specs.ListenerValue.{HasOverheard, ListenerValue, gaps_alone}
use Rattle.parameter_group.specs.Group.{AddressClaimed, CannotClaim, Group, group_of}
use Rattle.reassembly.specs.Pairs.{no_pairs}
use Rattle.reassembly.specs.Tables.{at}
use Rattle.bus_watch.specs.Counted.{partly_after}
use Rattle.bus_watch.specs.Over.{AreOwners, HasOwnersAlone, HasOwnersBelow, beginning_of}
use Rattle.bus_watch.specs.Runs.{none_listed, readings_in}
use Rattle.bus_watch.specs.Tellings.{none_told}
use Rattle.bus_watch.specs.Told.{Addressless, Assumed, Beginning, StandsForAll, Told, all_said, gaps_before, readings_said}
use Rattle.bus_watch.specs.WatchValue.{CountsBefore, WatchValue, missed_by, partly_heard, unread_by}
use Rattle.bus_watch.specs.Identified.{none_identified}
use Rattle.bus_watch.specs.declared.selection.Selection.{Selection}
use Rattle.bus_watch.specs.declared.watch.WatchSettings.{WatchSettings}
use Rattle.bus_watch.proofs.Steps.{none_partly, opened}

-- ---- before anything was told

no_owners : (n a : ℕ) → owner_heard a (readings_in (gaps_before n)) ≡ None
no_owners zero a = refl
no_owners (suc n) a = refl

no_rows : (n m : ℕ) → row_overheard m (readings_in (gaps_before n)) ≡ None
no_rows zero m = refl
no_rows (suc n) m = rw (no_rows n m) refl

none_missed : (n : ℕ) → missed_count (readings_in (gaps_before n)) ≡ 0
none_missed zero = refl
none_missed (suc n) = rw (none_missed n) refl

none_unread : (n : ℕ) → unread_overheard (readings_in (gaps_before n)) ≡ 0
none_unread zero = refl
none_unread (suc n) = none_unread n

pub none_yet : (old new : WatchValue) → HasOverheard new.listener (gaps_alone old.listener.gaps) → new.listener.gaps ≡ old.listener.gaps
    → new.lists ≡ record (none_listed old.lists.selection) { contests = old.lists.contests } → new.told ≡ none_told
    → new.followed ≡ record { skips_bad = old.followed.skips_bad; silence = old.followed.silence; bus = old.followed.bus; packets = no_pairs }
    → new.before ≡ record { missed = missed_by old; unread = unread_by old } → new.partly ≡ old.partly → new.broken ≡ old.broken → new.pairs ≡ 0 → HasOwnersBelow old 0 new
none_yet old new heard gaps lists told followed before partly broken pairs =
    let stands : StandsForAll (beginning_of old) [] new = opened (beginning_of old) new heard lists told followed before partly pairs in
    record {
      told = [];
      alone = tt;
      stands = stands;
      owners = λ a. inl (no_owners old.listener.gaps a);
      below = λ a less. absurd (omega (arith, less));
      addresses = λ n. inl (ap address_in_row (no_rows old.listener.gaps n));
      settled = λ a n x less. absurd (omega (arith, less));
      gaps = sym stands.heard.listener.gaps ∙ gaps;
      missed = none_missed old.listener.gaps;
      unread = none_unread old.listener.gaps;
      partly = none_partly old.partly old.listener.gaps;
      broken = broken;
    }

-- as one is made, and goes on to count
pub none_yet_of : (old made new : WatchValue) (gaps : ℕ) (settings : WatchSettings) (bus : Option (List ℕ)) → HasOverheard made.listener (gaps_alone gaps) → made ≡ record {
  listener = record new_listener { gaps = gaps };
  lists = none_listed settings.selection;
  followed = record { skips_bad = settings.skips_bad; silence = settings.silence; bus = bus; packets = no_pairs };
  told = none_told;
  before = record { missed = 0; unread = 0 };
  partly = 0;
  broken = 0;
  pairs = 0;
  identified = none_identified;
} → gaps ≡ old.listener.gaps → settings.selection ≡ old.lists.selection → settings.skips_bad ≡ old.followed.skips_bad → settings.silence ≡ old.followed.silence → bus ≡ old.followed.bus
    → new.listener ≡ made.listener → new.lists ≡ record made.lists { contests = old.lists.contests } → new.told ≡ made.told → new.followed ≡ made.followed
    → new.before ≡ record { missed = missed_by old; unread = unread_by old } → new.partly ≡ old.partly → new.broken ≡ old.broken → new.pairs ≡ made.pairs → HasOwnersBelow old 0 new
none_yet_of old made new gaps settings bus heard is same shows skips silence named listener lists told followed before partly broken pairs =
    none_yet old new
    (subst (λ (l : ListenerValue). HasOverheard l (gaps_alone old.listener.gaps)) (sym listener) (subst (λ (n : ℕ). HasOverheard made.listener (gaps_alone n)) same heard))
    (ap (λ (l : ListenerValue). l.gaps) listener ∙ (ap (λ (w : WatchValue). w.listener.gaps) is ∙ same))
    (lists ∙ (ap (λ (w : WatchValue). record w.lists { contests = old.lists.contests }) is ∙ ap (λ (s : Selection). record (none_listed s) { contests = old.lists.contests }) shows))
    (told ∙ ap (λ (w : WatchValue). w.told) is)
    (followed ∙ (ap (λ (w : WatchValue). w.followed) is ∙ (rw (skips, silence, named) refl)))
    before partly broken
    (pairs ∙ ap (λ (w : WatchValue). w.pairs) is)

-- ---- one owner more

-- a test of numbers
pub same_self : (n : ℕ) → (n == n) ≡ true
same_self n = eq-eqb n n refl

-- an address is lost by a claim of it
abbrev unless_claimed : ℕ → Option ℕ → Option ℕ
unless_claimed a o = if is_held o a then None else o

lost_so : (a : ℕ) (o : Option RowHeard) → address_in_row (without_address a o) ≡ unless_claimed a (address_in_row o)
lost_so a None = refl
lost_so a (Some row) = go (is_held row.address a)
  where
    go : (b : Bool) → address_in_row (if b then Some (record row { address = None }) else Some row) ≡ (if b then None else row.address)
    go true = refl
    go false = refl

-- what a claim changes of what was heard
module _ (n a : ℕ) (f : FrameValue) (is : group_of f ≡ AddressClaimed a n) (h : List Reading) where
  owner_claimed : (x : ℕ) → owner_heard x (Frame f ∷ h) ≡ (if a == x then Some n else owner_heard x h)
  owner_claimed x = ap (λ (g : Group). owner_after x g (owner_heard x h)) is

  own_address : address_overheard n (Frame f ∷ h) ≡ Some a
  own_address = ap (λ (g : Group). address_in_row (row_with_group n g h (row_overheard n h))) is ∙ (rw (same_self n) refl)

  other_address : (m : ℕ) → (n == m) ≡ false → address_overheard m (Frame f ∷ h) ≡ unless_claimed a (address_overheard m h)
  other_address m apart = ap (λ (g : Group). address_in_row (row_with_group m g h (row_overheard m h))) is ∙ ((rw (apart) refl) ∙ lost_so a (row_overheard m h))

  claim_read : unread_overheard (Frame f ∷ h) ≡ unread_overheard h
  claim_read = ap (λ (g : Group). if is_lost_on (sent_by g h) then counted (unread_overheard h + 1) else unread_overheard h) is

  claim_whole : (p : ℕ) → partly_after (change_overheard (Frame f) h) p ≡ p
  claim_whole p = ap (λ (g : Group). partly_after (group_overheard g h) p) is ∙ go (is_held (address_overheard n h) a) (displaced_by n (owner_heard a h) (has_still (owner_heard a h) a h))
    where
      go : (b : Bool) (d : Option Displaced) → partly_after (claim_overheard n a b d) p ≡ p
      go true d = refl
      go false d = refl

-- and a cannot claim
module _ (n : ℕ) (f : FrameValue) (is : group_of f ≡ CannotClaim n) (h : List Reading) where
  owner_kept : (x : ℕ) → owner_heard x (Frame f ∷ h) ≡ owner_heard x h
  owner_kept x = ap (λ (g : Group). owner_after x g (owner_heard x h)) is

  no_address : address_overheard n (Frame f ∷ h) ≡ None
  no_address = ap (λ (g : Group). address_in_row (row_with_group n g h (row_overheard n h))) is ∙ (rw (same_self n) refl)

  address_kept : (m : ℕ) → (n == m) ≡ false → address_overheard m (Frame f ∷ h) ≡ address_overheard m h
  address_kept m apart = ap (λ (g : Group). address_in_row (row_with_group m g h (row_overheard m h))) is ∙ (rw (apart) refl)

  away_read : unread_overheard (Frame f ∷ h) ≡ unread_overheard h
  away_read = ap (λ (g : Group). if is_lost_on (sent_by g h) then counted (unread_overheard h + 1) else unread_overheard h) is

  away_whole : (p : ℕ) → partly_after (change_overheard (Frame f) h) p ≡ p
  away_whole p = ap (λ (g : Group). partly_after (group_overheard g h) p) is ∙ go (row_overheard n h)
    where
      by : (b : Bool) → partly_after (if b then GaveUp n else Nothing) p ≡ p
      by true = refl
      by false = refl

      go : (o : Option RowHeard) → partly_after (gave_up n o) p ≡ p
      go None = refl
      go (Some row) = by (is_some row.address)

-- the owner of an address that a NAME holds is the NAME
holder_owns : (l : ListenerValue) (n a : ℕ) → address_in_tables l n ≡ Some a → at l.owners a ≡ Some n
holder_owns l n a e = go (kept_under l.rows n) e
  where
    by : (claimed : Option ℕ) → still_owned l.owners n claimed ≡ Some a → at l.owners a ≡ Some n
    by None i = absurd cc
    by (Some x) i = split (is_held (at l.owners x) n) refl i
      where
        split : (b : Bool) → is_held (at l.owners x) n ≡ b → (if b then Some x else None) ≡ Some a → at l.owners a ≡ Some n
        split true own j = (let same : x ≡ a = cc in subst (λ (y : ℕ). at l.owners y ≡ Some n) same (held_is (at l.owners x) n own))
        split false own j = absurd cc

    go : (o : Option KeptValue) → address_in (row_of l.owners n o) ≡ Some a → at l.owners a ≡ Some n
    go None i = absurd cc
    go (Some kept) i = by kept.claimed i

-- what is known of all but one NAME
record Beside (old : WatchValue) (bound n : ℕ) (b : Beginning) (told : List Told) : Type 0 where
  owners : (a : ℕ) → (owner_heard a (readings_said b told) ≡ None) ⊎ (owner_heard a (readings_said b told) ≡ at old.listener.owners a)
  below : (a : ℕ) → a < bound → owner_heard a (readings_said b told) ≡ at old.listener.owners a
  addresses : (m : ℕ) → (n == m) ≡ false → (address_overheard m (readings_said b told) ≡ None) ⊎ (address_overheard m (readings_said b told) ≡ address_in_tables old.listener m)
  settled : (a m x : ℕ) → (n == m) ≡ false → a < bound → at old.listener.owners a ≡ Some m → x ≤ 253 → address_in_tables old.listener m ≡ Some x
      → address_overheard m (readings_said b told) ≡ Some x
  gaps : gaps_heard (readings_said b told) ≡ old.listener.gaps
  missed : missed_count (readings_said b told) ≡ 0
  unread : unread_overheard (readings_said b told) ≡ 0
  partly : partly_heard old.partly (all_said b told).moments ≡ old.partly

beside : (old new : WatchValue) (bound n : ℕ) (w : HasOwnersBelow old bound new) → Beside old bound n (beginning_of old) w.told
beside old new bound n w = record {
  owners = w.owners;
  below = w.below;
  addresses = λ m apart. w.addresses m;
  settled = λ a m x apart. w.settled a m x;
  gaps = w.gaps;
  missed = w.missed;
  unread = w.unread;
  partly = w.partly;
}

-- the NAME claims an address that it owns
beside_claim : (old : WatchValue) (bound n a : ℕ) (b : Beginning) (told : List Told) → n < 2 ^ 64 → a ≤ 253 → at old.listener.owners a ≡ Some n → Beside old bound n b told → Beside old bound n b (Assumed n a ∷ told)
beside_claim old bound n a b told small hold own w = record {
  owners = λ x. subst (λ (o : Option ℕ). (o ≡ None) ⊎ (o ≡ at old.listener.owners x)) (sym (owner_claimed n a f is h x)) (owner x (a == x) refl);
  below = λ x less. owner_claimed n a f is h x ∙ owned x less (a == x) refl;
  addresses = λ m apart. subst (λ (o : Option ℕ). (o ≡ None) ⊎ (o ≡ address_in_tables old.listener m)) (sym (other_address n a f is h m apart))
      (lost m (is_held (address_overheard m h) a) (w.addresses m apart));
  settled = λ y m x apart less owns le has. other_address n a f is h m apart ∙ stays m x apart (w.settled y m x apart less owns le has) has;
  gaps = w.gaps;
  missed = w.missed;
  unread = claim_read n a f is h ∙ w.unread;
  partly = claim_whole n a f is h (partly_heard old.partly (all_said b told).moments) ∙ w.partly;
}
  where
    f : FrameValue
    f = claim_frame_value n (Some a)

    is : group_of f ≡ AddressClaimed a n
    is = says_claim n (Some a) small hold

    h : List Reading
    h = readings_said b told

    owner : (x : ℕ) (t : Bool) → (a == x) ≡ t → ((if t then Some n else owner_heard x h) ≡ None) ⊎ ((if t then Some n else owner_heard x h) ≡ at old.listener.owners x)
    owner x true e = inr (sym own ∙ ap (at old.listener.owners) (eqb-true a x e))
    owner x false e = w.owners x

    owned : (x : ℕ) → x < bound → (t : Bool) → (a == x) ≡ t → (if t then Some n else owner_heard x h) ≡ at old.listener.owners x
    owned x less true e = sym own ∙ ap (at old.listener.owners) (eqb-true a x e)
    owned x less false e = w.below x less

    lost : (m : ℕ) (t : Bool) → (address_overheard m h ≡ None) ⊎ (address_overheard m h ≡ address_in_tables old.listener m)
        → ((if t then None else address_overheard m h) ≡ None) ⊎ ((if t then None else address_overheard m h) ≡ address_in_tables old.listener m)
    lost m true s = inl refl
    lost m false s = s

    -- the address of another NAME is another one
    stays : (m x : ℕ) → (n == m) ≡ false → address_overheard m h ≡ Some x → address_in_tables old.listener m ≡ Some x → unless_claimed a (address_overheard m h) ≡ Some x
    stays m x apart e has = ap (unless_claimed a) e ∙ go (x == a) refl
      where
        go : (t : Bool) → (x == a) ≡ t → (if t then None else Some x) ≡ Some x
        go true i =
            let theirs : at old.listener.owners a ≡ Some m = subst (λ (y : ℕ). at old.listener.owners y ≡ Some m) (eqb-true x a i) (holder_owns old.listener m x has) in
            let same : n ≡ m = (let both : Some n ≡ Some m = sym own ∙ theirs in cc) in
            let t : (n == m) ≡ true = eq-eqb n m same in
            absurd cc
        go false i = refl

-- it says that it cannot claim
beside_away : (old : WatchValue) (bound n : ℕ) (b : Beginning) (told : List Told) → n < 2 ^ 64 → Beside old bound n b told → Beside old bound n b (Addressless n ∷ told)
beside_away old bound n b told small w = record {
  owners = λ x. subst (λ (o : Option ℕ). (o ≡ None) ⊎ (o ≡ at old.listener.owners x)) (sym (owner_kept n f is h x)) (w.owners x);
  below = λ x less. owner_kept n f is h x ∙ w.below x less;
  addresses = λ m apart. subst (λ (o : Option ℕ). (o ≡ None) ⊎ (o ≡ address_in_tables old.listener m)) (sym (address_kept n f is h m apart)) (w.addresses m apart);
  settled = λ y m x apart less owns le has. address_kept n f is h m apart ∙ w.settled y m x apart less owns le has;
  gaps = w.gaps;
  missed = w.missed;
  unread = away_read n f is h ∙ w.unread;
  partly = away_whole n f is h (partly_heard old.partly (all_said b told).moments) ∙ w.partly;
}
  where
    f : FrameValue
    f = claim_frame_value n None

    is : group_of f ≡ CannotClaim n
    is = says_claim n None small tt

    h : List Reading
    h = readings_said b told

-- what is known of the NAME too
module _ (old : WatchValue) (bound n a : ℕ) (told : List Told) where
  abbrev h : List Reading
  h = readings_said (beginning_of old) told

  -- of addresses below the next bound
  abbrev next : ℕ
  next = if bound == a then bound + 1 else bound

  under : (x : ℕ) → x < next → (x < bound) ⊎ (x ≡ a)
  under x less = go (bound == a) refl less
    where
      go : (t : Bool) → (bound == a) ≡ t → x < (if t then bound + 1 else bound) → (x < bound) ⊎ (x ≡ a)
      go true e l = (let same : bound ≡ a = eqb-true bound a e in last (x == bound) refl l same)
        where
          last : (t : Bool) → (x == bound) ≡ t → x < bound + 1 → bound ≡ a → (x < bound) ⊎ (x ≡ a)
          last true i l same = inr (eqb-true x bound i ∙ same)
          last false i l same = inl (grind arith)
      go false e l = inl l

  all_of : (new : WatchValue) → AreOwners old told → StandsForAll (beginning_of old) told new → new.broken ≡ old.broken → Beside old bound n (beginning_of old) told → at old.listener.owners a ≡ Some n → owner_heard a h ≡ Some n
      → (address_overheard n h ≡ None) ⊎ (address_overheard n h ≡ address_in_tables old.listener n)
      → ((x : ℕ) → x ≤ 253 → address_in_tables old.listener n ≡ Some x → address_overheard n h ≡ Some x) → HasOwnersBelow old next new
  all_of new alone stands broken w own owned mine settled = record {
    told = told;
    alone = alone;
    stands = stands;
    owners = w.owners;
    below = λ x less. ⊎_elim (λ l. w.below x l) (λ same. subst (λ (y : ℕ). owner_heard y h ≡ at old.listener.owners y) (sym same) (owned ∙ sym own)) (under x less);
    addresses = λ m. each m (n == m) refl;
    settled = λ y m x less owns le has. fixed y m x (n == m) refl less owns le has;
    gaps = w.gaps;
    missed = w.missed;
    unread = w.unread;
    partly = w.partly;
    broken = broken;
  }
    where
      each : (m : ℕ) (t : Bool) → (n == m) ≡ t → (address_overheard m h ≡ None) ⊎ (address_overheard m h ≡ address_in_tables old.listener m)
      each m true e = subst (λ (k : ℕ). (address_overheard k h ≡ None) ⊎ (address_overheard k h ≡ address_in_tables old.listener k)) (eqb-true n m e) mine
      each m false e = w.addresses m e

      fixed : (y m x : ℕ) (t : Bool) → (n == m) ≡ t → y < next → at old.listener.owners y ≡ Some m → x ≤ 253 → address_in_tables old.listener m ≡ Some x → address_overheard m h ≡ Some x
      fixed y m x true e less owns le has =
          let same : n ≡ m = eqb-true n m e in
          subst (λ (k : ℕ). address_overheard k h ≡ Some x) same (settled x le (subst (λ (k : ℕ). address_in_tables old.listener k ≡ Some x) (sym same) has))
      fixed y m x false e less owns le has = ⊎_elim (λ l. w.settled y m x e l owns le has) (λ same.
          let both : Some n ≡ Some m = sym own ∙ (ap (at old.listener.owners) (sym same) ∙ owns) in
          let equal : n ≡ m = cc in
          let t : (n == m) ≡ true = eq-eqb n m equal in
          absurd cc) (under y less)

-- it is told that a NAME owns the address, and holds this one
pub one_holder : (old mid between new : WatchValue) (bound n a held : ℕ) → n < 2 ^ 64 → a ≤ 253 → held ≤ 253 → at old.listener.owners a ≡ Some n → address_in_tables old.listener n ≡ Some held
    → ((b : Beginning) (ts : List Told) → StandsForAll b ts mid → StandsForAll b (Assumed n a ∷ ts) between)
    → ((b : Beginning) (ts : List Told) → StandsForAll b ts between → StandsForAll b (Assumed n held ∷ ts) new) → between.broken ≡ mid.broken → new.broken ≡ between.broken
    → HasOwnersBelow old bound mid → HasOwnersBelow old (if bound == a then bound + 1 else bound) new
one_holder old mid between new bound n a held small le le_held own has first second broken again w =
    let b = beginning_of old in
    let held_own = holder_owns old.listener n held has in
    let is = says_claim n (Some held) small le_held in
    let one = beside_claim old bound n a b w.told small le own (beside old mid bound n w) in
    let both = beside_claim old bound n held b (Assumed n a ∷ w.told) small le_held held_own one in
    let mine = own_address n held (claim_frame_value n (Some held)) is (readings_said b (Assumed n a ∷ w.told)) in
    let owner = owner_claimed n held (claim_frame_value n (Some held)) is (readings_said b (Assumed n a ∷ w.told)) a in
    let before = owner_claimed n a (claim_frame_value n (Some a)) (says_claim n (Some a) small le) (readings_said b w.told) a ∙ (rw (same_self a) refl) in
    all_of old bound n a (Assumed n held ∷ Assumed n a ∷ w.told) new (held_own, (own, w.alone)) (second b (Assumed n a ∷ w.told) (first b w.told w.stands)) (again ∙ (broken ∙ w.broken)) both own
    (owner ∙ kept_own n (held == a) _ before) (inr (mine ∙ sym has)) (λ x lx hx. mine ∙ (sym has ∙ hx))
  where
    kept_own : (n : ℕ) (t : Bool) (o : Option ℕ) → o ≡ Some n → (if t then Some n else o) ≡ Some n
    kept_own n true o e = refl
    kept_own n false o e = e

-- or holds none that can be held
pub one_leaver : (old mid between new : WatchValue) (bound n a : ℕ) → n < 2 ^ 64 → a ≤ 253 → at old.listener.owners a ≡ Some n
    → ((x : ℕ) → x ≤ 253 → address_in_tables old.listener n ≡ Some x → ⊥)
    → ((b : Beginning) (ts : List Told) → StandsForAll b ts mid → StandsForAll b (Assumed n a ∷ ts) between)
    → ((b : Beginning) (ts : List Told) → StandsForAll b ts between → StandsForAll b (Addressless n ∷ ts) new) → between.broken ≡ mid.broken → new.broken ≡ between.broken
    → HasOwnersBelow old bound mid → HasOwnersBelow old (if bound == a then bound + 1 else bound) new
one_leaver old mid between new bound n a small le own none first second broken again w =
    let b = beginning_of old in
    let is = says_claim n None small tt in
    let one = beside_claim old bound n a b w.told small le own (beside old mid bound n w) in
    let both = beside_away old bound n b (Assumed n a ∷ w.told) small one in
    let owner = owner_kept n (claim_frame_value n None) is (readings_said b (Assumed n a ∷ w.told)) a in
    let before = owner_claimed n a (claim_frame_value n (Some a)) (says_claim n (Some a) small le) (readings_said b w.told) a ∙ (rw (same_self a) refl) in
    all_of old bound n a (Addressless n ∷ Assumed n a ∷ w.told) new (own, w.alone) (second b (Assumed n a ∷ w.told) (first b w.told w.stands)) (again ∙ (broken ∙ w.broken)) both own
    (owner ∙ before) (inl (no_address n (claim_frame_value n None) is (readings_said b (Assumed n a ∷ w.told)))) (λ x lx hx. absurd (none x lx hx))

-- a NAME that holds no address, or none that can be held
pub none_held : (o has : Option ℕ) → o ≡ has → (o ≡ None) ⊎ ((held : ℕ) × ((o ≡ Some held) × (held ≤ 253 → ⊥))) → (x : ℕ) → x ≤ 253 → has ≡ Some x → ⊥
none_held o has same (inl none) x le some = absurd cc
none_held o has same (inr s) x le some = (let equal : s.0 ≡ x = (let both : Some s.0 ≡ Some x = sym s.1.0 ∙ (same ∙ some) in cc) in s.1.1 (subst (λ (y : ℕ). y ≤ 253) (sym equal) le))

-- an address has no owner
pub no_owner : (old new : WatchValue) (bound a : ℕ) → at old.listener.owners a ≡ None → HasOwnersBelow old bound new → HasOwnersBelow old (if bound == a then bound + 1 else bound) new
no_owner old new bound a none w = record {
  told = w.told;
  alone = w.alone;
  stands = w.stands;
  owners = w.owners;
  below = λ x less. ⊎_elim (λ l. w.below x l) (λ same. subst (λ (y : ℕ). owner_heard y h ≡ at old.listener.owners y) (sym same) (⊎_elim (λ e. e ∙ sym none) (λ e. e) (w.owners a)))
      (under old bound 0 a w.told x less);
  addresses = w.addresses;
  settled = λ y m x less owns le has. ⊎_elim (λ l. w.settled y m x l owns le has) (λ same.
      let both : None ≡ Some m = sym none ∙ (ap (at old.listener.owners) (sym same) ∙ owns) in absurd cc) (under old bound 0 a w.told y less);
  gaps = w.gaps;
  missed = w.missed;
  unread = w.unread;
  partly = w.partly;
  broken = w.broken;
}
  where
    h : List Reading
    h = readings_said (beginning_of old) w.told

pub at_least : (old new : WatchValue) (bound : ℕ) → HasOwnersBelow old bound new → HasOwnersBelow old 0 new
at_least old new bound w = record {
  told = w.told;
  alone = w.alone;
  stands = w.stands;
  owners = w.owners;
  below = λ a less. absurd (omega (arith, less));
  addresses = w.addresses;
  settled = λ a n x less. absurd (omega (arith, less));
  gaps = w.gaps;
  missed = w.missed;
  unread = w.unread;
  partly = w.partly;
  broken = w.broken;
}

-- ---- all of them

known_address : (owners : List (Option ℕ)) (n : ℕ) (o : Option KeptValue) → address_in (row_of owners n o) ≡ address_in_row (row_known owners n o)
known_address owners n None = refl
known_address owners n (Some kept) = refl

counted_again : (n : ℕ) → counted (counted n + 0) ≡ counted n
counted_again n =
    let least : counted n ≤ 2 ^ 64 - 1 = min-le_right n (2 ^ 64 - 1) in
    let same : counted n + 0 ≡ counted n = omega arith in
    ap counted same ∙ min-eq_left least

pub all_owners : (old new : WatchValue) → HasOwnersBelow old 254 new → HasOwnersAlone old new
all_owners old new w = record {
  told = w.told;
  alone = w.alone;
  stands = w.stands;
  owners = λ a le. w.stands.heard.listener.owners a (omega (arith, le)) ∙ w.below a (omega (arith, le));
  addresses = λ n a le. (
    λ e. ⊎_elim (λ none. (let clash : None ≡ Some a = sym none ∙ (sym (address n) ∙ e) in absurd cc)) (λ same. sym same ∙ (sym (address n) ∙ e)) (w.addresses n),
    λ e. address n ∙ w.settled a n a (omega (arith, le)) (holder_owns old.listener n a e) le e,
  );
  gaps = w.stands.heard.listener.gaps ∙ w.gaps;
  missed = ap (λ (c : CountsBefore). counted (c.missed + new.listener.missed)) w.stands.heard.before
      ∙ (ap (λ (k : ℕ). counted (missed_by old + k)) (w.stands.heard.listener.missed ∙ w.missed) ∙ counted_again (old.before.missed + old.listener.missed));
  unread = ap (λ (c : CountsBefore). counted (c.unread + new.listener.unread)) w.stands.heard.before
      ∙ (ap (λ (k : ℕ). counted (unread_by old + k)) (w.stands.heard.listener.unread ∙ w.unread) ∙ counted_again (old.before.unread + old.listener.unread));
  partly = w.stands.heard.partly ∙ w.partly;
  broken = w.broken;
}
  where
    address : (n : ℕ) → address_in_tables new.listener n ≡ address_overheard n (readings_said (beginning_of old) w.told)
    address n = known_address new.listener.owners n (kept_under new.listener.rows n) ∙ ap address_in_row (w.stands.heard.listener.rows n)
