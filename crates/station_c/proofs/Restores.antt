-- Frames that were saved are read one after the other; and who shows the same by its tables shows the same of what was read.
use Rattle.std.proofs.Common.{◌≡◌, ◌↔◌, ◌⊎◌, inl, inr, ◌+◌, ◌<◌, ◌≤◌, ℕ, zero, suc, Bool, true, false, nat_eq, nat_lt, arith, cond, List, [], ◌∷◌, ◌++◌, Option, Some, None, Result, Ok, Err, OnOk, get_or, length, map, reverse, slice_get, take, refl, sym, ap, ◌∙◌, subst}
use Rattle.std.proofs.lemmas.List.{length-map, map-append, reverse-append, take_all, take_more}
use Rattle.std.proofs.lemmas.Option.{slice_get-get_or}
use Rattle.std.specs.Result.{is_err}
use Rattle.bus_model.specs.Heard.{RowHeard, StationSettings, ack_in_row, address_heard, addressless, row_heard}
use Rattle.bus_model.proofs.Bridge.{claimer_name}
use Rattle.can_frame.specs.FrameValue.{FrameValue}
use Rattle.can_frame.specs.declared.reading.Reading.{Reading}
use Rattle.can_frame.specs.declared.reading.Reading.TheVariants.{Frame, Gap}
use Rattle.dm_messages.specs.declared.kind.Kind.{Kind}
use Rattle.dm_messages.specs.declared.shown.Shown.{Shown}
use Rattle.entry_lists.specs.KeptValue.{KeptValue, kept_under}
use Rattle.entry_lists.specs.KnownRows.{ack_known, row_known, row_of, still_owned}
use Rattle.entry_lists.specs.Newest.{KeepsNewest, NewestLists, newest_under}
use Rattle.station_table.specs.Listing.{lists_heard}
use Rattle.station_table.specs.StandsFor.{StandsFor}
use Rattle.station_table.specs.StationValue.{StationValue}
use Rattle.station_c.specs.ListedStations.{ListedStationValue}
use Rattle.station_c.specs.Records.{frame_recorded}
use Rattle.station_c.specs.Saving.{ShowSame, ShowSameAt, ShowsAnew, ack_of_row, ack_shown, frames_read, newest_at_end, opened_at, restored}
use Rattle.station_c.specs.Statuses.{status_number}
use Rattle.station_c.specs.declared.records.FrameRecord.{FrameRecord}
use Rattle.station_c.specs.declared.status.Status.{Status}
use Rattle.station_c.specs.declared.status.Status.TheVariants.{Done, NoRoom, NotHeld, NotSaved, OutOfMemory}
use Rattle.station_c.proofs.Unlisted.{nothing_listed}

-- a station that keeps so much of each list stands for what was read
abbrev pub HasRead : StationSettings → ℕ → ListedStationValue → List Reading → Type 0
HasRead r keep s h = StandsFor r 1 s.station h × KeepsNewest s.lists (lists_heard r h) × (s.lists.keep ≡ keep)

abbrev read : FrameRecord → Reading
read f = Frame (frame_recorded f)

-- one more frame is the newest reading
pub one_more_read : (fs : List FrameRecord) (i : ℕ) (d : FrameRecord) → i < length fs
    → frames_read (take (i + 1) fs) ≡ Frame (frame_recorded (get_or fs i d)) ∷ frames_read (take i fs)
one_more_read fs i d low =
    ap frames_read (take_more fs i d low)
    ∙ (ap reverse (map-append read (take i fs) (get_or fs i d ∷ [])) ∙ reverse-append (map read (take i fs)) (read (get_or fs i d) ∷ []))

on_ok : {T E : Type 0} (outcome : Result T E) (P : Type 0) (fails : Bool) → fails ≡ is_err outcome → fails ≡ false → OnOk outcome P → P
on_ok (Ok v) P fails e f p = p
on_ok (Err v) P fails e f p = absurd cc

-- what a station promises of a reading that it takes
abbrev Takes : {T E : Type 0} → Result T E → ListedStationValue → Reading → ListedStationValue → Type 0
Takes outcome before x after =
    OnOk outcome ((r : StationSettings) (grant : ℕ) (h : List Reading) → StandsFor r grant before.station h → StandsFor r grant after.station (x ∷ h))
    × OnOk outcome ((r : StationSettings) (grant : ℕ) (h : List Reading) → StandsFor r grant before.station h
    → KeepsNewest before.lists (lists_heard r h) → KeepsNewest after.lists (lists_heard r (x ∷ h)))
    × OnOk outcome (after.lists.keep ≡ before.lists.keep)

reads : {T E : Type 0} (outcome : Result T E) (fails : Bool) (r : StationSettings) (keep : ℕ) (before after : ListedStationValue) (x : Reading) (h : List Reading)
    → fails ≡ is_err outcome → fails ≡ false → Takes outcome before x after → HasRead r keep before h → HasRead r keep after (x ∷ h)
reads outcome fails r keep before after x h e f takes has = (
  on_ok outcome _ fails e f takes.0 r 1 h has.0,
  on_ok outcome _ fails e f takes.1 r 1 h has.0 has.1,
  on_ok outcome _ fails e f takes.2 ∙ has.2,
)

-- the frame at a place was read behind those before it
pub read_next : {T E : Type 0} (outcome : Result T E) (fails : Bool) (r : StationSettings) (keep : ℕ) (before after : ListedStationValue) (fs : List FrameRecord) (i : ℕ) (d : FrameRecord) (f : FrameValue)
    → i < length fs → f ≡ frame_recorded (get_or fs i d) → fails ≡ is_err outcome → fails ≡ false → Takes outcome before (Frame f) after
    → HasRead r keep before (frames_read (take i fs)) → HasRead r keep after (frames_read (take (i + 1) fs))
read_next outcome fails r keep before after fs i d f low same e fine takes has =
    subst (λ (h : List Reading). HasRead r keep after h) (sym (one_more_read fs i d low))
    (subst (λ (g : FrameValue). HasRead r keep after (Frame g ∷ frames_read (take i fs))) same
    (reads outcome fails r keep before after (Frame f) (frames_read (take i fs)) e fine takes has))

-- all were read, and a gap behind them
pub read_gap : {T E : Type 0} (outcome : Result T E) (fails : Bool) (r : StationSettings) (keep : ℕ) (before after : ListedStationValue) (fs : List FrameRecord) (i : ℕ)
    → length fs ≤ i → fails ≡ is_err outcome → fails ≡ false → Takes outcome before (Gap 1) after
    → HasRead r keep before (frames_read (take i fs)) → HasRead r keep after (restored fs)
read_gap outcome fails r keep before after fs i all e fine takes has =
    reads outcome fails r keep before after (Gap 1) (frames_read fs) e fine takes
    (subst (λ (gs : List FrameRecord). HasRead r keep before (frames_read gs)) (take_all i fs all) has)

-- ---- what two stations show

-- lists that are the same before a place, and at it
pub some_is : {X : Type 0} (x y : X) → Some x ≡ Some y → x ≡ y
some_is x y e = cc

pub same_more : {X : Type 0} (xs ys : List X) (i : ℕ) → i < length xs → length ys ≡ length xs → slice_get xs i ≡ slice_get ys i → take i xs ≡ take i ys
    → take (i + 1) xs ≡ take (i + 1) ys
same_more [] ys i low long at same = absurd (omega arith)
same_more (x ∷ xs) ys i low long at same =
    let high : i < length ys = omega arith in
    let e = some_is _ _ (sym (slice_get-get_or (x ∷ xs) i x low) ∙ (at ∙ slice_get-get_or ys i x high)) in
    take_more (x ∷ xs) i x low ∙ ((λ j. same j ++ e j ∷ []) ∙ sym (take_more ys i x high))

-- the rows before a place show the same, and that at it
pub shows_more : (s t : StationValue) (l m : NewestLists) (i : ℕ) → ShowSameAt i s t l m → ((k : ℕ) → k < i → ShowSameAt k s t l m)
    → (k : ℕ) → k < i + 1 → ShowSameAt k s t l m
shows_more s t l m i at before k low = go (nat_lt k i) refl
  where
    go : (b : Bool) → nat_lt k i ≡ b → ShowSameAt k s t l m
    go true e = before k (grind arith)
    go false e = let same : i ≡ k = grind arith in subst (λ (j : ℕ). ShowSameAt j s t l m) same at

-- so do all places: behind the rows there is nothing
abbrev named : ℕ × KeptValue → ℕ
named e = e.0

within : (xs : List ℕ) (i x : ℕ) → slice_get xs i ≡ Some x → i < length xs
within [] i x f = cc
within (y ∷ xs) zero x f = omega arith
within (y ∷ xs) (suc i) x f = let g = within xs i x f in omega arith

pub shows_all : (s t : StationValue) (l m : NewestLists) (n : ℕ) → n ≡ length s.rows → ((k : ℕ) → k < n → ShowSameAt k s t l m) → (k : ℕ) → ShowSameAt k s t l m
shows_all s t l m n e before k name there =
    let low : k < length (map named s.rows) = within (map named s.rows) k name there in
    let long : length (map named s.rows) ≡ length s.rows = length-map s.rows named in before k (omega arith) name there

-- ---- who has the same tables shows the same of what was read

same_names : (xs ys : List ℕ) → length xs ≡ length ys → ((k n : ℕ) → slice_get ys k ≡ Some n → slice_get xs k ≡ Some n) → xs ≡ ys
same_names [] [] e f = refl
same_names [] (y ∷ ys) e f = absurd (omega arith)
same_names (x ∷ xs) [] e f = absurd (omega arith)
same_names (x ∷ xs) (y ∷ ys) e f =
    let h = some_is x y (f 0 y refl) in let g = same_names xs ys (omega arith) (λ k n at. f (suc k) n at) in λ j. h j ∷ g j

names_same : (s t : StationValue) (l m : NewestLists) → ShowSame s t l m → map named t.rows ≡ map named s.rows
names_same s t l m same =
    same_names (map named t.rows) (map named s.rows) (length-map t.rows named ∙ (same.count ∙ sym (length-map s.rows named))) (λ k n at. (same.each k n at).0)

-- what is kept under a NAME stands at a place
abbrev HasPlace : List (ℕ × KeptValue) → ℕ → Type 0
HasPlace rows n = (place : ℕ) × (slice_get (map named rows) place ≡ Some n)

found_at : (rows : List (ℕ × KeptValue)) (n : ℕ) (kept : KeptValue) → kept_under rows n ≡ Some kept → HasPlace rows n
found_at [] n kept e = absurd cc
found_at (row ∷ rows) n kept e = go (nat_eq n row.0) refl e (found_at rows n kept)
  where
    go : (b : Bool) → nat_eq n row.0 ≡ b → cond b (Some row.1) (kept_under rows n) ≡ Some kept → (kept_under rows n ≡ Some kept → HasPlace rows n)
        → HasPlace (row ∷ rows) n
    go true here f later = let same : row.0 ≡ n = grind arith in (0, ap (λ (x : ℕ). Some x) same)
    go false here f later = let at = later f in (suc at.0, at.1)

none_kept : (xs ys : List (ℕ × KeptValue)) (n : ℕ) → map named xs ≡ map named ys → kept_under ys n ≡ None → kept_under xs n ≡ None
none_kept [] ys n e none = refl
none_kept (x ∷ xs) [] n e none = absurd cc
none_kept (x ∷ xs) (y ∷ ys) n e none = go (nat_eq n x.0) (nat_eq n y.0) (ap (λ (m : ℕ). nat_eq n m) head) none (none_kept xs ys n tail)
  where
    head : x.0 ≡ y.0
    head = cc

    tail : map named xs ≡ map named ys
    tail = cc

    go : (b d : Bool) → b ≡ d → cond d (Some y.1) (kept_under ys n) ≡ None → (kept_under ys n ≡ None → kept_under xs n ≡ None)
        → cond b (Some x.1) (kept_under xs n) ≡ None
    go true true f none later = absurd cc
    go false false f none later = later none
    go true false f none later = absurd cc
    go false true f none later = absurd cc

no_ack : (owners : List (Option ℕ)) (n : ℕ) (kept : Option KeptValue) → kept ≡ None → ack_of_row (row_of owners n kept) ≡ None
no_ack owners n None e = refl
no_ack owners n (Some kept) e = absurd cc

acks_same : (s t : StationValue) (l m : NewestLists) → ShowSame s t l m → (n : ℕ) → ack_shown t n ≡ ack_shown s n
acks_same s t l m same n = go (kept_under s.rows n) refl
  where
    go : (kept : Option KeptValue) → kept_under s.rows n ≡ kept → ack_shown t n ≡ ack_shown s n
    go None e =
        no_ack t.owners n (kept_under t.rows n) (none_kept t.rows s.rows n (names_same s t l m same) e)
        ∙ sym (no_ack s.owners n (kept_under s.rows n) e)
    go (Some kept) e = let at = found_at s.rows n kept e in (same.each at.0 n at.1).1.acks

-- a row without its address is that of the same acknowledgment
row_same : (owners owners' : List (Option ℕ)) (n : ℕ) (kept kept' : Option KeptValue) (older row : Option RowHeard)
    → row_known owners n kept ≡ addressless older → row_known owners' n kept' ≡ row → ack_of_row (row_of owners n kept) ≡ ack_of_row (row_of owners' n kept')
    → addressless older ≡ addressless row
row_same owners owners' n None None older row e f g = sym e ∙ ap addressless f
row_same owners owners' n None (Some kept') older row e f g = absurd cc
row_same owners owners' n (Some kept) None older row e f g = absurd cc
row_same owners owners' n (Some kept) (Some kept') None row e f g = absurd cc
row_same owners owners' n (Some kept) (Some kept') (Some x) row e f g =
    let ack : kept.ack ≡ kept'.ack = some_is kept.ack kept'.ack g in
    let known : ack_known kept.ack ≡ x.ack = ap ack_in_row e in
    let same : x.ack ≡ ack_known kept'.ack = sym known ∙ ap ack_known ack in without same ∙ ap addressless f
  where
    without : x.ack ≡ ack_known kept'.ack → addressless (Some x) ≡ addressless (Some (record { address = still_owned owners' n kept'.claimed; ack = ack_known kept'.ack }))
    without same i = Some (record { address = None; ack = same i })

-- of a NAME with a row the same entries are kept; of one without a row nothing was listed
entries_same : (s t : StationValue) (l m : NewestLists) (n : ℕ) (k : Kind) (kept : KeptValue) → ShowSame s t l m → kept_under s.rows n ≡ Some kept
    → (newest_under m n k).entries ≡ (newest_under l n k).entries
entries_same s t l m n k kept same e = let at = found_at s.rows n kept e in (same.each at.0 n at.1).1.entries k

lists_same : (r r' : StationSettings) (grant grant' keep : ℕ) (h anew : List Reading) (s t : StationValue) (l m : NewestLists) (n : ℕ) (k : Kind)
    → StandsFor r grant s h → KeepsNewest l (lists_heard r h) → l.keep ≡ keep
    → StandsFor r' grant' t anew → KeepsNewest m (lists_heard r' anew) → m.keep ≡ keep
    → ShowSame s t l m → newest_at_end keep (lists_heard r' anew n k) ≡ newest_at_end keep (lists_heard r h n k)
lists_same r r' grant grant' keep h anew s t l m n k stands newest keeps stands' newest' keeps' same = go (kept_under s.rows n) refl
  where
    all : List Shown
    all = lists_heard r h n k

    all' : List Shown
    all' = lists_heard r' anew n k

    go : (kept : Option KeptValue) → kept_under s.rows n ≡ kept → newest_at_end keep all' ≡ newest_at_end keep all
    go None e =
        let none : row_heard r n h ≡ None = sym (stands.rows n) ∙ ap (λ kept. row_known s.owners n kept) e in
        let none' : row_heard r' n anew ≡ None =
        sym (stands'.rows n) ∙ ap (λ kept. row_known t.owners n kept) (none_kept t.rows s.rows n (names_same s t l m same) e) in
        ap (λ (list : List Shown). newest_at_end keep list) (nothing_listed r' n k anew none' ∙ sym (nothing_listed r n k h none))
    go (Some kept) e =
        let now = subst (λ (j : ℕ). (newest_under l n k).entries ≡ newest_at_end j all) keeps (newest n k).entries in
        let now' = subst (λ (j : ℕ). (newest_under m n k).entries ≡ newest_at_end j all') keeps' (newest' n k).entries in
        sym now' ∙ (entries_same s t l m n k kept same e ∙ now)

held_same : (r : StationSettings) (grant grant' a : ℕ) (h anew : List Reading) (s t : StationValue) → StandsFor r grant s h → StandsFor (opened_at a r) grant' t anew
    → t.claimer.held ≡ s.claimer.held → address_heard r h ≡ Some a → address_heard (opened_at a r) anew ≡ Some a
unfolding address_heard
held_same r grant grant' a h anew s t stands stands' same holds =
    ap (λ c. c.held) (sym stands'.claims) ∙ (same ∙ (ap (λ c. c.held) stands.claims ∙ holds))

pub held_heard : (r : StationSettings) (grant : ℕ) (h : List Reading) (s : StationValue) {a : ℕ} → StandsFor r grant s h → address_heard r h ≡ Some a
    → s.claimer.held ≡ Some a
unfolding address_heard
held_heard r grant h s stands holds = ap (λ c. c.held) stands.claims ∙ holds

pub shows_anew : (r : StationSettings) (grant grant' a keep : ℕ) (h older : List Reading) (s t : StationValue) (l m : NewestLists)
    → StandsFor r grant s h → KeepsNewest l (lists_heard r h) → l.keep ≡ keep → address_heard r h ≡ Some a
    → StandsFor (opened_at a r) grant' t (Gap 1 ∷ older) → KeepsNewest m (lists_heard (opened_at a r) (Gap 1 ∷ older)) → m.keep ≡ keep
    → ShowSame s t l m → ShowsAnew r a keep h (Gap 1 ∷ older)
shows_anew r grant grant' a keep h older s t l m stands newest keeps holds stands' newest' keeps' same = record {
  held = held_same r grant grant' a h (Gap 1 ∷ older) s t stands stands' same.held holds;
  owners = λ place. refl;
  names = sym stands'.names ∙ (names_same s t l m same ∙ stands.names);
  rows = λ n. row_same t.owners s.owners n (kept_under t.rows n) (kept_under s.rows n) (row_heard (opened_at a r) n older) (row_heard r n h)
      (stands'.rows n) (stands.rows n) (acks_same s t l m same n);
  lists = λ n k. lists_same r (opened_at a r) grant grant' keep h (Gap 1 ∷ older) s t l m n k stands newest keeps stands' newest' keeps' same;
}

-- at the end of a save: the station that was saved, the one that read the frames, and what each showed
pub saved_well : (saving anew : ListedStationValue) (s t : StationValue) (l m : NewestLists) (name address keep : ℕ) (read frames : List FrameRecord)
    → s ≡ saving.station → l ≡ saving.lists → t ≡ anew.station → m ≡ anew.lists
    → name ≡ s.claimer.name → Some address ≡ s.claimer.held → keep ≡ l.keep → read ≡ frames
    → StandsFor (record { name = name; address = address }) 1 anew.station (restored read)
    → KeepsNewest anew.lists (lists_heard (record { name = name; address = address }) (restored read)) → anew.lists.keep ≡ keep → ShowSame s t l m
    → (r : StationSettings) (grant : ℕ) (h : List Reading) → StandsFor r grant saving.station h → KeepsNewest saving.lists (lists_heard r h)
    → (a : ℕ) → address_heard r h ≡ Some a → ShowsAnew r a saving.lists.keep h (restored frames)
saved_well saving anew s t l m name address keep read frames es el et em named_so holds keeps_so same_frames stands' newest' keeps' same r grant h stands newest a heard =
    let name_is : name ≡ r.name = named_so ∙ (ap (λ (v : StationValue). v.claimer.name) es ∙ (ap (λ c. c.name) stands.claims ∙ claimer_name r h)) in
    let address_is : address ≡ a = some_is address a (holds ∙ (ap (λ (v : StationValue). v.claimer.held) es ∙ held_heard r grant h saving.station stands heard)) in
    let settings : record { name = name; address = address } ≡ opened_at a r = λ j. record { name = name_is j; address = address_is j } in
    shows_anew r grant 1 a saving.lists.keep h (frames_read frames) saving.station anew.station saving.lists anew.lists stands newest refl heard
    (subst (λ (q : StationSettings). StandsFor q 1 anew.station (restored frames)) settings
    (subst (λ (fs : List FrameRecord). StandsFor (record { name = name; address = address }) 1 anew.station (restored fs)) same_frames stands'))
    (subst (λ (q : StationSettings). KeepsNewest anew.lists (lists_heard q (restored frames))) settings
    (subst (λ (fs : List FrameRecord). KeepsNewest anew.lists (lists_heard (record { name = name; address = address }) (restored fs))) same_frames newest'))
    (keeps' ∙ (keeps_so ∙ ap (λ (v : NewestLists). v.keep) el))
    (subst (λ (v : NewestLists). ShowSame saving.station anew.station saving.lists v) em
    (subst (λ (v : NewestLists). ShowSame saving.station anew.station v m) el
    (subst (λ (v : StationValue). ShowSame saving.station v l m) et (subst (λ (v : StationValue). ShowSame v t l m) es same))))

-- ---- what a call answers

pub done_given : (status : Status) (number : ℕ) → number ≡ status_number status → number ≡ 0 → (status ≡ Done) ⊎ (status ≡ NoRoom) → status ≡ Done
done_given status number e done only = elim only [ inl is ↦ is | inr is ↦ absurd (no_room number (e ∙ ap status_number is) done) ]
  where
    no_room : (n : ℕ) → n ≡ 44 → n ≡ 0 → ⊥
    no_room n f g = omega arith

pub not_held_given : (status : Status) (number : ℕ) → number ≡ status_number status → number ≡ 23
    → (status ≡ NotHeld) ⊎ ((status ≡ OutOfMemory) ⊎ (status ≡ NotSaved)) → status ≡ NotHeld
not_held_given status number e told only =
    elim only [ inl is ↦ is | inr more ↦ elim more [ inl is ↦ absurd (other number 33 (e ∙ ap status_number is) told (omega arith)) | inr is ↦ absurd (other number 45 (e ∙ ap status_number is) told (omega arith)) ] ]
  where
    other : (n m : ℕ) → n ≡ m → n ≡ 23 → 23 < m → ⊥
    other n m f g low = omega arith

pub none_held : (r : StationSettings) (grant : ℕ) (h : List Reading) (s : StationValue) → StandsFor r grant s h → s.claimer.held ≡ None → address_heard r h ≡ None
unfolding address_heard
none_held r grant h s stands none = ap (λ c. c.held) (sym stands.claims) ∙ none

-- where none is held, that is what is answered
unheld : (r : StationSettings) (grant : ℕ) (h : List Reading) (s : StationValue) → StandsFor r grant s h → address_heard r h ≡ None → s.claimer.held ≡ None
unfolding address_heard
unheld r grant h s stands none = ap (λ c. c.held) stands.claims ∙ none

pub unheld_answered : {T : Type 0} (result : Result T Status) (refusal : Status) (number : ℕ) (r : StationSettings) (grant : ℕ) (h : List Reading) (s : StationValue)
    → ((result ≡ Err NotHeld) ↔ (s.claimer.held ≡ None)) → result ≡ Err refusal → number ≡ status_number refusal
    → StandsFor r grant s h → address_heard r h ≡ None → number ≡ 23
unheld_answered result refusal number r grant h s exactly is e stands none =
    let told : result ≡ Err NotHeld = exactly.1 (unheld r grant h s stands none) in let same : refusal ≡ NotHeld = cc in e ∙ ap status_number same

pub held_where_saved : {T : Type 0} (result : Result T Status) (given : T) (r : StationSettings) (grant : ℕ) (h : List Reading) (s : StationValue)
    → ((result ≡ Err NotHeld) ↔ (s.claimer.held ≡ None)) → result ≡ Ok given → StandsFor r grant s h → address_heard r h ≡ None → ⊥
held_where_saved result given r grant h s exactly is stands none = let told = exactly.1 (unheld r grant h s stands none) in cc
